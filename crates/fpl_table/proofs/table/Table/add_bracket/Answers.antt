use Rattle.std.proofs.Common.{ℕ, List, ◌∙◌, ◌-◌, drop, ap, sym, subst, arith}
use Rattle.fpl_numbers.specs.declared.number.Num.{Num}
use Rattle.fpl_numbers.specs.Numbers.{IsElement, residue}
use Rattle.fpl_numbers.specs.Results.{and_then}
use Rattle.fpl_rows.proofs.Firsts.{next_is_at}
use Rattle.fpl_table.specs.Sums.{add_each, add_products}
use Rattle.fpl_table.proofs.Walking.{to_next, to_end, fault_next}
use Rattle.fpl_table.proofs.table.Table.add_bracket.Goals as goal

pub at-requires : goal.at-requires
at-requires g c = let h = next_is_at c.args.a.now c.loop-i.after c.in-Some.i c.in-Some.ensures in (h.from_one, h.to_end)

pub add_products-requires-clause-left : goal.add_products-requires-clause-left
add_products-requires-clause-left g c =
    let h = next_is_at c.args.a.now c.loop-i.after c.in-Some.i c.in-Some.ensures in
    let end = h.to_end in
    let short = c.requires.left.short in
    (h.from_one, omega (arith, end, short))

pub add_products-requires-clause-first : goal.add_products-requires-clause-first
add_products-requires-clause-first g c =
    let h = next_is_at c.args.a.now c.loop-i.after c.in-Some.i c.in-Some.ensures in
    let from = h.from_one in
    let end = h.to_end in
    subst (λ (n : Num). IsElement c.args.self.now.kind n) (sym c.at.ensures) (c.requires.left.elements (c.in-Some.i - 1) (residue 0) (omega (arith, from, end)))

pub loop-i-smaller : goal.loop-i-smaller
loop-i-smaller g c =
    let h = next_is_at c.args.a.now c.loop-i.after c.in-Some.i c.in-Some.ensures in
    let past = h.past in
    let end = h.to_end in
    omega (arith, past, end)

pub loop-i-preserved : goal.loop-i-preserved
loop-i-preserved g c =
    let T = c.args.self.now in
    let add = λ (i : ℕ) (x : Num) (v : List Num). add_products T (g.P.PairTerm.term c.args.pairs.now T) i x c.args.b.now v in
    let h = next_is_at c.args.a.now c.loop-i.after c.in-Some.i c.in-Some.ensures in
    record {
      within = h.to_end;
      elements = c.in-Ok.ensures.elements;
      whole = c.in-Ok.ensures.whole ∙ c.loop-i.invariant.whole;
      left = c.loop-i.invariant.left ∙ to_next add c.args.a.now c.loop-i.after c.in-Some.i c.loop-i.sum c.in-Some.ensures
          ∙ ap (and_then (λ w. add_each add c.in-Some.i (drop c.in-Some.i c.args.a.now) w))
          (ap (λ (n : Num). add (c.in-Some.i - 1) n c.loop-i.sum) (sym c.at.ensures) ∙ c.in-Ok.ensures.value);
    }

pub returns-in-Err-clause-value : goal.returns-in-Err-clause-value
returns-in-Err-clause-value g c =
    let T = c.args.self.now in
    let add = λ (i : ℕ) (x : Num) (v : List Num). add_products T (g.P.PairTerm.term c.args.pairs.now T) i x c.args.b.now v in
    fault_next (λ w. add_each add c.in-Some.i (drop c.in-Some.i c.args.a.now) w) c.in-Err.fault _ _
    (c.loop-i.invariant.left ∙ to_next add c.args.a.now c.loop-i.after c.in-Some.i c.loop-i.sum c.in-Some.ensures
    ∙ ap (λ (n : Num). and_then (λ w. add_each add c.in-Some.i (drop c.in-Some.i c.args.a.now) w) (add (c.in-Some.i - 1) n c.loop-i.sum)) (sym c.at.ensures))
    c.in-Err.ensures.value

pub returns-clause-value : goal.returns-clause-value
returns-clause-value g c =
    let T = c.args.self.now in
    let add = λ (i : ℕ) (x : Num) (v : List Num). add_products T (g.P.PairTerm.term c.args.pairs.now T) i x c.args.b.now v in
    c.loop-i.invariant.left ∙ to_end add c.args.a.now c.loop-i.after c.loop-i.sum c.loop-i.invariant.within c.in_default.ensures
