use Rattle.std.proofs.Common.{ℕ, List, ◌∙◌, ◌-◌, drop, ap, sym, subst, arith}
use Rattle.fpl_numbers.specs.declared.number.Num.{Num}
use Rattle.fpl_numbers.specs.Numbers.{IsElement, residue}
use Rattle.fpl_numbers.specs.Results.{and_then}
use Rattle.fpl_scalar.specs.Vectors.{AreElements}
use Rattle.fpl_rows.proofs.Firsts.{next_is_at}
use Rattle.fpl_table.specs.Plain.{pairing}
use Rattle.fpl_table.specs.Sums.{add_each, add_product}
use Rattle.fpl_table.proofs.Walking.{to_next, to_end, fault_next}
use Rattle.fpl_table.proofs.table.Table.add_products.Goals as goal

pub at-requires : goal.at-requires
at-requires g c = let h = next_is_at c.args.b.now c.loop-j.after c.in-Some.j c.in-Some.ensures in (h.from_one, h.to_end)

pub add_product-requires-clause-right : goal.add_product-requires-clause-right
add_product-requires-clause-right g c =
    let h = next_is_at c.args.b.now c.loop-j.after c.in-Some.j c.in-Some.ensures in
    let end = h.to_end in
    let short = c.requires.second.short in
    (h.from_one, omega (arith, end, short))

pub add_product-requires-clause-second : goal.add_product-requires-clause-second
add_product-requires-clause-second g c =
    let h = next_is_at c.args.b.now c.loop-j.after c.in-Some.j c.in-Some.ensures in
    let from = h.from_one in
    let end = h.to_end in
    subst (λ (n : Num). IsElement c.args.self.now.kind n) (sym c.at.ensures) (c.requires.second.elements (c.in-Some.j - 1) (residue 0)
    (omega (arith, from, end)))

pub loop-j-smaller : goal.loop-j-smaller
loop-j-smaller g c =
    let h = next_is_at c.args.b.now c.loop-j.after c.in-Some.j c.in-Some.ensures in
    let past = h.past in
    let end = h.to_end in
    omega (arith, past, end)

pub loop-j-preserved : goal.loop-j-preserved
loop-j-preserved g c =
    let T = c.args.self.now in
    let add = λ (j : ℕ) (y : Num) (v : List Num). add_product T (g.P.PairTerm.term c.args.pairs.now T) (pairing T (c.args.x.0 - 1) j)
    (g.F.Field.number c.args.x.1) y v in
    let h = next_is_at c.args.b.now c.loop-j.after c.in-Some.j c.in-Some.ensures in
    record {
      within = h.to_end;
      elements = c.in-Ok.ensures.elements;
      whole = c.in-Ok.ensures.whole ∙ c.loop-j.invariant.whole;
      left = c.loop-j.invariant.left ∙ to_next add c.args.b.now c.loop-j.after c.in-Some.j c.loop-j.sum c.in-Some.ensures
          ∙ ap (and_then (λ w. add_each add c.in-Some.j (drop c.in-Some.j c.args.b.now) w))
          (ap (λ (n : Num). add (c.in-Some.j - 1) n c.loop-j.sum) (sym c.at.ensures) ∙ c.in-Ok.ensures.value);
    }

pub returns-in-Err-clause-value : goal.returns-in-Err-clause-value
returns-in-Err-clause-value g c =
    let T = c.args.self.now in
    let add = λ (j : ℕ) (y : Num) (v : List Num). add_product T (g.P.PairTerm.term c.args.pairs.now T) (pairing T (c.args.x.0 - 1) j)
    (g.F.Field.number c.args.x.1) y v in
    fault_next (λ w. add_each add c.in-Some.j (drop c.in-Some.j c.args.b.now) w) c.in-Err.fault _ _
    (c.loop-j.invariant.left ∙ to_next add c.args.b.now c.loop-j.after c.in-Some.j c.loop-j.sum c.in-Some.ensures
    ∙ ap (λ (n : Num). and_then (λ w. add_each add c.in-Some.j (drop c.in-Some.j c.args.b.now) w) (add (c.in-Some.j - 1) n c.loop-j.sum)) (sym c.at.ensures))
    c.in-Err.ensures.value

pub returns-in-Err-clause-memory : goal.returns-in-Err-clause-memory
returns-in-Err-clause-memory g c = λ e. subst (AreElements c.args.self.now.kind) (sym (c.in-Err.ensures.memory e)) c.loop-j.invariant.elements

pub returns-clause-value : goal.returns-clause-value
returns-clause-value g c =
    let T = c.args.self.now in
    let add = λ (j : ℕ) (y : Num) (v : List Num). add_product T (g.P.PairTerm.term c.args.pairs.now T) (pairing T (c.args.x.0 - 1) j)
    (g.F.Field.number c.args.x.1) y v in
    c.loop-j.invariant.left ∙ to_end add c.args.b.now c.loop-j.after c.loop-j.sum c.loop-j.invariant.within c.in_default.ensures
