use Rattle.std.proofs.Common.{◌∙◌, ◌-◌, drop, ap, sym, subst, arith}
use Rattle.fpl_numbers.specs.declared.number.Num.{Num}
use Rattle.fpl_numbers.specs.Numbers.{IsElement, residue}
use Rattle.fpl_numbers.specs.Results.{and_then}
use Rattle.fpl_rows.proofs.Firsts.{next_is_at}
use Rattle.fpl_table.proofs.Walking.{to_next, to_end, fault_next}
use Rattle.fpl_table.specs.Sums.{add_each}
use Rattle.plain_cohomology.specs.Plain.{add_term}
use Rattle.fpl_cohomology.proofs.terms.add_each.Goals as goal

pub at-requires : goal.at-requires
at-requires g c = let h = next_is_at c.args.entry.now c.loop-t.after c.in-Some.t c.in-Some.ensures in (h.from_one, h.to_end)

pub add_term-requires-clause-term : goal.add_term-requires-clause-term
add_term-requires-clause-term g c =
    let h = next_is_at c.args.entry.now c.loop-t.after c.in-Some.t c.in-Some.ensures in
    let end = h.to_end in
    let short = c.requires.entry.short in
    (h.from_one, omega (arith, end, short))

pub add_term-requires-clause-added : goal.add_term-requires-clause-added
add_term-requires-clause-added g c =
    let h = next_is_at c.args.entry.now c.loop-t.after c.in-Some.t c.in-Some.ensures in
    let from = h.from_one in
    let end = h.to_end in
    subst (λ (n : Num). IsElement c.args.table.now.kind n) (sym c.at.ensures) (c.requires.entry.elements (c.in-Some.t - 1) (residue 0)
    (omega (arith, from, end)))

pub loop-t-smaller : goal.loop-t-smaller
loop-t-smaller g c =
    let h = next_is_at c.args.entry.now c.loop-t.after c.in-Some.t c.in-Some.ensures in
    let past = h.past in
    let end = h.to_end in
    omega (arith, past, end)

pub loop-t-preserved : goal.loop-t-preserved
loop-t-preserved g c =
    let T = c.args.table.now in
    let add = add_term T c.args.pairs.now c.args.beside.negated c.args.beside.place in
    let h = next_is_at c.args.entry.now c.loop-t.after c.in-Some.t c.in-Some.ensures in
    record {
      within = h.to_end;
      elements = c.in-Ok.ensures.elements;
      whole = c.in-Ok.ensures.whole ∙ c.loop-t.invariant.whole;
      left = c.loop-t.invariant.left ∙ to_next add c.args.entry.now c.loop-t.after c.in-Some.t c.loop-t.row c.in-Some.ensures
          ∙ ap (and_then (λ w. add_each add c.in-Some.t (drop c.in-Some.t c.args.entry.now) w))
          (ap (λ (n : Num). add (c.in-Some.t - 1) n c.loop-t.row) (sym c.at.ensures) ∙ c.in-Ok.ensures.value);
    }

pub returns-in-Err-clause-value : goal.returns-in-Err-clause-value
returns-in-Err-clause-value g c =
    let T = c.args.table.now in
    let add = add_term T c.args.pairs.now c.args.beside.negated c.args.beside.place in
    fault_next (λ w. add_each add c.in-Some.t (drop c.in-Some.t c.args.entry.now) w) c.in-Err.fault _ _
    (c.loop-t.invariant.left ∙ to_next add c.args.entry.now c.loop-t.after c.in-Some.t c.loop-t.row c.in-Some.ensures
    ∙ ap (λ (n : Num). and_then (λ w. add_each add c.in-Some.t (drop c.in-Some.t c.args.entry.now) w) (add (c.in-Some.t - 1) n c.loop-t.row))
    (sym c.at.ensures))
    c.in-Err.ensures.value

pub returns-clause-value : goal.returns-clause-value
returns-clause-value g c =
    let T = c.args.table.now in
    c.loop-t.invariant.left ∙ to_end (add_term T c.args.pairs.now c.args.beside.negated c.args.beside.place) c.args.entry.now c.loop-t.after
    c.loop-t.row c.loop-t.invariant.within
    c.in_default.ensures
