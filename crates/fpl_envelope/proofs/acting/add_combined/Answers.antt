use Rattle.std.proofs.Common.{◌≡◌, ◌-◌, length, ap, ◌∙◌, subst, arith}
use Rattle.fpl_numbers.specs.declared.number.Num.{Num}
use Rattle.fpl_numbers.specs.declared.number.Kind.{Kind}
use Rattle.fpl_numbers.specs.Kinds.{field_of, number_of}
use Rattle.fpl_rows.proofs.Firsts.{next_is_at}
use Rattle.fpl_envelope.specs.Action.{field_in, number_in, acted}
use Rattle.fpl_envelope.proofs.Adding.{part_start, adds_next, adds_whole}
use Rattle.fpl_envelope.proofs.acting.add_combined.Goals as goal

pub loop-t-init : goal.loop-t-init
loop-t-init g c =
    let T = c.args.table.now in
    record {
      within = omega arith;
      sum = c.requires.sum;
      adds = part_start T c.requires.table.residues.accepted c.args.w (λ t f. acted T t c.args.at.weight c.args.at.number f) c.args.row.now
          c.args.sum.now.row (g.F.Field.number c.args.c);
    }

pub at-requires : goal.at-requires
at-requires g c = let h = next_is_at c.args.row.now c.loop-t.after c.in-Some.t c.in-Some.ensures in (h.from_one, h.to_end)

pub add_acted-requires-clause-letter : goal.add_acted-requires-clause-letter
add_acted-requires-clause-letter g c =
    let h = next_is_at c.args.row.now c.loop-t.after c.in-Some.t c.in-Some.ensures in
    let end = h.to_end in
    let short = c.requires.row.short in
    (h.from_one, omega (arith, end, short))

pub add_acted-requires-clause-weight : goal.add_acted-requires-clause-weight
add_acted-requires-clause-weight g c =
    let h = next_is_at c.args.row.now c.loop-t.after c.in-Some.t c.in-Some.ensures in
    let from = h.from_one in
    let end = h.to_end in
    (c.requires.terms (c.in-Some.t - 1) (omega (arith, from, end)) h.filled).0

pub add_acted-requires-clause-element : goal.add_acted-requires-clause-element
add_acted-requires-clause-element g c =
    let h = next_is_at c.args.row.now c.loop-t.after c.in-Some.t c.in-Some.ensures in
    let from = h.from_one in
    let end = h.to_end in
    (c.requires.terms (c.in-Some.t - 1) (omega (arith, from, end)) h.filled).1

pub loop-t-preserved : goal.loop-t-preserved
loop-t-preserved g c =
    let T = c.args.table.now in
    let h = next_is_at c.args.row.now c.loop-t.after c.in-Some.t c.in-Some.ensures in
    record {
      within = h.to_end;
      sum = c.add_acted.ensures.sum;
      adds = adds_next T c.requires.table.residues.accepted c.args.w (λ t f. acted T t c.args.at.weight c.args.at.number f) c.args.row.now
          c.loop-t.after c.in-Some.t (g.F.Field.number c.args.c) (g.F.Field.number c.times-number.result) c.args.sum.now.row c.loop-t.sum.row
          c.add_acted.new.sum.row c.requires.row.elements c.in-Some.ensures
          (subst (λ (k : Kind). number_of k (g.F.Field.number c.times-number.result)
          ≡ (field_of k).times (number_of k (g.F.Field.number c.args.c)) (number_of k (g.F.Field.number c.at.result))) c.field.ensures
          c.times-number.ensures.value
          ∙ ap (λ (x : Num). (field_in T).times (number_in T (g.F.Field.number c.args.c)) (number_in T x)) c.at.ensures)
          c.loop-t.invariant.adds c.add_acted.ensures.adds;
    }

pub returns-clause-adds : goal.returns-clause-adds
returns-clause-adds g c =
    let T = c.args.table.now in
    adds_whole T c.requires.table.residues.accepted c.args.w (λ t f. acted T t c.args.at.weight c.args.at.number f) c.args.row.now c.loop-t.after
    (length T.basis) (g.F.Field.number c.args.c) c.args.sum.now.row c.loop-t.sum.row c.requires.row.elements c.in_default.ensures
    c.loop-t.invariant.within c.requires.row.short c.loop-t.invariant.adds
