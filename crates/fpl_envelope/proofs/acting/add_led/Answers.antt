use Rattle.std.proofs.Common.{◌≡◌, ◌≤◌, ◌+◌, ◌-◌, ◌∷◌, length, ap, ◌∙◌, subst, arith}
use Rattle.fpl_numbers.specs.declared.number.Num.{Num}
use Rattle.fpl_numbers.specs.declared.number.Kind.{Kind}
use Rattle.fpl_numbers.specs.Kinds.{field_of, number_of}
use Rattle.fpl_rows.proofs.Firsts.{next_is_at}
use Rattle.fpl_table.specs.Plain.{plain_basis}
use Rattle.plain_envelope.specs.Straight.{led}
use Rattle.fpl_envelope.specs.Counts.{words_in, word_in, skipped_in}
use Rattle.fpl_envelope.specs.Action.{field_in, math_in, number_in, multiple}
use Rattle.fpl_envelope.proofs.Adding.{adds_place, adds_same, adds_next, adds_whole, sum_kept}
use Rattle.fpl_envelope.proofs.Leading.{leads_start, lead_at}
use Rattle.fpl_envelope.proofs.acting.add_led.Goals as goal

pub loop-s-init : goal.loop-s-init
loop-s-init g c =
    let T = c.args.table.now in
    let value : c.skipped-after.result ≡ skipped_in T c.args.w (c.args.j - 1) = c.skipped-after.ensures.value in
    let within : c.skipped-after.result ≤ length (words_in T c.args.w) = c.skipped-after.ensures.within in
    let long : length c.args.row.now ≡ length (words_in T c.args.w) = c.requires.row.length_is in
    record {
      from = omega (arith, value);
      within = omega (arith, within, long);
      sum = c.requires.sum;
      adds = leads_start T c.basis_len-count.ensures.shape ((plain_basis T (c.args.j - 1)).weight + c.args.w) (c.args.j - 1) c.args.w c.skipped-after.result
          c.args.row.now c.args.sum.now.row (g.F.Field.number c.args.c) (omega arith) within (omega (arith, value));
    }

pub at-requires : goal.at-requires
at-requires g c = let h = next_is_at c.args.row.now c.loop-s.after c.in-Some.s c.in-Some.ensures in (h.from_one, h.to_end)

pub before-place-requires-clause-number : goal.before-place-requires-clause-number
before-place-requires-clause-number g c =
    let h = next_is_at c.args.row.now c.loop-s.after c.in-Some.s c.in-Some.ensures in
    let from = h.from_one in
    let end = h.to_end in
    let long : length c.args.row.now ≡ length (words_in c.args.table.now c.args.w) = c.requires.row.length_is in
    let same : c.from.result ≡ c.in-Some.s = c.from.ensures in
    omega (arith, from, end, long, same)

pub loop-s-preserved : goal.loop-s-preserved
loop-s-preserved g c =
    let T = c.args.table.now in
    let W = (plain_basis T (c.args.j - 1)).weight + c.args.w in
    let h = next_is_at c.args.row.now c.loop-s.after c.in-Some.s c.in-Some.ensures in
    let from = h.from_one in
    let past = h.past in
    let end = h.to_end in
    let start : skipped_in T c.args.w (c.args.j - 1) ≤ c.loop-s.after = c.loop-s.invariant.from in
    let long : length c.args.row.now ≡ length (words_in T c.args.w) = c.requires.row.length_is in
    let same : c.from.result ≡ c.in-Some.s = c.from.ensures in
    let one : c.from.result - 1 ≡ c.in-Some.s - 1 = omega (arith, same) in
    record {
      from = omega (arith, past, start);
      within = end;
      sum = sum_kept T W c.loop-s.sum c.add_at.new.sum c.loop-s.invariant.sum c.add_at.ensures.kind c.add_at.ensures.row;
      adds = adds_next T c.requires.residues.accepted W (λ t f. led (field_in T) (math_in T) (c.args.j - 1) f (word_in T c.args.w t)) c.args.row.now
          c.loop-s.after c.in-Some.s (g.F.Field.number c.args.c) (g.F.Field.number c.times-number.result) c.args.sum.now.row c.loop-s.sum.row
          c.add_at.new.sum.row c.requires.row.elements c.in-Some.ensures
          (subst (λ (k : Kind). number_of k (g.F.Field.number c.times-number.result)
          ≡ (field_of k).times (number_of k (g.F.Field.number c.args.c)) (number_of k (g.F.Field.number c.at.result))) c.field.ensures
          c.times-number.ensures.value
          ∙ ap (λ (x : Num). (field_in T).times (number_in T (g.F.Field.number c.args.c)) (number_in T x)) c.at.ensures)
          c.loop-s.invariant.adds
          (adds_same T W (multiple T (g.F.Field.number c.times-number.result) (λ f. f (word_in T W c.before-place.result))) _ c.loop-s.sum.row
          c.add_at.new.sum.row
          (adds_place T W c.loop-s.sum.kind c.before-place.result (g.F.Field.number c.times-number.result) c.loop-s.sum.row c.add_at.new.sum.row
          c.loop-s.invariant.sum.kind c.before-place.ensures.within c.add_at.ensures.value)
          (λ f. ap ((field_in T).times (number_in T (g.F.Field.number c.times-number.result)))
          (lead_at T c.basis_len-count.ensures.shape (c.args.j - 1) c.args.w (c.in-Some.s - 1) c.before-place.result W f (omega arith)
          (omega (arith, from, end, long)) (omega (arith, past, start))
          (c.before-place.ensures.word ∙ ap (λ k. (c.args.j - 1) ∷ word_in T c.args.w k) one))));
    }

pub returns-clause-adds : goal.returns-clause-adds
returns-clause-adds g c =
    let T = c.args.table.now in
    let long : length c.args.row.now ≡ length (words_in T c.args.w) = c.requires.row.length_is in
    adds_whole T c.requires.residues.accepted ((plain_basis T (c.args.j - 1)).weight + c.args.w)
    (λ t f. led (field_in T) (math_in T) (c.args.j - 1) f (word_in T c.args.w t)) c.args.row.now c.loop-s.after (length (words_in T c.args.w))
    (g.F.Field.number c.args.c) c.args.sum.now.row c.loop-s.sum.row c.requires.row.elements c.in_default.ensures c.loop-s.invariant.within
    (omega (arith, long)) c.loop-s.invariant.adds
