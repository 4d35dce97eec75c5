use Rattle.std.proofs.Common.{◌≡◌, ◌<◌, ◌+◌, ◌-◌, length, get_or, refl, sym, ap, ◌∙◌, subst, arith}
use Rattle.math_linear.proofs.Numbers.{unit-times}
use Rattle.fpl_numbers.specs.declared.number.Num.{Num}
use Rattle.fpl_numbers.specs.Numbers.{residue}
use Rattle.fpl_rows.proofs.Firsts.{next_is_at}
use Rattle.fpl_table.specs.Plain.{plain_basis, through}
use Rattle.fpl_table.proofs.Weights.{through_above}
use Rattle.fpl_envelope.specs.Counts.{words_in}
use Rattle.fpl_envelope.specs.Action.{field_in, number_in, acted, multiple, Adds}
use Rattle.fpl_envelope.specs.Kept.{HasElement}
use Rattle.fpl_envelope.proofs.Adding.{part, part_start, adds_next, adds_whole, adds_same, multiple_one}
use Rattle.fpl_envelope.proofs.Residues.{unit_at}
use Rattle.fpl_envelope.proofs.straightening.add_each.Goals as goal

pub loop-s-init : goal.loop-s-init
loop-s-init g c =
    let T = c.args.table.now in
    record {
      within = omega arith;
      sum = c.requires.sum;
      adds = part_start T c.requires.table.residues.accepted c.args.w (λ t f. acted T (c.args.i - 1) c.args.weight t f) c.args.row.now
          c.args.sum.now.row (residue 1);
    }

pub at-number-requires : goal.at-number-requires
at-number-requires g c = let h = next_is_at c.args.row.now c.loop-s.after c.in-Some.s c.in-Some.ensures in (h.from_one, h.to_end)

pub add_acted-requires-clause-number : goal.add_acted-requires-clause-number
add_acted-requires-clause-number g c =
    let h = next_is_at c.args.row.now c.loop-s.after c.in-Some.s c.in-Some.ensures in
    let from = h.from_one in
    let end = h.to_end in
    let long : length c.args.row.now ≡ length (words_in c.args.table.now c.args.weight) = c.requires.row.length_is in
    let same : c.from.result ≡ c.in-Some.s = c.from.ensures in
    omega (arith, from, end, long, same)

pub add_acted-requires-clause-element : goal.add_acted-requires-clause-element
add_acted-requires-clause-element g c =
    let T = c.args.table.now in
    let all : (plain_basis T (c.args.i - 1)).weight + c.args.weight ≡ c.args.w = c.requires.weight in
    let light : c.args.i - 1 < through T c.args.w = through_above T c.basis_len-count.ensures.shape c.args.w (c.args.i - 1) (omega arith) (omega
    (arith, all)) in
    subst (HasElement T c.args.w (c.args.i - 1)) (sym c.level-level.ensures)
    ((c.requires.products.levels c.args.w c.requires.reached).has (c.args.i - 1) (omega arith) light)

pub loop-s-preserved : goal.loop-s-preserved
loop-s-preserved g c =
    let T = c.args.table.now in
    let h = next_is_at c.args.row.now c.loop-s.after c.in-Some.s c.in-Some.ensures in
    let same : c.from.result ≡ c.in-Some.s = c.from.ensures in
    record {
      within = h.to_end;
      sum = c.add_acted.ensures.sum;
      adds = adds_next T c.requires.table.residues.accepted c.args.w (λ t f. acted T (c.args.i - 1) c.args.weight t f) c.args.row.now
          c.loop-s.after c.in-Some.s (residue 1) (g.F.Field.number c.at-number.result) c.args.sum.now.row c.loop-s.sum.row
          c.add_acted.new.sum.row c.requires.row.elements c.in-Some.ensures
          (ap (λ (x : Num). number_in T x) c.at-number.ensures
          ∙ sym (unit-times (field_in T) (number_in T (get_or c.args.row.now (c.in-Some.s - 1) (residue 0))))
          ∙ ap (λ a. (field_in T).times a (number_in T (get_or c.args.row.now (c.in-Some.s - 1) (residue 0)))) (sym
          (unit_at T.kind c.requires.table.residues.accepted (residue 1) refl)))
          c.loop-s.invariant.adds
          (subst (λ k. Adds T c.args.w (multiple T (g.F.Field.number c.at-number.result) (acted T (c.args.i - 1) c.args.weight k)) c.loop-s.sum.row
          c.add_acted.new.sum.row) (ap (λ x. x - 1) same) c.add_acted.ensures.adds);
    }

pub returns-clause-adds : goal.returns-clause-adds
returns-clause-adds g c =
    let T = c.args.table.now in
    let long : length c.args.row.now ≡ length (words_in T c.args.weight) = c.requires.row.length_is in
    adds_same T c.args.w (multiple T (residue 1) (part T (λ t f. acted T (c.args.i - 1) c.args.weight t f) c.args.row.now (length
    (words_in T c.args.weight)))) _
    c.args.sum.now.row c.loop-s.sum.row
    (adds_whole T c.requires.table.residues.accepted c.args.w (λ t f. acted T (c.args.i - 1) c.args.weight t f) c.args.row.now c.loop-s.after
    (length (words_in T c.args.weight)) (residue 1) c.args.sum.now.row c.loop-s.sum.row c.requires.row.elements c.in_default.ensures
    c.loop-s.invariant.within (omega (arith, long)) c.loop-s.invariant.adds)
    (λ f. multiple_one T c.requires.table.residues.accepted
    (part T (λ t f. acted T (c.args.i - 1) c.args.weight t f) c.args.row.now (length (words_in T c.args.weight))) f)
