use Rattle.std.proofs.Common.{◌≡◌, ◌≤◌, map, All, ◌+◌, ◌-◌, length, ap, sym, refl, ◌∙◌, arith, append_assoc, append-nil, length-append}
use Rattle.fpl_table.proofs.Cells.{pairs_first, pairs_more, row_length}
use Rattle.fpl_table.proofs.Weights.{through_within}
use Rattle.fpl_table.specs.Plain.{plain_basis}
use Rattle.fpl_table.specs.Push.{new_partners}
use Rattle.fpl_table.specs.Shape.{HasShape, IsRowUpTo}
use Rattle.fpl_table.proofs.Lists.{all_push}
use Rattle.std.proofs.lemmas.List.{map-append}
use Rattle.fpl_table.proofs.NewRows.{entries_step, entries_end}
use Rattle.fpl_table.proofs.table.Table.new_entries.Goals as goal

pub loop-i-init : goal.loop-i-init
loop-i-init g c =
    let none = ap length (pairs_first c.args.self.now c.weight.ensures.shape (c.args.self.now.weight + 1)) in
    let gens = rw c.weight.ensures.value at c.generator_count-place.ensures.value in
    record {
      few = omega arith;
      place = omega (arith, none, gens);
      left = rw c.new-entries.ensures.items refl;
      whole = rw c.new-entries.ensures.items (λ k d lt. absurd (omega (arith, lt)));
    }

pub overflow_add-place : goal.overflow_add-place
overflow_add-place g c =
    let shape : HasShape c.args.self.now = c.weight.ensures.shape in
    let same : c.loop-i.i + 1 - 1 ≡ c.loop-i.i = omega arith in
    let light : (plain_basis c.args.self.now c.loop-i.i).weight ≤ c.args.self.now.weight = shape.light c.loop-i.i (omega arith) in
    let row = row_length c.args.self.now shape (c.args.self.now.weight + 1) c.loop-i.i (omega arith) (omega arith) in
    let most = through_within c.args.self.now shape (c.args.self.now.weight + 1 - (plain_basis c.args.self.now c.loop-i.i).weight) in
    let count = rw same at c.in_ok-partners.ensures.count in
    omega (arith, row, most, count, c.loop-i.invariant.few, shape.small, shape.weight)

pub loop-i-preserved : goal.loop-i-preserved
loop-i-preserved g c =
    let shape : HasShape c.args.self.now = c.weight.ensures.shape in
    let same : c.loop-i.i + 1 - 1 ≡ c.loop-i.i = omega arith in
    let light : (plain_basis c.args.self.now c.loop-i.i).weight ≤ c.args.self.now.weight = shape.light c.loop-i.i (omega arith) in
    let row = row_length c.args.self.now shape (c.args.self.now.weight + 1) c.loop-i.i (omega arith) (omega arith) in
    let most = through_within c.args.self.now shape (c.args.self.now.weight + 1 - (plain_basis c.args.self.now c.loop-i.i).weight) in
    let count = rw same at c.in_ok-partners.ensures.count in
    let more = simp length-append at (ap length (pairs_more c.args.self.now shape (c.args.self.now.weight + 1) c.loop-i.i)) in
    let partners : c.in_ok-partners.partners.items ≡ new_partners c.args.self.now c.args.closed.now.rows.now c.loop-i.i 0 c.args.self.now.basis =
    c.in_ok-partners.ensures.value ∙ ap (λ k. new_partners c.args.self.now c.args.closed.now.rows.now k 0 c.args.self.now.basis) same in
    let step = entries_step c.args.self.now c.args.closed.now.rows.now c.loop-i.i (omega arith) in
    record {
      few = omega (arith, row, most, count, c.loop-i.invariant.few, shape.small, shape.weight);
      place = omega (arith, count, more, c.loop-i.invariant.place);
      left = rw (c.in_ok-push.ensures.items, map-append, append_assoc, partners, ← step) c.loop-i.invariant.left;
      whole = rw (c.in_ok-push.ensures.items, map-append)
          (all_push (λ partners. All (IsRowUpTo c.args.self.now.kind (length c.args.self.now.basis + length c.args.closed.now.free.items)) partners) _
          _ c.loop-i.invariant.whole c.in_ok-partners.ensures.whole);
    }

pub returns-clause-value : goal.returns-clause-value
returns-clause-value g c =
    let none = entries_end c.args.self.now c.args.closed.now.rows.now c.loop-i.i (omega arith) in
    sym (append-nil (map (λ v. v.items) c.loop-i.entries.items)) ∙ rw none at c.loop-i.invariant.left
