use Rattle.std.proofs.Common.{◌≡◌, ◌<◌, ◌≤◌, ◌+◌, ◌-◌, suc, length, ap, sym, ◌∙◌, arith, add-one, append_assoc, append-nil, length-append}
use Rattle.math_algebra.specs.Table.{of_pair}
use Rattle.fpl_table.specs.Shape.{HasShape, IsRowUpTo}
use Rattle.fpl_table.proofs.Lists.{all_push}
use Rattle.fpl_table.specs.Push.{row_of_symbol, symbol_row}
use Rattle.fpl_table.specs.Plain.{plain_basis}
use Rattle.fpl_table.proofs.Cells.{from_within, row_length}
use Rattle.fpl_table.proofs.Places.{pair_place, pair_within}
use Rattle.fpl_table.proofs.NewRows.{partners_first, partners_more, partners_end}
use Rattle.fpl_table.proofs.table.Table.new_partners.Goals as goal

pub loop-j-init : goal.loop-j-init
loop-j-init g c =
    let shape : HasShape c.args.self.now = c.weight.ensures.shape in
    let lti : c.args.i - 1 < length c.args.self.now.basis = omega arith in
    let next : c.weight.result + 1 ≡ suc c.args.self.now.weight = omega (arith, c.weight.ensures.value) in
    let from = rw next at c.partners-from.ensures.from in
    let to = rw next at c.partners-from.ensures.to in
    let light : (plain_basis c.args.self.now (c.args.i - 1)).weight ≤ c.args.self.now.weight = shape.light (c.args.i - 1) lti in
    let begin = from_within c.args.self.now shape (suc c.args.self.now.weight) (c.args.i - 1) lti (omega arith) in
    let first = partners_first c.args.self.now c.args.closed.now.rows.now shape (c.args.i - 1) lti begin in
    record {
      within = omega (arith, begin, from);
      stop = omega arith;
      count = omega (arith, ap length c.new-partners.ensures.items);
      left = rw (c.new-partners.ensures.items, from) (sym first);
      whole = rw c.new-partners.ensures.items (λ k d lt. absurd (omega (arith, lt)));
    }

pub symbol_row-requires-clause-place : goal.symbol_row-requires-clause-place
symbol_row-requires-clause-place g c =
    let shape : HasShape c.args.self.now = c.weight.ensures.shape in
    let lti : c.args.i - 1 < length c.args.self.now.basis = omega arith in
    let next : c.weight.result + 1 ≡ suc c.args.self.now.weight = omega (arith, c.weight.ensures.value) in
    let from = rw next at c.partners-from.ensures.from in
    let to = rw next at c.partners-from.ensures.to in
    let light : (plain_basis c.args.self.now (c.args.i - 1)).weight ≤ c.args.self.now.weight = shape.light (c.args.i - 1) lti in
    let start = rw add-one at c.requires.start in
    rw (start, from) (pair_within c.args.self.now shape (c.args.i - 1) lti c.loop-j.j (omega (arith, from)) (omega (arith, to)))

pub overflow_add-place : goal.overflow_add-place
overflow_add-place g c =
    let shape : HasShape c.args.self.now = c.weight.ensures.shape in
    let lti : c.args.i - 1 < length c.args.self.now.basis = omega arith in
    let next : c.weight.result + 1 ≡ suc c.args.self.now.weight = omega (arith, c.weight.ensures.value) in
    let from = rw next at c.partners-from.ensures.from in
    let to = rw next at c.partners-from.ensures.to in
    let light : (plain_basis c.args.self.now (c.args.i - 1)).weight ≤ c.args.self.now.weight = shape.light (c.args.i - 1) lti in
    let start = rw add-one at c.requires.start in
    let lt = pair_within c.args.self.now shape (c.args.i - 1) lti c.loop-j.j (omega (arith, from)) (omega (arith, to)) in
    omega (arith, lt, start, from, c.requires.solved.few)

pub loop-j-preserved : goal.loop-j-preserved
loop-j-preserved g c =
    let shape : HasShape c.args.self.now = c.weight.ensures.shape in
    let lti : c.args.i - 1 < length c.args.self.now.basis = omega arith in
    let next : c.weight.result + 1 ≡ suc c.args.self.now.weight = omega (arith, c.weight.ensures.value) in
    let from = rw next at c.partners-from.ensures.from in
    let to = rw next at c.partners-from.ensures.to in
    let light : (plain_basis c.args.self.now (c.args.i - 1)).weight ≤ c.args.self.now.weight = shape.light (c.args.i - 1) lti in
    let start = rw add-one at c.requires.start in
    let place = pair_place c.args.self.now shape (c.args.i - 1) lti c.loop-j.j (omega (arith, from)) (omega (arith, to)) in
    let more = partners_more c.args.self.now c.args.closed.now.rows.now shape (c.args.i - 1) lti c.loop-j.j (omega arith) (omega (arith, from))
    (omega (arith, to)) in
    let same : row_of_symbol c.args.self.now c.args.closed.now.rows.now (of_pair (c.args.i - 1) c.loop-j.j) ≡ c.in_ok-symbol_row.field-0 =
    ap (symbol_row c.args.self.now c.args.closed.now.rows.now) (place ∙ omega (arith, start, from)) ∙ sym c.in_ok-symbol_row.ensures.value in
    let count = simp length-append at (ap length c.in_ok-push.ensures.items) in
    record {
      within = omega arith;
      stop = omega arith;
      count = omega (arith, count, c.loop-j.invariant.count);
      left = rw (c.in_ok-push.ensures.items, append_assoc, ← same, ← more) c.loop-j.invariant.left;
      whole = rw c.in_ok-push.ensures.items (all_push
          (IsRowUpTo c.args.self.now.kind (length c.args.self.now.basis + length c.args.closed.now.free.items)) _ _ c.loop-j.invariant.whole
          c.in_ok-symbol_row.ensures.whole);
    }

pub returns-clause-value : goal.returns-clause-value
returns-clause-value g c =
    let shape : HasShape c.args.self.now = c.weight.ensures.shape in
    let lti : c.args.i - 1 < length c.args.self.now.basis = omega arith in
    let next : c.weight.result + 1 ≡ suc c.args.self.now.weight = omega (arith, c.weight.ensures.value) in
    let from = rw next at c.partners-from.ensures.from in
    let to = rw next at c.partners-from.ensures.to in
    let light : (plain_basis c.args.self.now (c.args.i - 1)).weight ≤ c.args.self.now.weight = shape.light (c.args.i - 1) lti in
    let none = partners_end c.args.self.now c.args.closed.now.rows.now shape (c.args.i - 1) lti c.loop-j.j c.loop-j.invariant.within (omega (arith, to)) in
    sym (append-nil c.loop-j.partners.items) ∙ rw none at c.loop-j.invariant.left

pub returns-clause-count : goal.returns-clause-count
returns-clause-count g c =
    let shape : HasShape c.args.self.now = c.weight.ensures.shape in
    let lti : c.args.i - 1 < length c.args.self.now.basis = omega arith in
    let next : c.weight.result + 1 ≡ suc c.args.self.now.weight = omega (arith, c.weight.ensures.value) in
    let from = rw next at c.partners-from.ensures.from in
    let to = rw next at c.partners-from.ensures.to in
    let light : (plain_basis c.args.self.now (c.args.i - 1)).weight ≤ c.args.self.now.weight = shape.light (c.args.i - 1) lti in
    let row = row_length c.args.self.now shape (suc c.args.self.now.weight) (c.args.i - 1) lti (omega arith) in
    rw add-one (omega (arith, row, from, to, c.loop-j.invariant.count, c.loop-j.invariant.stop, c.loop-j-test.false))
