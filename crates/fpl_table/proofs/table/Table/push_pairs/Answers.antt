use Rattle.std.proofs.Common.{◌≡◌, ◌+◌, ◌-◌, refl, sym, arith, append-nil, append_assoc}
use Rattle.std.proofs.lemmas.List.{map-append}
use Rattle.fpl_table.specs.Shape.{HasShape, IsNumbered}
use Rattle.fpl_table.proofs.Cells.{from_within, row_before, row_more, row_after}
use Rattle.fpl_table.proofs.Lists.{all_push}
use Rattle.fpl_table.proofs.table.Table.push_pairs.Goals as goal

pub loop-j-init : goal.loop-j-init
loop-j-init g c =
    let shape : HasShape c.args.self.now = c.partners-from.ensures.shape in
    let from = from_within c.args.self.now shape c.args.w (c.args.i - 1) (omega arith) c.requires.above in
    let none = row_before c.args.self.now shape c.args.w (c.args.i - 1) (omega arith) c.requires.above c.partners-from.result.0 (omega arith)
    (omega (arith, from)) in
    record {
      within = omega (arith, from);
      value = rw none (sym (append-nil _));
      numbered = λ h. h;
    }

pub loop-j-preserved : goal.loop-j-preserved
loop-j-preserved g c =
    let shape : HasShape c.args.self.now = c.partners-from.ensures.shape in
    let more = row_more c.args.self.now shape c.args.w (c.args.i - 1) (omega arith) c.requires.above c.loop-j.j (omega arith) (omega arith) in
    let back : c.loop-j.j + 1 - 1 ≡ c.loop-j.j = omega arith in
    record {
      within = omega arith;
      value = rw (c.in_ok-push.ensures.items, map-append, c.loop-j.invariant.value, more, append_assoc, back) refl;
      numbered = λ h. rw c.in_ok-push.ensures.items (all_push IsNumbered _ _ (c.loop-j.invariant.numbered h) (omega arith, omega arith));
    }

pub returns-clause-value : goal.returns-clause-value
returns-clause-value g c =
    let shape : HasShape c.args.self.now = c.partners-from.ensures.shape in
    let all = row_after c.args.self.now shape c.args.w (c.args.i - 1) (omega arith) c.requires.above c.loop-j.j (omega arith) c.loop-j.invariant.within in
    rw all c.loop-j.invariant.value
