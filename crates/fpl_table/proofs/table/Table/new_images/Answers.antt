use Rattle.std.proofs.Common.{◌≡◌, ◌≢◌, ◌+◌, ◌++◌, All, drop, length, ap, sym, refl, ◌∙◌, arith, append_assoc, append-nil, length-append}
use Rattle.std.proofs.lemmas.Bool.Decides.{nat_tests}
use Rattle.math_linear.specs.Lists.{joined}
use Rattle.fpl_table.specs.Plain.{generator_at}
use Rattle.fpl_table.proofs.Cells.{generator_yes, generator_no}
use Rattle.fpl_table.proofs.NewRows.{images_step, images_end}
use Rattle.fpl_table.specs.Shape.{IsRowUpTo}
use Rattle.fpl_table.proofs.Lists.{all_push}
use Rattle.fpl_table.specs.Push.{new_images}
use Rattle.fpl_table.specs.Whole.{shape_in}
use Rattle.std.proofs.lemmas.List.{length-map}
use Rattle.fpl_table.proofs.table.Table.new_images.Goals as goal
use Rattle.fpl_table.proofs.table.Table.new_images.Goals.{then-is_next, else-is_next}

pub loop-g-init : goal.loop-g-init
unfolding joined
loop-g-init g c = record {
  few = omega arith;
  place = refl;
  left = rw c.new-images.ensures.items refl;
  whole =
      rw c.new-images.ensures.items (λ k d lt. absurd (omega (arith, lt)));
}

pub loop-g-preserved : goal.loop-g-preserved
loop-g-preserved g c =
    let many : length c.self.inside.shapes.items ≡ length c.args.self.now.generators = sym (length-map c.self.inside.shapes.items shape_in) ∙
    ap (λ T. length T.generators) c.self.view_is in
    let step = images_step c.args.self.now c.args.closed.now.rows.now c.loop-g.g (omega arith) in
    let left : c.push.new.self.items ++ new_images c.args.self.now c.args.closed.now.rows.now (c.loop-g.g + 1)
    (drop (c.loop-g.g + 1) c.args.self.now.generators) ≡ new_images c.args.self.now c.args.closed.now.rows.now 0 c.args.self.now.generators =
    rw (c.in_ok-push.ensures.items, append_assoc, c.in_ok-image.ensures.value, ← step) c.loop-g.invariant.left in
    let whole : All (IsRowUpTo c.args.self.now.kind (length c.args.self.now.basis + length c.args.closed.now.free.items)) c.push.new.self.items =
    rw c.in_ok-push.ensures.items (all_push (IsRowUpTo c.args.self.now.kind (length c.args.self.now.basis + length c.args.closed.now.free.items)) _ _
    c.loop-g.invariant.whole c.in_ok-image.ensures.whole) in
    elim c.if-is_next.branch [
      | then-is_next w ↦
          let is : (generator_at c.args.self.now c.loop-g.g).weight ≡ c.args.self.now.weight + 1 = grind (arith, nat_tests) in
          let h = simp length-append at (ap length (generator_yes c.args.self.now (c.args.self.now.weight + 1) c.loop-g.g is)) in
          record { few = omega arith; place = omega (arith, h); left = left; whole = whole }
      | else-is_next w ↦
          let not : (generator_at c.args.self.now c.loop-g.g).weight ≢ c.args.self.now.weight + 1 = grind (arith, nat_tests) in
          let h = ap length (generator_no c.args.self.now (c.args.self.now.weight + 1) c.loop-g.g not) in
          record { few = omega arith; place = omega (arith, h); left = left; whole = whole }
    ]

pub returns-clause-value : goal.returns-clause-value
returns-clause-value g c =
    let many : length c.self.inside.shapes.items ≡ length c.args.self.now.generators = sym (length-map c.self.inside.shapes.items shape_in) ∙
    ap (λ T. length T.generators) c.self.view_is in
    let none = images_end c.args.self.now c.args.closed.now.rows.now c.loop-g.g (omega arith) in
    sym (append-nil c.loop-g.images.items) ∙ rw none at c.loop-g.invariant.left
