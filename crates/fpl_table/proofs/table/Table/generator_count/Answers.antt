use Rattle.std.proofs.Common.{◌≡◌, length, ap, subst, refl, sym, ◌∙◌, arith, length-append}
use Rattle.std.proofs.lemmas.List.{length-map}
use Rattle.math_linear.specs.Lists.{joined}
use Rattle.fpl_table.specs.Plain.{generator_at}
use Rattle.fpl_table.specs.Shape.{HasShape}
use Rattle.fpl_table.specs.Whole.{shape_in}
use Rattle.fpl_table.proofs.Cells.{generator_weight, generator_yes, generator_no}
use Rattle.fpl_table.proofs.table.Table.generator_count.Goals as goal
use Rattle.fpl_table.proofs.table.Table.generator_count.Goals.{then-index-w, else-index-w}

pub loop-g-init : goal.loop-g-init
unfolding joined
loop-g-init g c = record { few = omega arith; value = refl }

pub loop-g-preserved : goal.loop-g-preserved
loop-g-preserved g c =
    let same : (generator_at c.args.self.now c.loop-g.g).weight ≡ c.index.result.now.weight =
    generator_weight c.args.self.now c.self.inside.shapes.items (ap (λ T. T.generators) c.self.view_is) c.loop-g.g c.index.result.now
    (omega arith) c.index.ensures in
    elim c.if-index-w.branch [
      | then-index-w w ↦
          let h = ap length (generator_yes c.args.self.now c.args.w c.loop-g.g (same ∙ w.if-index-w.true)) in
          record { few = omega arith; value = omega (arith, simp length-append at h) }
      | else-index-w w ↦
          let h = ap length (generator_no c.args.self.now c.args.w c.loop-g.g (λ is. w.if-index-w.false (sym same ∙ is))) in
          record { few = omega arith; value = omega (arith, h) }
    ]

pub returns : goal.returns
returns g c =
    let many : length c.self.inside.shapes.items ≡ length c.args.self.now.generators = sym (length-map c.self.inside.shapes.items shape_in) ∙
    ap (λ T. length T.generators) c.self.view_is in
    let at_end : c.loop-g.g ≡ length c.args.self.now.generators = omega arith in
    let few = rw (length-map c.self.inside.shapes.items shape_in) at c.self.invariant.shape.few in
    record { value = rw at_end at c.loop-g.invariant.value; few = omega (arith, few); shape = subst HasShape c.self.view_is c.self.invariant.shape }
