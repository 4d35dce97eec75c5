use Rattle.std.proofs.Common.{◌≡◌, ◌+◌, ◌-◌, ap, refl, sym, subst, ◌∙◌, arith, append-nil, append_assoc}
use Rattle.std.proofs.lemmas.List.{map-append}
use Rattle.math_linear.specs.Lists.{joined}
use Rattle.fpl_table.specs.Plain.{generator_at}
use Rattle.fpl_table.specs.Shape.{HasShape, IsNumbered}
use Rattle.fpl_table.proofs.Cells.{generator_weight, generator_yes, generator_no}
use Rattle.fpl_table.proofs.Lists.{all_push}
use Rattle.fpl_table.proofs.table.Table.push_generators.Goals as goal
use Rattle.fpl_table.proofs.table.Table.push_generators.Goals.{then-index-w+in_ok-push, else-index-w}

pub loop-g-init : goal.loop-g-init
unfolding joined
loop-g-init g c = record { value = sym (append-nil _); numbered = λ h. h }

pub loop-g-preserved : goal.loop-g-preserved
loop-g-preserved g c =
    let same : (generator_at c.args.self.now c.loop-g.g).weight ≡ c.index.result.now.weight =
    generator_weight c.args.self.now c.self.inside.shapes.items (ap (λ T. T.generators) c.self.view_is) c.loop-g.g c.index.result.now
    (omega arith) c.index.ensures in
    elim c.if-index-w.branch [
      | then-index-w+in_ok-push w ↦
          let back : c.loop-g.g + 1 - 1 ≡ c.loop-g.g = omega arith in
          record {
            value = rw (
              w.symbols-is,
              w.in_ok-push.ensures.items,
              map-append,
              c.loop-g.invariant.value,
              generator_yes c.args.self.now c.args.w c.loop-g.g (same ∙ w.if-index-w.true),
              append_assoc,
              back,
            ) refl;
            numbered = λ h. rw (w.symbols-is, w.in_ok-push.ensures.items) (all_push IsNumbered _ _ (c.loop-g.invariant.numbered h) (omega arith));
          }
      | else-index-w w ↦
          record {
            value = rw (w.symbols-is, generator_no c.args.self.now c.args.w c.loop-g.g (λ is. w.if-index-w.false (sym same ∙ is))) c.loop-g.invariant.value;
            numbered = λ h. rw w.symbols-is (c.loop-g.invariant.numbered h);
          }
    ]

pub returns-clause-shape : goal.returns-clause-shape
returns-clause-shape g c = subst HasShape c.self.view_is c.self.invariant.shape
