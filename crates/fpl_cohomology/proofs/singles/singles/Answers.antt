use Rattle.std.proofs.Common.{◌++◌, ◌∷◌, [], ◌∙◌, ap, sym, arith}
use Rattle.math_linear.specs.Lists.{joined}
use Rattle.plain_cohomology.specs.Plain.{single_cell}
use Rattle.fpl_cohomology.proofs.Cells.{singles_first, singles_more, singles_last, singles_few}
use Rattle.fpl_cohomology.proofs.singles.singles.Goals as goal

pub loop-i-init : goal.loop-i-init
loop-i-init g c = record {
  within = c.through-from.ensures.within;
  value = c.new-list.ensures.items
      ∙ sym (ap (λ n. joined n (single_cell c.args.table.now c.args.w)) c.through-from.ensures.value
      ∙ singles_first c.args.table.now c.through-from.ensures.shape c.args.w c.requires.0);
}

pub loop-i-preserved : goal.loop-i-preserved
loop-i-preserved g c =
    let end = c.through-to.ensures.within in
    record {
      within = omega (arith, end);
      value = c.in_ok-push.ensures.items ∙ ap (λ l. l ++ c.loop-i.i ∷ []) c.loop-i.invariant.value
          ∙ sym (singles_more c.args.table.now c.through-from.ensures.shape c.args.w c.requires.0 c.loop-i.i (omega arith) (omega arith));
    }

pub returns-clause-value : goal.returns-clause-value
returns-clause-value g c =
    c.loop-i.invariant.value
    ∙ sym (singles_last c.args.table.now c.through-from.ensures.shape c.args.w c.requires.0 c.loop-i.i (omega arith) c.loop-i.invariant.within)

pub returns-clause-few : goal.returns-clause-few
returns-clause-few g c =
    let same = c.loop-i.invariant.value
    ∙ sym (singles_last c.args.table.now c.through-from.ensures.shape c.args.w c.requires.0 c.loop-i.i (omega arith) c.loop-i.invariant.within) in
    let few = singles_few c.args.table.now c.through-from.ensures.shape c.args.w c.requires.0 in
    let small = c.through-from.ensures.shape.small in
    let weight = c.through-from.ensures.shape.weight in
    rw same (omega (arith, few, small, weight))
