use Rattle.std.proofs.Common.{◌∙◌, ap, sym, arith}
use Rattle.fpl_table.proofs.Lists.{all_get}
use Rattle.plain_cohomology.specs.Means.{HasElements}
use Rattle.fpl_echelon.proofs.Spanning.{none_left}
use Rattle.fpl_cohomology.specs.Rows.{low_as}
use Rattle.fpl_cohomology.proofs.Lines.{low_next}
use Rattle.fpl_cohomology.proofs.text.push_lows.Goals as goal
use Rattle.fpl_cohomology.proofs.text.push_lows.Goals.{in-Some+in_ok-push_low, in_default}

pub push_low-requires-clause-elements : goal.push_low-requires-clause-elements
push_low-requires-clause-elements g c =
    all_get (HasElements c.args.table.now.kind) c.args.lows.now c.loop-w.w (low_as c.in-Some.low.now.h1 c.in-Some.low.now.h2) c.requires.elements
    (sym c.in-Some.ensures)

pub loop-w-preserved : goal.loop-w-preserved
loop-w-preserved g c =
    elim c.match-get.branch [
      | in-Some+in_ok-push_low w ↦
          low_next c.args.table.now _ c.loop-w.out.items c.args.lows.now c.loop-w.w c.loop-w.invariant c.match-get.out.items
          (low_as w.in-Some.low.now.h1 w.in-Some.low.now.h2) w.in-Some.ensures (ap (λ v. v.items) w.out-is ∙ w.in_ok-push_low.ensures)
      | in_default w ↦ absurd (none_left c.args.lows.now c.loop-w.w (omega arith) w.in_default.ensures)
    ]
