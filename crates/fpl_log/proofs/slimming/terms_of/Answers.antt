use Rattle.std.proofs.Common.{◌≤◌, ◌+◌, ◌++◌, ◌∙◌, [], ap, arith, length}
use Rattle.fpl_log.specs.Slim.{slim_term}
use Rattle.fpl_log.proofs.TermsTaken.{past_end}
use Rattle.fpl_log.proofs.SlimLoops.{terms_next}
use Rattle.fpl_log.proofs.slimming.terms_of.Goals.{in-None, in-Some+in_ok-keep_term-in-Some}
use Rattle.fpl_log.proofs.slimming.terms_of.Goals as goal

pub loop-i-preserved : goal.loop-i-preserved
loop-i-preserved c = elim c.match-get.branch [
  | in-None w ↦ absurd (let l : length c.args.terms.now ≤ c.loop-i.i = past_end c.args.terms.now c.loop-i.i w.in-None.ensures in omega arith)
  | in-Some+in_ok-keep_term-in-Some w ↦
      terms_next c.args.numbers.now c.args.terms.now c.loop-i.kept c.match-get.kept _ (c.loop-i.i + 1) c.loop-i.i w.in-Some.term
      (omega arith) w.in-Some.ensures c.loop-i.invariant
      (w.kept-is ∙ w.in_ok-keep_term-in-Some.ensures ∙ ap (λ o. c.loop-i.kept ++ slim_term o w.in-Some.term []) w.number_of.ensures)
]
