use Rattle.std.proofs.Common.{◌≤◌, ◌+◌, ◌∙◌, sym, arith, length}
use Rattle.fpl_log.proofs.TermsTaken.{past_end}
use Rattle.fpl_check.specs.Cited.{named}
use Rattle.fpl_check.proofs.Loops.{cites_next, cites_stop}
use Rattle.fpl_check.proofs.cites.test_cites.Goals.{in-None, in-Some+else-not-is_named}
use Rattle.fpl_check.proofs.cites.test_cites.Goals as goal

pub returns-then-not-is_named : goal.returns-then-not-is_named
returns-then-not-is_named c =
    c.loop-i.invariant ∙ cites_stop
    (named c.args.cited c.args.steps.now c.args.n) c.args.n c.args.terms.now c.loop-i.i c.in-Some.term c.in-Some.ensures
    (sym c.is_named.ensures ∙ c.if-not-is_named.true)

pub loop-i-preserved : goal.loop-i-preserved
loop-i-preserved c = elim c.match-get.branch [
  | in-None w ↦ absurd (let l : length c.args.terms.now ≤ c.loop-i.i = past_end c.args.terms.now c.loop-i.i w.in-None.ensures in omega arith)
  | in-Some+else-not-is_named w ↦
      c.loop-i.invariant
      ∙ cites_next (named c.args.cited c.args.steps.now c.args.n) c.args.n c.args.terms.now (c.loop-i.i + 1) c.loop-i.i w.in-Some.term
      (omega arith) w.in-Some.ensures (sym w.is_named.ensures ∙ w.if-not-is_named.false)
]
