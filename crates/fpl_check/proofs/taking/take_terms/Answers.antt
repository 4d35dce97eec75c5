use Rattle.std.proofs.Common.{◌≤◌, ◌+◌, ◌∙◌, arith, length}
use Rattle.fpl_log.specs.Plain.{terms_off}
use Rattle.fpl_log.proofs.TermsTaken.{taken_next, taken_stops, past_end}
use Rattle.fpl_check.proofs.taking.take_terms.Goals.{in-None, in-Some+in-Ok}
use Rattle.fpl_check.proofs.taking.take_terms.Goals as goal

pub returns-in-Err-clause-value : goal.returns-in-Err-clause-value
returns-in-Err-clause-value g c =
    taken_stops (g.F.Field.kind_of c.args.field.now) c.args.earlier.now c.loop-i.work.row c.args.terms.now c.loop-i.i c.in-Some.term
    (terms_off (g.F.Field.kind_of c.args.field.now) c.args.earlier.now c.args.work.now.row c.args.terms.now) c.in-Err.fault c.in-Some.ensures
    c.loop-i.invariant.done c.in-Err.ensures.value

pub loop-i-preserved : goal.loop-i-preserved
loop-i-preserved g c = elim c.match-get.branch [
  | in-None w ↦ absurd (let l : length c.args.terms.now ≤ c.loop-i.i = past_end c.args.terms.now c.loop-i.i w.in-None.ensures in omega arith)
  | in-Some+in-Ok w ↦ record {
    kind = rw w.work-is w.in-Ok.ensures.kind;
    long = rw w.work-is (w.in-Ok.ensures.length ∙ c.loop-i.invariant.long);
    done = rw w.work-is
        (c.loop-i.invariant.done ∙ taken_next (g.F.Field.kind_of c.args.field.now) c.args.earlier.now c.loop-i.work.row w.take_term.new.work.row
        c.args.terms.now (c.loop-i.i + 1) c.loop-i.i w.in-Some.term (omega arith) w.in-Some.ensures w.in-Ok.ensures.value);
  }
]
