use Rattle.std.proofs.Common.{◌≤◌, ◌+◌, ◌∙◌, ℕ, subst, arith, length}
use Rattle.fpl_rows.specs.Meaning.{IsRowOf}
use Rattle.fpl_log.specs.Plain.{terms_off}
use Rattle.fpl_log.proofs.TermsTaken.{taken_next, taken_stops, past_end}
use Rattle.fpl_log.proofs.taking.take_terms.Goals.{in-None, in-Some+in-Ok}
use Rattle.fpl_log.proofs.taking.take_terms.Goals as goal

pub returns-in-Err-clause-value : goal.returns-in-Err-clause-value
returns-in-Err-clause-value g c =
    taken_stops (g.F.Field.kind_of c.args.field.now) c.args.earlier.now c.loop-i.left c.args.terms.now c.loop-i.i c.in-Some.term
    (terms_off (g.F.Field.kind_of c.args.field.now) c.args.earlier.now c.args.start c.args.terms.now) c.in-Err.fault c.in-Some.ensures
    c.loop-i.invariant.done c.in-Err.ensures.value

pub loop-i-preserved : goal.loop-i-preserved
loop-i-preserved g c = elim c.match-get.branch [
  | in-None w ↦ absurd (let l : length c.args.terms.now ≤ c.loop-i.i = past_end c.args.terms.now c.loop-i.i w.in-None.ensures in omega arith)
  | in-Some+in-Ok w ↦ record {
    is_row = rw w.left-is (let P : ℕ → Type 0 = λ n. IsRowOf (g.F.Field.kind_of c.args.field.now) n w.in-Ok.next in
        subst P c.loop-i.invariant.is_row.length_is w.in-Ok.ensures.row);
    done = rw w.left-is
        (c.loop-i.invariant.done ∙ taken_next (g.F.Field.kind_of c.args.field.now) c.args.earlier.now c.loop-i.left w.in-Ok.next c.args.terms.now
        (c.loop-i.i + 1) c.loop-i.i w.in-Some.term (omega arith) w.in-Some.ensures w.in-Ok.ensures.value);
  }
]
