use Rattle.std.proofs.Common.{◌≤◌, ◌+◌, ◌∙◌, sym, ap, arith, length}
use Rattle.fpl_rows.specs.Meaning.{IsRowOf}
use Rattle.fpl_log.proofs.TermsTaken.{past_end, term_got}
use Rattle.fpl_check.specs.Leads.{marked}
use Rattle.fpl_check.specs.ClosedRows.{lead_or_none, test_crossing}
use Rattle.fpl_check.proofs.Composed.{same_refusal}
use Rattle.fpl_check.proofs.Marks.{crossing_marked}
use Rattle.fpl_check.proofs.RowLoops.{apart_next, apart_stop}
use Rattle.fpl_check.proofs.leads.test_apart.Goals.{in-None, in-Some+in-Ok-test_crossing}
use Rattle.fpl_check.proofs.leads.test_apart.Goals as goal

pub returns-in-Err-test_crossing : goal.returns-in-Err-test_crossing
returns-in-Err-test_crossing g c =
    let rows = c.args.rows.now in
    let row = c.in-Some.row.now in
    let is = term_got (IsRowOf (g.F.Field.kind_of c.args.field.now) c.args.n) rows c.loop-k.k row c.requires.rows c.in-Some.ensures in
    let same = crossing_marked c.args.n (c.loop-k.k + 1) rows c.in-Ok.marks.items (lead_or_none row) row c.in-Ok.ensures is.length_is in
    same_refusal c.in-Err-test_crossing.fault _ _ c.loop-k.invariant
    (apart_stop c.in-Err-test_crossing.fault rows (c.loop-k.k + 1) rows c.loop-k.k row c.in-Some.ensures
    (same_refusal c.in-Err-test_crossing.fault _ _ (same ∙ ap (λ ms. test_crossing (c.loop-k.k + 1) (marked ms) (lead_or_none row) 1 row)
    (sym c.deref.ensures.value)) c.in-Err-test_crossing.ensures))

pub loop-k-preserved : goal.loop-k-preserved
loop-k-preserved g c = elim c.match-get.branch [
  | in-None w ↦ absurd (let l : length c.args.rows.now ≤ c.loop-k.k = past_end c.args.rows.now c.loop-k.k w.in-None.ensures in omega arith)
  | in-Some+in-Ok-test_crossing w ↦
      let rows = c.args.rows.now in
      let row = w.in-Some.row.now in
      let is = term_got (IsRowOf (g.F.Field.kind_of c.args.field.now) c.args.n) rows c.loop-k.k row c.requires.rows w.in-Some.ensures in
      let same = crossing_marked c.args.n (c.loop-k.k + 1) rows c.in-Ok.marks.items (lead_or_none row) row c.in-Ok.ensures is.length_is in
      c.loop-k.invariant
      ∙ apart_next rows (c.loop-k.k + 1) rows (c.loop-k.k + 1) c.loop-k.k row (omega arith) w.in-Some.ensures
      (same ∙ ap (λ ms. test_crossing (c.loop-k.k + 1) (marked ms) (lead_or_none row) 1 row) (sym w.deref.ensures.value) ∙ w.in-Ok-test_crossing.ensures)
]
