use Rattle.std.proofs.Common.{◌≡◌, ◌≤◌, ◌+◌, ◌++◌, ◌∷◌, [], ◌∙◌, sym, ap, subst, arith, length, drop}
use Rattle.std.proofs.lemmas.List.{length-append}
use Rattle.std.proofs.lemmas.Option.{slice_get_within}
use Rattle.fpl_log.proofs.TermsTaken.{past_end}
use Rattle.fpl_rows.specs.Meaning.{IsRowOf, AreRows}
use Rattle.fpl_rows.proofs.Fits.{all_more}
use Rattle.fpl_table.specs.Plain.{symbols_in}
use Rattle.fpl_check.specs.Steps.{conclusions_from}
use Rattle.fpl_check.proofs.Composed.{same_refusal}
use Rattle.fpl_check.proofs.Loops.{steps_next, steps_stop}
use Rattle.fpl_check.proofs.steps.conclude_all.Goals.{in-None, in-Some+in-Ok+in-Ok-push}
use Rattle.fpl_check.proofs.steps.conclude_all.Goals as goal

pub returns-in-Err-clause-value : goal.returns-in-Err-clause-value
returns-in-Err-clause-value g c =
    same_refusal c.in-Err.fault _ _ c.loop-i.invariant.done
    (steps_stop c.args.table.now c.args.p.now c.args.steps.now c.in-Err.fault c.loop-i.earlier c.args.steps.now c.loop-i.i c.in-Some.step.now
    c.in-Some.ensures c.in-Err.ensures.value)

pub loop-i-preserved : goal.loop-i-preserved
loop-i-preserved g c =
    elim c.match-get.branch [
      | in-None w ↦ absurd (let l : length c.args.steps.now ≤ c.loop-i.i = past_end c.args.steps.now c.loop-i.i w.in-None.ensures in omega arith)
      | in-Some+in-Ok+in-Ok-push w ↦
          let kind = c.args.table.now.kind in
          let n = length (symbols_in c.args.table.now) in
          let more : c.match-get.earlier ≡ c.loop-i.earlier ++ w.in-Ok.row ∷ [] =
          w.earlier-is ∙ w.in-Ok-push.ensures.ok in
          record {
            empty = w.work-is ∙ w.in-Ok.ensures.emptied ∙ c.loop-i.invariant.empty;
            rows = subst (AreRows kind n) (sym more) (all_more (IsRowOf kind n) c.loop-i.earlier w.in-Ok.row c.loop-i.invariant.rows w.in-Ok.ensures.row);
            most = (let l = slice_get_within c.args.steps.now c.loop-i.i w.in-Some.step.now (sym w.in-Some.ensures) in omega (arith, l));
            whole = (let e = ap length more ∙ length-append c.loop-i.earlier (w.in-Ok.row ∷ []) in let l = c.loop-i.invariant.whole in omega (arith, e, l));
            done = c.loop-i.invariant.done
                ∙ steps_next c.args.table.now c.args.p.now c.args.steps.now c.loop-i.earlier w.in-Ok.row c.args.steps.now
                (c.loop-i.i + 1) c.loop-i.i w.in-Some.step.now (omega arith) w.in-Some.ensures w.in-Ok.ensures.value
                ∙ ap (λ rows. conclusions_from c.args.table.now c.args.p.now c.args.steps.now rows (drop (c.loop-i.i + 1) c.args.steps.now)) (sym more);
          }
    ]

pub returns-clause-whole : goal.returns-clause-whole
returns-clause-whole g c =
    (let e = c.len-i-end.ensures.value in let l = c.loop-i.invariant.whole in let m = c.loop-i.invariant.most in omega (arith, e, l, m, c.loop-i-test.false))
