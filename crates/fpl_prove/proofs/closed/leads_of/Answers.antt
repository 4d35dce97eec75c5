use Rattle.std.proofs.Common.{◌≤◌, ◌+◌, ◌++◌, ◌∷◌, [], ◌∙◌, ap, ap₂, sym, arith, length}
use Rattle.std.proofs.lemmas.List.{map_more}
use Rattle.std.proofs.lemmas.Option.{slice_get_within, get_or_from_slice_get}
use Rattle.fpl_log.proofs.TermsTaken.{past_end}
use Rattle.fpl_rows.specs.Meaning.{pivot_of}
use Rattle.fpl_prove.proofs.closed.leads_of.Goals.{in-None, in-Some+in_ok-push-in-Some}
use Rattle.fpl_prove.proofs.closed.leads_of.Goals as goal

pub loop-k-preserved : goal.loop-k-preserved
loop-k-preserved c =
    let rows = c.args.rows.now in
    let k = c.loop-k.k in
    elim c.match-get.branch [
      | in-None w ↦ absurd (let l : length rows ≤ k = past_end rows k w.in-None.ensures in
          let h = c.loop-k-test.true in let e = c.len-k-end.ensures.value in omega (arith, l, h, e))
      | in-Some+in_ok-push-in-Some w ↦
          let got = sym w.in-Some.ensures in
          ap (λ v. v.items) w.leads-is ∙ w.in_ok-push-in-Some.ensures.items
          ∙ ap₂ (λ xs x. xs ++ x ∷ []) c.loop-k.invariant (w.pivot.ensures ∙ ap pivot_of (sym (get_or_from_slice_get rows k w.in-Some.row.now [] got)))
          ∙ sym (map_more pivot_of rows k [] (slice_get_within rows k w.in-Some.row.now got))
    ]
