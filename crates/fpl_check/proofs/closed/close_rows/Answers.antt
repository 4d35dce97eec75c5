use Rattle.std.proofs.Common.{ℕ, ◌++◌, ◌∷◌, [], ◌∙◌, refl, sym, ap, ap₂, arith, List}
use Rattle.std.specs.Prelude.{slice_get, if◌then◌else◌}
use Rattle.std.proofs.lemmas.List.{length-append, append_assoc}
use Rattle.fpl_numbers.specs.declared.number.Num.{Num}
use Rattle.fpl_check.specs.Steps.{is_close}
use Rattle.fpl_check.proofs.Loops.{no_closes, closes_next}
use Rattle.fpl_check.proofs.closed.close_rows.Goals as goal

pub loop-conclusion-init : goal.loop-conclusion-init
loop-conclusion-init g c = record {
  made = c.new-rows.ensures ∙ sym (no_closes c.args.steps.now);
  count = refl;
  parts = sym c.into_iter-conclusion-iterator.ensures.into_iter_gives.0;
}

pub loop-conclusion-preserved : goal.loop-conclusion-preserved
loop-conclusion-preserved g c =
    let steps = c.args.steps.now in
    record {
      made = c.in_ok-keep_close.ensures
          ∙ ap₂ (λ (i : ℕ) (rows : List (List Num)). if is_close (slice_get steps i) then rows ++ c.in-Some.conclusion ∷
          [] else rows) c.loop-conclusion.invariant.count c.loop-conclusion.invariant.made
          ∙ sym (closes_next steps c.loop-conclusion.yielded c.in-Some.conclusion);
      count = (let e = length-append c.loop-conclusion.yielded (c.in-Some.conclusion ∷ []) in let i = c.loop-conclusion.invariant.count in omega (arith, e, i));
      parts = c.loop-conclusion.invariant.parts ∙ ap (λ rest. c.loop-conclusion.yielded ++ rest) c.in-Some.ensures.steps.0
          ∙ sym (append_assoc c.loop-conclusion.yielded (c.in-Some.conclusion ∷ []) c.next.new.self.rest.items);
    }
