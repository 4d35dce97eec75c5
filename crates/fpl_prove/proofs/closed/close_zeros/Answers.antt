use Rattle.std.proofs.Common.{ℕ, ◌++◌, ◌∷◌, [], ◌∙◌, refl, sym, ap, ap₂, arith, List}
use Rattle.std.specs.Prelude.{slice_get, if◌then◌else◌}
use Rattle.std.proofs.lemmas.List.{length-append, append_assoc}
use Rattle.fpl_forms.specs.declared.term.Fact.{Fact}
use Rattle.fpl_check.specs.Steps.{is_close}
use Rattle.fpl_prove.proofs.Closing.{no_closes, closes_next}
use Rattle.fpl_prove.proofs.closed.close_zeros.Goals as goal

pub loop-zero-init : goal.loop-zero-init
loop-zero-init c = record {
  made = c.new-facts.ensures.items ∙ sym (no_closes c.args.steps.now);
  count = refl;
  parts = sym c.into_iter-zero-iterator.ensures.into_iter_gives.0;
}

pub loop-zero-preserved : goal.loop-zero-preserved
loop-zero-preserved c =
    let steps = c.args.steps.now in
    record {
      made = c.in_ok-keep_close.ensures
          ∙ ap₂ (λ (i : ℕ) (facts : List Fact). if is_close (slice_get steps i) then facts ++ c.in-Some.zero ∷
          [] else facts) c.loop-zero.invariant.count c.loop-zero.invariant.made
          ∙ sym (closes_next steps c.loop-zero.yielded c.in-Some.zero);
      count = (let e = length-append c.loop-zero.yielded (c.in-Some.zero ∷ []) in let i = c.loop-zero.invariant.count in omega (arith, e, i));
      parts = c.loop-zero.invariant.parts ∙ ap (λ rest. c.loop-zero.yielded ++ rest) c.in-Some.ensures.steps.0
          ∙ sym (append_assoc c.loop-zero.yielded (c.in-Some.zero ∷ []) c.next.new.self.rest.items);
    }
