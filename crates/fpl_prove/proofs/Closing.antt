-- The facts of Close steps.
use Rattle.std.proofs.Common.{◌≡◌, ◌++◌, List, [], ◌∷◌, length, refl, ap, ◌∙◌}
use Rattle.std.specs.Prelude.{slice_get, Bool, true, false, if◌then◌else◌}
use Rattle.fpl_log.specs.declared.step.Step.{Step}
use Rattle.fpl_log.specs.declared.step.Step.TheVariants.{Insert, Close}
use Rattle.fpl_forms.specs.declared.term.Fact.{Fact}
use Rattle.fpl_check.specs.Steps.{is_close}
use Rattle.fpl_prove.specs.Learning.{close_facts}

pub no_closes : (steps : List Step) → close_facts steps [] ≡ []
no_closes [] = refl
no_closes (s ∷ ss) = refl

pub closes_next : (steps : List Step) (fs : List Fact) (f : Fact) →
    close_facts steps (fs ++ f ∷ []) ≡ (if is_close (slice_get steps (length fs)) then close_facts steps fs ++ f ∷ [] else close_facts steps fs)
closes_next [] fs f = refl
closes_next ((Insert origin terms scale) ∷ ss) [] f = no_closes ss
closes_next ((Close of terms) ∷ ss) [] f = ap (λ rs. f ∷ rs) (no_closes ss)
closes_next ((Insert origin terms scale) ∷ ss) (r ∷ fs) f = closes_next ss fs f
closes_next ((Close of terms) ∷ ss) (r ∷ fs) f = ap (λ rs. r ∷ rs) (closes_next ss fs f) ∙ more (is_close (slice_get ss (length fs)))
  where
    more : (b : Bool) →
        ◌≡◌ {A = List Fact} (r ∷ (if b then close_facts ss fs ++ f ∷ [] else close_facts ss fs))
        (if b then r ∷ (close_facts ss fs ++ f ∷ []) else r ∷ close_facts ss fs)
    more true = refl
    more false = refl
