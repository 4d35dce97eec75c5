-- What the parts of a check make of its whole.
use Rattle.std.specs.Prelude.{◌≡◌, ℕ, suc, List, ◌∷◌, drop, slice_get, Some, Result, Ok}
use mathlib.Core.Path.{sym, ap, subst, ◌∙◌}
use Rattle.fpl_numbers.specs.declared.number.Unfit.{Unfit}
use Rattle.fpl_numbers.specs.declared.number.Fault.{Fault}
use Rattle.fpl_numbers.specs.declared.number.Fault.TheVariants.{NoMemory}
use Rattle.fpl_numbers.specs.declared.number.Fault.TheVariants.{Unfit as Unfits}
use Rattle.fpl_numbers.specs.Results.{and_then, IsFault}
use Rattle.fpl_log.proofs.TermsTaken.{drop_next}
use Rattle.fpl_check.specs.declared.fault.CheckFault.{CheckFault}
use Rattle.fpl_check.specs.declared.fault.CheckFault.TheVariants.{Bad, NoMemory as no_memory}
use Rattle.fpl_check.specs.declared.fault.CheckFault.TheVariants.{Unfit as unfits}
use Rattle.fpl_check.specs.Refusal.{Refusal, exactly, passing, IsRefusal}
use Rattle.fpl_check.specs.Faults.{fault_as}

-- a test that passes leaves the rest, and one that refuses decides
pub passed : {X : Type 0} (test : Result (Unit {0}) Refusal) (rest : Result X Refusal) → test ≡ Ok tt → passing test rest ≡ rest
passed test rest e = ap (λ t. passing t rest) e

pub refused : {X : Type 0} (fault : CheckFault) (test : Result (Unit {0}) Refusal) (rest : Result X Refusal) → IsRefusal fault test →
    IsRefusal fault (passing test rest)
refused (Bad spot why) test rest h = ap (λ t. passing t rest) h
refused (unfits u) test rest h = ap (λ t. passing t rest) h
refused no_memory test rest h = tt

pub first_refused : {X Y : Type 0} (fault : CheckFault) (f : Y → Result X Refusal) (r : Result Y Refusal) → IsRefusal fault r → IsRefusal fault (and_then f r)
first_refused (Bad spot why) f r h = ap (and_then f) h
first_refused (unfits u) f r h = ap (and_then f) h
first_refused no_memory f r h = tt

pub same_refusal : {X : Type 0} (fault : CheckFault) (r s : Result X Refusal) → r ≡ s → IsRefusal fault s → IsRefusal fault r
same_refusal fault r s e h = subst (IsRefusal fault) (sym e) h

-- the next element of a list
pub rest_at : {X : Type 0} (xs : List X) (j k : ℕ) (x : X) → j ≡ suc k → Some x ≡ slice_get xs k → drop k xs ≡ x ∷ drop j xs
rest_at xs j k x is e = drop_next xs k x e ∙ ap (λ i. x ∷ drop i xs) (sym is)
