-- The numbers of a matrix, one after the other.
use Rattle.std.proofs.Common.{◌≡◌, ◌<◌, ◌+◌, ◌-◌, ℕ, suc, List, [], ◌∷◌, ◌++◌, length, sym, ap, ◌∙◌, subst, arith}
use Rattle.std.specs.Prelude.{Result, Ok, Err}
use Rattle.fpl_numbers.specs.Results.{and_then}
use Rattle.math_algebra.specs.Tree.{Parity}
use Rattle.fpl_matrices.specs.declared.fault.MapError.{MapError}
use Rattle.fpl_matrices.specs.MapText.{Read, read_entry, read_entries, Gives}
use Rattle.fpl_matrices.proofs.Faults.{fault_then}

module _ (bytes : List ℕ) (p m n : ℕ) (t : Parity) (before : List ℕ) (count s at : ℕ) (all : Result (Read (List ℕ)) MapError)
    (less : s < count) (here : length before ≡ s) (left : read_entries bytes p m n t before (count - s) at ≡ all) where
  entries_next : and_then (λ x. read_entries bytes p m n t (before ++ x.value ∷ []) (count - (s + 1)) x.next) (read_entry bytes p m n t s at) ≡ all
  entries_next =
      let e : count - s ≡ suc (count - (s + 1)) = omega arith in
      ap (λ j. and_then (λ x. read_entries bytes p m n t (before ++ x.value ∷ []) (count - (s + 1)) x.next) (read_entry bytes p m n t j at)) (sym here)
      ∙ ap (λ k. read_entries bytes p m n t before k at) (sym e) ∙ left

  pub entries_step : (x : Read ℕ) → read_entry bytes p m n t s at ≡ Ok x → read_entries bytes p m n t (before ++ x.value ∷ []) (count - (s + 1)) x.next ≡ all
  entries_step x e =
      sym (ap (and_then (λ x. read_entries bytes p m n t (before ++ x.value ∷ []) (count - (s + 1)) x.next)) e) ∙ entries_next

  pub entries_fault : {A B : Type 0} (f : A → Read ℕ) (g : B → Read (List ℕ)) (e : MapError) → Gives f (Err e) (read_entry bytes p m n t s at) →
      Gives g (Err e) all
  entries_fault f g e h =
      subst (Gives g (Err e)) entries_next
      (fault_then f g (λ x. read_entries bytes p m n t (before ++ x.value ∷ []) (count - (s + 1)) x.next) e (read_entry bytes p m n t s at) h)
