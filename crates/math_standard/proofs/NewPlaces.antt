-- Vectors at the places of new basis elements, and combinations that do not reach them.
use Rattle.std.specs.Prelude.{ℕ, zero, suc, ◌≡◌, ◌≢◌, ◌⊎◌, ◌<◌, ◌≤◌, ◌+◌, ◌-◌, length, Some, None}
use mathlib.Core.Path.{sym, refl, ap, ap₂, ◌∙◌, fun_ext, subst}
use mathlib.Core.Logic.{inl, inr}
use native.Mathlib.Omega.{arith}
use native.Mathlib.Decide.{ℕ_discrete, dec_lt}
use Rattle.math_fields.specs.Field.{Field}
use Rattle.math_linear.specs.Vector.{Vector, vzero, place}
use Rattle.math_algebra.specs.Tree.{none, multiple, Presentation}
use Rattle.math_algebra.specs.Derives.{Expression}
use Rattle.math_algebra.proofs.Freely.{DerivesFreely}
use Rattle.math_algebra.proofs.Freely.DerivesFreely.{then, in_multiple, multiple_nought}
use Rattle.math_algebra.specs.Table.{Table, IsOf, weight_at}
use Rattle.math_algebra.specs.Built.{relabel, at_slot, slot_of}
use Rattle.math_algebra.specs.Standard.{combined}
use Rattle.math_linear.specs.Span.{Spanned}
use Rattle.math_linear.proofs.Vectors.{place_same, place_other}
use Rattle.math_algebra.proofs.Derived.{of_path, both, both_same, both_none, none_both, multiple_none, combined_vzero, combined_vplus, combined_scale}
use Rattle.math_linear.proofs.Span.{by_span}
use Rattle.math_linear.proofs.Places.{Only}

-- slots
module _ (old count : ℕ) (slot : ℕ → ℕ) where
  slot_old : (k : ℕ) → k < old → slot_of old count slot k ≡ None
  slot_old k l = grind arith

  pub slot_new : (i : ℕ) → i < count → slot_of old count slot (old + i) ≡ Some (slot i)
  slot_new i l = go (old + i) refl
    where
      go : (k : ℕ) → k ≡ old + i → slot_of old count slot k ≡ Some (slot i)
      go k e = let d : k - old ≡ i = omega arith in grind arith

  slot_past : (k : ℕ) → old + count ≤ k → slot_of old count slot k ≡ None
  slot_past k l = grind arith

  pub slot_cases : (k : ℕ) → (slot_of old count slot k ≡ None) ⊎ ((i : ℕ) × (i < count) × (k ≡ old + i) × (slot_of old count slot k ≡ Some (slot i)))
  slot_cases k = go (dec_lt k old) (dec_lt k (old + count))
    where
      go : Dec (k < old) → Dec (k < old + count) →
          (slot_of old count slot k ≡ None) ⊎ ((i : ℕ) × (i < count) × (k ≡ old + i) × (slot_of old count slot k ≡ Some (slot i)))
      go (yes l) d = inl (slot_old k l)
      go (no l) (no d) = inl (slot_past k (omega arith))
      go (no l) (yes d) =
          let e : k ≡ old + (k - old) = omega arith in
          inr (k - old, omega arith, e, ap (slot_of old count slot) e ∙ slot_new (k - old) (omega arith))

-- vectors at new places
module _ (K : Field) (old count : ℕ) (slot : ℕ → ℕ) where
  pub relabel_kind : (S : ℕ → Type 0) (Q : ℕ → Type 0) → ((i : ℕ) → i < count → S (slot i) → Q (old + i)) → (v : Vector K) → Only K S v → (k : ℕ) →
      (relabel K (slot_of old count slot) v k ≡ K.nought) ⊎ ((k < old + count) × Q k)
  unfolding relabel
  relabel_kind S Q h v o k = go (slot_cases old count slot k)
    where
      go : (slot_of old count slot k ≡ None) ⊎ ((i : ℕ) × (i < count) × (k ≡ old + i) × (slot_of old count slot k ≡ Some (slot i))) →
          (at_slot K v (slot_of old count slot k) ≡ K.nought) ⊎ ((k < old + count) × Q k)
      go (inl e) = inl (ap (at_slot K v) e)
      go (inr f) = here (o (slot f.0))
        where
          here : (v (slot f.0) ≡ K.nought) ⊎ S (slot f.0) → (at_slot K v (slot_of old count slot k) ≡ K.nought) ⊎ ((k < old + count) × Q k)
          here (inl e) = inl (ap (at_slot K v) f.3 ∙ e)
          here (inr s) = inr (omega (arith, f.1, f.2), subst Q (sym f.2) (h f.0 f.1 s))

  pub relabel_place : ((i j : ℕ) → i < j → j < count → slot i < slot j) → (i : ℕ) → i < count →
      relabel K (slot_of old count slot) (place K (slot i)) ≡ place K (old + i)
  unfolding relabel
  relabel_place up i l = fun_ext (λ k. go k (slot_cases old count slot k) (ℕ_discrete (old + i) k))
    where
      differ : (j : ℕ) → j < count → i ≢ j → slot i ≢ slot j
      differ j m d e = elim (dec_lt i j) [
        | yes t ↦ (let u = up i j t m in absurd (omega (arith, u, e)))
        | no t ↦
            (let u = up j i (omega arith) l in absurd (omega (arith, u, e)))
      ]

      go : (k : ℕ) → (slot_of old count slot k ≡ None) ⊎ ((i : ℕ) × (i < count) × (k ≡ old + i) × (slot_of old count slot k ≡ Some (slot i))) →
          Dec (old + i ≡ k) →
          at_slot K (place K (slot i)) (slot_of old count slot k) ≡ place K (old + i) k
      go k c (yes e) =
          ap (λ w. at_slot K (place K (slot i)) (slot_of old count slot w)) (sym e) ∙ ap (at_slot K (place K (slot i))) (slot_new old count slot i l)
          ∙ place_same K (slot i) ∙ sym (place_same K (old + i)) ∙ ap (place K (old + i)) e
      go k (inl c) (no d) = ap (at_slot K (place K (slot i))) c ∙ sym (place_other K (old + i) k d)
      go k (inr c) (no d) =
          ap (at_slot K (place K (slot i))) c.3 ∙ place_other K (slot i) (slot c.0) (differ c.0 c.1 (λ e. d (ap (λ w. old + w) e ∙ sym c.2))) ∙
          sym (place_other K (old + i) k d)

-- combinations that differ only past what the vector reaches
module _ (K : Field) (P : Presentation K.Carrier) (tree : ℕ → Expression K) where
  pub longer : (n c : ℕ) (v : Vector K) → ((k : ℕ) → n ≤ k → v k ≡ K.nought) → DerivesFreely K P (combined K tree (n + c) v) (combined K tree n v)
  unfolding combined
  longer n zero v h = let e : n + zero ≡ n = omega arith in of_path K P _ _ (ap (λ w. combined K tree w v) e)
  longer n (suc c) v h =
      let e : n + suc c ≡ suc (n + c) = omega arith in
      then (of_path K P _ _ (ap (λ w. combined K tree w v) e))
      (then (both_same K P (longer n c v h) (then (of_path K P _ _ (ap (λ w. multiple w (tree (n + c))) (h (n + c) (omega arith))))
      (multiple_nought (tree (n + c))))) (both_none K P _))

  pub trees_same : (tree' : ℕ → Expression K) (n : ℕ) (v : Vector K) → ((k : ℕ) → k < n → tree' k ≡ tree k) → combined K tree' n v ≡ combined K tree n v
  unfolding combined
  trees_same tree' zero v h = refl
  trees_same tree' (suc n) v h = ap₂ (λ a b. both K P a (multiple (v n) b)) (trees_same tree' n v (λ k l. h k (omega arith))) (h n (omega arith))

  -- what lies in the span of what is derivably 0 is derivably 0
  pub span_derived : (m : ℕ) (Kind : Vector K → Type 0) → ((v : Vector K) → Kind v → DerivesFreely K P (combined K tree m v) none) → (v : Vector K) →
      Spanned K Kind v → DerivesFreely K P (combined K tree m v) none
  span_derived m Kind h =
      by_span K Kind (λ v. DerivesFreely K P (combined K tree m v) none) (combined_vzero K P tree m)
      (λ v w k l. then (combined_vplus K P tree m v w) (then (both_same K P k l) (none_both K P none)))
      (λ c v k. then (combined_scale K P tree m c v) (then (in_multiple c k) (multiple_none K P c)))
      h

pub of_past : (K : Field) (T : Table K) (d : ℕ) (x : Vector K) → ((i : ℕ) → i < length T.basis → weight_at T i ≤ T.weight) → T.weight < d →
    IsOf K T d x → x ≡ vzero K
unfolding vzero
of_past K T d x within m h = fun_ext (λ i. go i (h i))
  where
    go : (i : ℕ) → (x i ≡ K.nought) ⊎ ((i < length T.basis) × (weight_at T i ≡ d)) → x i ≡ K.nought
    go i (inl e) = e
    go i (inr f) = absurd (omega (arith, within i f.0, f.1))

pub of_none : (K : Field) (T : Table K) (x : Vector K) → ((i : ℕ) → i < length T.basis → 0 < weight_at T i) → IsOf K T 0 x → x ≡ vzero K
unfolding vzero
of_none K T x positive h = fun_ext (λ i. go i (h i))
  where
    go : (i : ℕ) → (x i ≡ K.nought) ⊎ ((i < length T.basis) × (weight_at T i ≡ 0)) → x i ≡ K.nought
    go i (inl e) = e
    go i (inr f) = absurd (omega (arith, positive i f.0, f.1))
