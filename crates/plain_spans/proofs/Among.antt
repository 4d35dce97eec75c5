-- Members of lists of rows to be put in.
use Rattle.std.specs.Prelude.{◌≡◌, ℕ, zero, suc, ◌<◌, ◌⊎◌, List, [], ◌∷◌, ◌++◌, length, map, get_or, Result, Ok, Err}
use mathlib.Core.Logic.{inl, inr}
use mathlib.Core.Path.{sym, refl, ap, subst}
use native.Mathlib.Omega.{arith}
use native.Mathlib.Decide.{ℕ_discrete}
use Rattle.math_linear.specs.Vector.{Vector}
use Rattle.math_linear.specs.Lists.{joined}
use Rattle.fpl_numbers.specs.declared.number.Num.{Num}
use Rattle.fpl_numbers.specs.declared.number.Kind.{Kind}
use Rattle.fpl_numbers.specs.declared.number.Unfit.{Unfit}
use Rattle.fpl_numbers.specs.Kinds.{field_of}
use Rattle.fpl_rows.specs.Meaning.{vector_in, IsRowOf}
use Rattle.fpl_rows.proofs.Fits.{ok_same, ok_not_err, first_fits}
use Rattle.plain_elimination.specs.Plain.{Elimination}
use Rattle.plain_spans.specs.Plain.{put_row, put_rows}
use Rattle.plain_spans.specs.Means.{IsFormed, AreFormed}

abbrev pub Among : {X : Type 0} → List X → X → Type 0
Among [] y = ⊥
Among (x ∷ xs) y = (x ≡ y) ⊎ Among xs y

abbrev pub Formed : Type 0
Formed = List (Result (List Num) Unfit)

pub formed_is : (kind : Kind) (rs : Formed) (v : Vector (field_of kind)) → IsFormed kind rs v → (row : List Num) × Among rs (Ok row) × (v ≡ vector_in kind row)
formed_is kind [] v h = absurd h
formed_is kind (Ok row ∷ rs) v (inl e) = (row, inl refl, e)
formed_is kind (Ok row ∷ rs) v (inr h) = (let r = formed_is kind rs v h in (r.0, inr r.1, r.2))
formed_is kind (Err u ∷ rs) v h = (let r = formed_is kind rs v h in (r.0, inr r.1, r.2))

pub is_formed : (kind : Kind) (rs : Formed) (row : List Num) → Among rs (Ok row) → IsFormed kind rs (vector_in kind row)
is_formed kind [] row h = absurd h
is_formed kind (Ok r ∷ rs) row (inl e) = inl (ap (vector_in kind) (sym (ok_same e)))
is_formed kind (Ok r ∷ rs) row (inr h) = inr (is_formed kind rs row h)
is_formed kind (Err u ∷ rs) row (inl e) = absurd (ok_not_err (sym e))
is_formed kind (Err u ∷ rs) row (inr h) = is_formed kind rs row h

pub are_formed : (kind : Kind) (n : ℕ) (rs : Formed) → ((row : List Num) → Among rs (Ok row) → IsRowOf kind n row) → AreFormed kind n rs
are_formed kind n [] h = tt
are_formed kind n (Ok r ∷ rs) h = (h r (inl refl), are_formed kind n rs (λ row a. h row (inr a)))
are_formed kind n (Err u ∷ rs) h = are_formed kind n rs (λ row a. h row (inr a))

module _ {X : Type 0} where
  pub among_left : (xs ys : List X) (y : X) → Among xs y → Among (xs ++ ys) y
  among_left [] ys y h = absurd h
  among_left (x ∷ xs) ys y (inl e) = inl e
  among_left (x ∷ xs) ys y (inr h) = inr (among_left xs ys y h)

  pub among_right : (xs ys : List X) (y : X) → Among ys y → Among (xs ++ ys) y
  among_right [] ys y h = h
  among_right (x ∷ xs) ys y h = inr (among_right xs ys y h)

  pub among_either : (xs ys : List X) (y : X) → Among (xs ++ ys) y → Among xs y ⊎ Among ys y
  among_either [] ys y h = inr h
  among_either (x ∷ xs) ys y (inl e) = inl (inl e)
  among_either (x ∷ xs) ys y (inr h) = elim (among_either xs ys y h) [ inl a ↦ inl (inr a) | inr a ↦ inr a ]

pub among_joined : {X : Type 0} (n : ℕ) (f : ℕ → List X) (y : X) → Among (joined n f) y → (i : ℕ) × (i < n) × Among (f i) y
unfolding joined
among_joined zero f y h = absurd h
among_joined (suc n) f y h =
    elim (among_either (joined n f) (f n) y h) [
      | inl a ↦ let r = among_joined n f y a in (r.0, (omega (arith, r.1)), r.2)
      | inr a ↦ (n, (omega arith), a)
    ]

pub joined_among : {X : Type 0} (n : ℕ) (f : ℕ → List X) (y : X) (i : ℕ) → i < n → Among (f i) y → Among (joined n f) y
unfolding joined
joined_among zero f y i l h = absurd (omega arith)
joined_among (suc n) f y i l h =
    elim (ℕ_discrete i n) [
      | yes e ↦ among_right (joined n f) (f n) y (subst (λ i. Among (f i) y) e h)
      | no d ↦ among_left (joined n f) (f n) y (joined_among n f y i (omega arith) h)
    ]

pub among_map : {X Y : Type 0} (f : X → Y) (xs : List X) (d : X) (y : Y) → Among (map f xs) y → (k : ℕ) × (k < length xs) × (f (get_or xs k d) ≡ y)
among_map f [] d y h = absurd h
among_map f (x ∷ xs) d y (inl e) = (0, (omega arith), e)
among_map f (x ∷ xs) d y (inr h) = (let r = among_map f xs d y h in (suc r.0, (omega (arith, r.1)), r.2))

pub map_among : {X Y : Type 0} (f : X → Y) (xs : List X) (d : X) (k : ℕ) → k < length xs → Among (map f xs) (f (get_or xs k d))
map_among f [] d k l = absurd (omega arith)
map_among f (x ∷ xs) d zero l = inl refl
map_among f (x ∷ xs) d (suc k) l = inr (map_among f xs d k (omega arith))

-- all that was put in could be formed
pub all_fit : (rs : Formed) (e f : Elimination) → put_rows rs e ≡ Ok f → (r : Result (List Num) Unfit) → Among rs r → (row : List Num) × (r ≡ Ok row)
all_fit [] e f is r h = absurd h
all_fit (Err u ∷ rs) e f is r h = absurd (ok_not_err (sym is))
all_fit (Ok row ∷ rs) e f is r (inl a) = (row, sym a)
all_fit (Ok row ∷ rs) e f is r (inr h) = (let x = first_fits (put_rows rs) (put_row (Ok row) e) f is in all_fit rs x.0 f x.1.1 r h)
