-- The symbols of a weight are entries of the table, and the numbers of images and entries are elements.
use Rattle.std.proofs.Common.{◌≡◌, ℕ, ◌+◌, ◌-◌, ◌<◌, ◌≤◌, List, [], ◌∷◌, Bool, true, false, cond, length, map, get_or, zero, suc, refl, sym, subst, arith, nat_eq, nat_lt}
use Rattle.std.specs.Prelude.{All}
use Rattle.std.proofs.Math.ListN.{get_or-map, length-map}
use Rattle.std.proofs.lemmas.List.Elements.{All-append, All-nil}
use Rattle.std.proofs.lemmas.List.{get_or_past}
use native.Mathlib.Decide.{dec_lt, ℕ_discrete}
use Rattle.fpl_scalar.specs.Vectors.{AreElements}
use Rattle.math_algebra.specs.Tree.{Parity, even, odd}
use Rattle.math_algebra.specs.Table.{Symbol, of_generator, of_pair}
use Rattle.math_linear.specs.Lists.{joined}
use Rattle.math_algebra.specs.Symbols.{symbols_of, is_odd}
use Rattle.fpl_table.specs.declared.symbol.Symbol as code
use Rattle.fpl_table.specs.declared.symbol.Symbol.TheVariants.{Gen, Pair}
use Rattle.fpl_table.specs.Plain.{PlainTable, plain_basis, first_partner, generator_at, image_row, entry_row, symbol_in, table_in, shell_in}
use Rattle.fpl_table.specs.Shape.{IsNumbered}
use Rattle.fpl_print.specs.TableText.{HasElements, IsEntry}

-- what holds of each element and of the default holds of what is got
all_default : {X : Type 0} (P : X → Type 0) (xs : List X) (i : ℕ) (d : X) → P d → All P xs → P (get_or xs i d)
all_default P xs i d h a = elim (dec_lt i (length xs)) [ yes l ↦ a i d l | no n ↦ subst P (sym (get_or_past xs i d (omega arith))) h ]

pub image_elements : (T : PlainTable) → HasElements T → (g : ℕ) → AreElements T.kind (image_row T g)
image_elements T h g =
    all_default (AreElements T.kind) _ g [] (All-nil _)
    (all_default (λ rows. All (AreElements T.kind) rows) T.images ((generator_at T g).weight - 1) [] (All-nil _) h.0)

pub entry_elements : (T : PlainTable) → HasElements T → (i j : ℕ) → AreElements T.kind (entry_row T i j)
entry_elements T h i j =
    all_default (AreElements T.kind) _ _ [] (All-nil _)
    (all_default (λ rows. All (AreElements T.kind) rows) _ i [] (All-nil _)
    (all_default (λ level. All (λ rows. All (AreElements T.kind) rows) level) T.entries ((plain_basis T i).weight + (plain_basis T j).weight - 1) []
    (All-nil _) h.1))

abbrev pub IsWithin : PlainTable → Symbol → Type 0
IsWithin T (of_generator g) = Unit {0}
IsWithin T (of_pair i j) = (i < length T.basis) × (j < length T.basis) × (first_partner T i ≤ j) ×
    ((plain_basis T i).weight + (plain_basis T j).weight ≤ T.weight)

all_joined : (P : Symbol → Type 0) (n : ℕ) (f : ℕ → List Symbol) → ((i : ℕ) → i < n → All P (f i)) → All P (joined n f)
unfolding joined
all_joined P zero f h = All-nil P
all_joined P (suc n) f h = All-append P (joined n f) (f n) (all_joined P n f (λ i l. h i (omega (arith, l)))) (h n (omega arith))

all_if : (P : Symbol → Type 0) (b : Bool) (x : Symbol) → (b ≡ true → P x) → All P (cond b (x ∷ []) [])
all_if P true x h = λ k d l. let first : k ≡ 0 = omega (arith, l) in rw first (h refl)
all_if P false x h = All-nil P

regular_is : (T : PlainTable) (w i j : ℕ) → cond (nat_eq ((plain_basis T i).weight + (plain_basis T j).weight) w)
    (cond (nat_lt i j) true (cond (nat_eq i j) (is_odd (plain_basis T i).parity) false)) false ≡ true →
    ((plain_basis T i).weight + (plain_basis T j).weight ≡ w) × (first_partner T i ≤ j)
regular_is T w i j e = go (ℕ_discrete ((plain_basis T i).weight + (plain_basis T j).weight) w) (dec_lt i j) (ℕ_discrete i j) (plain_basis T i).parity refl
  where
    go : Dec ((plain_basis T i).weight + (plain_basis T j).weight ≡ w) → Dec (i < j) → Dec (i ≡ j) → (s : Parity) → (plain_basis T i).parity ≡ s →
        ((plain_basis T i).weight + (plain_basis T j).weight ≡ w) × (first_partner T i ≤ j)
    go (yes a) (yes b) c even p = (a, rw p (omega (arith, b)))
    go (yes a) (yes b) c odd p = (a, rw p (omega (arith, b)))
    go (yes a) (no b) (yes c) odd p = (a, rw p (omega (arith, c)))
    go (yes a) (no b) (yes c) even p = absurd (grind arith)
    go (yes a) (no b) (no c) s p = absurd (grind arith)
    go (no a) b c s p = absurd (grind arith)

-- each symbol of a weight through the table's is within it
pub symbols_within : (T : PlainTable) (w : ℕ) → w ≤ T.weight → All (IsWithin T) (symbols_of (shell_in T.kind T) (table_in T.kind T) w)
unfolding symbols_of
symbols_within T w h =
    All-append (IsWithin T) _ _
    (all_joined (IsWithin T) (length T.generators) _ (λ g l. all_if (IsWithin T) _ (of_generator g) (λ e. tt)))
    (all_joined (IsWithin T) (length T.basis) _
    (λ i l. all_joined (IsWithin T) (length T.basis) _
    (λ j m. all_if (IsWithin T) _ (of_pair i j) (λ e. let r = regular_is T w i j e in (l, m, r.1, omega (arith, r.0, h))))))

entry_of : (T : PlainTable) (x : code.Symbol) → IsNumbered x → IsWithin T (symbol_in x) → IsEntry T x
entry_of T (Gen g) n h = tt
entry_of T (Pair i j) n h = (n.0, omega (arith, h.0, n.0), n.1, omega (arith, h.1, n.1), h.2, h.3)

pub listed_entries : (T : PlainTable) (w : ℕ) (xs : List code.Symbol) → w ≤ T.weight → map symbol_in xs ≡
    symbols_of (shell_in T.kind T) (table_in T.kind T) w → All IsNumbered xs → All (IsEntry T) xs
listed_entries T w xs h e n =
    let all : All (IsWithin T) (map symbol_in xs) = rw e (symbols_within T w h) in
    λ k d l.
    let there : k < length (map symbol_in xs) = rw length-map l in
    let here : IsWithin T (symbol_in (get_or xs k d)) = subst (IsWithin T) (get_or-map symbol_in xs k d) (all k (symbol_in d) there) in
    entry_of T (get_or xs k d) (n k d l) here
