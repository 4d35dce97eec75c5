-- Two tables of one presentation through one weight hold the same.
use Rattle.std.specs.Prelude.{ℕ, zero, suc, ◌≡◌, ◌⊎◌, ◌<◌, ◌≤◌, ◌+◌, List, [], ◌∷◌, ◌++◌, length, get_or, All, cond, nat_eq, nat_lt, Bool, true, false}
use mathlib.Core.Path.{sym, refl, ap, ap₂, ◌∙◌, subst}
use mathlib.Core.Logic.{inl, inr}
use native.Mathlib.Omega.{arith}
use native.Mathlib.Decide.{ℕ_discrete, dec_lt}
use Rattle.std.proofs.lemmas.List.{get_or_past}
use Rattle.fpl_numbers.specs.declared.number.Num.{Num}
use Rattle.fpl_numbers.specs.declared.number.Kind.{Kind}
use Rattle.fpl_numbers.specs.Numbers.{IsField, IsElement, residue}
use Rattle.fpl_numbers.specs.Kinds.{field_of, number_of}
use Rattle.fpl_numbers.proofs.KindReads.{kind_reads}
use Rattle.fpl_scalar.specs.Vectors.{AreElements}
use Rattle.fpl_rows.specs.Meaning.{vector_in}
use Rattle.fpl_rows.proofs.Readings.{at_place, vector_past}
use Rattle.math_algebra.specs.Tree.{Parity, even, odd, Generator, no_generator}
use Rattle.math_algebra.specs.Table.{Symbol, of_generator, of_pair, Basis, no_basis}
use Rattle.math_linear.specs.Lists.{joined}
use Rattle.math_algebra.specs.Symbols.{is_odd, symbols_of}
use Rattle.math_algebra.specs.Extending.{Agree}
use Rattle.math_theorems.proofs.StandardLaws.{one_standard}
use Rattle.fpl_model.specs.Meaning.{presentation_in}
use Rattle.fpl_table.specs.Plain.{PlainTable, plain_basis, first_partner, image_row, entry_row, table_in}
use Rattle.fpl_table.specs.Standard.{printed_tree, count_of, count_through}
use Rattle.plain_tables.specs.Holds.{TablesAreOne}
use Rattle.plain_tables.proofs.Holding.{sound_is_sound}
use Rattle.plain_tables.proofs.Shaped.{all_none}
use Rattle.fpl_table.proofs.NewNumbers.{nought_element}

all_or : {X : Type 0} (P : X → Type 0) (xs : List X) (i : ℕ) (d : X) → All P xs → P d → P (get_or xs i d)
all_or P xs i d h k = go (dec_lt i (length xs))
  where
    go : Dec (i < length xs) → P (get_or xs i d)
    go (yes l) = h i d l
    go (no l) = subst P (sym (get_or_past xs i d (omega arith))) k

pub list_same : {X : Type 0} (xs ys : List X) (d : X) → length xs ≡ length ys → ((i : ℕ) → i < length xs → get_or xs i d ≡ get_or ys i d) → xs ≡ ys
list_same [] [] d l h = refl
list_same [] (y ∷ ys) d l h = absurd (omega (arith, l))
list_same (x ∷ xs) [] d l h = absurd (omega (arith, l))
list_same (x ∷ xs) (y ∷ ys) d l h = ap₂ (λ a b. a ∷ b) (h 0 (omega arith)) (list_same xs ys d (omega (arith, l)) (λ i k. h (suc i) (omega (arith, k))))

-- rows of elements that stand for one vector have equal numbers at each place
pub numbers_same : (k : Kind) → IsField k → (xs ys : List Num) → AreElements k xs → AreElements k ys → vector_in k xs ≡ vector_in k ys → (s : ℕ) →
    get_or xs s (residue 0) ≡ get_or ys s (residue 0)
numbers_same k is xs ys a b e s =
    (kind_reads k is).apart _ _ (all_or (IsElement k) xs s (residue 0) a (nought_element k is)) (all_or (IsElement k) ys s (residue 0) b (nought_element k is))
    (sym (value xs) ∙ ap (λ v. v s) e ∙ value ys)
  where
    value : (zs : List Num) → vector_in k zs s ≡ number_of k (get_or zs s (residue 0))
    value zs = go (dec_lt s (length zs))
      where
        go : Dec (s < length zs) → vector_in k zs s ≡ number_of k (get_or zs s (residue 0))
        go (yes l) = at_place k (field_of k) (number_of k) (kind_reads k is) zs s (residue 0) l
        go (no l) =
            vector_past (field_of k) (number_of k) zs s (omega arith) ∙ sym ((kind_reads k is).zero_is (residue 0) (nought_element k is) refl) ∙
            ap (number_of k) (sym (get_or_past zs s (residue 0) (omega arith)))

image_elements : (T : PlainTable) (k : Kind) → T.kind ≡ k → All (λ rows. All (AreElements T.kind) rows) T.images → (g : ℕ) → AreElements k (image_row T g)
image_elements T k e h g =
    subst (λ k. AreElements k (image_row T g)) e
    (all_or (AreElements T.kind) _ g [] (all_or (λ rows. All (AreElements T.kind) rows) T.images _ [] h (all_none (AreElements T.kind)))
    (all_none (IsElement T.kind)))

entry_elements : (T : PlainTable) (k : Kind) → T.kind ≡ k → All (λ level. All (λ rows. All (AreElements T.kind) rows) level) T.entries → (i j : ℕ) →
    AreElements k (entry_row T i j)
entry_elements T k e h i j =
    subst (λ k. AreElements k (entry_row T i j)) e
    (all_or (AreElements T.kind) _ _ []
    (all_or (λ rows. All (AreElements T.kind) rows) _ i [] (all_or (λ level. All (λ rows. All (AreElements T.kind) rows) level) T.entries _ [] h
    (all_none (λ rows. All (AreElements T.kind) rows))) (all_none (AreElements T.kind)))
    (all_none (IsElement T.kind)))

odd_of : (s : Parity) → is_odd s ≡ true → s ≡ odd
odd_of odd e = refl
odd_of even e = grind arith

-- a partner makes a regular pair
pub regular_of : (T : PlainTable) (i j : ℕ) → first_partner T i ≤ j → (i < j) ⊎ ((i ≡ j) × ((plain_basis T i).parity ≡ odd))
regular_of T i j l = go (is_odd (plain_basis T i).parity) refl
  where
    go : (b : Bool) → is_odd (plain_basis T i).parity ≡ b → (i < j) ⊎ ((i ≡ j) × ((plain_basis T i).parity ≡ odd))
    go false e = let h : i + 1 ≤ j = subst (λ b. cond b i (i + 1) ≤ j) e l in inl (omega (arith, h))
    go true e = let h : i ≤ j = subst (λ b. cond b i (i + 1) ≤ j) e l in at (ℕ_discrete i j) h
      where
        at : Dec (i ≡ j) → i ≤ j → (i < j) ⊎ ((i ≡ j) × ((plain_basis T i).parity ≡ odd))
        at (yes d) h = inr (d, odd_of (plain_basis T i).parity e)
        at (no d) h = inl (omega (arith, d, h))

-- the symbols of a weight, by generators and basis
abbrev cells : List Generator → List Basis → ℕ → List Symbol
cells G B w =
    joined (length G) (λ g. cond (nat_eq (get_or G g no_generator).weight w) (of_generator g ∷ []) [])
    ++ joined (length B)
    (λ i. joined (length B) (λ j. cond (cond (nat_eq ((get_or B i no_basis).weight + (get_or B j no_basis).weight) w)
    (cond (nat_lt i j) true (cond (nat_eq i j) (is_odd (get_or B i no_basis).parity) false)) false) (of_pair i j ∷ []) []))

count_is : (T : PlainTable) (w : ℕ) → count_of T w ≡ length (cells T.generators T.basis w)
unfolding symbols_of
count_is T w = refl

pub count_same : (T S : PlainTable) → T.generators ≡ S.generators → T.basis ≡ S.basis → (w : ℕ) → count_through T w ≡ count_through S w
count_same T S g b zero = refl
count_same T S g b (suc w) = ap₂ (λ a c. a + c) (count_same T S g b w) (count_is T (suc w) ∙ ap₂ (λ G B. length (cells G B (suc w))) g b ∙
    sym (count_is S (suc w)))

pub tables_are_one : TablesAreOne
tables_are_one p d T S s t u = record {
  kind = t.kind ∙ sym u.kind;
  weight = t.weight ∙ sym u.weight;
  generators = t.generators ∙ sym u.generators;
  basis = basis;
  images = λ g l. numbers_same p.field s.field (image_row T g) (image_row S g) (image_elements T p.field t.kind t.images g)
      (image_elements S p.field u.kind u.images g) (agree.images g (omega (arith, l, ap length t.generators)));
  entries = λ i j l k f w.
      numbers_same p.field s.field (entry_row T i j) (entry_row S i j) (entry_elements T p.field t.kind t.entries i j)
      (entry_elements S p.field u.kind u.entries i j) (agree.entries i j l k (regular_of T i j f) w);
  counts = count_same T S (t.generators ∙ sym u.generators) basis;
}
  where
    agree : Agree (field_of p.field) (presentation_in p) (table_in p.field T) (table_in p.field S)
    agree =
        (one_standard (field_of p.field) (presentation_in p) (sound_is_sound p s) (table_in p.field T) (table_in p.field S) (printed_tree p T)
        (printed_tree p S) t.standard u.standard (t.weight ∙ sym u.weight)).0

    basis : T.basis ≡ S.basis
    basis = list_same T.basis S.basis no_basis agree.more agree.basis
