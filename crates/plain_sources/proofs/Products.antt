-- The plain bracket of two rows is the bracket of their vectors in the table.
use Rattle.std.specs.Prelude.{◌≡◌, ℕ, ◌+◌, ◌<◌, ◌≤◌, List, [], length, Ok, true, false, nat_le}
use mathlib.Core.Path.{sym, refl, ap, ◌∙◌, subst}
use native.Mathlib.Omega.{arith}
use native.Mathlib.Decide.{dec_le}
use Rattle.std.proofs.lemmas.List.Elements.{All-nil}
use Rattle.math_fields.specs.Field.{Field}
use Rattle.math_linear.specs.Vector.{Vector, vzero, vplus, scale}
use Rattle.math_linear.proofs.Vectors.{vplus-vzero, vzero-vplus, scale_scale, scale-vzero}
use Rattle.math_linear.proofs.Numbers.{minus-times, unit-times}
use Rattle.fpl_numbers.specs.declared.number.Num.{Num}
use Rattle.fpl_numbers.specs.declared.number.Op.TheVariants.{Mul}
use Rattle.fpl_numbers.specs.Numbers.{IsField, IsElement, operate, negative_of}
use Rattle.fpl_numbers.specs.Kinds.{field_of, number_of}
use Rattle.fpl_numbers.specs.Reads.{Reads}
use Rattle.fpl_numbers.proofs.KindReads.{kind_reads}
use Rattle.fpl_scalar.specs.Vectors.{axpy_of}
use Rattle.fpl_rows.proofs.Fits.{ok_same, first_fits}
use Rattle.math_algebra.specs.Table.{product, bracket}
use Rattle.math_values.proofs.Parts.{product_past}
use Rattle.fpl_rows.specs.Meaning.{vector_in}
use Rattle.fpl_table.specs.Plain.{PlainTable, entry_row, table_in, Pairing, nothing, plus, minus, pairing}
use Rattle.fpl_table.specs.Sums.{add_product}
use Rattle.fpl_table.specs.Value.{zero_row, add_entry, bracket_of}
use Rattle.plain_sources.specs.Premises.{IsFor, IsRowIn, HasRows}
use Rattle.plain_sources.proofs.Rows.{HasUnits, for_same, zero_row_reads, axpy_reads}
use Rattle.plain_sources.proofs.Units.{kind_units}
use Rattle.plain_sources.proofs.Walks.{Places, both_walks}
use Rattle.plain_sources.proofs.Pairs.{paired, weight, paired_is, IsPairOf, IsPaired, pairing_is}

pub empty_row : (T : PlainTable) → IsRowIn T []
empty_row T = record { elements = All-nil (IsElement T.kind); short = omega arith }

-- the entry of a pair within the table's weight
pub pair_row : (T : PlainTable) → HasRows T → (i j a b : ℕ) → IsPairOf T i j a b → weight T i + weight T j ≤ T.weight → IsRowIn T (entry_row T a b)
pair_row T rows i j a b p h = rows.entries a b p.first p.second p.regular (omega (arith, p.weights))

module _ (T : PlainTable) (is_field : IsField T.kind) where
  abbrev pub K : Field
  K = field_of T.kind

  abbrev pub reads : Reads T.kind K (number_of T.kind)
  reads = kind_reads T.kind is_field

  abbrev pub units : HasUnits T.kind K (number_of T.kind)
  units = kind_units T.kind is_field

  abbrev pub Stands : ℕ → Vector K → List Num → Type 0
  Stands n v row = IsFor T.kind K (number_of T.kind) n v row

  abbrev pub same : (n : ℕ) (v w : Vector K) (row : List Num) → v ≡ w → Stands n v row → Stands n w row
  same = for_same T.kind K (number_of T.kind) reads units

  -- what a product of two numbers, with a sign, is as a number of the field
  pub times_twice : (x y m : Num) (v : Vector K) → number_of T.kind m ≡ K.times (number_of T.kind x) (number_of T.kind y) →
      scale K (number_of T.kind m) v ≡ scale K (number_of T.kind y) (scale K (number_of T.kind x) v)
  times_twice x y m v e = ap (λ c. scale K c v) (e ∙ K.times_comm _ _) ∙ sym (scale_scale K _ _ v)

  pub minus_twice : (x y m : Num) (v : Vector K) → IsElement T.kind m → number_of T.kind m ≡ K.times (number_of T.kind x) (number_of T.kind y) →
      scale K (number_of T.kind (negative_of T.kind m)) v ≡ scale K (number_of T.kind y) (scale K (number_of T.kind x) (scale K (K.minus K.unit) v))
  minus_twice x y m v is e =
      ap (λ c. scale K c v) ((reads.negative m is).1 ∙ sym (ap K.minus (unit-times K _)) ∙ sym (minus-times K K.unit _) ∙ K.times_comm _ _) ∙
      sym (scale_scale K _ _ v)
      ∙ times_twice x y m (scale K (K.minus K.unit) v) e

  abbrev pub entry : ℕ → ℕ → Vector K
  entry i j = vector_in T.kind (entry_row T i j)

  pub product_within : (i j : ℕ) → weight T i + weight T j ≤ T.weight → product K (table_in T.kind T) i j ≡ paired K entry (pairing T i j)
  unfolding product
  product_within i j h = let e : nat_le (weight T i + weight T j) T.weight ≡ true = grind arith in rw e (paired_is T K entry i j)

  entry_within : (a b : ℕ) (m : Num) (v : List Num) → weight T a + weight T b ≤ T.weight → add_entry T a b m v ≡ axpy_of T.kind v m (entry_row T a b)
  entry_within a b m v h = let e : nat_le (weight T a + weight T b) T.weight ≡ true = grind arith in rw e refl

  entry_past : (a b : ℕ) (m : Num) (v : List Num) → T.weight < weight T a + weight T b → add_entry T a b m v ≡ Ok v
  entry_past a b m v h = let e : nat_le (weight T a + weight T b) T.weight ≡ false = grind arith in rw e refl

  module _ (rows : HasRows T) where
    abbrev n : ℕ
    n = length T.basis

    within_reads : (i j : ℕ) (pr : Pairing) → IsPaired T i j pr → weight T i + weight T j ≤ T.weight → (x y : Num) (v z : List Num) (w : Vector K) →
        IsElement T.kind x → IsElement T.kind y →
        Stands n w v → add_product T (add_entry T) pr x y v ≡ Ok z →
        Stands n (vplus K w (scale K (number_of T.kind y) (scale K (number_of T.kind x) (paired K entry pr)))) z
    within_reads i j nothing p h x y v z w a b k e =
        subst (Stands n _) (ok_same e) (same n w _ v
        (sym (ap (vplus K w) (ap (scale K (number_of T.kind y)) (scale-vzero K _) ∙ scale-vzero K _) ∙ vplus-vzero K w)) k)
    within_reads i j (plus c d) p h x y v z w a b k e =
        let m = first_fits (λ m. add_entry T c d m v) (operate T.kind Mul x y) z e in
        let q = reads.product x y m.0 a b m.1.0 in
        let r = pair_row T rows i j c d p h in
        same n _ _ z (ap (vplus K w) (times_twice x y m.0 (entry c d) q.1))
        (axpy_reads T.kind K (number_of T.kind) reads units n w v (entry_row T c d) z m.0 k q.0 r.elements r.short
        (sym (entry_within c d m.0 v (omega (arith, p.weights))) ∙ m.1.1))
    within_reads i j (minus c d) p h x y v z w a b k e =
        let m = first_fits (λ m. add_entry T c d (negative_of T.kind m) v) (operate T.kind Mul x y) z e in
        let q = reads.product x y m.0 a b m.1.0 in
        let r = pair_row T rows i j c d p h in
        same n _ _ z (ap (vplus K w) (minus_twice x y m.0 (entry c d) q.0 q.1))
        (axpy_reads T.kind K (number_of T.kind) reads units n w v (entry_row T c d) z (negative_of T.kind m.0) k (reads.negative m.0 q.0).0 r.elements r.short
        (sym (entry_within c d (negative_of T.kind m.0) v (omega (arith, p.weights))) ∙ m.1.1))

    past_same : (i j : ℕ) (pr : Pairing) → IsPaired T i j pr → T.weight < weight T i + weight T j → (x y : Num) (v z : List Num) →
        add_product T (add_entry T) pr x y v ≡ Ok z → v ≡ z
    past_same i j nothing p h x y v z e = ok_same e
    past_same i j (plus c d) p h x y v z e =
        let m = first_fits (λ m. add_entry T c d m v) (operate T.kind Mul x y) z e in ok_same (sym (entry_past c d m.0 v (omega (arith, p.weights))) ∙ m.1.1)
    past_same i j (minus c d) p h x y v z e =
        let m = first_fits (λ m. add_entry T c d (negative_of T.kind m) v) (operate T.kind Mul x y) z e in
        ok_same (sym (entry_past c d (negative_of T.kind m.0) v (omega (arith, p.weights))) ∙ m.1.1)

    product_reads : (i j : ℕ) (x y : Num) (v z : List Num) (w : Vector K) → i < n → j < n → IsElement T.kind x → IsElement T.kind y → Stands n w v →
        add_product T (add_entry T) (pairing T i j) x y v ≡ Ok z →
        Stands n (vplus K w (scale K (number_of T.kind y) (scale K (number_of T.kind x) (product K (table_in T.kind T) i j)))) z
    product_reads i j x y v z w l l' a b k e = go (dec_le (weight T i + weight T j) T.weight)
      where
        go : Dec (weight T i + weight T j ≤ T.weight) →
            Stands n (vplus K w (scale K (number_of T.kind y) (scale K (number_of T.kind x) (product K (table_in T.kind T) i j)))) z
        go (yes h) =
            same n _ _ z (ap (λ u. vplus K w (scale K (number_of T.kind y) (scale K (number_of T.kind x) u))) (sym (product_within i j h)))
            (within_reads i j (pairing T i j) (pairing_is T i j l l') h x y v z w a b k e)
        go (no h) =
            subst (Stands n _) (past_same i j (pairing T i j) (pairing_is T i j l l') (omega arith) x y v z e)
            (same n w _ v
            (sym
            (ap (vplus K w)
            (ap (λ u. scale K (number_of T.kind y) (scale K (number_of T.kind x) u)) (product_past K (table_in T.kind T) i j (omega arith)) ∙
            ap (scale K (number_of T.kind y)) (scale-vzero K _) ∙ scale-vzero K _)
            ∙ vplus-vzero K w))
            k)

    below : (row : List Num) → length row ≤ n → Places (λ i. i < n) 0 row
    below row l s d h e = omega arith

    -- the bracket of two rows
    pub bracket_reads : (x y z : List Num) → IsRowIn T x → IsRowIn T y → bracket_of T x y ≡ Ok z →
        Stands n (bracket K (table_in T.kind T) (vector_in T.kind x) (vector_in T.kind y)) z
    unfolding bracket
    bracket_reads x y z a b e =
        same n _ _ z (vzero-vplus K _)
        (both_walks T.kind K (number_of T.kind) reads units n n (λ i. i < n) (λ j. j < n) (λ i j x y v. add_product T (add_entry T)
        (pairing T i j) x y v) (product K (table_in T.kind T))
        (λ i j x y v z w l l' a b k e. product_reads i j x y v z w l l' a b k e) x y (zero_row n) z (vzero K) a.elements b.elements a.short b.short
        (below x a.short) (below y b.short)
        (zero_row_reads T.kind K (number_of T.kind) reads units n) e)
