-- Source rows: each lies in one parity, and its symbols are those of the next weight.
use Rattle.std.specs.Prelude.{ℕ, suc, ◌≡◌, ◌≢◌, ◌⊎◌, ◌<◌, ◌+◌, length}
use mathlib.Core.Path.{sym, refl, ap, ap₂, ◌∙◌, subst}
use mathlib.Core.Logic.{inl, inr}
use native.Mathlib.Omega.{arith}
use native.Mathlib.Decide.{ℕ_discrete, dec_lt}
use Rattle.math_fields.specs.Field.{Field}
use Rattle.math_linear.specs.Vector.{Vector, vzero, vplus, scale, place, bilinear}
use Rattle.math_algebra.specs.Tree.{Tree, Trees, gen, bracket_of, Parity, even, odd, parity_sum, Presentation, generator}
use Rattle.math_algebra.specs.Degrees.{IsVoid, AreVoid, HasParity, HaveParity}
use Rattle.math_algebra.specs.Degrees.HasParity.{parity_void, parity_gen, parity_all, parity_multiple, parity_bracket}
use Rattle.math_algebra.specs.Degrees.HaveParity.{parity_more}
use Rattle.math_algebra.specs.Degrees.IsVoid.{void_none, void_sum, void_multiple, void_left, void_right}
use Rattle.math_algebra.specs.Degrees.AreVoid.{void_end, void_more}
use Rattle.math_algebra.specs.Derives.{Expression}
use Rattle.math_algebra.specs.Table.{Table, of_generator, of_pair, signed, with_itself, parity_at, bracket, val, IsIn, weight_at}
use Rattle.math_algebra.specs.SourceRows.{outer_place, outer, jacobi_row, row_of, rows_of_all, cube_row, IsSource}
use Rattle.math_algebra.proofs.Homogeneous.{WeightIs, WeightsAre, IsHomogeneous}
use Rattle.math_algebra.proofs.Homogeneous.WeightIs.{weight_void, weight_gen, weight_sum, weight_multiple, weight_bracket}
use Rattle.math_algebra.proofs.Homogeneous.WeightsAre.{weight_end, weight_more}
use Rattle.math_algebra.specs.Symbols.{symbols, symbol_at, pair_number, generator_number, symbol_parity, symbol_tree}
use Rattle.math_algebra.specs.Symbols.IsSymbol.{is_generator, is_pair}
use Rattle.math_algebra.specs.SourceRows.IsSource.{of_relation, of_triple, of_cube}
use Rattle.math_linear.proofs.Vectors.{vplus-vzero, scale-vzero}
use Rattle.math_linear.proofs.Linear.{linear_vzero, bilinear_left, bilinear_right, bilinear_places}
use Rattle.math_values.proofs.Parts.{void_val, in_place, in_bracket}
use Rattle.math_values.proofs.Sound.{val_in}
use Rattle.math_linear.proofs.Places.{by_places, Only, only_vzero, only_vplus, only_scale, only_place}
use Rattle.math_values.proofs.Steps.{signed_below, signed_above, signed_itself, outer_within}
use Rattle.math_values.proofs.SymbolLists.{number_of}
use Rattle.math_values.proofs.Facts.{Facts, graded, obeys}

-- what is closed under sums and multiples and holds of a form at its places holds of the form
pub bilinear_kind : (K : Field) (n : ℕ) (form : ℕ → ℕ → Vector K) (S R : ℕ → Type 0) (Q : Vector K → Type 0) →
    Q (vzero K) → ((x y : Vector K) → Q x → Q y → Q (vplus K x y)) → ((c : K.Carrier) (x : Vector K) → Q x → Q (scale K c x)) →
    ((i j : ℕ) → i < n → j < n → S i → R j → Q (form i j)) → (x y : Vector K) →
    ((i : ℕ) → (x i ≡ K.nought) ⊎ ((i < n) × S i)) → ((i : ℕ) → (y i ≡ K.nought) ⊎ ((i < n) × R i)) → Q (bilinear K n form x y)
bilinear_kind K n form S R Q start plus times there x y h k =
    by_places K n S (λ x. Q (bilinear K n form x y))
    (subst Q (sym (linear_vzero K _ (bilinear_left K n form y))) start)
    (λ u v p q. subst Q (sym ((bilinear_left K n form y).of_plus u v)) (plus _ _ p q))
    (λ c u p. subst Q (sym ((bilinear_left K n form y).of_scale c u)) (times c _ p))
    (λ i l d.
    by_places K n R (λ y. Q (bilinear K n form (place K i) y))
    (subst Q (sym (linear_vzero K _ (bilinear_right K n form (place K i)))) start)
    (λ u v p q. subst Q (sym ((bilinear_right K n form (place K i)).of_plus u v)) (plus _ _ p q))
    (λ c u p. subst Q (sym ((bilinear_right K n form (place K i)).of_scale c u)) (times c _ p))
    (λ j m e. subst Q (sym (bilinear_places K n form i j l m)) (there i j l m d e)) y k) x h

parity_comm : (s t : Parity) → parity_sum s t ≡ parity_sum t s
parity_comm even even = refl
parity_comm even odd = refl
parity_comm odd even = refl
parity_comm odd odd = refl

parity_assoc : (s t u : Parity) → parity_sum (parity_sum s t) u ≡ parity_sum s (parity_sum t u)
parity_assoc even t u = refl
parity_assoc odd even u = refl
parity_assoc odd odd even = refl
parity_assoc odd odd odd = refl

parity_left_comm : (s t u : Parity) → parity_sum t (parity_sum s u) ≡ parity_sum s (parity_sum t u)
parity_left_comm s t u = sym (parity_assoc t s u) ∙ ap (λ w. parity_sum w u) (parity_comm t s) ∙ parity_assoc s t u

outer_past : (K : Field) (T : Table K) (number : ℕ → ℕ → ℕ) (i j : ℕ) → weight_at T i + weight_at T j ≢ suc T.weight → outer_place K T number i j ≡ vzero K
unfolding outer_place
outer_past K T number i j h = grind arith

-- what a pair's vector over the symbols stands on
outer_kind : (K : Field) (T : Table K) (number : ℕ → ℕ → ℕ) (S : ℕ → Type 0) (i j : ℕ) →
    (weight_at T i + weight_at T j ≡ suc T.weight → i < j → S (number i j)) → (weight_at T j + weight_at T i ≡ suc T.weight → j < i → S (number j i)) →
    (i ≡ j → weight_at T i + weight_at T i ≡ suc T.weight → parity_at T i ≡ odd → S (number i i)) → Only K S (outer_place K T number i j)
outer_kind K T number S i j a b c = go (ℕ_discrete (weight_at T i + weight_at T j) (suc T.weight))
  where
    itself : i ≡ j → (s : Parity) → parity_at T i ≡ s → weight_at T i + weight_at T i ≡ suc T.weight → Only K S (with_itself K s (place K (number i i)))
    itself a even e w = only_vzero K S
    itself a odd e w = only_place K S (number i i) (c a w e)

    by_order : weight_at T i + weight_at T j ≡ suc T.weight → Dec (i < j) → Dec (j < i) → Only K S (signed K (parity_at T) (λ i j. place K (number i j)) i j)
    by_order w (yes l) d = subst (Only K S) (sym (signed_below K (parity_at T) (λ i j. place K (number i j)) i j l)) (only_place K S (number i j) (a w l))
    by_order w (no l) (yes d) =
        subst (Only K S) (sym (signed_above K (parity_at T) (λ i j. place K (number i j)) i j d))
        (only_scale K S _ _ (only_place K S (number j i) (b (omega arith) d)))
    by_order w (no l) (no d) =
        let e : i ≡ j = omega arith in
        subst (λ j. Only K S (signed K (parity_at T) (λ i j. place K (number i j)) i j)) e
        (subst (Only K S) (sym (signed_itself K (parity_at T) (λ i j. place K (number i j)) i))
        (itself e (parity_at T i) refl (subst (λ u. weight_at T i + weight_at T u ≡ suc T.weight) (sym e) w)))

    go : Dec (weight_at T i + weight_at T j ≡ suc T.weight) → Only K S (outer_place K T number i j)
    go (yes w) = subst (Only K S) (sym (outer_within K T number i j w)) (by_order w (dec_lt i j) (dec_lt j i))
    go (no w) = subst (Only K S) (sym (outer_past K T number i j w)) (only_vzero K S)

module _ (K : Field) (P : Presentation K.Carrier) (T : Table K) (tree : ℕ → Expression K) (facts : Facts K P T tree) where
  abbrev pub symbol : ℕ → Expression K
  symbol s = symbol_tree tree (symbol_at P T s)

  abbrev pub parity_of : ℕ → Parity
  parity_of s = symbol_parity P T (symbol_at P T s)

  pub numbered : (i j : ℕ) → i < length T.basis → j < length T.basis → weight_at T i + weight_at T j ≡ suc T.weight →
      (i < j) ⊎ ((i ≡ j) × (parity_at T i ≡ odd)) →
      (pair_number P T i j < length (symbols P T)) × (symbol (pair_number P T i j) ≡ bracket_of (tree i) (tree j))
  numbered i j l k w r = let h = number_of K P T (of_pair i j) (is_pair i j l k w r) in (h.0, ap (symbol_tree tree) h.1)

  pub generators_numbered : (g : ℕ) → g < length P.generators → (generator P g).weight ≡ suc T.weight →
      (generator_number P T g < length (symbols P T)) × (symbol (generator_number P T g) ≡ gen g)
  generators_numbered g l w = let h = number_of K P T (of_generator g) (is_generator g l w) in (h.0, ap (symbol_tree tree) h.1)

  pub pair_parity : (i j : ℕ) → i < length T.basis → j < length T.basis → weight_at T i + weight_at T j ≡ suc T.weight →
      (i < j) ⊎ ((i ≡ j) × (parity_at T i ≡ odd)) →
      parity_of (pair_number P T i j) ≡ parity_sum (parity_at T i) (parity_at T j)
  pair_parity i j l k w r = let h = number_of K P T (of_pair i j) (is_pair i j l k w r) in ap (symbol_parity P T) h.1

  pub outer_place_short : (i j : ℕ) → i < length T.basis → j < length T.basis → Only K (λ s. s < length (symbols P T)) (outer_place K T (pair_number P T) i j)
  outer_place_short i j l k =
      outer_kind K T (pair_number P T) (λ s. s < length (symbols P T)) i j
      (λ w h. (numbered i j l k w (inl h)).0) (λ w h. (numbered j i k l w (inl h)).0) (λ e w h. (numbered i i l l w (inr (refl, h))).0)

  pub outer_place_only : (i j : ℕ) → i < length T.basis → j < length T.basis → Only K (λ s. parity_of s ≡ parity_sum (parity_at T i) (parity_at T j))
      (outer_place K T (pair_number P T) i j)
  outer_place_only i j l k =
      outer_kind K T (pair_number P T) (λ s. parity_of s ≡ parity_sum (parity_at T i) (parity_at T j)) i j
      (λ w h. pair_parity i j l k w (inl h)) (λ w h. pair_parity j i k l w (inl h) ∙ parity_comm (parity_at T j) (parity_at T i))
      (λ e w h. pair_parity i i l l w (inr (refl, h)) ∙ ap (λ u. parity_sum (parity_at T i) (parity_at T u)) e)

  pub outer_only : (s t : Parity) (x y : Vector K) → IsIn K T s x → IsIn K T t y → Only K (λ u. parity_of u ≡ parity_sum s t) (outer K T (pair_number P T) x y)
  unfolding outer
  outer_only s t =
      bilinear_kind K (length T.basis) (outer_place K T (pair_number P T)) (λ i. parity_at T i ≡ s) (λ i. parity_at T i ≡ t)
      (Only K (λ u. parity_of u ≡ parity_sum s t))
      (only_vzero K _) (only_vplus K _) (only_scale K _)
      (λ i j l k d e. subst (λ w. Only K (λ u. parity_of u ≡ w) (outer_place K T (pair_number P T) i j)) (ap₂ parity_sum d e) (outer_place_only i j l k))

  at : (i : ℕ) → i < length T.basis → IsIn K T (parity_at T i) (place K i)
  at i l = in_place K T i (parity_at T i) l refl

  jacobi_only : (i j k : ℕ) → i < length T.basis → j < length T.basis → k < length T.basis →
      Only K (λ s. parity_of s ≡ parity_sum (parity_at T i) (parity_sum (parity_at T j) (parity_at T k))) (jacobi_row K T (pair_number P T) i j k)
  unfolding jacobi_row
  jacobi_only i j k p q r =
      only_vplus K _ _ _ (outer_only _ _ _ _ (at i p) (inner j k q r))
      (only_scale K _ _ _
      (only_vplus K _ _ _ (turn (parity_assoc (parity_at T i) (parity_at T j) (parity_at T k)) (outer_only _ _ _ _ (inner i j p q) (at k r)))
      (only_scale K _ _ _ (turn (parity_left_comm (parity_at T i) (parity_at T j) (parity_at T k)) (outer_only _ _ _ _ (at j q) (inner i k p r))))))
    where
      inner : (i j : ℕ) → i < length T.basis → j < length T.basis → IsIn K T (parity_sum (parity_at T i) (parity_at T j)) (bracket K T (place K i) (place K j))
      inner i j l m = in_bracket K T (graded K P T tree facts) _ _ _ _ (at i l) (at j m)

      turn : {s t : Parity} {x : Vector K} → s ≡ t → Only K (λ u. parity_of u ≡ s) x → Only K (λ u. parity_of u ≡ t) x
      turn {s} {t} {x} e h = subst (λ w. Only K (λ u. parity_of u ≡ w) x) e h

  cube_only : (i : ℕ) → i < length T.basis → parity_at T i ≡ odd → Only K (λ s. parity_of s ≡ odd) (cube_row K P T i)
  cube_only i l e = outer_only odd even (place K i) _ (in_place K T i odd l e) (in_bracket K T (graded K P T tree facts) odd odd _ _
      (in_place K T i odd l e) (in_place K T i odd l e))

  pub outer_vzero : (x : Vector K) → outer K T (pair_number P T) x (vzero K) ≡ vzero K
  unfolding outer
  outer_vzero x = linear_vzero K _ (bilinear_right K (length T.basis) (outer_place K T (pair_number P T)) x)

  pub vzero_outer : (x : Vector K) → outer K T (pair_number P T) (vzero K) x ≡ vzero K
  unfolding outer
  vzero_outer x = linear_vzero K _ (bilinear_left K (length T.basis) (outer_place K T (pair_number P T)) x)

  mutual
    unfolding row_of

    pub row_void : {e : Tree K.Carrier} → IsVoid e → row_of K T (pair_number P T) (generator_number P T) e ≡ vzero K
    row_void void_none = refl
    row_void (void_sum h) = rows_void h
    row_void (void_multiple {c = c} h) = ap (scale K c) (row_void h) ∙ scale-vzero K c
    row_void (void_left {e = e} {f = f} h) = ap (λ w. outer K T (pair_number P T) w (val K T f)) (void_val K T h) ∙ vzero_outer _
    row_void (void_right {e = e} {f = f} h) = ap (outer K T (pair_number P T) (val K T e)) (void_val K T h) ∙ outer_vzero _

    pub rows_void : {es : Trees K.Carrier} → AreVoid es → rows_of_all K T (pair_number P T) (generator_number P T) es ≡ vzero K
    rows_void void_end = refl
    rows_void (void_more {es = es} h k) = ap₂ (vplus K) (row_void h) (rows_void k) ∙ vplus-vzero K _

  void_only : {e : Tree K.Carrier} (s : Parity) → IsVoid e → Only K (λ u. parity_of u ≡ s) (row_of K T (pair_number P T) (generator_number P T) e)
  void_only s h = subst (Only K (λ u. parity_of u ≡ s)) (sym (row_void h)) (only_vzero K _)

  -- an expression of the next weight with a parity has a row of that parity
  mutual
    unfolding row_of

    pub row_only : {e : Tree K.Carrier} {d : ℕ} {s : Parity} → WeightIs P e d → d ≡ suc T.weight → HasParity P e s →
        Only K (λ u. parity_of u ≡ s) (row_of K T (pair_number P T) (generator_number P T) e)
    row_only (weight_void d h) w k = void_only _ h
    row_only (weight_gen g l) w (parity_void s h) = void_only s h
    row_only (weight_gen g l) w (parity_gen _ m) = only_place K _ _ (ap (symbol_parity P T) (number_of K P T (of_generator g) (is_generator g l w)).1)
    row_only (weight_sum h) w (parity_void s v) = void_only s v
    row_only (weight_sum h) w (parity_all k) = rows_only h w k
    row_only (weight_multiple h) w (parity_void s v) = void_only s v
    row_only (weight_multiple {c = c} h) w (parity_multiple k) = only_scale K _ c _ (row_only h w k)
    row_only (weight_bracket h k) w (parity_void s v) = void_only s v
    row_only (weight_bracket h k) w (parity_bracket p q) = outer_only _ _ _ _ (val_in K P T (obeys K P T tree facts) p)
        (val_in K P T (obeys K P T tree facts) q)

    pub rows_only : {es : Trees K.Carrier} {d : ℕ} {s : Parity} → WeightsAre P es d → d ≡ suc T.weight → HaveParity P es s →
        Only K (λ u. parity_of u ≡ s) (rows_of_all K T (pair_number P T) (generator_number P T) es)
    rows_only weight_end w k = only_vzero K _
    rows_only (weight_more h k) w (parity_more p q) = only_vplus K _ _ _ (row_only h w p) (rows_only k w q)

  -- each source row lies in one parity
  pub source_only : IsHomogeneous P → (v : Vector K) → IsSource K P T v → (t : Parity) × Only K (λ s. parity_of s ≡ t) v
  source_only hom _ (of_relation k l e) =
      let p = hom.parities k l in
      let w = hom.has k (suc T.weight) l e in (p.0, only_vplus K _ _ _ (row_only w.0 refl p.1) (only_scale K _ _ _ (row_only w.1 refl p.2)))
  source_only hom _ (of_triple i j k o o' l w) = (_, jacobi_only i j k (omega arith) (omega arith) l)
  source_only hom _ (of_cube i e l o w) = (odd, cube_only i l o)
