-- The next table: what is so of a table is so of the one with a weight more, built by closed rows of the source rows.
use Rattle.std.specs.Prelude.{ℕ, suc, ◌≡◌, ◌⊎◌, ◌<◌, ◌≤◌, ◌+◌, ◌-◌, length, Option}
use mathlib.Core.Path.{sym, refl, ap, ap₂, ◌∙◌, subst}
use mathlib.Core.Logic.{inl, inr}
use native.Mathlib.Omega.{arith}
use native.Mathlib.Decide.{ℕ_discrete, dec_le, dec_lt}
use Rattle.math_fields.specs.Field.{Field}
use Rattle.math_linear.specs.Vector.{Vector, vzero, vplus, scale, place}
use Rattle.math_algebra.specs.Tree.{Tree, Parity, odd, parity_sum, Presentation, generator, left, right}
use Rattle.math_algebra.specs.Derives.{three, Expression}
use Rattle.math_algebra.specs.Table.{Table, of_generator, product, parity_at, bracket, val, IsIn, IsOf, HasJacobi, weight_at}
use Rattle.math_algebra.specs.SourceRows.{outer_place, row_of, IsSource}
use Rattle.math_values.proofs.Steps.{Extends, product_kept, product_filled, bracket_past, right_kept, right_filled, jacobi_next}
use Rattle.math_algebra.proofs.Homogeneous.{WeightIs, IsHomogeneous}
use Rattle.math_algebra.specs.Built.{meaning_of, slot_of, IsNext}
use Rattle.math_linear.specs.Closed.{swept}
use Rattle.math_algebra.specs.Degrees.{IsVoid, exact, weight_of_both}
use Rattle.math_algebra.specs.Symbols.{pair_number, generator_number, symbol_parity}
use Rattle.math_algebra.specs.Symbols.IsSymbol.{is_generator}
use Rattle.math_algebra.specs.SourceRows.IsSource.{of_relation, of_triple, of_cube}
use Rattle.math_linear.proofs.Vectors.{scale-nought}
use Rattle.math_linear.specs.Linear.{IsLinear}
use Rattle.math_values.proofs.Products.{bracket_places}
use Rattle.math_values.proofs.Parts.{in_vzero, product_past, void_val}
use Rattle.math_linear.proofs.Span.{apart_zero}
use Rattle.math_linear.proofs.Places.{place_stands, Only, only_vzero, only_vplus, only_scale, only_place, only_total}
use Rattle.math_values.proofs.Relations.{of_vzero, val_of, val_kept, val_filled}
use Rattle.math_values.proofs.Weights.{part_span, row_parity, meaning_linear, meaning_zero}
use Rattle.math_values.proofs.SymbolLists.{number_of}
use Rattle.math_values.proofs.Facts.{Facts}
use Rattle.math_values.proofs.SourceRows.{parity_of, outer_place_only, source_only}
use Rattle.math_standard.proofs.NewPlaces.{relabel_kind, of_past}

module _ (K : Field) (P : Presentation K.Carrier) (hom : IsHomogeneous P) (T T' : Table K) (tree : ℕ → Expression K) (facts : Facts K P T tree)
    (next : IsNext K P T T') where
  abbrev n : ℕ
  n = length T.basis

  abbrev pub slot : ℕ → Option ℕ
  slot = slot_of (length T.basis) next.count next.slot

  abbrev pub meaning : Vector K → Vector K
  meaning = meaning_of K (slot_of (length T.basis) next.count next.slot) next.number_of_rows next.row next.pivot

  pub linear : IsLinear K meaning
  linear = meaning_linear K slot next.number_of_rows next.row next.pivot

  -- the new basis
  pub split : (k : ℕ) → k < length T'.basis → (k < n) ⊎ ((i : ℕ) × (i < next.count) × (k ≡ n + i))
  split k l = go (dec_lt k n)
    where
      go : Dec (k < n) → (k < n) ⊎ ((i : ℕ) × (i < next.count) × (k ≡ n + i))
      go (yes h) = inl h
      go (no h) = inr (k - n, omega (arith, next.basis.more), omega arith)

  pub weight_old : (i : ℕ) → i < n → weight_at T' i ≡ weight_at T i
  weight_old i l = ap (λ b. b.weight) (next.basis.old i l)

  pub parity_old : (i : ℕ) → i < n → parity_at T' i ≡ parity_at T i
  parity_old i l = ap (λ b. b.parity) (next.basis.old i l)

  pub weight_new : (i : ℕ) → i < next.count → weight_at T' (n + i) ≡ suc T.weight
  weight_new i l = ap (λ b. b.weight) (next.basis.added i l)

  pub parity_new : (i : ℕ) → i < next.count → parity_at T' (n + i) ≡ parity_of K P T tree facts (next.slot i)
  parity_new i l = ap (λ b. b.parity) (next.basis.added i l)

  pub weight_fresh : (k : ℕ) → n ≤ k → k < length T'.basis → weight_at T' k ≡ suc T.weight
  weight_fresh k h l = go (split k l)
    where
      go : (k < n) ⊎ ((i : ℕ) × (i < next.count) × (k ≡ n + i)) → weight_at T' k ≡ suc T.weight
      go (inl f) = absurd (omega arith)
      go (inr f) = ap (weight_at T') f.2 ∙ weight_new f.0 f.1

  pub positive' : (k : ℕ) → k < length T'.basis → 0 < weight_at T' k
  positive' k l = go (dec_lt k n)
    where
      go : Dec (k < n) → 0 < weight_at T' k
      go (yes h) = omega (arith, weight_old k h, facts.positive k h)
      go (no h) = omega (arith, weight_fresh k (omega arith) l)

  pub within' : (k : ℕ) → k < length T'.basis → weight_at T' k ≤ T'.weight
  within' k l = go (dec_lt k n)
    where
      go : Dec (k < n) → weight_at T' k ≤ T'.weight
      go (yes h) = omega (arith, weight_old k h, facts.within k h, next.basis.weight)
      go (no h) = omega (arith, weight_fresh k (omega arith) l, next.basis.weight)

  pub step : Extends K T T' (pair_number P T) meaning
  step = record {
    weight = next.basis.weight;
    more = omega (arith, next.basis.more);
    old = next.basis.old;
    fresh = weight_fresh;
    positive = positive';
    kept = next.keeps.entries;
    filled = next.entries;
  }

  -- the closed rows lie in one parity each, and so do meanings
  pub rows_only : (i : ℕ) → i < next.number_of_rows → Only K (λ s. parity_of K P T tree facts s ≡ parity_of K P T tree facts (next.pivot i)) (next.row i)
  rows_only =
      row_parity K (parity_of K P T tree facts) next.number_of_rows next.row next.pivot next.form.closed
      (λ t i l.
      part_span K (parity_of K P T tree facts) next.number_of_rows next.row next.pivot next.form.closed t (IsSource K P T) next.form.spans.each
      (source_only K P T tree facts hom) (next.row i) (next.form.spans.from i l))

  pub swept_only : (t : Parity) (v : Vector K) → Only K (λ s. parity_of K P T tree facts s ≡ t) v →
      Only K (λ s. parity_of K P T tree facts s ≡ t) (swept K next.number_of_rows next.row next.pivot v)
  swept_only t v h = only_vplus K _ _ _ h (only_scale K _ _ _ (only_total K _ _ _ (λ i l. term i l (h (next.pivot i)))))
    where
      term : (i : ℕ) → i < next.number_of_rows → (v (next.pivot i) ≡ K.nought) ⊎ (parity_of K P T tree facts (next.pivot i) ≡ t) →
          Only K (λ s. parity_of K P T tree facts s ≡ t) (scale K (v (next.pivot i)) (next.row i))
      term i l (inl e) = subst (Only K (λ s. parity_of K P T tree facts s ≡ t)) (sym (ap (λ w. scale K w (next.row i)) e ∙ scale-nought K _)) (only_vzero K _)
      term i l (inr e) = only_scale K _ _ _ (subst (λ t. Only K (λ s. parity_of K P T tree facts s ≡ t) (next.row i)) e (rows_only i l))

  new_below : (x : Vector K) (Q : ℕ → Type 0) → ((k : ℕ) → (x k ≡ K.nought) ⊎ ((k < n + next.count) × Q k)) → (k : ℕ) →
      (x k ≡ K.nought) ⊎ ((k < length T'.basis) × Q k)
  new_below x Q h k = go (h k)
    where
      go : (x k ≡ K.nought) ⊎ ((k < n + next.count) × Q k) → (x k ≡ K.nought) ⊎ ((k < length T'.basis) × Q k)
      go (inl e) = inl e
      go (inr f) = inr (omega (arith, f.0, next.basis.more), f.1)

  pub meaning_in : (t : Parity) (v : Vector K) → Only K (λ s. parity_of K P T tree facts s ≡ t) v → IsIn K T' t (meaning v)
  unfolding meaning_of
  meaning_in t v h =
      new_below _ (λ k. parity_at T' k ≡ t)
      (relabel_kind K n next.count next.slot (λ s. parity_of K P T tree facts s ≡ t) (λ k. parity_at T' k ≡ t) (λ i l e. parity_new i l ∙ e) _
      (swept_only t v h))

  pub meaning_weight : (v : Vector K) → IsOf K T' (suc T.weight) (meaning v)
  unfolding meaning_of
  meaning_weight v =
      new_below _ (λ k. weight_at T' k ≡ suc T.weight)
      (relabel_kind K n next.count next.slot (λ s. Unit {0}) (λ k. weight_at T' k ≡ suc T.weight) (λ i l e. weight_new i l) _ (λ s. inr tt))

  pub of_lift : (d : ℕ) (x : Vector K) → IsOf K T d x → IsOf K T' d x
  of_lift d x h k = go (h k)
    where
      go : (x k ≡ K.nought) ⊎ ((k < n) × (weight_at T k ≡ d)) → (x k ≡ K.nought) ⊎ ((k < length T'.basis) × (weight_at T' k ≡ d))
      go (inl e) = inl e
      go (inr f) = inr (omega (arith, f.0, next.basis.more), weight_old k f.0 ∙ f.1)

  pub in_lift : (t : Parity) (x : Vector K) → IsIn K T t x → IsIn K T' t x
  in_lift t x h k = go (h k)
    where
      go : (x k ≡ K.nought) ⊎ ((k < n) × (parity_at T k ≡ t)) → (x k ≡ K.nought) ⊎ ((k < length T'.basis) × (parity_at T' k ≡ t))
      go (inl e) = inl e
      go (inr f) = inr (omega (arith, f.0, next.basis.more), parity_old k f.0 ∙ f.1)

  -- a product of the next table is 0, or an old one, or what its pair means
  pub product_cases : (Q : ℕ → ℕ → Vector K → Type 0) → ((i j : ℕ) → Q i j (vzero K)) →
      ((i j : ℕ) → i < n → j < n → weight_at T i + weight_at T j ≤ T.weight → Q i j (product K T i j)) →
      ((i j : ℕ) → i < n → j < n → weight_at T i + weight_at T j ≡ suc T.weight → Q i j (meaning (outer_place K T (pair_number P T) i j))) →
      (i j : ℕ) → i < length T'.basis → j < length T'.basis → Q i j (product K T' i j)
  product_cases Q start kept filled i j l k = go (dec_lt i n) (dec_lt j n)
    where
      past : T'.weight < weight_at T' i + weight_at T' j → Q i j (product K T' i j)
      past h = subst (Q i j) (sym (product_past K T' i j h)) (start i j)

      inside : i < n → j < n → Dec (weight_at T i + weight_at T j ≤ T.weight) → Dec (weight_at T i + weight_at T j ≡ suc T.weight) → Q i j (product K T' i j)
      inside p q (yes h) d = subst (Q i j) (sym (product_kept K T T' (pair_number P T) meaning linear step i j p q h)) (kept i j p q h)
      inside p q (no h) (yes d) = subst (Q i j) (sym (product_filled K T T' (pair_number P T) meaning linear step i j p q d)) (filled i j p q d)
      inside p q (no h) (no d) = past (omega (arith, weight_old i p, weight_old j q, next.basis.weight))

      go : Dec (i < n) → Dec (j < n) → Q i j (product K T' i j)
      go (yes p) (yes q) = inside p q (dec_le (weight_at T i + weight_at T j) T.weight) (ℕ_discrete (weight_at T i + weight_at T j) (suc T.weight))
      go (no p) d = past (omega (arith, weight_fresh i (omega arith) l, positive' j k, next.basis.weight))
      go (yes p) (no q) = past (omega (arith, weight_fresh j (omega arith) k, positive' i l, next.basis.weight))

  pub entry_of' : (i j : ℕ) → i < length T'.basis → j < length T'.basis → IsOf K T' (weight_at T' i + weight_at T' j) (product K T' i j)
  entry_of' =
      product_cases (λ i j x. IsOf K T' (weight_at T' i + weight_at T' j) x) (λ i j. of_vzero K T' _)
      (λ i j l k w. subst (λ d. IsOf K T' d (product K T i j)) (sym (ap₂ (λ a b. a + b) (weight_old i l) (weight_old j k)))
      (of_lift _ _ (facts.entry_of i j l k)))
      (λ i j l k w. subst (λ d. IsOf K T' d (meaning (outer_place K T (pair_number P T) i j)))
      (sym (ap₂ (λ a b. a + b) (weight_old i l) (weight_old j k) ∙ w)) (meaning_weight _))

  pub entry_in' : (i j : ℕ) → i < length T'.basis → j < length T'.basis → IsIn K T' (parity_sum (parity_at T' i) (parity_at T' j)) (product K T' i j)
  entry_in' =
      product_cases (λ i j x. IsIn K T' (parity_sum (parity_at T' i) (parity_at T' j)) x) (λ i j. in_vzero K T' _)
      (λ i j l k w. subst (λ t. IsIn K T' t (product K T i j)) (sym (ap₂ parity_sum (parity_old i l) (parity_old j k))) (in_lift _ _ (facts.entry_in i j l k)))
      (λ i j l k w.
      subst (λ t. IsIn K T' t (meaning (outer_place K T (pair_number P T) i j))) (sym (ap₂ parity_sum (parity_old i l) (parity_old j k)))
      (meaning_in _ _ (outer_place_only K P T tree facts i j l k)))

  -- an image of the next table is an old one, or what its symbol means, or 0
  pub image_cases : (Q : ℕ → Vector K → Type 0) → ((g : ℕ) → Q g (vzero K)) → ((g : ℕ) → g < length P.generators → (generator P g).weight ≤ T.weight →
      Q g (T.image g)) →
      ((g : ℕ) → g < length P.generators → (generator P g).weight ≡ suc T.weight → Q g (meaning (place K (generator_number P T g)))) → (g : ℕ) →
      g < length P.generators → Q g (T'.image g)
  image_cases Q start kept filled g l = go (dec_le (generator P g).weight T.weight) (ℕ_discrete (generator P g).weight (suc T.weight))
    where
      go : Dec ((generator P g).weight ≤ T.weight) → Dec ((generator P g).weight ≡ suc T.weight) → Q g (T'.image g)
      go (yes h) d = subst (Q g) (sym (next.keeps.images g l h)) (kept g l h)
      go (no h) (yes d) = subst (Q g) (sym (next.images g l d)) (filled g l d)
      go (no h) (no d) = subst (Q g) (sym (next.keeps.past g l (omega arith))) (start g)

  pub image_of' : (g : ℕ) → g < length P.generators → IsOf K T' (generator P g).weight (T'.image g)
  image_of' =
      image_cases (λ g x. IsOf K T' (generator P g).weight x) (λ g. of_vzero K T' _) (λ g l w. of_lift _ _ (facts.image_of g l))
      (λ g l w. subst (λ d. IsOf K T' d (meaning (place K (generator_number P T g)))) (sym w) (meaning_weight _))

  pub image_in' : (g : ℕ) → g < length P.generators → IsIn K T' (generator P g).parity (T'.image g)
  image_in' =
      image_cases (λ g x. IsIn K T' (generator P g).parity x) (λ g. in_vzero K T' _) (λ g l w. in_lift _ _ (facts.image_in g l))
      (λ g l w. meaning_in _ _ (only_place K _ _ (ap (symbol_parity P T) (number_of K P T (of_generator g) (is_generator g l w)).1)))

  -- source rows mean 0
  pub source_zero : (v : Vector K) → IsSource K P T v → meaning v ≡ vzero K
  source_zero v h = meaning_zero K slot next.number_of_rows next.row next.pivot next.form.closed v (next.form.spans.each v h)

  pub jacobis' : (i j k : ℕ) → i ≤ j → j ≤ k → k < length T'.basis → HasJacobi K T' i j k
  jacobis' =
      jacobi_next K T T' (pair_number P T) meaning linear step facts.entry_of entry_of' facts.jacobis
      (λ i j k o o' l w. source_zero _ (of_triple i j k o o' l w))

  pub cubes' : three K ≡ K.nought → (i : ℕ) → i < length T'.basis → parity_at T' i ≡ odd → bracket K T' (place K i)
      (bracket K T' (place K i) (place K i)) ≡ vzero K
  cubes' c i l o = go (dec_lt i n) (dec_le (weight_at T i + weight_at T i + weight_at T i) T.weight)
      (ℕ_discrete (weight_at T i + weight_at T i + weight_at T i) (suc T.weight))
    where
      past : T'.weight < weight_at T' i + (weight_at T' i + weight_at T' i) → bracket K T' (place K i) (bracket K T' (place K i) (place K i)) ≡ vzero K
      past h =
          bracket_past K T T' (pair_number P T) meaning linear step (weight_at T' i) (weight_at T' i + weight_at T' i) (omega (arith, h, next.basis.weight)) _ _
          (place_stands K (length T'.basis) (λ k. weight_at T' k ≡ weight_at T' i) i l refl) (rw (bracket_places K T' i i l l) (entry_of' i i l l))

      go : Dec (i < n) → Dec (weight_at T i + weight_at T i + weight_at T i ≤ T.weight) → Dec (weight_at T i + weight_at T i + weight_at T i ≡ suc T.weight) →
          bracket K T' (place K i) (bracket K T' (place K i) (place K i)) ≡ vzero K
      go (yes h) (yes d) e = right_kept K T T' (pair_number P T) meaning linear step facts.entry_of entry_of' i i i h h h (omega arith) ∙
          facts.cubes c i h (sym (parity_old i h) ∙ o)
      go (yes h) (no d) (yes e) =
          right_filled K T T' (pair_number P T) meaning linear step facts.entry_of entry_of' i i i h h h (facts.positive i h) (omega arith)
          ∙ source_zero _ (of_cube i c h (sym (parity_old i h) ∙ o) e)
      go (yes h) (no d) (no e) = past (omega (arith, weight_old i h, next.basis.weight))
      go (no h) d e = past (omega (arith, weight_fresh i (omega arith) l, next.basis.weight))

  pub relations' : (k : ℕ) → k < length P.relations → val K T' (left P k) ≡ val K T' (right P k)
  relations' k l = go (dec_le w.0 T.weight) (ℕ_discrete w.0 (suc T.weight))
    where
      w : (d : ℕ) × WeightIs P (left P k) d × WeightIs P (right P k) d
      w = hom.weights k l

      kept : {e : Tree K.Carrier} → WeightIs P e w.0 → w.0 ≤ T.weight → val K T' e ≡ val K T e
      kept h d = val_kept K P T T' (pair_number P T) meaning linear step (generator_number P T) facts.image_of facts.entry_of next.keeps.images next.images h d

      filled : {e : Tree K.Carrier} → WeightIs P e w.0 → w.0 ≡ suc T.weight → val K T' e ≡ meaning (row_of K T (pair_number P T) (generator_number P T) e)
      filled h d = val_filled K P T T' (pair_number P T) meaning linear step (generator_number P T) facts.image_of facts.entry_of next.keeps.images
          next.images facts.positive h d

      past : {e : Tree K.Carrier} → WeightIs P e w.0 → T'.weight < w.0 → val K T' e ≡ vzero K
      past h d = of_past K T' w.0 _ within' d (val_of K T' P image_of' entry_of' h)

      go : Dec (w.0 ≤ T.weight) → Dec (w.0 ≡ suc T.weight) → val K T' (left P k) ≡ val K T' (right P k)
      go (yes d) e = kept w.1 d ∙ facts.relations k l ∙ sym (kept w.2 d)
      go (no d) (yes e) =
          here (hom.is k (suc T.weight) l (subst (WeightIs P (left P k)) e w.1) (subst (WeightIs P (right P k)) e w.2))
        where
          here : (IsVoid (left P k) × IsVoid (right P k)) ⊎ (weight_of_both P (left P k) (right P k) ≡ exact (suc T.weight)) →
              val K T' (left P k) ≡ val K T' (right P k)
          here (inl v) = void_val K T' v.0 ∙ sym (void_val K T' v.1)
          here (inr r) =
              filled w.1 e
              ∙ apart_zero K _ _ (ap (vplus K _) (sym (linear.of_scale _ _)) ∙ sym (linear.of_plus _ _) ∙ source_zero _ (of_relation k l r))
              ∙ sym (filled w.2 e)
      go (no d) (no e) = past w.1 (omega (arith, next.basis.weight)) ∙ sym (past w.2 (omega (arith, next.basis.weight)))
