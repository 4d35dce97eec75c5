-- The next table is sound: the values of its trees, and what its images and entries are derivably equal to.
use Rattle.std.specs.Prelude.{ℕ, zero, suc, ◌≡◌, ◌≢◌, ◌⊎◌, ◌<◌, ◌≤◌, ◌+◌, ◌-◌, length}
use mathlib.Core.Path.{sym, refl, ap, ap₂, ◌∙◌, subst}
use mathlib.Core.Logic.{inl, inr}
use native.Mathlib.Omega.{arith}
use native.Mathlib.Decide.{dec_le, dec_lt}
use Rattle.math_fields.specs.Field.{Field}
use Rattle.math_linear.specs.Vector.{Vector, vplus, scale, place, total, EndsAt}
use Rattle.math_algebra.specs.Tree.{Tree, gen, none, bracket_of, Presentation, generator}
use Rattle.math_algebra.specs.Degrees.{HasParity}
use Rattle.math_algebra.proofs.Freely.{DerivesFreely}
use Rattle.math_algebra.specs.Derives.{Expression}
use Rattle.math_algebra.proofs.Freely.DerivesFreely.{back, then, in_multiple, relation, cube}
use Rattle.math_algebra.specs.Table.{Table, Symbol, with_itself, signed, product, parity_at, bracket, val, weight_at, IsRegular}
use Rattle.math_algebra.specs.SourceRows.{outer_place, row_of, IsSource}
use Rattle.math_values.proofs.Steps.{Extends, signed_below, signed_itself, outer_within, product_kept, product_filled}
use Rattle.math_algebra.proofs.Homogeneous.{WeightIs, IsHomogeneous}
use Rattle.math_algebra.specs.Built.{relabel, meaning_of, slot_of, IsNext}
use Rattle.math_algebra.specs.Standard.{combined}
use Rattle.math_algebra.specs.Symbols.{symbols, symbol_at, place_of, pair_number, generator_number, symbol_tree, IsSymbol}
use Rattle.math_algebra.specs.Symbols.IsSymbol.{is_generator, is_pair}
use Rattle.math_algebra.specs.SourceRows.IsSource.{of_relation, of_triple, of_cube}
use Rattle.math_linear.proofs.Vectors.{from_places}
use Rattle.math_linear.specs.Linear.{IsLinear}
use Rattle.math_linear.proofs.Linear.{linear_vzero, linear_total}
use Rattle.math_values.proofs.Products.{bracket_places}
use Rattle.math_algebra.proofs.Derived.{of_path, both_same, combined_vzero, combined_vplus, combined_scale, combined_place}
use Rattle.math_standard.proofs.Sweeps.{swept_free}
use Rattle.math_linear.proofs.Places.{by_places, Only}
use Rattle.math_values.proofs.Relations.{val_of, val_kept}
use Rattle.math_values.proofs.Sources.{less_none, pair_derived, outer_derived, right_derived, jacobi_derived}
use Rattle.math_values.proofs.RelationRows.{row_derived}
use Rattle.math_values.proofs.Weights.{symbol_sound}
use Rattle.math_values.proofs.SymbolLists.{place_symbol, place_number}
use Rattle.math_values.proofs.Facts.{Facts, below, of_short, val_combined}
use Rattle.math_values.proofs.SourceRows.{numbered, generators_numbered, outer_place_short, outer_vzero, vzero_outer, row_void}
use Rattle.math_standard.proofs.NewPlaces.{relabel_place, longer, trees_same, span_derived, of_none}
use Rattle.math_standard.proofs.Next.{meaning, linear, split, weight_old, weight_fresh, positive', within', step, entry_of', entry_in', image_of', image_in', jacobis', cubes', relations'}
use Rattle.math_standard.proofs.NextTrees.{tree_old, tree_new, tree_over', tree_parity', tree_weight'}
use Rattle.math_standard.proofs.NextTrees.{tree_next as new_tree}

module _ (K : Field) (P : Presentation K.Carrier) (hom : IsHomogeneous P) (T T' : Table K) (tree : ℕ → Expression K) (facts : Facts K P T tree)
    (next : IsNext K P T T') where
  abbrev m : ℕ
  m = length (symbols P T)

  abbrev n : ℕ
  n = length T.basis

  abbrev means : Vector K → Vector K
  means = meaning K P hom T T' tree facts next

  abbrev linear' : IsLinear K means
  linear' = linear K P hom T T' tree facts next

  abbrev step' : Extends K T T' (pair_number P T) means
  step' = step K P hom T T' tree facts next

  abbrev symbol' : ℕ → Expression K
  symbol' s = symbol_tree tree (symbol_at P T s)

  abbrev tree_next : ℕ → Expression K
  tree_next = new_tree K P hom T T' tree facts next

  -- values of symbols
  tree_val_old : (i : ℕ) → i < n → val K T' (tree i) ≡ place K i
  tree_val_old i l =
      val_kept K P T T' (pair_number P T) means linear' step' (generator_number P T) facts.image_of facts.entry_of next.keeps.images next.images
      (facts.tree_weight i l) (facts.within i l)
      ∙ facts.tree_val i l

  pub outer_regular : (i j : ℕ) → weight_at T i + weight_at T j ≡ suc T.weight → IsRegular T i j →
      outer_place K T (pair_number P T) i j ≡ place K (pair_number P T i j)
  outer_regular i j w (inl l) = outer_within K T (pair_number P T) i j w ∙ signed_below K (parity_at T) (λ i j. place K (pair_number P T i j)) i j l
  outer_regular i j w (inr r) =
      outer_within K T (pair_number P T) i j w
      ∙ subst (λ j. signed K (parity_at T) (λ i j. place K (pair_number P T i j)) i j ≡ place K (pair_number P T i j)) r.0
      (signed_itself K (parity_at T) (λ i j. place K (pair_number P T i j)) i ∙ ap (λ s. with_itself K s (place K (pair_number P T i i))) r.1)

  value_of_symbol : (x : Symbol) → IsSymbol P T x → val K T' (symbol_tree tree x) ≡ means (place K (place_of x (symbols P T)))
  unfolding val
  value_of_symbol _ (is_generator g l w) = next.images g l w
  value_of_symbol _ (is_pair i j l k w r) =
      ap₂ (bracket K T') (tree_val_old i l) (tree_val_old j k) ∙ bracket_places K T' i j (omega (arith, next.basis.more)) (omega (arith, next.basis.more))
      ∙ product_filled K T T' (pair_number P T) means linear' step' i j l k w ∙ ap means (outer_regular i j w r)

  pub value_symbol : (s : ℕ) → s < m → val K T' (symbol' s) ≡ means (place K s)
  value_symbol s l = value_of_symbol (symbol_at P T s) (place_symbol K P T s l) ∙ ap (λ w. means (place K w)) (place_number K P T s l)

  below_m : (u : Vector K) (k : ℕ) → k ≤ m → total K k (λ s. scale K (u s) (val K T' (symbol' s))) ≡ total K k (λ s. means (scale K (u s) (place K s)))
  unfolding total
  below_m u zero l = refl
  below_m u (suc k) l = ap₂ (vplus K) (below_m u k (omega arith)) (ap (scale K (u k)) (value_symbol k (omega arith)) ∙ sym (linear'.of_scale (u k) (place K k)))

  -- the value of a combination of symbols is what it means
  pub value_is : (u : Vector K) → EndsAt K m u → val K T' (combined K symbol' m u) ≡ means u
  value_is u h =
      val_combined K T' symbol' m u ∙ below_m u m (omega arith)
      ∙ sym (linear_total K means linear' m (λ s. scale K (u s) (place K s))) ∙ ap means (sym (from_places K m u h))

  -- a symbol that is no pivot means its place in the new basis
  pub means_slot : (i : ℕ) → i < next.count → means (place K (next.slot i)) ≡ place K (n + i)
  unfolding meaning_of
  means_slot i l =
      ap (relabel K (slot_of n next.count next.slot)) (swept_free K next.number_of_rows next.row next.pivot (next.slot i) (next.free.there i l).1)
      ∙ relabel_place K n next.count next.slot next.free.ascend i l

  tree_val' : (k : ℕ) → k < length T'.basis → val K T' (tree_next k) ≡ place K k
  tree_val' k l = go (split K P hom T T' tree facts next k l)
    where
      go : (k < n) ⊎ ((i : ℕ) × (i < next.count) × (k ≡ n + i)) → val K T' (tree_next k) ≡ place K k
      go (inl h) = ap (val K T') (tree_old K P hom T T' tree facts next k h) ∙ tree_val_old k h
      go (inr f) =
          ap (λ k. val K T' (tree_next k)) f.2 ∙ ap (val K T') (tree_new K P hom T T' tree facts next f.0) ∙
          value_symbol (next.slot f.0) (next.free.there f.0 f.1).0 ∙
          means_slot f.0 f.1 ∙ ap (place K) (sym f.2)

  -- source rows are derivably 0
  pub source_none : (v : Vector K) → IsSource K P T v → DerivesFreely K P (combined K symbol' m v) none
  source_none _ (of_relation k l e) =
      let w = hom.has k (suc T.weight) l e in
      then (combined_vplus K P symbol' m _ _)
      (then (both_same K P (back (rowed w.0)) (then (combined_scale K P symbol' m _ _) (in_multiple _
      (then (back (rowed w.1)) (back (relation k l)))))) (less_none K P _))
    where
      rowed : {e : Tree K.Carrier} → WeightIs P e (suc T.weight) →
          DerivesFreely K P e (combined K symbol' m (row_of K T (pair_number P T) (generator_number P T) e))
      rowed h =
          row_derived K P T tree symbol' m (pair_number P T) (generator_number P T)
          (λ e d h. val_of K T P facts.image_of facts.entry_of h) (λ x h. of_none K T x facts.positive h)
          (outer_vzero K P T tree facts) (vzero_outer K P T tree facts) (λ e h. row_void K P T tree facts h)
          (below K P T tree facts)
          (outer_derived K P T tree symbol' m (pair_number P T) K.two≢nought facts.tree_parity (numbered K P T tree facts))
          (generators_numbered K P T tree facts) h refl
  source_none _ (of_triple i j k o o' l w) =
      jacobi_derived K P T tree symbol' m (pair_number P T) K.two≢nought facts.tree_parity (numbered K P T tree facts)
      (λ i j l k w. then (facts.entries i j l k w) (of_path K P _ _ (ap (combined K tree n) (sym (bracket_places K T i j l k)))))
      (λ i j l k. rw (bracket_places K T i j l k) (facts.entry_of i j l k)) facts.positive i j k (omega arith) (omega arith) l w
  source_none _ (of_cube i c l o w) =
      then (back (right_derived K P T tree symbol' m (pair_number P T) K.two≢nought facts.tree_parity (numbered K P T tree facts)
      (λ i j l k w. then (facts.entries i j l k w) (of_path K P _ _ (ap (combined K tree n) (sym (bracket_places K T i j l k)))))
      (λ i j l k. rw (bracket_places K T i j l k) (facts.entry_of i j l k)) facts.positive i i i l l l (omega arith)))
      (cube (tree i) c (subst (HasParity P (tree i)) o (facts.tree_parity i l)))

  pub row_none : (i : ℕ) → i < next.number_of_rows → DerivesFreely K P (combined K symbol' m (next.row i)) none
  row_none i l = span_derived K P symbol' m (IsSource K P T) source_none (next.row i) (next.form.spans.from i l)

  pub free_place : (s : ℕ) → s < m → ((i : ℕ) → i < next.number_of_rows → next.pivot i ≢ s) →
      (k : ℕ) × (k < length T'.basis) × (relabel K (slot_of n next.count next.slot) (place K s) ≡ place K k) × (tree_next k ≡ symbol' s)
  free_place s l h =
      let f = next.free.all s l h in (
        n + f.0,
        omega (arith, f.1, next.basis.more),
        subst (λ s. relabel K (slot_of n next.count next.slot) (place K s) ≡ place K (n + f.0)) f.2
            (relabel_place K n next.count next.slot next.free.ascend f.0 f.1),
        (tree_new K P hom T T' tree facts next) f.0 ∙ ap symbol' f.2,
      )

  -- a symbol is derivably equal to the combination that it means
  pub symbol_means : (s : ℕ) → s < m → DerivesFreely K P (symbol' s) (combined K tree_next (length T'.basis) (means (place K s)))
  symbol_means =
      symbol_sound K P symbol' m tree_next (length T'.basis) next.number_of_rows next.row next.pivot next.form.closed
      (slot_of n next.count next.slot) row_none next.form.ends free_place

  pub combination_means : (u : Vector K) → Only K (λ s. s < m) u → DerivesFreely K P (combined K symbol' m u) (combined K tree_next (length T'.basis) (means u))
  combination_means u h =
      by_places K m (λ s. Unit {0}) (λ u. DerivesFreely K P (combined K symbol' m u) (combined K tree_next (length T'.basis) (means u)))
      (then (combined_vzero K P symbol' m) (back (then (of_path K P _ _ (ap comb (linear_vzero K means linear'))) (combined_vzero K P tree_next _))))
      (λ u v p q.
      then (combined_vplus K P symbol' m u v)
      (then (both_same K P p q) (back (then (of_path K P _ _ (ap comb (linear'.of_plus u v))) (combined_vplus K P tree_next _ _ _)))))
      (λ c u p.
      then (combined_scale K P symbol' m c u) (then (in_multiple c p)
      (back (then (of_path K P _ _ (ap comb (linear'.of_scale c u))) (combined_scale K P tree_next _ c _)))))
      (λ s l t. then (combined_place K P symbol' m s l) (symbol_means s l)) u (λ s. turn s (h s))
    where
      comb : Vector K → Expression K
      comb = combined K tree_next (length T'.basis)

      turn : (s : ℕ) → (u s ≡ K.nought) ⊎ (s < m) → (u s ≡ K.nought) ⊎ ((s < m) × Unit {0})
      turn s (inl e) = inl e
      turn s (inr l) = inr (l, tt)

  -- an old combination is the same over the new trees
  old_combined : (v : Vector K) → ((k : ℕ) → n ≤ k → v k ≡ K.nought) → DerivesFreely K P (combined K tree n v) (combined K tree_next (length T'.basis) v)
  old_combined v h =
      back
      (then (of_path K P _ _ (ap (λ w. combined K tree_next w v) next.basis.more))
      (then (longer K P tree_next n next.count v h) (of_path K P _ _ (trees_same K P tree tree_next n v (tree_old K P hom T T' tree facts next)))))

  images' : (g : ℕ) → g < length P.generators → (generator P g).weight ≤ T'.weight → DerivesFreely K P (gen g)
      (combined K tree_next (length T'.basis) (T'.image g))
  images' g l w = go (dec_le (generator P g).weight T.weight)
    where
      go : Dec ((generator P g).weight ≤ T.weight) → DerivesFreely K P (gen g) (combined K tree_next (length T'.basis) (T'.image g))
      go (yes h) =
          then (facts.images g l h) (then (old_combined _ (of_short K T _ _ (facts.image_of g l)))
          (of_path K P _ _ (ap (combined K tree_next (length T'.basis)) (sym (next.keeps.images g l h)))))
      go (no h) =
          let e : (generator P g).weight ≡ suc T.weight = omega (arith, w, next.basis.weight) in
          let f = generators_numbered K P T tree facts g l e in
          then (of_path K P _ _ (sym f.1)) (then (symbol_means (generator_number P T g) f.0)
          (of_path K P _ _ (ap (combined K tree_next (length T'.basis)) (sym (next.images g l e)))))

  entries' : (i j : ℕ) → i < length T'.basis → j < length T'.basis → weight_at T' i + weight_at T' j ≤ T'.weight →
      DerivesFreely K P (bracket_of (tree_next i) (tree_next j)) (combined K tree_next (length T'.basis) (product K T' i j))
  entries' i j l k w = go (dec_lt i n) (dec_lt j n)
    where
      inside : i < n → j < n → Dec (weight_at T i + weight_at T j ≤ T.weight) → DerivesFreely K P (bracket_of (tree i) (tree j))
          (combined K tree_next (length T'.basis) (product K T' i j))
      inside p q (yes h) =
          then (facts.entries i j p q h)
          (then (old_combined _ (of_short K T _ _ (facts.entry_of i j p q))) (of_path K P _ _
          (ap (combined K tree_next (length T'.basis)) (sym (product_kept K T T' (pair_number P T) means linear' step' i j p q h)))))
      inside p q (no h) =
          let e : weight_at T i + weight_at T j ≡ suc T.weight = omega (
            arith,
            w,
            weight_old K P hom T T' tree facts next i p,
            weight_old K P hom T T' tree facts next j q,
            next.basis.weight,
          ) in
          then (pair_derived K P T tree symbol' m (pair_number P T) K.two≢nought facts.tree_parity (numbered K P T tree facts) i j p q e)
          (then (combination_means _ (outer_place_short K P T tree facts i j p q))
          (of_path K P _ _ (ap (combined K tree_next (length T'.basis)) (sym (product_filled K T T' (pair_number P T) means linear' step' i j p q e)))))

      go : Dec (i < n) → Dec (j < n) → DerivesFreely K P (bracket_of (tree_next i) (tree_next j)) (combined K tree_next (length T'.basis) (product K T' i j))
      go (yes p) (yes q) = then (of_path K P _ _ (ap₂ bracket_of (tree_old K P hom T T' tree facts next i p) (tree_old K P hom T T' tree facts next j q)))
          (inside p q (dec_le (weight_at T i + weight_at T j) T.weight))
      go (no p) d = absurd (omega (
        arith,
        w,
        weight_fresh K P hom T T' tree facts next i (omega arith) l,
        positive' K P hom T T' tree facts next j k,
        next.basis.weight,
      ))
      go (yes p) (no q) = absurd (omega (
        arith,
        w,
        weight_fresh K P hom T T' tree facts next j (omega arith) k,
        positive' K P hom T T' tree facts next i l,
        next.basis.weight,
      ))

  pub facts_next : Facts K P T' tree_next
  facts_next = record {
    positive = positive' K P hom T T' tree facts next;
    within = within' K P hom T T' tree facts next;
    image_of = image_of' K P hom T T' tree facts next;
    image_in = image_in' K P hom T T' tree facts next;
    entry_of = entry_of' K P hom T T' tree facts next;
    entry_in = entry_in' K P hom T T' tree facts next;
    jacobis = jacobis' K P hom T T' tree facts next;
    cubes = cubes' K P hom T T' tree facts next;
    relations = relations' K P hom T T' tree facts next;
    tree_over = tree_over' K P hom T T' tree facts next;
    tree_parity = tree_parity' K P hom T T' tree facts next;
    tree_weight = tree_weight' K P hom T T' tree facts next;
    tree_val = tree_val';
    images = images';
    entries = entries';
  }
