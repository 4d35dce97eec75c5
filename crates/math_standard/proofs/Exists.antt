-- A table of each weight can be built: the source rows are finitely many.
use Rattle.std.specs.Prelude.{ℕ, zero, suc, [], ◌≡◌, ◌⊎◌, ◌<◌, ◌≤◌, ◌+◌, length}
use mathlib.Core.Path.{sym, refl, ap, ◌∙◌, subst}
use mathlib.Core.Logic.{inl, inr}
use native.Mathlib.Omega.{arith}
use native.Mathlib.Decide.{ℕ_discrete, dec_le}
use Rattle.math_fields.specs.Field.{Field}
use Rattle.math_linear.specs.Vector.{Vector, vzero, bilinear, EndsAt}
use Rattle.math_algebra.specs.Tree.{Tree, Trees, Parity, even, odd, Presentation, left, right}
use Rattle.math_algebra.specs.Degrees.{Degree, any, exact, mixed, weight_of_both}
use Rattle.math_algebra.specs.Derives.{three, Expression}
use Rattle.math_algebra.specs.Table.{Table, parity_at, weight_at}
use Rattle.math_algebra.specs.SourceRows.{outer, jacobi_row, row_of, rows_of_all, relation_row, cube_row, IsSource}
use Rattle.math_algebra.proofs.Homogeneous.{WeightIs, WeightsAre, IsHomogeneous}
use Rattle.math_algebra.proofs.Homogeneous.WeightIs.{weight_void, weight_gen, weight_sum, weight_multiple, weight_bracket}
use Rattle.math_algebra.proofs.Homogeneous.WeightsAre.{weight_end, weight_more}
use Rattle.math_algebra.specs.Symbols.{symbols, pair_number, generator_number}
use Rattle.math_algebra.specs.Built.{Built}
use Rattle.math_algebra.specs.SourceRows.IsSource.{of_relation, of_triple, of_cube}
use Rattle.math_algebra.specs.Built.Built.{built_start, built_next}
use Rattle.math_algebra.specs.NextTable.{next_table}
use Rattle.math_linear.proofs.Places.{Only, only_vzero, only_vplus, only_scale, only_place, only_total}
use Rattle.math_values.proofs.Facts.{Facts}
use Rattle.math_values.proofs.SourceRows.{generators_numbered, outer_place_short, row_void}
use Rattle.math_standard.proofs.BuiltFacts.{built_whole}
use Rattle.math_standard.proofs.NextTables.{next_is, weight_next}
use Rattle.math_linear.proofs.Closing.{closing_same, Finite, finite_if, finite_loop, no_rows}
use Rattle.math_linear.specs.Closed.{ClosedForm}

abbrev weight_in : Degree ℕ → ℕ
weight_in any = 0
weight_in (exact d) = d
weight_in mixed = 0

abbrev IsExact : Degree ℕ → Type 0
IsExact any = ⊥
IsExact (exact d) = Unit {0}
IsExact mixed = ⊥

degree_dec : (a : Degree ℕ) (w : ℕ) → Dec (a ≡ exact w)
degree_dec any w = no (λ e. subst IsExact (sym e) tt)
degree_dec (exact d) w = elim (ℕ_discrete d w) [ yes e ↦ yes (ap exact e) | no n ↦ no (λ e. n (ap weight_in e)) ]
degree_dec mixed w = no (λ e. subst IsExact (sym e) tt)

all_dec : {A B C : Type 0} → Dec A → Dec B → Dec C → Dec (A × B × C)
all_dec (yes a) (yes b) (yes c) = yes (a, b, c)
all_dec (yes a) (yes b) (no c) = no (λ h. c h.2)
all_dec (yes a) (no b) d = no (λ h. b h.1)
all_dec (no a) d e = no (λ h. a h.0)

abbrev IsEven : Parity → Type 0
IsEven even = Unit {0}
IsEven odd = ⊥

odd_dec : (s : Parity) → Dec (s ≡ odd)
odd_dec odd = yes refl
odd_dec even = no (λ e. subst IsEven e tt)

module _ (K : Field) (P : Presentation K.Carrier) (hom : IsHomogeneous P) (T : Table K) (tree : ℕ → Expression K) (facts : Facts K P T tree) where
  abbrev m : ℕ
  m = length (symbols P T)

  abbrev n : ℕ
  n = length T.basis

  abbrev Short : Vector K → Type 0
  Short x = Only K (λ s. s < m) x

  outer_short : (x y : Vector K) → Short (outer K T (pair_number P T) x y)
  unfolding outer bilinear
  outer_short x y = only_total K _ n _ (λ i l. only_total K _ n _ (λ j k. only_scale K _ _ _ (outer_place_short K P T tree facts i j l k)))

  jacobi_short : (i j k : ℕ) → Short (jacobi_row K T (pair_number P T) i j k)
  unfolding jacobi_row
  jacobi_short i j k = only_vplus K _ _ _ (outer_short _ _) (only_scale K _ _ _ (only_vplus K _ _ _ (outer_short _ _) (only_scale K _ _ _ (outer_short _ _))))

  mutual
    unfolding row_of

    row_short : {e : Tree K.Carrier} {d : ℕ} → WeightIs P e d → d ≡ suc T.weight → Short (row_of K T (pair_number P T) (generator_number P T) e)
    row_short (weight_void d h) w = subst (Only K (λ s. s < m)) (sym (row_void K P T tree facts h)) (only_vzero K _)
    row_short (weight_gen g l) w = only_place K _ _ (generators_numbered K P T tree facts g l w).0
    row_short (weight_sum h) w = rows_short h w
    row_short (weight_multiple {c = c} h) w = only_scale K _ c _ (row_short h w)
    row_short (weight_bracket h k) w = outer_short _ _

    rows_short : {es : Trees K.Carrier} {d : ℕ} → WeightsAre P es d → d ≡ suc T.weight → Short (rows_of_all K T (pair_number P T) (generator_number P T) es)
    rows_short weight_end w = only_vzero K _
    rows_short (weight_more h k) w = only_vplus K _ _ _ (row_short h w) (rows_short k w)

  past : (x : Vector K) → Short x → EndsAt K m x
  past x h s l = go (h s)
    where
      go : (x s ≡ K.nought) ⊎ (s < m) → x s ≡ K.nought
      go (inl e) = e
      go (inr k) = absurd (omega arith)

  abbrev Relations : Vector K → Type 0
  Relations x = (k : ℕ) × (k < length P.relations) × ((weight_of_both P (left P k) (right P k) ≡ exact (suc T.weight)) × (x ≡ relation_row K P T k))

  abbrev Triple : ℕ → ℕ → ℕ → Vector K → Type 0
  Triple i j k x = ((i ≤ j) × (j ≤ k) × (weight_at T i + weight_at T j + weight_at T k ≡ suc T.weight)) × (x ≡ jacobi_row K T (pair_number P T) i j k)

  abbrev Last : ℕ → ℕ → Vector K → Type 0
  Last i j x = (k : ℕ) × (k < n) × Triple i j k x

  abbrev Second : ℕ → Vector K → Type 0
  Second i x = (j : ℕ) × (j < n) × Last i j x

  abbrev Triples : Vector K → Type 0
  Triples x = (i : ℕ) × (i < n) × Second i x

  abbrev Cubes : Vector K → Type 0
  Cubes x = (i : ℕ) × (i < n) × (((three K ≡ K.nought) × (parity_at T i ≡ odd) × (weight_at T i + weight_at T i + weight_at T i ≡ suc T.weight)) ×
      (x ≡ cube_row K P T i))

  relations_finite : Finite K m Relations
  relations_finite =
      finite_loop K m (length P.relations) (λ k x. (weight_of_both P (left P k) (right P k) ≡ exact (suc T.weight)) × (x ≡ relation_row K P T k))
      (λ k l. finite_if K m _ _ (degree_dec (weight_of_both P (left P k) (right P k)) (suc T.weight))
      (λ e. let h = hom.has k (suc T.weight) l e in past _ (only_vplus K _ _ _ (row_short h.0 refl) (only_scale K _ _ _ (row_short h.1 refl)))))

  triples_finite : Finite K m Triples
  triples_finite =
      finite_loop K m n Second
      (λ i l. finite_loop K m n (Last i)
      (λ j o. finite_loop K m n (Triple i j)
      (λ k p. finite_if K m _ _ (all_dec (dec_le i j) (dec_le j k) (ℕ_discrete _ _)) (λ h. past _ (jacobi_short i j k)))))

  cubes_finite : Finite K m Cubes
  cubes_finite =
      finite_loop K m n (λ i x. ((three K ≡ K.nought) × (parity_at T i ≡ odd) × (weight_at T i + weight_at T i + weight_at T i ≡ suc T.weight)) ×
      (x ≡ cube_row K P T i))
      (λ i l. finite_if K m _ _ (all_dec (K.same _ _) (odd_dec _) (ℕ_discrete _ _)) (λ h. past _ (outer_short _ _)))

  -- closed rows of the source rows
  pub source_closing : ClosedForm K m (IsSource K P T)
  source_closing =
      closing_same K m (λ x. ((⊥ ⊎ Relations x) ⊎ Triples x) ⊎ Cubes x) (IsSource K P T) there back
      (cubes_finite _ (triples_finite _ (relations_finite _ (no_rows K m))))
    where
      there : (x : Vector K) → ((⊥ ⊎ Relations x) ⊎ Triples x) ⊎ Cubes x → IsSource K P T x
      there x (inl (inl (inl e))) = absurd e
      there x (inl (inl (inr f))) = subst (IsSource K P T) (sym f.2.1) (of_relation f.0 f.1 f.2.0)
      there x (inl (inr f)) = let g = f.2.2.2 in subst (IsSource K P T) (sym g.1) (of_triple f.0 f.2.0 f.2.2.0 g.0.0 g.0.1 f.2.2.1 g.0.2)
      there x (inr f) = subst (IsSource K P T) (sym f.2.1) (of_cube f.0 f.2.0.0 f.1 f.2.0.1 f.2.0.2)

      back : (x : Vector K) → IsSource K P T x → ((⊥ ⊎ Relations x) ⊎ Triples x) ⊎ Cubes x
      back _ (of_relation k l e) = inl (inl (inr (k, l, (e, refl))))
      back _ (of_triple i j k o o' l w) = inl (inr (i, omega arith, (j, omega arith, (k, l, ((o, o', w), refl)))))
      back _ (of_cube i c l o w) = inr (i, l, ((c, o, w), refl))

-- the table of weight 0
abbrev pub empty_table : (K : Field) → Table K
empty_table K = record { weight = 0; basis = []; image = λ g. vzero K; entry = λ i j. vzero K }

pub built_exists : (K : Field) (P : Presentation K.Carrier) → IsHomogeneous P → (d : ℕ) → (T : Table K) × Built K P T × (T.weight ≡ d)
built_exists K P hom zero = (empty_table K, built_start (record { weight = refl; basis = refl; images = λ g l. refl }), refl)
built_exists K P hom (suc d) = more_weight (built_exists K P hom d)
  where
    more_weight : (T : Table K) × Built K P T × (T.weight ≡ d) → (T : Table K) × Built K P T × (T.weight ≡ suc d)
    more_weight r =
        let w = built_whole K P hom r.0 r.1 in
        let c = source_closing K P hom r.0 w.tree w.facts in (
          next_table K P r.0 c.n c.row c.pivot,
          built_next r.1 (next_is K P r.0 c.n c.row c.pivot c.form),
          weight_next K P r.0 c.n c.row c.pivot ∙ ap (λ a. suc a) r.2,
        )
