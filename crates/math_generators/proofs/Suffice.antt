-- The generators suffice.
use Rattle.std.specs.Prelude.{ℕ, suc, ◌≡◌, ◌<◌, ◌↔◌, length}
use mathlib.Core.Path.{sym, refl, ap, ap₂, ◌∙◌, subst}
use Rattle.math_fields.specs.Field.{Field}
use Rattle.math_linear.specs.Vector.{Vector, vzero, vplus, scale, place}
use Rattle.math_linear.specs.Span.{Spanned, InSpan, IsRowOf}
use Rattle.math_linear.specs.Span.Spanned.{span_kind, span_none, span_sum, span_multiple}
use Rattle.math_algebra.specs.Tree.{Presentation}
use Rattle.math_algebra.specs.Table.{Table, Symbol, of_generator, of_pair, basis_at, product, bracket, ObeysLaw}
use Rattle.math_linear.proofs.Vectors.{vplus-vzero, scale-vzero}
use Rattle.math_linear.proofs.Linear.{linear_combination}
use Rattle.math_linear.proofs.Places.{by_places}
use Rattle.math_linear.proofs.Span.{in_span, by_span, spanned_through, spanned_total, span_vzero, span_vplus, span_scale, span_space}
use Rattle.math_values.proofs.Facts.{of_short}
use Rattle.math_values.proofs.Products.{bracket_linear_right, bracket_places, vzero-bracket, vplus-bracket, scale-bracket}
use Rattle.math_linear.specs.Linear.{IsSpace}
use Rattle.math_subspaces.specs.Subspaces.Least.{least_kind, least_none, least_map}
use Rattle.math_subspaces.proofs.LeastSpaces.{least_space, within}
use Rattle.math_structure.specs.Structure.{IsVectorOf, IsBracketWith, term, InIdeal}
use Rattle.math_structure.specs.Laws.{IsClosedUnder, StaysWithin}
use Rattle.math_structure.proofs.Centre.{vector_stands, place_vector}
use Rattle.math_structure.proofs.Series.{terms_fall}
use Rattle.math_structure.proofs.Rounds.{closed_by_places, places_closed, ideal_space}
use Rattle.math_generators.specs.Generated.{if_generator, generator_bracket, IsGenerator, IsGenerated, IsGeneratorBracket, IsGeneratorUnit, InGeneratedIdeal}
use Rattle.math_generators.specs.Laws.{CentreByGenerators, TermByGenerators, TermByGeneratorRows, ClosedByGenerators, IdealByGenerators}
use Rattle.math_generators.proofs.Jacobi.{pair_left, jacobi_right, by_generators}

module _ (K : Field) (P : Presentation K.Carrier) (T : Table K) (law : ObeysLaw K P T) (generated : IsGenerated K T) where
  -- the centre
  central : (z : Vector K) → IsVectorOf K T z → ((i : ℕ) → i < length T.basis → IsGenerator T i → bracket K T z (place K i) ≡ vzero K) →
      (i : ℕ) → i < length T.basis → bracket K T z (place K i) ≡ vzero K
  central z h start = by_generators K T generated (λ i. bracket K T z (place K i) ≡ vzero K) start pair
    where
      none : (y x : Vector K) → y ≡ vzero K → bracket K T y x ≡ vzero K
      none y x e = ap (λ w. bracket K T w x) e ∙ vzero-bracket K T x

      pair : (i j k : ℕ) → j < length T.basis → k < length T.basis → product K T j k ≡ place K i → bracket K T z (place K j) ≡ vzero K →
          bracket K T z (place K k) ≡ vzero K → bracket K T z (place K i) ≡ vzero K
      pair i j k l m e p q =
          ap (bracket K T z) (sym e ∙ sym (bracket_places K T j k l m)) ∙ jacobi_right K P T law j k l m z h
          ∙ ap₂ (vplus K) (none _ _ p) (ap (scale K _) (none _ _ q) ∙ scale-vzero K _) ∙ vplus-vzero K (vzero K)

  -- a space that is closed under bracket with the generators
  pub each_under : (Q : Vector K → Type 0) → IsSpace K Q →
      ((i : ℕ) (v : Vector K) → i < length T.basis → IsGenerator T i → Q v → Q (bracket K T (place K i) v)) →
      (i : ℕ) → i < length T.basis → (v : Vector K) → Q v → Q (bracket K T (place K i) v)
  each_under Q space start =
      by_generators K T generated (λ i. (v : Vector K) → Q v → Q (bracket K T (place K i) v)) (λ i l g v q. start i v l g q)
      (λ i j k l m e p r v q. subst Q (sym (pair_left K P T law i j k l m e v)) (space.holds_sum _ _ (p _ (r v q)) (space.holds_multiple _ _ (r _ (p v q)))))

  pub closed_under : (Q : Vector K → Type 0) → IsSpace K Q →
      ((i : ℕ) (v : Vector K) → i < length T.basis → IsGenerator T i → Q v → Q (bracket K T (place K i) v)) →
      (x v : Vector K) → IsVectorOf K T x → Q v → Q (bracket K T x v)
  closed_under Q space start x v h q = closed_by_places K T Q space v (λ i l. each_under Q space start i l v q) x h

  pub stays : StaysWithin K T
  stays i j l m = of_short K T _ _ (law.entry_of i j l m)

  -- the terms
  module _ (k : ℕ) where
    abbrev Next : Vector K → Type 0
    Next = Spanned K (IsGeneratorBracket K T (term K T k))

    falls : (i : ℕ) → i < length T.basis → (y : Vector K) → term K T k y → term K T k (bracket K T (place K i) y)
    falls i l y h = terms_fall K T stays k _ (span_kind _ (record { first = place K i; second = y; of_first = place_vector K T i l; of_second = h; is = refl }))

    at_place : (i : ℕ) → i < length T.basis → (y : Vector K) → term K T k y → Next (bracket K T (place K i) y)
    at_place =
        by_generators K T generated (λ i. (y : Vector K) → term K T k y → Next (bracket K T (place K i) y))
        (λ i l g y h. span_kind _ (record { left = i; right = y; of_table = l; of_generator = g; of_kind = h; is = refl }))
        (λ i j m a b e p q y h. subst Next (sym (pair_left K P T law i j m a b e y))
        (span_sum _ _ (p _ (falls m b y h)) (span_multiple _ _ (q _ (falls j a y h)))))

    of_bracket : (x y : Vector K) → IsVectorOf K T x → term K T k y → Next (bracket K T x y)
    of_bracket x y h t =
        by_places K (length T.basis) (λ i. Unit {0}) (λ x. Next (bracket K T x y)) (subst Next (sym (vzero-bracket K T y)) span_none)
        (λ a b p r. subst Next (sym (vplus-bracket K T a b y)) (span_sum _ _ p r)) (λ c a p. subst Next (sym (scale-bracket K T c a y)) (span_multiple c _ p))
        (λ i l u. at_place i l y t) x (vector_stands K T x h)

    term_next : (v : Vector K) → Spanned K (IsGeneratorBracket K T (term K T k)) v ↔ term K T (suc k) v
    term_next v = (
      spanned_through K (IsGeneratorBracket K T (term K T k)) (IsBracketWith K T (term K T k))
          (λ u p. span_kind u (record {
            first = place K p.left;
            second = p.right;
            of_first = place_vector K T p.left p.of_table;
            of_second = p.of_kind;
            is = p.is;
          })) v,
      spanned_through K (IsBracketWith K T (term K T k)) (IsGeneratorBracket K T (term K T k))
          (λ u p. subst Next (sym p.is) (of_bracket p.first p.second p.of_first p.of_second)) v,
    )

  -- the bracket of a generator with what rows span
  of_rows : (n : ℕ) (row : ℕ → Vector K) (i : ℕ) → i < length T.basis → IsGenerator T i → (y : Vector K) → InSpan K n row y →
      Spanned K (IsGeneratorUnit K T n row) (bracket K T (place K i) y)
  of_rows n row i l g y h =
      subst (Spanned K (IsGeneratorUnit K T n row))
      (sym (ap (bracket K T (place K i)) h.1 ∙ linear_combination K (bracket K T (place K i)) (bracket_linear_right K T (place K i)) n row h.0))
      (spanned_total K (IsGeneratorUnit K T n row) n _ (λ j m. span_multiple (h.0 j) _ (span_kind _ (i, j, l, g, m, refl))))

  term_rows : (k n : ℕ) (row : ℕ → Vector K) → ((v : Vector K) → InSpan K n row v ↔ term K T k v) → (v : Vector K) →
      Spanned K (IsGeneratorUnit K T n row) v ↔ term K T (suc k) v
  term_rows k n row same v = (
    (λ h. (term_next k v).0
        (spanned_through K (IsGeneratorUnit K T n row) (IsGeneratorBracket K T (term K T k))
        (λ u p. span_kind u (record {
          left = p.0;
          right = row p.1;
          of_table = p.2;
          of_generator = p.3;
          of_kind = (same (row p.1)).0 (in_span K n row p.1 p.4);
          is = p.5;
        })) v h)),
    (λ h. spanned_through K (IsGeneratorBracket K T (term K T k)) (IsGeneratorUnit K T n row)
        (λ u p. subst (Spanned K (IsGeneratorUnit K T n row)) (sym p.is)
        (of_rows n row p.left p.of_table p.of_generator p.right ((same p.right).1 p.of_kind))) v ((term_next k v).1 h)),
  )

  -- ideals
  closed_rows : (n : ℕ) (row : ℕ → Vector K) → ((v : Vector K) → IsGeneratorUnit K T n row v → InSpan K n row v) → IsClosedUnder K T n row
  closed_rows n row h =
      closed_under (InSpan K n row) (span_space K n row)
      (λ i v l g q. by_span K (IsGeneratorUnit K T n row) (InSpan K n row) (span_vzero K n row) (span_vplus K n row) (span_scale K n row) h _
      (of_rows n row i l g v q))

  module _ (S : Vector K → Type 0) where
    abbrev Ideal : Vector K → Type 0
    Ideal = InIdeal K T S

    abbrev Generated : Vector K → Type 0
    Generated = InGeneratedIdeal K T S

    if_in : (x : Symbol) (v : Vector K) → Ideal v → Ideal (if_generator K x v)
    if_in (of_generator g) v h = h
    if_in (of_pair j k) v h = least_none

    pub to_ideal : (v : Vector K) → InGeneratedIdeal K T S v → InIdeal K T S v
    to_ideal =
        within K (generator_bracket K T) S Ideal (ideal_space K T S) (λ v h. least_kind v h) (λ i v h. if_in (basis_at T i).symbol _ (least_map i v h))

    pub generated_space : IsSpace K (InGeneratedIdeal K T S)
    generated_space = least_space K (generator_bracket K T) S

    pub by_generator : (i : ℕ) (v : Vector K) → IsGenerator T i → InGeneratedIdeal K T S v → InGeneratedIdeal K T S (bracket K T (place K i) v)
    by_generator i v g h = subst (λ x. Generated (if_generator K x (bracket K T (place K i) v))) g.1 (least_map i v h)

    pub generated_closed : (x v : Vector K) → IsVectorOf K T x → InGeneratedIdeal K T S v → InGeneratedIdeal K T S (bracket K T x v)
    generated_closed = closed_under Generated generated_space (λ i v l g q. by_generator i v g q)

    pub from_ideal : (v : Vector K) → InIdeal K T S v → InGeneratedIdeal K T S v
    from_ideal =
        within K (λ i. bracket K T (place K i)) S Generated generated_space (λ v h. least_kind v h)
        (λ i v h. places_closed K T Generated generated_space v (λ i l. generated_closed (place K i) v (place_vector K T i l) h) i)

module _ (K : Field) where
  pub centre_by_generators : CentreByGenerators K
  centre_by_generators P T law generated z h start = record { vector = h; commutes = central K P T law generated z h start }

  pub term_by_generators : TermByGenerators K
  term_by_generators P T law generated k v = term_next K P T law generated k v

  pub term_by_generator_rows : TermByGeneratorRows K
  term_by_generator_rows P T law generated k n row same v = term_rows K P T law generated k n row same v

  pub closed_by_generators : ClosedByGenerators K
  closed_by_generators P T law generated n row h = closed_rows K P T law generated n row h

  pub ideal_by_generators : IdealByGenerators K
  ideal_by_generators P T law generated m start v = (to_ideal K P T law generated (IsRowOf K m start) v, from_ideal K P T law generated (IsRowOf K m start) v)
