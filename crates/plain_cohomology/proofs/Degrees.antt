-- The rows of brackets and of coboundaries stand for the coboundaries of the forms that are 1 at one basis element. What H1 gives represents it.
use Rattle.std.specs.Prelude.{◌≡◌, ℕ, zero, suc, ◌<◌, ◌≤◌, ◌↔◌, List, [], ◌∷◌, length, get_or, map, Result, Ok}
use mathlib.Core.Path.{sym, refl, ap, ap₂, ◌∙◌, fun_ext, subst}
use native.Mathlib.Omega.{arith}
use native.Mathlib.Decide.{ℕ_discrete, dec_lt}
use Rattle.std.proofs.lemmas.List.{length-map}
use Rattle.math_fields.specs.Field.{Field}
use Rattle.math_linear.specs.Vector.{Vector, place}
use Rattle.math_linear.specs.Span.{InSpan, IsRowOf as IsOneOf}
use Rattle.math_linear.specs.Span.Spanned.{span_kind}
use Rattle.math_linear.proofs.Span.{spanned_more, rows_span, kind_span_iff}
use Rattle.math_linear.proofs.Kernel.{same_solutions}
use Rattle.math_linear.proofs.Vectors.{place_same, place_other}
use Rattle.math_algebra.specs.Tree.{Presentation as Abstract}
use Rattle.math_algebra.specs.Table.{Symbol, of_pair, product, ObeysLaw}
use Rattle.fpl_numbers.specs.declared.number.Num.{Num}
use Rattle.fpl_numbers.specs.declared.number.Kind.{Kind}
use Rattle.fpl_numbers.specs.declared.number.Unfit.{Unfit}
use Rattle.fpl_numbers.specs.Numbers.{IsField, IsElement, residue}
use Rattle.fpl_numbers.specs.Kinds.{field_of, number_of}
use Rattle.fpl_numbers.proofs.KindReads.{kind_reads}
use Rattle.fpl_scalar.specs.Vectors.{AreElements}
use Rattle.fpl_rows.specs.Meaning.{vector_in, row_in, pivot_in, IsRowOf, AreRows, IsClosedList, InSpanOf}
use Rattle.fpl_rows.proofs.Fits.{ok_same}
use Rattle.fpl_rows.proofs.Readings.{vector_past, at_place}
use Rattle.fpl_table.specs.Plain.{PlainTable, table_in, entry_row}
use Rattle.plain_spans.specs.Means.{IsFormed, AreFormed}
use Rattle.plain_spans.proofs.Among.{formed_is, is_formed, are_formed, among_map, map_among}
use Rattle.plain_spans.proofs.Gathered.{span_means}
use Rattle.plain_spans.proofs.Kernels.{kernel_means}
use Rattle.plain_sources.specs.Premises.{HasRows, HasWeights}
use Rattle.plain_sources.proofs.Pairs.{weight}
use Rattle.plain_sources.proofs.Products.{units}
use Rattle.math_cohomology.specs.Forms.{RepresentsH1}
use Rattle.math_cohomology.specs.Tuples.{Singles, one_of, cocycle_row1, IsCocycleRow1, coboundary_row as coboundary_vector}
use Rattle.math_cohomology.proofs.Linear.{coboundary1_same, coboundary1_place, coboundary1_none}
use Rattle.math_cohomology.proofs.Vectors.{one_on, one_off, row2_at, row2_past}
use Rattle.math_cohomology.proofs.DegreeOne.{low_represents1}
use Rattle.plain_cohomology.specs.Plain.{singles, pairs, single_place, entry_of, bracket_row, coboundary_row, h1_of, coboundaries_of}
use Rattle.plain_cohomology.specs.Means.{form1}
use Rattle.plain_cohomology.proofs.Tuples.{left, right, single_at, singles_numbered, pair_at, pair_place, pairs_numbered, IsPair, at_pair}
use Rattle.plain_cohomology.proofs.Triples.{entry_is}

-- the vector of a list of numbers
get_map : {X : Type 0} (g : X → Num) (xs : List X) (d : X) (e : Num) (s : ℕ) → s < length xs → get_or (map g xs) s e ≡ g (get_or xs s d)
get_map g [] d e s l = absurd (omega arith)
get_map g (x ∷ xs) d e zero l = refl
get_map g (x ∷ xs) d e (suc s) l = get_map g xs d e s (omega arith)

module _ (kind : Kind) (listed : IsField kind) {X : Type 0} (g : X → Num) (xs : List X) (d : X) where
  map_vector : (s : ℕ) → s < length xs → vector_in kind (map g xs) s ≡ number_of kind (g (get_or xs s d))
  map_vector s l =
      at_place kind (field_of kind) (number_of kind) (kind_reads kind listed) (map g xs) s (residue 0) (let e = length-map xs g in omega arith)
      ∙ ap (number_of kind) (get_map g xs d (residue 0) s l)

  map_past : (s : ℕ) → length xs ≤ s → vector_in kind (map g xs) s ≡ (field_of kind).nought
  map_past s l = vector_past (field_of kind) (number_of kind) (map g xs) s (let e = length-map xs g in omega arith)

  map_row : ((s : ℕ) → s < length xs → IsElement kind (g (get_or xs s d))) → IsRowOf kind (length xs) (map g xs)
  map_row h = record {
    elements = λ s e l.
        subst (IsElement kind) (sym (get_map g xs d e s (let k = length-map xs g in omega arith))) (h s (let k = length-map xs g in omega arith));
    length_is = length-map xs g;
  }

-- the number at a place of a row that may end before it
past_row : (row : List Num) (e : ℕ) → length row ≤ e → get_or row e (residue 0) ≡ residue 0
past_row [] e l = refl
past_row (x ∷ xs) zero l = absurd (omega arith)
past_row (x ∷ xs) (suc e) l = past_row xs e (omega arith)

-- the numbers at places of rows
module _ (T : PlainTable) (listed : IsField T.kind) where
  number_is : (row : List Num) (e : ℕ) → number_of T.kind (get_or row e (residue 0)) ≡ vector_in T.kind row e
  number_is row e = go (dec_lt e (length row))
    where
      go : Dec (e < length row) → number_of T.kind (get_or row e (residue 0)) ≡ vector_in T.kind row e
      go (yes l) = sym (at_place T.kind (field_of T.kind) (number_of T.kind) (kind_reads T.kind listed) row e (residue 0) l)
      go (no l) =
          ap (number_of T.kind) (past_row row e (omega arith)) ∙ (kind_reads T.kind listed).zero_is (residue 0) (units T listed).nought refl
          ∙ sym (vector_past (field_of T.kind) (number_of T.kind) row e (omega arith))

  number_element : (row : List Num) (e : ℕ) → AreElements T.kind row → IsElement T.kind (get_or row e (residue 0))
  number_element row e are = go (dec_lt e (length row))
    where
      go : Dec (e < length row) → IsElement T.kind (get_or row e (residue 0))
      go (yes l) = are e (residue 0) l
      go (no l) = subst (IsElement T.kind) (sym (past_row row e (omega arith))) (units T listed).nought

-- rows of elements
module _ (T : PlainTable) (listed : IsField T.kind) (has : HasRows T) (w : ℕ) (low : w ≤ T.weight) where
  entry_element : (x : Symbol) → IsPair T w x → (e : ℕ) → IsElement T.kind (get_or (entry_of T x) e (residue 0))
  entry_element x p e =
      subst (λ y. IsElement T.kind (get_or (entry_of T y) e (residue 0))) (sym p.is)
      (number_element T listed (entry_row T (left x) (right x)) e (has.entries (left x) (right x) p.first p.second p.regular
      (let s = p.sum in omega arith)).elements)

  pub one_is_row : (x : Symbol) → IsPair T w x → IsRowOf T.kind (length (singles T w)) (bracket_row T w x)
  one_is_row x p =
      map_row T.kind listed (λ e. get_or (entry_of T x) e (residue 0)) (singles T w) 0 (λ s l. entry_element x p (single_at T w s))

  pub bound_is_row : (e : ℕ) → IsRowOf T.kind (length (pairs T w)) (coboundary_row T w e)
  bound_is_row e =
      map_row T.kind listed (λ x. get_or (entry_of T x) e (residue 0)) (pairs T w) (of_pair 0 0)
      (λ s l. entry_element (pair_at T w s) (at_pair T w s l) e)

  one_formed : AreFormed T.kind (length (singles T w)) (map (λ x. Ok (bracket_row T w x)) (pairs T w))
  one_formed =
      are_formed T.kind (length (singles T w)) (map (λ x. Ok (bracket_row T w x)) (pairs T w))
      (λ row h. let r = among_map (λ x. Ok (bracket_row T w x)) (pairs T w) (of_pair 0 0) (Ok row) h in
      subst (IsRowOf T.kind (length (singles T w))) (ok_same r.2) (one_is_row (pair_at T w r.0) (at_pair T w r.0 r.1)))

  pub h1_rows : (rows : List (List Num)) → h1_of T w ≡ Ok rows → AreRows T.kind (length (singles T w)) rows
  h1_rows rows e = (kernel_means T.kind listed (length (singles T w)) (map (λ x. Ok (bracket_row T w x)) (pairs T w)) rows one_formed e).0.are_rows

module _ (T : PlainTable) (listed : IsField T.kind) (has : HasRows T) (weights : HasWeights T) (w : ℕ) (low : w ≤ T.weight) where
  abbrev K : Field
  K = field_of T.kind

  entry_number_is : (x : Symbol) → IsPair T w x → (e : ℕ) →
      number_of T.kind (get_or (entry_of T x) e (residue 0)) ≡ product K (table_in T.kind T) (left x) (right x) e
  entry_number_is x p e =
      ap (λ y. number_of T.kind (get_or (entry_of T y) e (residue 0))) p.is
      ∙ number_is T listed (entry_row T (left x) (right x)) e
      ∙ ap (λ v. v e) (entry_is T listed w has weights (left x) (right x) p.regular (let s = p.sum in omega arith))

  abbrev at_single : (x : Symbol) → ℕ → Num
  at_single x e = get_or (entry_of T x) e (residue 0)

  -- the row of a pair
  one_row : (x : Symbol) → IsPair T w x →
      vector_in T.kind (bracket_row T w x) ≡ cocycle_row1 K (table_in T.kind T) w (single_place (singles T w)) (left x) (right x)
  one_row x p = fun_ext (λ s. go s (dec_lt s (length (singles T w))))
    where
      number : Singles K (table_in T.kind T) w (length (singles T w)) (single_at T w) (single_place (singles T w))
      number = singles_numbered T w

      at_one : (s : ℕ) → s < length (singles T w) → (i : ℕ) → i < length T.basis →
          one_of K (table_in T.kind T) w (single_place (singles T w)) (place K s) i ≡ place K (single_at T w s) i
      at_one s l i m = by (ℕ_discrete (weight T i) w)
        where
          by : Dec (weight T i ≡ w) → one_of K (table_in T.kind T) w (single_place (singles T w)) (place K s) i ≡ place K (single_at T w s) i
          by (no d) =
              one_off K (table_in T.kind T) w (single_place (singles T w)) (place K s) i d
              ∙ sym (place_other K (single_at T w s) i (λ e. d (ap (weight T) (sym e) ∙ number.weight s l)))
          by (yes e) = one_on K (table_in T.kind T) w (single_place (singles T w)) (place K s) i e ∙ at_slot (ℕ_discrete s (single_place (singles T w) i))
            where
              at_slot : Dec (s ≡ single_place (singles T w) i) → place K s (single_place (singles T w) i) ≡ place K (single_at T w s) i
              at_slot (yes f) =
                  ap (place K s) (sym f) ∙ place_same K s ∙ sym (place_same K i)
                  ∙ ap (λ a. place K a i) (sym (ap (λ a. single_at T w a) f ∙ number.there i m e))
              at_slot (no f) =
                  place_other K s (single_place (singles T w) i) f
                  ∙ sym (place_other K (single_at T w s) i (λ g. f (sym (number.back s l) ∙ ap (single_place (singles T w)) g)))

      past_one : (s : ℕ) → length (singles T w) ≤ s → (i : ℕ) → i < length T.basis →
          one_of K (table_in T.kind T) w (single_place (singles T w)) (place K s) i ≡ K.nought
      past_one s l i m = by (ℕ_discrete (weight T i) w)
        where
          by : Dec (weight T i ≡ w) → one_of K (table_in T.kind T) w (single_place (singles T w)) (place K s) i ≡ K.nought
          by (no d) = one_off K (table_in T.kind T) w (single_place (singles T w)) (place K s) i d
          by (yes e) =
              one_on K (table_in T.kind T) w (single_place (singles T w)) (place K s) i e
              ∙ place_other K s (single_place (singles T w) i) (let b = number.below i m e in omega arith)

      go : (s : ℕ) → Dec (s < length (singles T w)) →
          vector_in T.kind (bracket_row T w x) s ≡ cocycle_row1 K (table_in T.kind T) w (single_place (singles T w)) (left x) (right x) s
      go s (yes l) =
          map_vector T.kind listed (at_single x) (singles T w) 0 s l ∙ entry_number_is x p (single_at T w s)
          ∙ sym (coboundary1_same K (table_in T.kind T) _ (place K (single_at T w s)) (at_one s l) (left x) (right x)
          ∙ coboundary1_place K (table_in T.kind T) (single_at T w s) (number.within s l) (left x) (right x))
      go s (no l) =
          map_past T.kind listed (at_single x) (singles T w) 0 s (omega arith)
          ∙ sym (coboundary1_same K (table_in T.kind T) _ (λ i. K.nought) (past_one s (omega arith)) (left x) (right x)
          ∙ coboundary1_none K (table_in T.kind T) (left x) (right x))

  abbrev Brackets1 : List (Result (List Num) Unfit)
  Brackets1 = map (λ x. Ok (bracket_row T w x)) (pairs T w)

  abbrev Cocycle1 : Vector K → Type 0
  Cocycle1 v = IsCocycleRow1 K (table_in T.kind T) w (single_place (singles T w)) v

  one_from : (v : Vector K) → IsFormed T.kind Brackets1 v → Cocycle1 v
  one_from v h =
      let f = formed_is T.kind Brackets1 v h in
      let r = among_map (λ x. Ok (bracket_row T w x)) (pairs T w) (of_pair 0 0) (Ok f.0) f.1 in
      let p = at_pair T w r.0 r.1 in (
        left (pair_at T w r.0),
        right (pair_at T w r.0),
        p.second,
        p.regular,
        p.sum,
        f.2 ∙ ap (vector_in T.kind) (sym (ok_same r.2)) ∙ one_row (pair_at T w r.0) p,
      )

  one_to : (v : Vector K) → Cocycle1 v → IsFormed T.kind Brackets1 v
  one_to v h =
      let n = pairs_numbered T w in
      let l = n.below h.0 h.1 h.2 h.3 h.4 in
      let p = at_pair T w (pair_place T w h.0 h.1) l in
      subst (IsFormed T.kind Brackets1)
      (sym (h.5
      ∙ ap₂ (λ i j. cocycle_row1 K (table_in T.kind T) w (single_place (singles T w)) i j) (sym (n.there_left h.0 h.1 h.2 h.3 h.4))
      (sym (n.there_right h.0 h.1 h.2 h.3 h.4))
      ∙ sym (one_row (pair_at T w (pair_place T w h.0 h.1)) p)))
      (is_formed T.kind Brackets1 (bracket_row T w (pair_at T w (pair_place T w h.0 h.1)))
      (map_among (λ x. Ok (bracket_row T w x)) (pairs T w) (of_pair 0 0) (pair_place T w h.0 h.1) l))

  pub h1_is : (P : Abstract K.Carrier) → ObeysLaw K P (table_in T.kind T) → (rows : List (List Num)) → h1_of T w ≡ Ok rows →
      RepresentsH1 K (table_in T.kind T) w (length rows) (form1 T.kind T w rows)
  h1_is P law rows e =
      let k = kernel_means T.kind listed (length (singles T w)) Brackets1 rows (one_formed T listed has w low) e in
      low_represents1 K P (table_in T.kind T) law w (length (singles T w)) (single_at T w) (single_place (singles T w)) (singles_numbered T w)
      (length rows) (row_in T.kind rows) (pivot_in rows) k.0.closed
      (λ x. (
        (λ h. same_solutions K (length (singles T w)) (IsFormed T.kind Brackets1) _ (λ u f. span_kind u (one_to u f)) x ((k.1 x).0 h)),
        (λ h. (k.1 x).1 (same_solutions K (length (singles T w)) _ (IsFormed T.kind Brackets1) (λ u f. span_kind u (one_from u f)) x h)),
      ))

  -- the coboundary of the form that is 1 at an element
  abbrev pub Coboundary : ℕ → Vector K
  Coboundary e = coboundary_vector K (table_in T.kind T) (length (pairs T w)) (λ s. left (pair_at T w s)) (λ s. right (pair_at T w s)) e

  bound_row : (e : ℕ) → vector_in T.kind (coboundary_row T w e) ≡ Coboundary e
  bound_row e = fun_ext (λ s. go s (dec_lt s (length (pairs T w))))
    where
      go : (s : ℕ) → Dec (s < length (pairs T w)) → vector_in T.kind (coboundary_row T w e) s ≡ Coboundary e s
      go s (yes l) =
          map_vector T.kind listed (λ x. get_or (entry_of T x) e (residue 0)) (pairs T w) (of_pair 0 0) s l
          ∙ entry_number_is (pair_at T w s) (at_pair T w s l) e
          ∙ sym (row2_at K (table_in T.kind T) w (length (pairs T w)) (λ s. left (pair_at T w s)) (λ s. right (pair_at T w s)) (pair_place T w)
          (pairs_numbered T w) (λ i j. product K (table_in T.kind T) i j e) s l)
      go s (no l) =
          map_past T.kind listed (λ x. get_or (entry_of T x) e (residue 0)) (pairs T w) (of_pair 0 0) s (omega arith)
          ∙ sym (row2_past K (table_in T.kind T) w (length (pairs T w)) (λ s. left (pair_at T w s)) (λ s. right (pair_at T w s)) (pair_place T w)
          (pairs_numbered T w) (λ i j. product K (table_in T.kind T) i j e) s (omega arith))

  abbrev Bounds : List (Result (List Num) Unfit)
  Bounds = map (λ e. Ok (coboundary_row T w e)) (singles T w)

  abbrev pub BoundAt : ℕ → Vector K
  BoundAt e = Coboundary (single_at T w e)

  bounds_formed : AreFormed T.kind (length (pairs T w)) Bounds
  bounds_formed =
      are_formed T.kind (length (pairs T w)) Bounds
      (λ row h. let r = among_map (λ e. Ok (coboundary_row T w e)) (singles T w) 0 (Ok row) h in
      subst (IsRowOf T.kind (length (pairs T w))) (ok_same r.2) (bound_is_row T listed has w low (single_at T w r.0)))

  bound_from : (v : Vector K) → IsFormed T.kind Bounds v → IsOneOf K (length (singles T w)) BoundAt v
  bound_from v h =
      let f = formed_is T.kind Bounds v h in
      let r = among_map (λ e. Ok (coboundary_row T w e)) (singles T w) 0 (Ok f.0) f.1 in
      (r.0, r.1, f.2 ∙ ap (vector_in T.kind) (sym (ok_same r.2)) ∙ bound_row (single_at T w r.0))

  bound_to : (v : Vector K) → IsOneOf K (length (singles T w)) BoundAt v → IsFormed T.kind Bounds v
  bound_to v h =
      subst (IsFormed T.kind Bounds) (sym (h.2 ∙ sym (bound_row (single_at T w h.0))))
      (is_formed T.kind Bounds (coboundary_row T w (single_at T w h.0)) (map_among (λ e. Ok (coboundary_row T w e)) (singles T w) 0 h.0 h.1))

  pub bounds_are : (rows : List (List Num)) → coboundaries_of T w ≡ Ok rows →
      IsClosedList T.kind (length (pairs T w)) rows × ((x : Vector K) → InSpanOf T.kind rows x ↔ InSpan K (length (singles T w)) BoundAt x)
  bounds_are rows e =
      let s = span_means T.kind listed (length (pairs T w)) Bounds rows bounds_formed e in
      let c = kind_span_iff K (IsOneOf K (length (singles T w)) BoundAt) (length (singles T w)) BoundAt (rows_span K (length (singles T w)) BoundAt) in (
        s.0,
        (λ x. (
          (λ h. (c x).0 (spanned_more K _ _ bound_from x ((s.1 x).0 h))),
          (λ h. (s.1 x).1 (spanned_more K _ _ bound_to x ((c x).1 h))),
        )),
      )
