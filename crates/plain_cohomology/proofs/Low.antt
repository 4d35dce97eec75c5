-- H1 and H2 of a weight: what the plain run gives represents them.
use Rattle.std.specs.Prelude.{◌≡◌, ◌≢◌, ℕ, zero, suc, ◌+◌, ◌<◌, ◌≤◌, List, [], ◌∷◌, ◌++◌, length, get_or, map, not, Bool, true, false, All, Result, Ok}
use mathlib.Core.Logic.{inl, inr}
use mathlib.Core.Path.{sym, refl, ap, ap₂, ◌∙◌, fun_ext, subst}
use native.Mathlib.Omega.{arith}
use Rattle.std.proofs.lemmas.List.Elements.{All-nil, All-cons, All-append}
use Rattle.math_fields.specs.Field.{Field}
use Rattle.math_linear.specs.Vector.{Vector}
use Rattle.math_linear.specs.Span.Spanned.{span_kind}
use Rattle.math_linear.proofs.Kernel.{same_solutions}
use Rattle.math_algebra.specs.Tree.{Presentation as Abstract}
use Rattle.math_algebra.specs.Table.{Table, ObeysLaw}
use Rattle.fpl_numbers.specs.declared.number.Num.{Num}
use Rattle.fpl_numbers.specs.declared.number.Kind.{Kind}
use Rattle.fpl_numbers.specs.declared.number.Unfit.{Unfit}
use Rattle.fpl_numbers.specs.Numbers.{IsField}
use Rattle.fpl_numbers.specs.Results.{and_then, map_ok}
use Rattle.fpl_numbers.specs.Kinds.{field_of}
use Rattle.fpl_scalar.specs.Vectors.{AreElements}
use Rattle.fpl_rows.specs.Meaning.{vector_in, row_in, pivot_of, pivot_in, IsRowOf, AreRows}
use Rattle.fpl_rows.proofs.Fits.{ok_same, first_fits, part_fits}
use Rattle.fpl_model.specs.declared.presentation.Presentation.{Presentation}
use Rattle.fpl_model.specs.Meaning.{presentation_in}
use Rattle.fpl_model.specs.Sound.{IsSound}
use Rattle.fpl_table.specs.Plain.{PlainTable, table_in}
use Rattle.plain_spans.specs.Plain.{kernel_of}
use Rattle.plain_spans.specs.Means.{IsFormed, AreFormed}
use Rattle.plain_spans.proofs.Among.{Among, formed_is, is_formed, are_formed, among_map}
use Rattle.plain_spans.proofs.Kernels.{kernel_means}
use Rattle.plain_sources.specs.Premises.{HasRows, HasWeights, IsTableFor}
use Rattle.math_cohomology.specs.Forms.{Two, sum2, IsCocycle2, IsCoboundary2, RepresentsH2}
use Rattle.math_cohomology.specs.Tuples.{two_of, cocycle_row2, IsCocycleRow2}
use Rattle.math_cohomology.proofs.DegreeTwo.{low_represents2}
use Rattle.plain_cohomology.specs.Plain.{Triple, singles, pairs, triples, single_place, triple_row, all_of, is_pivot, Low, h1_of, cocycles_of, coboundaries_of, chosen, low_with, low_of, lows_of}
use Rattle.plain_cohomology.specs.Means.{form2, RepresentsLow, LowMeans, HasElements, AreLows, LowsMean}
use Rattle.plain_cohomology.proofs.Lists.{member_among}
use Rattle.plain_cohomology.proofs.Tuples.{left, right, single_at, singles_numbered, pair_at, pair_place, pairs_numbered, triple_of, IsTriple, triple_is, is_triple_of}
use Rattle.plain_cohomology.proofs.Triples.{triple_reads}
use Rattle.plain_cohomology.proofs.Kept.{kept_slots, pivot_among, pivot_not, all_among, among_all}
use Rattle.plain_cohomology.proofs.Degrees.{h1_is, h1_rows, bounds_are}
use Rattle.fpl_rows.proofs.Packings.{get_or_default}

-- representatives are read below their count
sum2_below : (K : Field) (n : ℕ) (c : ℕ → K.Carrier) (f g : ℕ → Two K) → ((k : ℕ) → k < n → f k ≡ g k) → sum2 K n c f ≡ sum2 K n c g
unfolding sum2
sum2_below K n c f g h = fun_ext (λ i. fun_ext (λ j. at K n c f g h i j))
  where
    at : (K : Field) (n : ℕ) (c : ℕ → K.Carrier) (f g : ℕ → Two K) → ((k : ℕ) → k < n → f k ≡ g k) → (i j : ℕ) → sum2 K n c f i j ≡ sum2 K n c g i j
    at K zero c f g h i j = refl
    at K (suc n) c f g h i j =
        ap₂ K.plus (at K n c f g (λ k l. h k (omega arith)) i j) (ap (λ a. K.times (c n) (a i j)) (h n (omega arith)))

represents_same : (K : Field) (T : Table K) (w n : ℕ) (f g : ℕ → Two K) → ((k : ℕ) → k < n → f k ≡ g k) → RepresentsH2 K T w n f → RepresentsH2 K T w n g
represents_same K T w n f g h r = record {
  within = λ k l. subst (IsCocycle2 K T w) (h k l) (r.within k l);
  whole = λ x c. let q = r.whole x c in
      (q.0, q.1, q.2, (λ i j l m. q.3 i j l m ∙ ap (λ a. K.plus (a i j) (q.1 i j)) (sum2_below K n q.0 f g h)));
  unique = λ c b. r.unique c (subst (IsCoboundary2 K T w) (sym (sum2_below K n c f g h)) b);
}

among_ok : (rows : List (List Num)) (row : List Num) → Among rows row → Among {X = Result (List Num) Unfit} (map Ok rows) (Ok row)
among_ok [] row h = absurd h
among_ok (r ∷ rs) row (inl e) = inl (ap Ok e)
among_ok (r ∷ rs) row (inr h) = inr (among_ok rs row h)

mapped : {X Y : Type 0} (f : X → Y) (xs : List X) (x : X) → Among xs x → Among (map f xs) (f x)
mapped f [] x h = absurd h
mapped f (y ∷ ys) x (inl e) = inl (ap f e)
mapped f (y ∷ ys) x (inr h) = inr (mapped f ys x h)

not_true : (b : Bool) → not b ≡ true → b ≡ false
not_true true e = absurd cc
not_true false e = refl

module _ (T : PlainTable) (listed : IsField T.kind) (has : HasRows T) (weights : HasWeights T) (w : ℕ) (low : w ≤ T.weight) where
  abbrev K : Field
  K = field_of T.kind

  abbrev Triples : List (Result (List Num) Unfit)
  Triples = map (triple_row T w) (triples T w)

  abbrev Cocycle2 : Vector K → Type 0
  Cocycle2 v = IsCocycleRow2 K (table_in T.kind T) w (pair_place T w) v

  module _ (formed : List (List Num)) (is : all_of (map (triple_row T w) (triples T w)) ≡ Ok formed) where
    each_row : (row : List Num) → Among formed row → (x : Triple) × IsTriple T w x × (triple_row T w x ≡ Ok row)
    each_row row h =
        let a = all_among Triples formed is row h in
        let r = among_map (triple_row T w) (triples T w) (record { first = 0; second = 0; third = 0 }) (Ok row) a in
        let x : Triple = get_or (triples T w) r.0 (record { first = 0; second = 0; third = 0 }) in
        (x, triple_is T w x (member_among (triples T w) r.0 (record { first = 0; second = 0; third = 0 }) r.1), r.2)

    reads_row : (row : List Num) (x : Triple) → IsTriple T w x → triple_row T w x ≡ Ok row →
        IsRowOf T.kind (length (pairs T w)) row
        × (vector_in T.kind row ≡ cocycle_row2 K (table_in T.kind T) w (pair_place T w) x.first x.second x.third)
    reads_row row x t e = triple_reads T listed w has weights low x.first x.second x.third t.below t.sorted t.sum row e

    row_among_map : (row : List Num) → Among {X = Result (List Num) Unfit} (map Ok formed) (Ok row) → Among formed row
    row_among_map row h = (let r = among_map Ok formed [] (Ok row) h in subst (Among formed) (ok_same r.2) (member_among formed r.0 [] r.1))

    two_formed : AreFormed T.kind (length (pairs T w)) (map Ok formed)
    two_formed =
        are_formed T.kind (length (pairs T w)) (map Ok formed)
        (λ row h. let r = each_row row (row_among_map row h) in (reads_row row r.0 r.1 r.2).0)

    two_from : (v : Vector K) → IsFormed T.kind (map Ok formed) v → Cocycle2 v
    two_from v h =
        let f = formed_is T.kind (map Ok formed) v h in
        let r = each_row f.0 (row_among_map f.0 f.1) in
        (r.0.first, r.0.second, r.0.third, r.1.below, r.1.sorted, r.1.sum, f.2 ∙ (reads_row f.0 r.0 r.1 r.2).1)

    two_to : (v : Vector K) → Cocycle2 v → IsFormed T.kind (map Ok formed) v
    two_to v h =
        let t : IsTriple T w (triple_of T w h.0 h.1 h.2) = record { below = h.3; sorted = h.4; sum = h.5 } in
        let a = is_triple_of T w h.0 h.1 h.2 t in
        let q = among_all Triples formed is (triple_row T w (triple_of T w h.0 h.1 h.2))
        (mapped (triple_row T w) (triples T w) (triple_of T w h.0 h.1 h.2) a) in
        subst (IsFormed T.kind (map Ok formed)) (sym (h.6 ∙ sym (reads_row q.0 (triple_of T w h.0 h.1 h.2) t q.1).1))
        (is_formed T.kind (map Ok formed) q.0 (among_ok formed q.0 q.2))

    two_rows : (cocycles : List (List Num)) → kernel_of T.kind (length (pairs T w)) (map Ok formed) ≡ Ok cocycles → AreRows T.kind (length (pairs T w)) cocycles
    two_rows cocycles e = (kernel_means T.kind listed (length (pairs T w)) (map Ok formed) cocycles two_formed e).0.are_rows

    module _ (P : Abstract K.Carrier) (law : ObeysLaw K P (table_in T.kind T)) where
      h2_is : (cocycles bounds : List (List Num)) → kernel_of T.kind (length (pairs T w)) (map Ok formed) ≡ Ok cocycles →
          coboundaries_of T w ≡ Ok bounds →
          RepresentsH2 K (table_in T.kind T) w (length (chosen cocycles bounds)) (form2 T.kind T w (chosen cocycles bounds))
      h2_is cocycles bounds e f =
          let k = kernel_means T.kind listed (length (pairs T w)) (map Ok formed) cocycles two_formed e in
          let b = bounds_are T listed has weights w low bounds f in
          let s = kept_slots (λ r. not (is_pivot bounds (pivot_of r))) cocycles [] in
          represents_same K (table_in T.kind T) w (length (chosen cocycles bounds)) _ (form2 T.kind T w (chosen cocycles bounds))
          (λ i l. ap (λ row. two_of K (table_in T.kind T) w (pair_place T w) (vector_in T.kind row)) (sym (s.1.is i l)))
          (low_represents2 K P (table_in T.kind T) law w (length (singles T w)) (length (pairs T w)) (single_at T w) (single_place (singles T w))
          (λ s. left (pair_at T w s)) (λ s. right (pair_at T w s)) (pair_place T w)
          (singles_numbered T w) (pairs_numbered T w) (length cocycles) (length bounds) (row_in T.kind cocycles) (row_in T.kind bounds)
          (pivot_in cocycles) (pivot_in bounds) k.0.closed b.0.closed
          (λ x. (
            (λ h. same_solutions K (length (pairs T w)) (IsFormed T.kind (map Ok formed)) _ (λ u g. span_kind u (two_to u g)) x ((k.1 x).0 h)),
            (λ h. (k.1 x).1 (same_solutions K (length (pairs T w)) _ (IsFormed T.kind (map Ok formed)) (λ u g. span_kind u (two_from u g)) x h)),
          ))
          b.1 (length (chosen cocycles bounds)) s.0
          (record {
            there = λ i l. ((s.1.there i l).0, (λ j m. pivot_not bounds (pivot_in cocycles (s.0 i)) (not_true _ (s.1.there i l).1) j m));
            ascend = s.1.ascend;
            all = λ i l h. s.1.all i l (not_pivot (pivot_in cocycles i) h);
          }))
        where
          not_pivot : (q : ℕ) → ((j : ℕ) → j < length bounds → pivot_in bounds j ≢ q) → not (is_pivot bounds q) ≡ true
          not_pivot q h = go (is_pivot bounds q) refl
            where
              go : (b : Bool) → is_pivot bounds q ≡ b → not b ≡ true
              go true t = (let p = pivot_among bounds q t in absurd (h p.0 p.1 p.2))
              go false t = refl

  pub low_elements : (l : Low) → low_of T w ≡ Ok l → HasElements T.kind l
  low_elements l e =
      let a = first_fits (λ h1. and_then (λ cocycles. map_ok (low_with h1 cocycles) (coboundaries_of T w)) (cocycles_of T w)) (h1_of T w) l e in
      let b = first_fits (λ cocycles. map_ok (low_with a.0 cocycles) (coboundaries_of T w)) (cocycles_of T w) l a.1.1 in
      let c = part_fits (low_with a.0 b.0) (coboundaries_of T w) l b.1.1 in
      let d = first_fits (λ rows. kernel_of T.kind (length (pairs T w)) (map Ok rows)) (all_of (map (triple_row T w) (triples T w))) b.0 b.1.0 in
      let rows = two_rows d.0 d.1.0 b.0 d.1.1 in
      let s = kept_slots (λ r. not (is_pivot c.0 (pivot_of r))) b.0 [] in
      subst (HasElements T.kind) (sym c.1.1)
      (record {
        first = λ k x m. (h1_rows T listed has w low a.0 a.1.0 k x m).elements;
        second = λ k x m.
            subst (AreElements T.kind) (sym (get_or_default (chosen b.0 c.0) k x [] m ∙ s.1.is k m)) (rows (s.0 k) [] (s.1.there k m).0).elements;
      })

  pub low_is : (P : Abstract K.Carrier) → ObeysLaw K P (table_in T.kind T) → (l : Low) → low_of T w ≡ Ok l → RepresentsLow T.kind T w l
  low_is P law l e =
      let a = first_fits (λ h1. and_then (λ cocycles. map_ok (low_with h1 cocycles) (coboundaries_of T w)) (cocycles_of T w)) (h1_of T w) l e in
      let b = first_fits (λ cocycles. map_ok (low_with a.0 cocycles) (coboundaries_of T w)) (cocycles_of T w) l a.1.1 in
      let c = part_fits (low_with a.0 b.0) (coboundaries_of T w) l b.1.1 in
      let d = first_fits (λ rows. kernel_of T.kind (length (pairs T w)) (map Ok rows)) (all_of (map (triple_row T w) (triples T w))) b.0 b.1.0 in
      subst (RepresentsLow T.kind T w) (sym c.1.1)
      (record { h1 = h1_is T listed has weights w low P law a.0 a.1.0; h2 = h2_is d.0 d.1.0 P law b.0 c.0 d.1.1 c.1.0 })

pub low_means : (p : Presentation) → LowMeans p
low_means p sound T for law w l low e =
    subst (λ k. RepresentsLow k T w low) for.kind (low_is T is_field for.rows for.weights w l (back.0) (back.1) low e)
  where
    is_field : IsField T.kind
    is_field = subst IsField (sym for.kind) sound.field

    back : (P : Abstract (field_of T.kind).Carrier) × ObeysLaw (field_of T.kind) P (table_in T.kind T)
    back = subst (λ k. (P : Abstract (field_of k).Carrier) × ObeysLaw (field_of k) P (table_in k T)) (sym for.kind) (presentation_in p, law)

-- the weights one after the other
more_lows : (k : Kind) (T : PlainTable) (w : ℕ) (lows : List Low) (low : Low) → AreLows k T w lows → RepresentsLow k T (w + length lows) low →
    AreLows k T w (lows ++ low ∷ [])
more_lows k T w [] low h r = (subst (λ v. RepresentsLow k T v low) (let e : w + 0 ≡ w = omega arith in e) r, tt)
more_lows k T w (x ∷ xs) low h r =
    (h.0, more_lows k T (suc w) xs low h.1 (subst (λ v. RepresentsLow k T v low) (let e : w + suc (length xs) ≡ suc w + length xs = omega arith in e) r))

length_more : (xs : List Low) (y : Low) → length (xs ++ y ∷ []) ≡ suc (length xs)
length_more [] y = refl
length_more (x ∷ xs) y = ap suc (length_more xs y)

module _ (p : Presentation) (sound : IsSound p) (T : PlainTable) (for : IsTableFor p T)
    (law : ObeysLaw (field_of p.field) (presentation_in p) (table_in p.field T)) where
  lows_to : (w : ℕ) → w ≤ T.weight → (lows : List Low) → lows_of T w ≡ Ok lows → (length lows ≡ w) × AreLows p.field T 1 lows
  lows_to zero l lows e = subst (λ lows. (length lows ≡ 0) × AreLows p.field T 1 lows) (ok_same e) (refl, tt)
  lows_to (suc w) l lows e =
      let a = first_fits (λ lows. map_ok (λ low. lows ++ low ∷ []) (low_of T (suc w))) (lows_of T w) lows e in
      let b = part_fits (λ low. a.0 ++ low ∷ []) (low_of T (suc w)) lows a.1.1 in
      let h = lows_to w (omega arith) a.0 a.1.0 in
      subst (λ lows. (length lows ≡ suc w) × AreLows p.field T 1 lows) (sym b.1.1) (
        length_more a.0 b.0 ∙ ap suc h.0,
        more_lows p.field T 1 a.0 b.0 h.1
            (subst (λ v. RepresentsLow p.field T v b.0) (let e : suc w ≡ 1 + length a.0 = (let d = h.0 in omega arith) in e)
            (low_means p sound T for law (suc w) l b.0 b.1.0)),
      )

pub lows_mean : (p : Presentation) → LowsMean p
lows_mean p sound T for law lows e = lows_to p sound T for law T.weight (omega arith) lows e

module _ (T : PlainTable) (listed : IsField T.kind) (has : HasRows T) (weights : HasWeights T) where
  pub lows_elements : (w : ℕ) → w ≤ T.weight → (lows : List Low) → lows_of T w ≡ Ok lows → (length lows ≡ w) × All (HasElements T.kind) lows
  lows_elements zero l lows e =
      subst (λ lows. (length lows ≡ 0) × All (HasElements T.kind) lows) (ok_same e) (refl, All-nil (HasElements T.kind))
  lows_elements (suc w) l lows e =
      let a = first_fits (λ lows. map_ok (λ low. lows ++ low ∷ []) (low_of T (suc w))) (lows_of T w) lows e in
      let b = part_fits (λ low. a.0 ++ low ∷ []) (low_of T (suc w)) lows a.1.1 in
      let h = lows_elements w (omega arith) a.0 a.1.0 in
      subst (λ lows. (length lows ≡ suc w) × All (HasElements T.kind) lows) (sym b.1.1) (
        length_more a.0 b.0 ∙ ap suc h.0,
        All-append (HasElements T.kind) a.0 (b.0 ∷ []) h.1
            (All-cons (HasElements T.kind) b.0 [] (low_elements T listed has weights (suc w) l b.0 b.1.0) (All-nil (HasElements T.kind))),
      )
