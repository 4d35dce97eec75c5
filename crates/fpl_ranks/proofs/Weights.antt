-- The matrices of a weight as rows, and the ranks of the weights one after another.
use Rattle.std.proofs.Common.{◌≡◌, ℕ, zero, suc, ◌+◌, ◌-◌, ◌*◌, ◌≤◌, ◌<◌, List, [], ◌∷◌, ◌++◌, length, map, get_or, take, drop, Ok, Err, refl, sym, ap, ◌∙◌, subst, arith}
use mathlib.Core.Path.{ap₂}
use native.Mathlib.Decide.{dec_lt}
use Rattle.std.specs.Prelude.{slice_range, All}
use Rattle.std.specs.declared.result.Result.{Result}
use Rattle.std.proofs.Math.Seq.{drop-cons}
use Rattle.std.proofs.lemmas.List.{length-append, length-map, get_or-append-add, get_or_append_left, get_or-drop, get_or-take, length-take-le, length-drop, map_more}
use Rattle.fpl_numbers.specs.declared.number.Num.{Num}
use Rattle.fpl_numbers.specs.declared.number.Unfit.{Unfit}
use Rattle.fpl_numbers.specs.declared.number.Fault.{Fault}
use Rattle.fpl_numbers.specs.declared.number.Fault.TheVariants as fault
use Rattle.fpl_numbers.specs.declared.number.Kind.{Kind}
use Rattle.fpl_numbers.specs.declared.number.Kind.TheVariants.{Prime}
use Rattle.fpl_numbers.specs.Numbers.{residue}
use Rattle.fpl_numbers.specs.Results.{and_then, map_ok, IsFault}
use Rattle.fpl_scalar.specs.Vectors.{AreElements}
use Rattle.fpl_scalar.proofs.ResidueRows.{elements_from_below}
use Rattle.fpl_rows.specs.Meaning.{IsRowOf, AreRows}
use Rattle.fpl_rows.proofs.Fits.{all_more}
use Rattle.fpl_model.specs.declared.presentation.Presentation.{Presentation}
use Rattle.fpl_table.specs.Plain.{PlainTable, plain_basis, through}
use Rattle.fpl_table.specs.Shape.{HasShape}
use Rattle.fpl_table.proofs.Weights.{through_within, through_below, through_above}
use Rattle.plain_tables.specs.Holds.{Holds}
use Rattle.plain_spans.specs.Plain.{span_of}
use Rattle.plain_matrices.specs.Plain.{PlainMatrix}
use Rattle.plain_matrices.specs.Relations.{AreRespected}
use Rattle.plain_ranks.specs.Ranks.{rows_from, dimension_of, rank_of}
use Rattle.plain_ranks.proofs.Dimensions.{rank_means, rank_fits}
use Rattle.fpl_matrices.specs.Matrices.{Assigned, numbers_in, prime_in, IsAssignment}
use Rattle.fpl_matrices.specs.Laws.{NoneBroken}
use Rattle.fpl_ranks.specs.Ranks.{IsFor, basis_matrix, AreBasisMatrices, row_of, IsOver, rank_at, ranks_to, ranks_of, IsRankOf, AreRanks}
use Rattle.fpl_ranks.proofs.Trees.{basis_sound}

module _ (a : Assigned) (T : PlainTable) (xs : List PlainMatrix) (are : AreBasisMatrices a T (length T.basis) xs) where
  abbrev rows : ℕ → ℕ → List (Result (List Num) Unfit)
  rows from count = rows_from (prime_in T.kind) a.even (a.even + a.odd) (numbers_in a) T from count

  rows_are : (from count : ℕ) → from + count ≤ length T.basis → rows from count ≡ map Ok (map row_of (take count (drop from xs)))
  rows_are from zero l = refl
  rows_are from (suc count) l =
      let d = basis_matrix a T from in
      let at : get_or xs from d ≡ basis_matrix a T from = are.each from (omega (arith, l)) d in
      let split : drop from xs ≡ get_or xs from d ∷ drop (suc from) xs = drop-cons xs from d (let n = are.count in omega (arith, l, n)) in
      let next : suc from ≡ from + 1 = omega arith in
      ap₂ (λ (x : PlainMatrix) rest. Ok (row_of x) ∷ rest) (sym at) (rows_are (from + 1) count (omega (arith, l)))
      ∙ ap (λ n. Ok (row_of (get_or xs from d)) ∷ map Ok (map row_of (take count (drop n xs)))) (sym next)
      ∙ ap (λ ys. map Ok (map row_of (take (suc count) ys))) (sym split)

  pub weight_rows : (from to : ℕ) → from ≤ to → to ≤ length T.basis → rows from (to - from) ≡ map Ok (map row_of (slice_range xs from to))
  weight_rows from to l m = rows_are from (to - from) (omega (arith, l, m))

  -- each is over the field of the table
  pub over : IsFor T a → HasShape T → (from to places : ℕ) → from ≤ to → to ≤ length T.basis → places ≡ (a.even + a.odd) * (a.even + a.odd) →
      All (IsOver T.kind places) (slice_range xs from to)
  over whose shape from to places l m e = λ k d less.
      let short : length (slice_range xs from to) ≡ to - from = slice_length in
      let inner : k < to - from = omega (arith, less, short) in
      let at : get_or (slice_range xs from to) k d ≡ basis_matrix a T (from + k) =
      get_or-take (to - from) (drop from xs) k d inner ∙ get_or-drop from xs k d ∙ are.each (from + k) (omega (arith, inner, m, l)) d in
      subst (IsOver T.kind places) (sym at) (record {
        prime = prime;
        sound = basis_sound T a whose shape (from + k);
        many = (basis_sound T a whose shape (from + k)).matrix.square.places ∙ sym e;
      })
    where
      prime : T.kind ≡ Prime (prime_in T.kind)
      prime = subst (λ k. k ≡ Prime (prime_in k)) (sym whose.agrees.0) whose.assignment.matrices.field

      slice_length : length (slice_range xs from to) ≡ to - from
      slice_length = length-take-le (to - from) (drop from xs) (let n = are.count in let d = length-drop from xs in omega (arith, n, l, m, d))

pub given_is : (a : Assigned) (T : PlainTable) (xs : List PlainMatrix) → AreBasisMatrices a T (length T.basis) xs → (w from to : ℕ) (part : List PlainMatrix)
    (rows : List (List Num)) → through T (w - 1) ≤ through T w → through T w ≤ length T.basis → from ≡ through T (w - 1) → to ≡ through T w →
    part ≡ slice_range xs from to → rows ≡ map row_of part →
    rows_from (prime_in T.kind) a.even (a.even + a.odd) (numbers_in a) T (through T (w - 1)) (dimension_of T w) ≡ map Ok rows
given_is a T xs are w from to part rows up within f t p r =
    weight_rows a T xs are (through T (w - 1)) (through T w) up within ∙ ap (λ ys. map Ok (map row_of ys)) (sym (p ∙ ap₂ (slice_range xs) f t))
    ∙ ap (map Ok) (sym r)

-- a list of rows that grows by one
pub rows_next : (kind : Kind) (places i : ℕ) (xs : List PlainMatrix) (x : PlainMatrix) (rows next : List (List Num)) (row : List Num) → i < length xs →
    x ≡ get_or xs i x → rows ≡ map row_of (take i xs) → row ≡ row_of x → next ≡ rows ++ row ∷ [] → next ≡ map row_of (take (i + 1) xs)
rows_next kind places i xs x rows next row l at made is e =
    e ∙ ap₂ (λ rs r. rs ++ r ∷ []) made (is ∙ ap row_of at) ∙ sym (map_more row_of xs i x l)

pub rows_more : (kind : Kind) (places i : ℕ) (xs : List PlainMatrix) (x : PlainMatrix) (rows next : List (List Num)) (row : List Num) →
    All (IsOver kind places) xs → i < length xs → x ≡ get_or xs i x → AreRows kind places rows → IsRowOf kind (length x.numbers) row →
    next ≡ rows ++ row ∷ [] → AreRows kind places next
rows_more kind places i xs x rows next row over l at h k e =
    let many : length x.numbers ≡ places = ap (λ (y : PlainMatrix). length y.numbers) at ∙ (over i x l).many in
    subst (AreRows kind places) (sym e) (all_more (IsRowOf kind places) rows row h (subst (λ n. IsRowOf kind n row) many k))

pub row_is : (kind : Kind) (places : ℕ) (x : PlainMatrix) (row : List Num) → IsOver kind places x → row ≡ row_of x → IsRowOf kind (length x.numbers) row
row_is kind places x row h e =
    subst (IsRowOf kind (length x.numbers)) (sym e) (record {
      elements = subst (λ k. AreElements k (row_of x)) (sym h.prime) (elements_from_below x.prime x.numbers h.sound.matrix.square.below);
      length_is = length-map x.numbers residue;
    })

-- weights ascend
pub through_more : (T : PlainTable) → HasShape T → (w : ℕ) → through T (w - 1) ≤ through T w
through_more T shape w =
    let within : through T (w - 1) ≤ length T.basis = through_within T shape (w - 1) in
    from_below (through T (w - 1)) (through T w)
    (λ i less.
    let few : (plain_basis T i).weight ≤ w - 1 = through_below T shape (w - 1) i less in
    through_above T shape w i (omega (arith, less, within)) (omega (arith, few)))
  where
    from_below : (m n : ℕ) → ((i : ℕ) → i < m → i < n) → m ≤ n
    from_below zero n h = omega arith
    from_below (suc m) n h = let l : m < n = h m (omega arith) in omega (arith, l)

-- ---- the rank of a weight
pub rank_done : (a : Assigned) (T : PlainTable) (w : ℕ) (closed : List (List Num)) (given : List (Result (List Num) Unfit)) (places : ℕ) →
    places ≡ (a.even + a.odd) * (a.even + a.odd) →
    rows_from (prime_in T.kind) a.even (a.even + a.odd) (numbers_in a) T (through T (w - 1)) (dimension_of T w) ≡ given →
    span_of T.kind places given ≡ Ok closed → rank_at a T w ≡ Ok (length closed)
rank_done a T w closed given places e is h =
    ap (map_ok length) (ap₂ (λ n rows. span_of T.kind n rows) (sym e) is ∙ h)

pub rank_stops : (a : Assigned) (T : PlainTable) (w : ℕ) (u : Fault) (given : List (Result (List Num) Unfit)) (places : ℕ) →
    places ≡ (a.even + a.odd) * (a.even + a.odd) →
    rows_from (prime_in T.kind) a.even (a.even + a.odd) (numbers_in a) T (through T (w - 1)) (dimension_of T w) ≡ given →
    IsFault u (span_of T.kind places given) → IsFault u (rank_at a T w)
rank_stops a T w fault.NoMemory given places e is h = tt
rank_stops a T w (fault.Unfit u) given places e is h =
    ap (map_ok length) (ap₂ (λ n rows. span_of T.kind n rows) (sym e) is ∙ h)

-- ---- those of all weights
pub ranks_next : (a : Assigned) (T : PlainTable) (w rank : ℕ) (before after : List ℕ) → ranks_to a T w ≡ Ok before → rank_at a T (w + 1) ≡ Ok rank →
    after ≡ before ++ rank ∷ [] → ranks_to a T (w + 1) ≡ Ok after
ranks_next a T w rank before after h k e =
    let next : w + 1 ≡ suc w = omega arith in
    ap (ranks_to a T) next
    ∙ ap₂ (λ (r : Result (List ℕ) Unfit) (q : Result ℕ Unfit). and_then (λ ranks. map_ok (λ rank. ranks ++ rank ∷ []) q) r) h (ap (rank_at a T) (sym next) ∙ k)
    ∙ ap Ok (sym e)

fault_stays : (a : Assigned) (T : PlainTable) (w more : ℕ) (u : Unfit) → ranks_to a T w ≡ Err u → ranks_to a T (w + more) ≡ Err u
fault_stays a T w zero u h = ap (ranks_to a T) (let e : w + 0 ≡ w = omega arith in e) ∙ h
fault_stays a T w (suc more) u h =
    ap (ranks_to a T) (let e : w + suc more ≡ suc (w + more) = omega arith in e)
    ∙ ap (and_then (λ ranks. map_ok (λ rank. ranks ++ rank ∷ []) (rank_at a T (suc (w + more))))) (fault_stays a T w more u h)

pub ranks_stop : (a : Assigned) (T : PlainTable) (w : ℕ) (u : Fault) (before : List ℕ) → w < T.weight → ranks_to a T w ≡ Ok before →
    IsFault u (rank_at a T (w + 1)) → IsFault u (ranks_of a T)
ranks_stop a T w fault.NoMemory before l h k = tt
ranks_stop a T w (fault.Unfit u) before l h k =
    let next : w + 1 ≡ suc w = omega arith in
    let here : ranks_to a T (suc w) ≡ Err u =
    ap₂ (λ (r : Result (List ℕ) Unfit) (q : Result ℕ Unfit). and_then (λ ranks. map_ok (λ rank. ranks ++ rank ∷ []) q) r) h (ap (rank_at a T) (sym next) ∙ k) in
    let whole : suc w + (T.weight - suc w) ≡ T.weight = omega (arith, l) in
    ap (ranks_to a T) (sym whole) ∙ fault_stays a T (suc w) (T.weight - suc w) u here

-- ---- what they mean
abbrev IsPrefix : Assigned → PlainTable → ℕ → List ℕ → Type 0
IsPrefix a T w ranks = (length ranks ≡ w) × ((v : ℕ) → v < w → rank_at a T (v + 1) ≡ Ok (get_or ranks v 0))

prefix_by : (a : Assigned) (T : PlainTable) (w : ℕ) (r : Result (List ℕ) Unfit) (q : Result ℕ Unfit) (ranks : List ℕ) →
    ((before : List ℕ) → r ≡ Ok before → IsPrefix a T w before) → q ≡ rank_at a T (suc w) →
    and_then (λ ranks. map_ok (λ rank. ranks ++ rank ∷ []) q) r ≡ Ok ranks → IsPrefix a T (suc w) ranks
prefix_by a T w (Err u) q ranks below at e = cc
prefix_by a T w (Ok before) (Err u) ranks below at e = cc
prefix_by a T w (Ok before) (Ok rank) ranks below at e =
    let all : before ++ rank ∷ [] ≡ ranks = cc in
    let is : IsPrefix a T w before = below before refl in
    subst (IsPrefix a T (suc w)) all (
      (let size = length-append before (rank ∷ []) in let n = is.0 in omega (arith, size, n)),
      (λ v l. go is v l (dec_lt v w)),
    )
  where
    go : IsPrefix a T w before → (v : ℕ) → v < suc w → Dec (v < w) → rank_at a T (v + 1) ≡ Ok (get_or (before ++ rank ∷ []) v 0)
    go is v l (yes less) =
        is.1 v less ∙ ap Ok (sym (get_or_append_left before (rank ∷ []) 0 v (let n = is.0 in omega (arith, less, n))))
    go is v l (no more) =
        let here : length before + 0 ≡ v = (let n = is.0 in omega (arith, l, more, n)) in
        let number : v + 1 ≡ suc w = omega (arith, l, more) in
        ap (rank_at a T) number ∙ sym at
        ∙ ap Ok (sym (ap (λ n. get_or (before ++ rank ∷ []) n 0) (sym here) ∙ get_or-append-add before (rank ∷ []) 0 0))

prefix : (a : Assigned) (T : PlainTable) (w : ℕ) (ranks : List ℕ) → ranks_to a T w ≡ Ok ranks → IsPrefix a T w ranks
prefix a T zero ranks e = let none : [] ≡ ranks = cc in subst (IsPrefix a T 0) none (refl, (λ v l. absurd (omega (arith, l))))
prefix a T (suc w) ranks e = prefix_by a T w (ranks_to a T w) (rank_at a T (suc w)) ranks (λ before k. prefix a T w before k) refl e

pub ranks_count : (a : Assigned) (T : PlainTable) (ranks : List ℕ) → ranks_of a T ≡ Ok ranks → length ranks ≡ T.weight
ranks_count a T ranks e = (prefix a T T.weight ranks e).0

-- over a prime each is there
ranks_fit_to : (a : Assigned) (T : PlainTable) → T.kind ≡ Prime (prime_in T.kind) → (w : ℕ) → (ranks : List ℕ) × (ranks_to a T w ≡ Ok ranks)
ranks_fit_to a T prime zero = ([], refl)
ranks_fit_to a T prime (suc w) =
    let below = ranks_fit_to a T prime w in
    let here : (rank : ℕ) × (rank_at a T (suc w) ≡ Ok rank) =
    rank_fits T.kind (prime_in T.kind) a.even (a.even + a.odd) (numbers_in a) T (suc w) prime in (
      below.0 ++ here.0 ∷ [],
      ap₂ (λ (r : Result (List ℕ) Unfit) (q : Result ℕ Unfit). and_then (λ ranks. map_ok (λ rank. ranks ++ rank ∷ []) q) r) below.1 here.1,
    )

pub ranks_fit : (a : Assigned) (T : PlainTable) → T.kind ≡ Prime (prime_in T.kind) → (ranks : List ℕ) × (ranks_of a T ≡ Ok ranks)
ranks_fit a T prime = ranks_fit_to a T prime T.weight

pub ranks_mean : (p : Presentation) (a : Assigned) (T : PlainTable) (ranks : List ℕ) → Holds p T → IsAssignment p a → NoneBroken p a →
    ranks_of a T ≡ Ok ranks → AreRanks p a T ranks
ranks_mean p a T ranks holds whose none e =
    let is : IsPrefix a T T.weight ranks = prefix a T T.weight ranks e in
    record { count = is.0; each = λ w one last. rank_is w one last (is.1 (w - 1) (omega (arith, one, last))) }
  where
    respected : AreRespected (prime_in p.field) a.even (a.even + a.odd) (numbers_in a) p
    respected = λ k d l. none k l d

    rank_is : (w : ℕ) → 1 ≤ w → w ≤ T.weight → rank_at a T (w - 1 + 1) ≡ Ok (get_or ranks (w - 1) 0) → IsRankOf p a w (get_or ranks (w - 1) 0)
    rank_is w one last h =
        let number : w - 1 + 1 ≡ w = omega (arith, one) in
        let here : rank_of p.field (prime_in p.field) a.even (a.even + a.odd) (numbers_in a) T w ≡ Ok (get_or ranks (w - 1) 0) =
        subst (λ k. rank_of k (prime_in k) a.even (a.even + a.odd) (numbers_in a) T w ≡ Ok (get_or ranks (w - 1) 0)) holds.kind
        (subst (λ n. rank_at a T n ≡ Ok (get_or ranks (w - 1) 0)) number h) in
        rank_means p (prime_in p.field) a.even (a.even + a.odd) (numbers_in a) whose.matrices respected T holds w (get_or ranks (w - 1) 0) one last here
