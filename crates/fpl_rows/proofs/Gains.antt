-- Numbers are added to a row one by one: what is left to add has 0 at the places that were passed.
use Rattle.std.proofs.Common.{◌≡◌, ℕ, zero, suc, ◌+◌, ◌<◌, ◌≤◌, Bool, true, List, [], ◌∷◌, ◌++◌, length, map, replicate, drop, get_or, refl, sym, ap, ◌∙◌, arith}
use Rattle.std.proofs.Math.ListN.{set}
use Rattle.std.proofs.lemmas.List.{length-map, map-set}
use Rattle.std.proofs.lemmas.List.Elements.{All-set}
use Rattle.std.specs.Prelude.{Ok, Err}
use Rattle.fpl_numbers.specs.declared.number.Num.{Num}
use Rattle.fpl_numbers.specs.declared.number.Kind.{Kind}
use Rattle.fpl_numbers.specs.declared.number.Unfit.{Unfit}
use Rattle.fpl_numbers.specs.Numbers.{IsElement, residue}
use Rattle.fpl_numbers.specs.Results.{map_ok, and_then}
use Rattle.fpl_scalar.specs.Vectors.{AreElements, fused, axpy_of}
use Rattle.fpl_scalar.proofs.AtPlaces.{elements_set}
use Rattle.fpl_scalar.proofs.Noughts.{nothing_added}
use Rattle.fpl_rows.specs.Packing.{spread, IsPacking}
use Rattle.fpl_rows.specs.Working.{IsWorking}
use Rattle.fpl_rows.proofs.AtPositions.{number_at}
use Rattle.fpl_rows.proofs.Fits.{all_tail}
use Rattle.fpl_rows.proofs.Markings.{marked_put}
use Rattle.fpl_rows.proofs.Noughts.{nought_element}
use Rattle.fpl_rows.proofs.Spreads.{length-spread, spread_drop, spread_longer, spread_low}
use Rattle.fpl_rows.proofs.SpreadSums.{axpy_place, axpy_stops, axpy_zeros}

-- one number is added, where nothing is left to add up to its place
module _ {S : Type 0} (h : S → Num) (kind : Kind) (row : List S) (rest : List Num) (c : Num) (p : ℕ) (x : S) (y : Num)
    (inside : p < length rest) (most : length rest ≤ length row) (isx : x ≡ get_or row p x)
    (low : (s : ℕ) → s ≤ p → get_or rest s (residue 0) ≡ residue 0) (is_c : IsElement kind c) where
  in_row : get_or (map h row) p (residue 0) ≡ h x
  in_row = number_at h row p x (residue 0) (omega (arith, inside, most)) isx

  passes : (z : Num) (s : ℕ) → s ≤ p → IsElement kind z → fused kind z c (get_or rest s (residue 0)) ≡ Ok z
  passes z s l is = ap (fused kind z c) (low s l) ∙ nothing_added kind z c (residue 0) is is_c (nought_element kind c is_c) refl

  pub fused_step : (v : S) → Ok (h v) ≡ fused kind (h x) c y → IsElement kind (h v) → axpy_of kind (map h row) c (set rest p y) ≡
      axpy_of kind (map h (set row p v)) c rest
  fused_step v isv is =
      let wide = length-map row h in
      axpy_place kind (map h row) rest c p y (h v) inside (omega (arith, wide, most)) (ap (λ w. fused kind w c y) in_row ∙ sym isv)
      (passes (h v) p (omega arith) is)
      ∙ ap (λ w. axpy_of kind w c rest) (sym (map-set h row p v))

  pub fused_stops : (u : Unfit) → AreElements kind (map h row) → fused kind (h x) c y ≡ Err u → axpy_of kind (map h row) c (set rest p y) ≡ Err u
  fused_stops u all e =
      let wide = length-map row h in
      axpy_stops kind (map h row) rest c p y u inside (omega (arith, wide, most))
      (λ s l. passes (get_or (map h row) s (residue 0)) s (omega (arith, l)) (all s (residue 0) (omega (arith, wide, inside, most, l))))
      (ap (λ w. fused kind w c y) in_row ∙ e)

-- the numbers at some places, from number k of the list on
module _ {E : Type 0} (f : E → Num) (n : ℕ) (ps : List ℕ) (ys : List E) (packing : IsPacking n ps (length ys)) (k : ℕ) (y : E) (lt : k < length ps)
    (isy : y ≡ get_or ys k y) where
  abbrev pub after_it : List Num
  after_it = spread n (drop (suc k) ps) (drop (suc k) (map f ys))

  pub from_it : spread n (drop k ps) (drop k (map f ys)) ≡ set after_it (get_or ps k 0) (f y)
  from_it =
      let s = packing.same in
      let m = length-map ys f in
      spread_drop n ps (map f ys) k lt (omega (arith, lt, s, m)) ∙ ap (set after_it (get_or ps k 0)) (number_at f ys k y (residue 0) (omega (arith, lt, s)) isy)

  pub after_low : (s : ℕ) → s ≤ get_or ps k 0 → get_or after_it s (residue 0) ≡ residue 0
  after_low s l = spread_low n ps (map f ys) k s packing.ascend lt l

  pub place_in : get_or ps k 0 < length after_it
  place_in = let long = length-spread n (drop (suc k) ps) (drop (suc k) (map f ys)) in let w = packing.within k lt in omega (arith, long, w)

-- a list with 0 at its first k places
abbrev pub hidden : ℕ → List Num → List Num
hidden zero ys = ys
hidden (suc k) [] = []
hidden (suc k) (y ∷ ys) = residue 0 ∷ hidden k ys

pub length-hidden : (k : ℕ) (ys : List Num) → length (hidden k ys) ≡ length ys
length-hidden zero ys = refl
length-hidden (suc k) [] = refl
length-hidden (suc k) (y ∷ ys) = ap suc (length-hidden k ys)

pub hidden_set : (k : ℕ) (ys : List Num) → k < length ys → hidden k ys ≡ set (hidden (suc k) ys) k (get_or ys k (residue 0))
hidden_set k [] l = absurd (omega arith)
hidden_set zero (y ∷ ys) l = refl
hidden_set (suc k) (y ∷ ys) l = ap (λ w. residue 0 ∷ w) (hidden_set k ys (omega (arith, l)))

pub hidden_same : (k : ℕ) (ys : List Num) → get_or ys k (residue 0) ≡ residue 0 → hidden k ys ≡ hidden (suc k) ys
hidden_same zero [] e = refl
hidden_same (suc k) [] e = refl
hidden_same zero (y ∷ ys) e = ap (λ w. w ∷ ys) e
hidden_same (suc k) (y ∷ ys) e = ap (λ w. residue 0 ∷ w) (hidden_same k ys e)

pub hidden_low : (k : ℕ) (ys : List Num) (s : ℕ) → s < k → get_or (hidden k ys) s (residue 0) ≡ residue 0
hidden_low zero ys s l = absurd (omega arith)
hidden_low (suc k) [] s l = refl
hidden_low (suc k) (y ∷ ys) zero l = refl
hidden_low (suc k) (y ∷ ys) (suc s) l = hidden_low k ys s (omega (arith, l))

pub hidden_all : (k : ℕ) (ys : List Num) → length ys ≤ k → hidden k ys ≡ replicate (length ys) (residue 0)
hidden_all zero [] l = refl
hidden_all (suc k) [] l = refl
hidden_all zero (y ∷ ys) l = absurd (omega arith)
hidden_all (suc k) (y ∷ ys) l = ap (λ w. residue 0 ∷ w) (hidden_all k ys (omega (arith, l)))

-- past the last number nothing is left to add
pub none_left : (kind : Kind) (row : List Num) (c : Num) (k : ℕ) (ys : List Num) → length ys ≤ k → AreElements kind row → IsElement kind c →
    Ok row ≡ axpy_of kind row c (hidden k ys)
none_left kind row c k ys l all is = sym (ap (axpy_of kind row c) (hidden_all k ys l) ∙ axpy_zeros kind row c (length ys) all is)

-- places past the end count as 0
axpy_tail : (kind : Kind) (xs ys : List Num) (c : Num) (d : ℕ) → AreElements kind xs → IsElement kind c →
    axpy_of kind xs c (ys ++ replicate d (residue 0)) ≡ axpy_of kind xs c ys
axpy_tail kind [] ys c d all is = refl
axpy_tail kind (x ∷ xs) [] c d all is = axpy_zeros kind (x ∷ xs) c d all is
axpy_tail kind (x ∷ xs) (y ∷ ys) c d all is = ap (λ r. and_then (λ s. map_ok (λ rest. s ∷ rest) r) (fused kind x c y))
    (axpy_tail kind xs ys c d (all_tail (IsElement kind) x xs all) is)

axpy_one_more : (kind : Kind) (xs ys : List Num) (c : Num) → AreElements kind xs → IsElement kind c →
    axpy_of kind xs c (ys ++ residue 0 ∷ []) ≡ axpy_of kind xs c ys
axpy_one_more kind xs ys c all is = axpy_tail kind xs ys c 1 all is

pub axpy_wider : (kind : Kind) (xs : List Num) (c : Num) (n d : ℕ) (ps : List ℕ) (ys : List Num) → ((k : ℕ) → k < length ps → get_or ps k 0 < n) →
    AreElements kind xs → IsElement kind c →
    axpy_of kind xs c (spread (n + d) ps ys) ≡ axpy_of kind xs c (spread n ps ys)
axpy_wider kind xs c n zero ps ys within all is = (let e : n + 0 ≡ n = omega arith in ap (λ m. axpy_of kind xs c (spread m ps ys)) e)
axpy_wider kind xs c n (suc d) ps ys within all is =
    (let e : n + suc d ≡ suc (n + d) = omega arith in ap (λ m. axpy_of kind xs c (spread m ps ys)) e)
    ∙ ap (axpy_of kind xs c) (spread_longer (n + d) ps ys (λ k l. (let w = within k l in omega (arith, w))))
    ∙ axpy_one_more kind xs (spread (n + d) ps ys) c all is
    ∙ axpy_wider kind xs c n d ps ys within all is

pub packing_wider : (n m : ℕ) (ps : List ℕ) (k : ℕ) → n ≤ m → IsPacking n ps k → IsPacking m ps k
packing_wider n m ps k l h = record { same = h.same; ascend = h.ascend; within = λ i b. (let w = h.within i b in omega (arith, w, l)) }

-- a sum is put, and its place marked
pub working_set : {S : Type 0} (kind : Kind) (has_room : S → Bool) (value : S → Num) (marks : List Bool) (sums : List S) (s : ℕ) (x : S) →
    s < length sums → has_room x ≡ true → IsElement kind (value x) →
    IsWorking kind has_room value marks sums → IsWorking kind has_room value (set marks s true) (set sums s x)
working_set kind has_room value marks sums s x l r is h = record {
  marked = marked_put value marks sums s x l h.marked;
  room = All-set (λ s. has_room s ≡ true) sums s x r h.room;
  elements = elements_set kind value sums s x h.elements is;
}
