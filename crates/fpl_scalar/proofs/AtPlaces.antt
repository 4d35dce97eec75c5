-- One place of a row, and the work that a loop over the places has left.
use Rattle.std.proofs.Common.{◌≡◌, ℕ, suc, true, false, ◌+◌, ◌<◌, List, [], ◌∷◌, ◌++◌, length, take, drop, get_or, map, refl, sym, ap, ◌∙◌, subst, arith, add-one, append_assoc}
use Rattle.std.proofs.Math.ListN.{set}
use Rattle.std.proofs.Math.Seq.{drop-cons, take-suc-set}
use Rattle.std.proofs.lemmas.List.{drop-set-lt, map-set, length-map, get_or-map, take_more}
use Rattle.std.proofs.lemmas.List.Elements.{All-set}
use Rattle.std.proofs.lemmas.Grind.{common_steps}
use Rattle.std.specs.Prelude.{Result, Ok, Err, Option, Some, None, option_map}
use Rattle.fpl_numbers.specs.declared.number.Num.{Num}
use Rattle.fpl_numbers.specs.declared.number.Kind.{Kind}
use Rattle.fpl_numbers.specs.declared.number.Unfit.{Unfit}
use Rattle.fpl_numbers.specs.declared.number.Op.TheVariants.{Add, Mul}
use Rattle.fpl_numbers.specs.Numbers.{IsElement, operate, is_nought}
use Rattle.fpl_numbers.specs.Results.{map_ok, and_then}
use Rattle.fpl_scalar.specs.Vectors.{AreElements, fused, stands_after, axpy_of, axpied, scale_of, scaled, first_of}

-- what holds of every number of a row holds of the number of one element
pub element_at : {E : Type 0} (kind : Kind) (f : E → Num) (xs : List E) (i : ℕ) (x : E) → AreElements kind (map f xs) → i < length xs →
    x ≡ get_or xs i x → IsElement kind (f x)
element_at kind f xs i x all lt is =
    let lt' : i < length (map f xs) = rw length-map lt in
    let at : get_or (map f xs) i (f x) ≡ f x = get_or-map f xs i x (f x) lt ∙ ap f (sym is) in
    let P : Num → Type 0 = λ a. IsElement kind a in
    subst P at (all i (f x) lt')

pub elements_set : {E : Type 0} (kind : Kind) (f : E → Num) (xs : List E) (i : ℕ) (x : E) → AreElements kind (map f xs) → IsElement kind (f x) →
    AreElements kind (map f (set xs i x))
elements_set kind f xs i x all one = rw (map-set f xs i x) (All-set (IsElement kind) (map f xs) i (f x) one all)

moved : (xs : List Num) (v : Num) (r : Result (List Num) Unfit) → map_ok (λ rest. xs ++ rest) (map_ok (λ rest. v ∷ rest) r) ≡
    map_ok (λ rest. (xs ++ (v ∷ [])) ++ rest) r
moved xs v (Ok rest) = ap Ok (rw append_assoc refl)
moved xs v (Err e) = refl

-- where the work left stops, all of it stops
pub stops : (all r : Result (List Num) Unfit) (xs : List Num) (u : Unfit) → all ≡ map_ok (λ rest. xs ++ rest) r → r ≡ Err u → Err u ≡ all
stops all r xs u e h = rw (e, h) refl

-- the list from place i on, whose first place is at hand
first_at : {E : Type 0} (f : E → Num) (row : List E) (i : ℕ) (x : E) → i < length row → x ≡ get_or row i x → drop i (map f row) ≡ f x ∷ drop (i + 1) (map f row)
first_at f row i x lt isx =
    let ltr : i < length (map f row) = rw length-map lt in
    rw (drop-cons (map f row) i (f x) ltr, get_or-map f row i x (f x) lt, ← isx, add-one) refl

-- where nothing more is done, the list is as it stands
pub left_standing : {E : Type 0} (f : E → Num) (row : List E) (i : ℕ) (all r : List Num) → all ≡ take i (map f row) ++ r → r ≡ drop i (map f row) →
    map f row ≡ all
left_standing f row i all r e h =
    let t : take i (map f row) ++ drop i (map f row) ≡ map f row = grind (arith, common_steps) in
    sym (e ∙ ap (λ w. take i (map f row) ++ w) h ∙ t)

set_before : {E : Type 0} (f : E → Num) (row : List E) (i : ℕ) (v : E) → i < length row → take (i + 1) (map f (set row i v)) ≡ take i (map f row) ++ (f v ∷ [])
set_before f row i v lt =
    let ltr : i < length (map f row) = rw length-map lt in
    rw (map-set f row i v, add-one) (take-suc-set (map f row) i (f v) ltr)

set_after : {E : Type 0} (f : E → Num) (row : List E) (i : ℕ) (v : E) → drop (i + 1) (map f (set row i v)) ≡ drop (i + 1) (map f row)
set_after f row i v = rw (map-set f row i v) (drop-set-lt (i + 1) (map f row) i (f v) (omega arith))

kept_before : {E : Type 0} (f : E → Num) (row : List E) (i : ℕ) (x : E) → i < length row → x ≡ get_or row i x →
    take (i + 1) (map f row) ≡ take i (map f row) ++ (f x ∷ [])
kept_before f row i x lt isx =
    let ltr : i < length (map f row) = rw length-map lt in
    take_more (map f row) i (f x) ltr ∙ ap (λ w. take i (map f row) ++ (w ∷ [])) (get_or-map f row i x (f x) lt ∙ ap f (sym isx))

module _ {E : Type 0} (kind : Kind) (f : E → Num) (row other : List E) (c : Num) (i : ℕ) (x y : E)
    (lt : i < length row) (same : length row ≡ length other) (isx : x ≡ get_or row i x) (isy : y ≡ get_or other i y) where
  -- the work left from place i on
  left_of : axpy_of kind (drop i (map f row)) c (drop i (map f other)) ≡ axpy_of kind (f x ∷ drop (i + 1) (map f row)) c (f y ∷ drop (i + 1) (map f other))
  left_of = rw (first_at f row i x lt isx, first_at f other i y (omega (arith, lt, same)) isy) refl

  stands_of : axpied kind (drop i (map f row)) c (drop i (map f other)) ≡ axpied kind (f x ∷ drop (i + 1) (map f row)) c (f y ∷ drop (i + 1) (map f other))
  stands_of = rw (first_at f row i x lt isx, first_at f other i y (omega (arith, lt, same)) isy) refl

  -- a product that does not fit ends the work
  pub axpy_mul : (u : Unfit) → Err u ≡ operate kind Mul c (f y) → axpy_of kind (drop i (map f row)) c (drop i (map f other)) ≡ Err u
  axpy_mul u m = rw (left_of, ← m) refl

  pub stands_mul : (u : Unfit) → Err u ≡ operate kind Mul c (f y) → axpied kind (drop i (map f row)) c (drop i (map f other)) ≡ drop i (map f row)
  stands_mul u m = stands_of ∙ rw (← m) (sym (first_at f row i x lt isx))

  -- a sum that does not fit ends the work
  pub axpy_add : (m : Num) (u : Unfit) → Ok m ≡ operate kind Mul c (f y) → Err u ≡ operate kind Add (f x) m →
      axpy_of kind (drop i (map f row)) c (drop i (map f other)) ≡ Err u
  axpy_add m u ism isu = rw (left_of, ← ism, ← isu) refl

  pub stands_add : (m : Num) (u : Unfit) → Ok m ≡ operate kind Mul c (f y) → Err u ≡ operate kind Add (f x) m →
      axpied kind (drop i (map f row)) c (drop i (map f other)) ≡ drop i (map f row)
  stands_add m u ism isu = stands_of ∙ rw (← ism, ← isu) (sym (first_at f row i x lt isx))

  -- after place i the work left is that of the next place
  pub axpy_step : (v : E) (m : Num) → Ok m ≡ operate kind Mul c (f y) → Ok (f v) ≡ operate kind Add (f x) m →
      map_ok (λ rest. take i (map f row) ++ rest) (axpy_of kind (drop i (map f row)) c (drop i (map f other))) ≡
      map_ok (λ rest. take (i + 1) (map f (set row i v)) ++ rest) (axpy_of kind (drop (i + 1) (map f (set row i v))) c (drop (i + 1) (map f other)))
  axpy_step v m ism isv =
      rw (left_of, ← ism, ← isv, set_before f row i v lt, set_after f row i v)
      (moved (take i (map f row)) (f v) (axpy_of kind (drop (i + 1) (map f row)) c (drop (i + 1) (map f other))))

  pub stands_step : (v : E) (m : Num) → Ok m ≡ operate kind Mul c (f y) → Ok (f v) ≡ operate kind Add (f x) m →
      take i (map f row) ++ axpied kind (drop i (map f row)) c (drop i (map f other)) ≡
      take (i + 1) (map f (set row i v)) ++ axpied kind (drop (i + 1) (map f (set row i v))) c (drop (i + 1) (map f other))
  stands_step v m ism isv =
      rw (stands_of, ← ism, ← isv, set_before f row i v lt, set_after f row i v)
      (sym (append_assoc (take i (map f row)) (f v ∷ []) (axpied kind (drop (i + 1) (map f row)) c (drop (i + 1) (map f other)))))

  -- a place to which nothing is added keeps its number
  pub axpy_pass : fused kind (f x) c (f y) ≡ Ok (f x) →
      map_ok (λ rest. take i (map f row) ++ rest) (axpy_of kind (drop i (map f row)) c (drop i (map f other))) ≡
      map_ok (λ rest. take (i + 1) (map f row) ++ rest) (axpy_of kind (drop (i + 1) (map f row)) c (drop (i + 1) (map f other)))
  axpy_pass e =
      let rest : Result (List Num) Unfit = axpy_of kind (drop (i + 1) (map f row)) c (drop (i + 1) (map f other)) in
      ap (map_ok (λ rest. take i (map f row) ++ rest))
      (left_of ∙ ap (and_then (λ s. map_ok (λ rest. s ∷ rest) (axpy_of kind (drop (i + 1) (map f row)) c (drop (i + 1) (map f other))))) e)
      ∙ moved (take i (map f row)) (f x) rest ∙
      ap (λ w. map_ok (λ rest. w ++ rest) (axpy_of kind (drop (i + 1) (map f row)) c (drop (i + 1) (map f other)))) (sym (kept_before f row i x lt isx))

  pub stands_pass : fused kind (f x) c (f y) ≡ Ok (f x) →
      take i (map f row) ++ axpied kind (drop i (map f row)) c (drop i (map f other)) ≡
      take (i + 1) (map f row) ++ axpied kind (drop (i + 1) (map f row)) c (drop (i + 1) (map f other))
  stands_pass e =
      let rest : List Num = axpied kind (drop (i + 1) (map f row)) c (drop (i + 1) (map f other)) in
      ap (λ w. take i (map f row) ++ w) (stands_of ∙ ap (stands_after (f x ∷ drop (i + 1) (map f row)) rest) e)
      ∙ sym (append_assoc (take i (map f row)) (f x ∷ []) rest) ∙ ap (λ w. w ++ rest) (sym (kept_before f row i x lt isx))

module _ {E : Type 0} (kind : Kind) (f : E → Num) (row : List E) (c : Num) (i : ℕ) (x : E) (lt : i < length row) (isx : x ≡ get_or row i x) where
  pub scale_mul : (u : Unfit) → Err u ≡ operate kind Mul c (f x) → scale_of kind c (drop i (map f row)) ≡ Err u
  scale_mul u m = rw (first_at f row i x lt isx, ← m) refl

  pub scaled_mul : (u : Unfit) → Err u ≡ operate kind Mul c (f x) → scaled kind c (drop i (map f row)) ≡ drop i (map f row)
  scaled_mul u m = ap (scaled kind c) (first_at f row i x lt isx) ∙ rw (← m) (sym (first_at f row i x lt isx))

  pub scale_step : (v : E) → Ok (f v) ≡ operate kind Mul c (f x) →
      map_ok (λ rest. take i (map f row) ++ rest) (scale_of kind c (drop i (map f row))) ≡
      map_ok (λ rest. take (i + 1) (map f (set row i v)) ++ rest) (scale_of kind c (drop (i + 1) (map f (set row i v))))
  scale_step v isv =
      rw (first_at f row i x lt isx, ← isv, set_before f row i v lt, set_after f row i v) (moved (take i (map f row)) (f v)
      (scale_of kind c (drop (i + 1) (map f row))))

  pub scaled_step : (v : E) → Ok (f v) ≡ operate kind Mul c (f x) →
      take i (map f row) ++ scaled kind c (drop i (map f row)) ≡ take (i + 1) (map f (set row i v)) ++ scaled kind c (drop (i + 1) (map f (set row i v)))
  scaled_step v isv =
      rw (first_at f row i x lt isx, ← isv, set_before f row i v lt, set_after f row i v) (sym
      (append_assoc (take i (map f row)) (f v ∷ []) (scaled kind c (drop (i + 1) (map f row)))))

  -- a place whose number is its own multiple keeps it
  pub scale_pass : operate kind Mul c (f x) ≡ Ok (f x) →
      map_ok (λ rest. take i (map f row) ++ rest) (scale_of kind c (drop i (map f row))) ≡
      map_ok (λ rest. take (i + 1) (map f row) ++ rest) (scale_of kind c (drop (i + 1) (map f row)))
  scale_pass e = rw (first_at f row i x lt isx, e, kept_before f row i x lt isx) (moved (take i (map f row)) (f x) (scale_of kind c (drop (i + 1) (map f row))))

  pub scaled_pass : operate kind Mul c (f x) ≡ Ok (f x) →
      take i (map f row) ++ scaled kind c (drop i (map f row)) ≡ take (i + 1) (map f row) ++ scaled kind c (drop (i + 1) (map f row))
  scaled_pass e = rw (first_at f row i x lt isx, e, kept_before f row i x lt isx)
      (sym (append_assoc (take i (map f row)) (f x ∷ []) (scaled kind c (drop (i + 1) (map f row)))))

-- the first place that is not 0, looked for from place i on
map_shift : (i : ℕ) (o : Option ℕ) → option_map (λ k. i + k) (option_map suc o) ≡ option_map (λ k. (i + 1) + k) o
map_shift i None = refl
map_shift i (Some k) = ap Some (omega arith)

module _ {E : Type 0} (f : E → Num) (row : List E) (i : ℕ) (x : E) (lt : i < length row) (isx : x ≡ get_or row i x) where
  pub first_here : is_nought (f x) ≡ false → option_map (λ k. i + k) (first_of (drop i (map f row))) ≡ Some i
  first_here z = rw (first_at f row i x lt isx, z) (ap Some (omega arith))

  pub first_later : is_nought (f x) ≡ true → option_map (λ k. i + k) (first_of (drop i (map f row))) ≡
      option_map (λ k. (i + 1) + k) (first_of (drop (i + 1) (map f row)))
  first_later z = rw (first_at f row i x lt isx, z) (map_shift i (first_of (drop (i + 1) (map f row))))
