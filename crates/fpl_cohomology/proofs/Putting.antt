-- Rows that are formed, and put in, one after the other.
use Rattle.std.specs.Prelude.{◌≡◌, ℕ, zero, suc, ◌+◌, ◌<◌, ◌≤◌, List, [], ◌∷◌, ◌++◌, length, map, drop, get_or, Result, Ok, Err, IsErrOf}
use Rattle.std.proofs.Common.{refl, sym, ap, subst, ◌∙◌, arith, append-nil, append_assoc, add-one, drop_of_length-le}
use native.Mathlib.Decide.{ℕ_discrete}
use Rattle.fpl_numbers.specs.declared.number.Num.{Num}
use Rattle.fpl_numbers.specs.declared.number.Kind.{Kind}
use Rattle.fpl_numbers.specs.declared.number.Unfit.{Unfit}
use Rattle.fpl_numbers.specs.declared.number.Fault.{Fault}
use Rattle.fpl_numbers.specs.Results.{and_then, map_ok, IsFault}
use Rattle.fpl_log.specs.declared.step.Origin.TheVariants.{Row}
use Rattle.fpl_rows.specs.Meaning.{IsRowOf}
use Rattle.plain_elimination.specs.Plain.{Elimination, insert_of}
use Rattle.fpl_table.specs.Plain.{PlainTable}
use Rattle.plain_spans.specs.Plain.{put_row, put_rows, with_held}
use Rattle.plain_spans.specs.Means.{AreAllFormed}
use Rattle.plain_spans.proofs.Putting.{fault_part, fault_first, fault_then}
use Rattle.plain_cohomology.specs.Plain.{all_of, Low, low_of, lows_of}

-- rows before those of a result
abbrev pub after_all : List (List Num) → Result (List (List Num)) Unfit → Result (List (List Num)) Unfit
after_all rows r = map_ok (λ more. rows ++ more) r

-- the fault of an answer
pub fault_here : {X T : Type 0} (fault given : Fault) (e : Result T Unfit) → IsErrOf {T = X} {E = Fault} (Err given) fault → IsFault given e → IsFault fault e
fault_here fault given e is h = (let f : given ≡ fault = cc in subst (λ f. IsFault f e) f h)

-- a row of a kind and a length, seen elsewhere
pub row_here : (kind here : Kind) (n m : ℕ) (row row' : List Num) → here ≡ kind → m ≡ n → row ≡ row' → IsRowOf kind n row → IsRowOf here m row'
row_here kind here n m row row' e f r h = subst (λ x. IsRowOf here m x) r (subst (λ j. IsRowOf here j row) (sym f) (subst (λ k. IsRowOf k n row) (sym e) h))

pub map_twice : {X Y Z : Type 0} (f : Y → Z) (h : X → Y) (xs : List X) → map (λ x. f (h x)) xs ≡ map f (map h xs)
map_twice f h [] = refl
map_twice f h (x ∷ xs) = ap (λ zs. f (h x) ∷ zs) (map_twice f h xs)

-- the next of a list
pub drop_at : {X : Type 0} (xs : List X) (k : ℕ) (x d : X) → k < length xs → x ≡ get_or xs k d → drop k xs ≡ x ∷ drop (k + 1) xs
drop_at {X} xs k x d l e = go xs k l e ∙ ap (λ j. x ∷ drop j xs) (sym (add-one k))
  where
    go : (xs : List X) (k : ℕ) → k < length xs → x ≡ get_or xs k d → drop k xs ≡ x ∷ drop (suc k) xs
    go [] k l e = absurd (omega arith)
    go (y ∷ ys) zero l e = ap (λ z. z ∷ ys) (sym e)
    go (y ∷ ys) (suc k) l e = go ys k (omega arith) e

module _ {X : Type 0} (f : X → Result (List Num) Unfit) (xs : List X) where
  abbrev pub rest : ℕ → List (Result (List Num) Unfit)
  rest k = map f (drop k xs)

  next : (k : ℕ) (x d : X) → k < length xs → x ≡ get_or xs k d → rest k ≡ f x ∷ rest (k + 1)
  next k x d l e = ap (map f) (drop_at xs k x d l e)

  -- all rows, formed
  pub formed_first : after_all [] (all_of (rest 0)) ≡ all_of (map f xs)
  formed_first = go (all_of (map f xs))
    where
      go : (r : Result (List (List Num)) Unfit) → map_ok (λ more. more) r ≡ r
      go (Ok rows) = refl
      go (Err u) = refl

  pub formed_more : (rows : List (List Num)) (k : ℕ) (x d : X) (row : List Num) → k < length xs → x ≡ get_or xs k d → f x ≡ Ok row →
      after_all (rows ++ row ∷ []) (all_of (rest (k + 1))) ≡ after_all rows (all_of (rest k))
  formed_more rows k x d row l e is = go (all_of (rest (k + 1))) ∙ sym (ap (λ r. after_all rows (all_of r)) (next k x d l e) ∙
      ap (λ r. after_all rows (and_then (λ row. map_ok (λ rows. row ∷ rows) (all_of (rest (k + 1)))) r)) is)
    where
      go : (r : Result (List (List Num)) Unfit) → after_all (rows ++ row ∷ []) r ≡ after_all rows (map_ok (λ rows. row ∷ rows) r)
      go (Ok more) = ap Ok (append_assoc rows (row ∷ []) more)
      go (Err u) = refl

  pub formed_last : (rows : List (List Num)) (k : ℕ) → length xs ≤ k → after_all rows (all_of (rest k)) ≡ Ok rows
  formed_last rows k l = ap (λ ys. after_all rows (all_of (map f ys))) (drop_of_length-le xs l) ∙ ap Ok (append-nil rows)

  all_stops : (k : ℕ) (x d : X) (fault : Fault) → k < length xs → x ≡ get_or xs k d → IsFault fault (f x) → IsFault fault (all_of (rest k))
  all_stops k x d fault l e h =
      subst (λ rs. IsFault fault (all_of rs)) (sym (next k x d l e)) (fault_first (λ row. map_ok (λ rows. row ∷ rows) (all_of (rest (k + 1)))) fault (f x) h)

  pub formed_stops : (rows : List (List Num)) (k : ℕ) (x d : X) (fault : Fault) → k < length xs → x ≡ get_or xs k d → IsFault fault (f x) →
      IsFault fault (after_all rows (all_of (rest k)))
  formed_stops rows k x d fault l e h = fault_part (λ more. rows ++ more) fault (all_of (rest k)) (all_stops k x d fault l e h)

  -- whether all can be formed
  pub record IsLeft (k : ℕ) : Type 0 where
    pub formed : AreAllFormed (rest k) → AreAllFormed (map f xs)
    pub fault : (fault : Fault) → IsFault fault (all_of (rest k)) → IsFault fault (all_of (map f xs))

  pub left_first : IsLeft 0
  left_first = record { formed = λ h. h; fault = λ fault h. h }

  pub left_more : (k : ℕ) (x d : X) (row : List Num) → k < length xs → x ≡ get_or xs k d → f x ≡ Ok row → IsLeft k → IsLeft (k + 1)
  left_more k x d row l e is h =
      let same : rest k ≡ Ok row ∷ rest (k + 1) = next k x d l e ∙ ap (λ r. r ∷ rest (k + 1)) is in
      record {
        formed = λ a. h.formed (subst AreAllFormed (sym same) a);
        fault = λ fault a. h.fault fault (subst (λ rs. IsFault fault (all_of rs)) (sym same) (fault_part (λ rows. row ∷ rows) fault (all_of (rest (k + 1))) a));
      }

  pub left_last : (k : ℕ) → length xs ≤ k → IsLeft k → AreAllFormed (map f xs)
  left_last k l h = h.formed (subst (λ ys. AreAllFormed (map f ys)) (sym (drop_of_length-le xs l)) tt)

  pub left_stops : (k : ℕ) (x d : X) (fault : Fault) → k < length xs → x ≡ get_or xs k d → IsFault fault (f x) → IsLeft k → IsFault fault (all_of (map f xs))
  left_stops k x d fault l e h left = left.fault fault (all_stops k x d fault l e h)

  -- rows put in
  module _ (start : Result Elimination Unfit) (e : Elimination) (k : ℕ) (so_far : start ≡ put_rows (rest k) e) where
    pub put_next : (x d : X) (row : List Num) (new : Elimination) → k < length xs → x ≡ get_or xs k d → f x ≡ Ok row → put_row (Ok row) e ≡ Ok new →
        start ≡ put_rows (rest (k + 1)) new
    put_next x d row new l is formed put =
        so_far ∙ ap (λ rs. put_rows rs e) (next k x d l is) ∙ ap (λ r. and_then (put_rows (rest (k + 1))) (put_row r e)) formed
        ∙ ap (and_then (put_rows (rest (k + 1)))) put

    pub put_stops : (x d : X) (row : List Num) (fault : Fault) → k < length xs → x ≡ get_or xs k d → f x ≡ Ok row → IsFault fault (put_row (Ok row) e) →
        IsFault fault start
    put_stops x d row fault l is formed h =
        subst (IsFault fault) (sym (so_far ∙ ap (λ rs. put_rows rs e) (next k x d l is) ∙ ap (λ r. and_then (put_rows (rest (k + 1))) (put_row r e)) formed))
        (fault_first (put_rows (rest (k + 1))) fault (put_row (Ok row) e) h)

    pub form_stops : (x d : X) (fault : Fault) → k < length xs → x ≡ get_or xs k d → IsFault fault (f x) → IsFault fault start
    form_stops x d fault l is h =
        subst (IsFault fault) (sym (so_far ∙ ap (λ rs. put_rows rs e) (next k x d l is)))
        (fault_first (put_rows (rest (k + 1))) fault (put_row (f x) e)
        (fault_first (λ row. map_ok (λ x. with_held e x.held) (insert_of e row (Row 0))) fault (f x) h))

    pub put_last : length xs ≤ k → start ≡ Ok e
    put_last l = so_far ∙ ap (λ ys. put_rows (map f ys) e) (drop_of_length-le xs l)

-- the weights one after the other
module _ (T : PlainTable) (w : ℕ) (lows : List Low) (so_far : lows_of T w ≡ Ok lows) where
  pub lows_next : (low : Low) (new : List Low) → low_of T (w + 1) ≡ Ok low → new ≡ lows ++ low ∷ [] → lows_of T (w + 1) ≡ Ok new
  lows_next low new e n =
      ap (lows_of T) (add-one w)
      ∙ ap (and_then (λ lows. map_ok (λ low. lows ++ low ∷ []) (low_of T (suc w)))) so_far
      ∙ ap (map_ok (λ low. lows ++ low ∷ [])) (ap (low_of T) (sym (add-one w)) ∙ e) ∙ ap Ok (sym n)

  pub lows_stop : (fault : Fault) → IsFault fault (low_of T (w + 1)) → (d : ℕ) → w < d → IsFault fault (lows_of T d)
  lows_stop fault h zero l = absurd (omega arith)
  lows_stop fault h (suc d) l = go (ℕ_discrete w d) (λ m. lows_stop fault h d m)
    where
      go : Dec (w ≡ d) → (w < d → IsFault fault (lows_of T d)) → IsFault fault (lows_of T (suc d))
      go (yes e) k =
          subst (λ d. IsFault fault (lows_of T (suc d))) e
          (fault_then (λ lows. map_ok (λ low. lows ++ low ∷ []) (low_of T (suc w))) fault (lows_of T w) lows so_far
          (fault_part (λ low. lows ++ low ∷ []) fault (low_of T (suc w)) (subst (λ v. IsFault fault (low_of T v)) (add-one w) h)))
      go (no e) k = fault_first (λ lows. map_ok (λ low. lows ++ low ∷ []) (low_of T (suc d))) fault (lows_of T d) (k (omega arith))
