-- A row is gathered from its front on, and then scaled.
use Rattle.std.proofs.Common.{◌≡◌, ℕ, zero, suc, ◌+◌, ◌<◌, ◌≤◌, List, [], ◌∷◌, ◌++◌, length, map, take, replicate, get_or, refl, sym, ap, ◌∙◌, subst, arith, add-one}
use Rattle.std.proofs.Math.ListN.{set}
use Rattle.std.proofs.lemmas.List.{length-map, map-append, length-append}
use Rattle.std.specs.Prelude.{Result, Ok, Err}
use native.Mathlib.Decide.{ℕ_discrete}
use Rattle.fpl_numbers.specs.declared.number.Num.{Num}
use Rattle.fpl_numbers.specs.declared.number.Kind.{Kind}
use Rattle.fpl_numbers.specs.declared.number.Op.TheVariants.{Mul}
use Rattle.fpl_numbers.specs.declared.number.Unfit.{Unfit}
use Rattle.fpl_numbers.specs.Numbers.{IsElement, operate, residue}
use Rattle.fpl_numbers.specs.Results.{map_ok, and_then}
use Rattle.fpl_scalar.specs.Vectors.{AreElements, scale_of}
use Rattle.fpl_scalar.proofs.Noughts.{nothing_multiplied}
use Rattle.fpl_rows.specs.Packing.{spread, IsPacking}
use Rattle.fpl_rows.proofs.AtPositions.{number_at, elements_more}
use Rattle.fpl_rows.proofs.Noughts.{nought_element}
use Rattle.fpl_rows.proofs.Packings.{packing_more}
use Rattle.fpl_rows.proofs.Spreads.{length-spread, spread_none, spread_longer, spread_more}

take_one : (xs : List Num) (s : ℕ) → s < length xs → take (suc s) xs ≡ take s xs ++ get_or xs s (residue 0) ∷ []
take_one [] s l = absurd (omega arith)
take_one (x ∷ xs) zero l = refl
take_one (x ∷ xs) (suc s) l = ap (λ w. x ∷ w) (take_one xs s (omega arith))

-- the numbers at the places show the row up to place s
pub record Shows (xs : List Num) (s : ℕ) (ps : List ℕ) (ys : List Num) : Type 0 where
  pub within : s ≤ length xs
  pub packing : IsPacking s ps (length ys)
  pub shown : spread s ps ys ≡ take s xs

pub shows_none : (xs : List Num) → Shows xs 0 [] []
shows_none xs = record {
  within = omega arith;
  packing = record {
    same = refl;
    ascend = λ i j l m. absurd (omega arith);
    within =
        λ i l. absurd (omega arith);
  };
  shown = refl;
}

-- where the numbers are 0 nothing is put
pub shows_on : (xs : List Num) (s n : ℕ) (ps : List ℕ) (ys : List Num) → Shows xs s ps ys → s ≤ n → n ≤ length xs →
    ((t : ℕ) → s ≤ t → t < n → get_or xs t (residue 0) ≡ residue 0) → Shows xs n ps ys
shows_on xs s n ps ys h l m none = record {
  within = m;
  packing = record { same = h.packing.same; ascend = h.packing.ascend; within = λ i k. (let w = h.packing.within i k in omega (arith, w, l)) };
  shown = go n l m none;
}
  where
    go : (n : ℕ) → s ≤ n → n ≤ length xs → ((t : ℕ) → s ≤ t → t < n → get_or xs t (residue 0) ≡ residue 0) → spread n ps ys ≡ take n xs
    go zero l m none = (let e : s ≡ 0 = omega arith in subst (λ k. spread k ps ys ≡ take k xs) e h.shown)
    go (suc n) l m none = elim (ℕ_discrete s (suc n)) [
      | yes e ↦ subst (λ k. spread k ps ys ≡ take k xs) e h.shown
      | no d ↦ spread_longer n ps ys (λ k b. (let w = h.packing.within k b in omega arith)) ∙
          ap (λ w. w ++ residue 0 ∷ []) (go n (omega arith) (omega arith) (λ t a b. none t a (omega arith)))
          ∙ ap (λ v. take n xs ++ v ∷ []) (sym (none n (omega arith) (omega arith))) ∙ sym (take_one xs n (omega arith))
    ]

-- the number of place s is put
pub shows_more : (xs : List Num) (s : ℕ) (ps : List ℕ) (ys : List Num) (y : Num) → Shows xs s ps ys → s < length xs → get_or xs s (residue 0) ≡ y →
    Shows xs (suc s) (ps ++ s ∷ []) (ys ++ y ∷ [])
shows_more xs s ps ys y h l e = record {
  within = l;
  packing = subst (IsPacking (suc s) (ps ++ s ∷ [])) (sym (length-append ys (y ∷ []) ∙ add-one (length ys))) (packing_more s ps (length ys) h.packing);
  shown = spread_more s ps ys y h.packing.same h.packing.within ∙ ap (λ w. w ++ y ∷ []) h.shown ∙ ap (λ v. take s xs ++ v ∷ []) (sym e) ∙ sym (take_one xs s l);
}

whole : {X : Type 0} (xs : List X) → take (length xs) xs ≡ xs
whole [] = refl
whole (x ∷ xs) = ap (λ w. x ∷ w) (whole xs)

pub shows_all : (xs : List Num) (s : ℕ) (ps : List ℕ) (ys : List Num) → Shows xs s ps ys → length xs ≤ s → spread (length xs) ps ys ≡ xs
shows_all xs s ps ys h l =
    let w = h.within in
    let e : s ≡ length xs = omega arith in
    subst (λ k. spread k ps ys ≡ take k xs) e h.shown ∙ whole xs

-- scaling
set_front : (r : Result (List Num) Unfit) (y v : Num) → map_ok (λ zs. v ∷ zs) r ≡ map_ok (λ zs. set zs 0 v) (map_ok (λ zs. y ∷ zs) r)
set_front (Ok zs) y v = refl
set_front (Err u) y v = refl

set_later : (r : Result (List Num) Unfit) (y v : Num) (p : ℕ) → map_ok (λ zs. y ∷ zs) (map_ok (λ zs. set zs p v) r) ≡
    map_ok (λ zs. set zs (suc p) v) (map_ok (λ zs. y ∷ zs) r)
set_later (Ok zs) y v p = refl
set_later (Err u) y v p = refl

module _ (kind : Kind) (c : Num) (is : IsElement kind c) where
  stays : (y : Num) → y ≡ residue 0 → operate kind Mul c y ≡ Ok y
  stays y e = ap (operate kind Mul c) e ∙ nothing_multiplied kind c (residue 0) is (nought_element kind c is) refl ∙ ap Ok (sym e)

  scale_zeros : (n : ℕ) → scale_of kind c (replicate n (residue 0)) ≡ Ok (replicate n (residue 0))
  scale_zeros zero = refl
  scale_zeros (suc n) = ap (and_then (λ m. map_ok (λ rest. m ∷ rest) (scale_of kind c (replicate n (residue 0))))) (stays (residue 0) refl) ∙
      ap (map_ok (λ rest. residue 0 ∷ rest)) (scale_zeros n)

  scale_place : (w : List Num) (p : ℕ) (x v : Num) → p < length w → ((s : ℕ) → s ≤ p → get_or w s (residue 0) ≡ residue 0) →
      operate kind Mul c x ≡ Ok v → scale_of kind c (set w p x) ≡ map_ok (λ zs. set zs p v) (scale_of kind c w)
  scale_place [] p x v l low e = absurd (omega arith)
  scale_place (y ∷ w) zero x v l low e =
      ap (and_then (λ m. map_ok (λ rest. m ∷ rest) (scale_of kind c w))) e ∙ set_front (scale_of kind c w) y v
      ∙ ap (map_ok (λ zs. set zs 0 v)) (ap (and_then (λ m. map_ok (λ rest. m ∷ rest) (scale_of kind c w))) (sym (stays y (low 0 (omega arith)))))
  scale_place (y ∷ w) (suc p) x v l low e =
      ap (and_then (λ m. map_ok (λ rest. m ∷ rest) (scale_of kind c (set w p x)))) (stays y (low 0 (omega arith)))
      ∙ ap (map_ok (λ rest. y ∷ rest)) (scale_place w p x v (omega arith) (λ s l. low (suc s) (omega arith)) e)
      ∙ set_later (scale_of kind c w) y v p
      ∙ ap (map_ok (λ zs. set zs (suc p) v)) (ap (and_then (λ m. map_ok (λ rest. m ∷ rest) (scale_of kind c w))) (sym (stays y (low 0 (omega arith)))))

  scale_stops : (w : List Num) (p : ℕ) (x : Num) (u : Unfit) → p < length w → ((s : ℕ) → s ≤ p → get_or w s (residue 0) ≡ residue 0) →
      operate kind Mul c x ≡ Err u → scale_of kind c (set w p x) ≡ Err u
  scale_stops [] p x u l low e = absurd (omega arith)
  scale_stops (y ∷ w) zero x u l low e = ap (and_then (λ m. map_ok (λ rest. m ∷ rest) (scale_of kind c w))) e
  scale_stops (y ∷ w) (suc p) x u l low e =
      ap (and_then (λ m. map_ok (λ rest. m ∷ rest) (scale_of kind c (set w p x)))) (stays y (low 0 (omega arith)))
      ∙ ap (map_ok (λ rest. y ∷ rest)) (scale_stops w p x u (omega arith) (λ s l. low (suc s) (omega arith)) e)

  put_back : (r : Result (List Num) Unfit) (n p : ℕ) (ps : List ℕ) (v : Num) → map_ok (λ zs. set zs p v) (map_ok (spread n ps) r) ≡
      map_ok (spread n (p ∷ ps)) (map_ok (λ rest. v ∷ rest) r)
  put_back (Ok zs) n p ps v = refl
  put_back (Err u) n p ps v = refl

  -- a row is scaled by scaling the numbers at its places
  pub scale_spread : (n : ℕ) (ps : List ℕ) (xs : List Num) → length ps ≡ length xs → ((i j : ℕ) → i < j → j < length ps →
      get_or ps i 0 < get_or ps j 0) → ((i : ℕ) → i < length ps → get_or ps i 0 < n) →
      scale_of kind c (spread n ps xs) ≡ map_ok (spread n ps) (scale_of kind c xs)
  scale_spread n [] [] same ascend within = scale_zeros n
  scale_spread n [] (x ∷ xs) same ascend within = absurd (omega arith)
  scale_spread n (p ∷ ps) [] same ascend within = absurd (omega arith)
  scale_spread n (p ∷ ps) (x ∷ xs) same ascend within =
      go (scale_spread n ps xs (omega arith) (λ i j l m. ascend (suc i) (suc j) (omega arith) (omega arith)) (λ i l. within (suc i) (omega arith)))
      (operate kind Mul c x) refl
    where
      inside : p < length (spread n ps xs)
      inside = let e = length-spread n ps xs in let w = within 0 (omega arith) in omega (arith, e, w)

      low : (s : ℕ) → s ≤ p → get_or (spread n ps xs) s (residue 0) ≡ residue 0
      low s l = spread_none n ps xs s (λ k m e. (let a = ascend 0 (suc k) (omega arith) (omega arith) in omega (arith, a, e, l)))

      go : scale_of kind c (spread n ps xs) ≡ map_ok (spread n ps) (scale_of kind c xs) → (r : Result Num Unfit) → operate kind Mul c x ≡ r →
          scale_of kind c (set (spread n ps xs) p x) ≡
          map_ok (spread n (p ∷ ps)) (and_then (λ m. map_ok (λ rest. m ∷ rest) (scale_of kind c xs)) (operate kind Mul c x))
      go rest (Ok v) e =
          scale_place (spread n ps xs) p x v inside low e ∙ ap (map_ok (λ zs. set zs p v)) rest ∙ put_back (scale_of kind c xs) n p ps v
          ∙ ap (map_ok (spread n (p ∷ ps))) (ap (and_then (λ m. map_ok (λ rest. m ∷ rest) (scale_of kind c xs))) (sym e))
      go rest (Err u) e =
          scale_stops (spread n ps xs) p x u inside low e
          ∙ ap (map_ok (spread n (p ∷ ps))) (ap (and_then (λ m. map_ok (λ rest. m ∷ rest) (scale_of kind c xs))) (sym e))

-- the same of what a loop holds: row shows by h what the numbers that were gathered show by f
pub record Holds {S E : Type 0} (kind : Kind) (h : S → Num) (f : E → Num) (row : List S) (s : ℕ) (ps : List ℕ) (ys : List E) : Type 0 where
  pub shows : Shows (map h row) s ps (map f ys)
  pub elements : AreElements kind (map f ys)

module _ {S E : Type 0} (h : S → Num) (f : E → Num) (row : List S) where
  pub start_put : (kind : Kind) (s : ℕ) (ps : List ℕ) (ys : List E) → ps ≡ [] → ys ≡ [] → s ≤ length row →
      ((k : ℕ) → k < s → get_or (map h row) k (residue 0) ≡ residue 0) → Holds kind h f row s ps ys
  start_put kind s ps ys e d l none = record {
    shows = subst (λ p. Shows (map h row) s p (map f ys)) (sym e) (subst (λ y. Shows (map h row) s [] (map f y)) (sym d)
        (shows_on (map h row) 0 s [] [] (shows_none (map h row)) (omega arith) (let q = length-map row h in omega (arith, q, l)) (λ k a b. none k b)));
    elements = subst (λ y. AreElements kind (map f y)) (sym d) (λ k z l. absurd (omega arith));
  }

  pub step_put : (s next : ℕ) (ps more : List ℕ) (ys longer : List E) (x : S) (y : E) → Shows (map h row) s ps (map f ys) → s < length row →
      x ≡ get_or row s x → f y ≡ h x → more ≡ ps ++ s ∷ [] → longer ≡ ys ++ y ∷ [] →
      s + 1 ≤ next → next ≤ length row → ((k : ℕ) → s + 1 ≤ k → k < next → get_or (map h row) k (residue 0) ≡ residue 0) →
      Shows (map h row) next more (map f longer)
  step_put s next ps more ys longer x y shows l is same e d m w none =
      let q = length-map row h in
      subst (λ p. Shows (map h row) next p (map f longer)) (sym e) (subst (λ z. Shows (map h row) next (ps ++ s ∷ []) z)
      (sym (ap (map f) d ∙ map-append f ys (y ∷ [])))
      (shows_on (map h row) (suc s) next (ps ++ s ∷ []) (map f ys ++ f y ∷ []) (shows_more (map h row) s ps (map f ys) (f y) shows
      (omega (arith, q, l)) (number_at h row s x (residue 0) l is ∙ sym same)) (omega arith) (omega (arith, q, w)) (λ k a b. none k (omega arith) b)))

  pub shows_packing : (s : ℕ) (ps : List ℕ) (ys : List E) → Shows (map h row) s ps (map f ys) → IsPacking (length row) ps (length ys)
  shows_packing s ps ys shows =
      let q = length-map row h in
      let w = shows.within in
      record {
        same = shows.packing.same ∙ length-map ys f;
        ascend = shows.packing.ascend;
        within =
            λ i l. (let a = shows.packing.within i l in omega (arith, a, q, w));
      }

  pub shows_whole : (s : ℕ) (ps : List ℕ) (ys : List E) → Shows (map h row) s ps (map f ys) → length row ≤ s → spread (length row) ps (map f ys) ≡ map h row
  shows_whole s ps ys shows l =
      let q = length-map row h in
      ap (λ n. spread n ps (map f ys)) (sym q) ∙ shows_all (map h row) s ps (map f ys) shows (omega (arith, q, l))

pub elements_put : {E : Type 0} (kind : Kind) (f : E → Num) (ys longer : List E) (x : E) → AreElements kind (map f ys) → IsElement kind (f x) →
    longer ≡ ys ++ x ∷ [] → AreElements kind (map f longer)
elements_put kind f ys longer x h i d = subst (AreElements kind) (sym (ap (map f) d ∙ map-append f ys (x ∷ []))) (elements_more kind (map f ys) (f x) h i)

-- the numbers that were gathered are scaled
pub scaled_row : {E : Type 0} (kind : Kind) (f : E → Num) (c : Num) (row : List Num) (n : ℕ) (ys scaled : List E) (ps : List ℕ)
    (r : Result (Unit {0}) Unfit) → IsElement kind c → IsPacking n ps (length ys) →
    spread n ps (map f ys) ≡ row → map_ok (λ (_ : Unit {0}). map f scaled) r ≡ scale_of kind c (map f ys) →
    scale_of kind c row ≡ map_ok (λ (_ : Unit {0}). spread n ps (map f scaled)) r
scaled_row kind f c row n ys scaled ps r is packing shown done =
    ap (scale_of kind c) (sym shown)
    ∙ scale_spread kind c is n ps (map f ys) (packing.same ∙ sym (length-map ys f)) packing.ascend packing.within
    ∙ ap (map_ok (spread n ps)) (sym done) ∙ put r
  where
    put : (r : Result (Unit {0}) Unfit) → map_ok (spread n ps) (map_ok (λ (_ : Unit {0}). map f scaled) r) ≡
        map_ok (λ (_ : Unit {0}). spread n ps (map f scaled)) r
    put (Ok u) = refl
    put (Err u) = refl
