-- What the kernels on residues give is what the plain functions on numbers give.
use Rattle.std.proofs.Common.{◌≡◌, ℕ, suc, ◌+◌, ◌*◌, ◌%◌, ◌<◌, List, [], ◌∷◌, map, refl, ap, ap₂, mod-lt}
use Rattle.std.proofs.Math.Nat.{add-mod-mod}
use Rattle.std.proofs.lemmas.List.Elements.{All-nil, All-cons, All-head, All-tail}
use Rattle.std.specs.Prelude.{Result, Ok, Some, option_map, nat_eq, if◌then◌else◌}
use Rattle.fpl_lanes.specs.Lanes.{AllBelow, added, multiplied}
use Rattle.fpl_lanes.specs.Lanes.{first_of as first_place_of}
use Rattle.fpl_numbers.specs.declared.number.Num.{Num}
use Rattle.fpl_numbers.specs.declared.number.Kind.TheVariants.{Prime}
use Rattle.fpl_numbers.specs.declared.number.Unfit.{Unfit}
use Rattle.fpl_numbers.specs.Numbers.{IsElement, residue}
use Rattle.fpl_numbers.specs.Results.{map_ok}
use Rattle.fpl_scalar.specs.Vectors.{AreElements, axpy_of, axpied, scale_of, scaled, first_of}

pub below_from_elements : (p : ℕ) (xs : List ℕ) → AreElements (Prime p) (map residue xs) → AllBelow p xs
below_from_elements p [] all = All-nil (λ x. x < p)
below_from_elements p (x ∷ xs) all =
    All-cons (λ x. x < p) x xs (All-head (IsElement (Prime p)) (residue x) (map residue xs) all).0.0
    (below_from_elements p xs (All-tail (IsElement (Prime p)) (residue x) (map residue xs) all))

pub elements_from_below : (p : ℕ) (xs : List ℕ) → AllBelow p xs → AreElements (Prime p) (map residue xs)
elements_from_below p [] all = All-nil (IsElement (Prime p))
elements_from_below p (x ∷ xs) all =
    All-cons (IsElement (Prime p)) (residue x) (map residue xs) ((All-head (λ x. x < p) x xs all, refl), tt)
    (elements_from_below p xs (All-tail (λ x. x < p) x xs all))

pub added_below : (p : ℕ) (xs : List ℕ) (c : ℕ) (ys : List ℕ) → 0 < p → AllBelow p xs → AllBelow p (added p xs c ys)
added_below p [] c ys some all = all
added_below p (x ∷ xs) c [] some all = all
added_below p (x ∷ xs) c (y ∷ ys) some all =
    All-cons (λ x. x < p) ((x + c * y) % p) (added p xs c ys) (mod-lt (x + c * y) some) (added_below p xs c ys some (All-tail (λ x. x < p) x xs all))

pub multiplied_below : (p c : ℕ) (xs : List ℕ) → 0 < p → AllBelow p (multiplied p c xs)
multiplied_below p c [] some = All-nil (λ x. x < p)
multiplied_below p c (x ∷ xs) some = All-cons (λ x. x < p) (c * x % p) (multiplied p c xs) (mod-lt (c * x) some) (multiplied_below p c xs some)

-- residue s put in front
in_front : (s t : ℕ) (r : Result (List Num) Unfit) (xs : List ℕ) → s ≡ t → r ≡ Ok (map residue xs) →
    map_ok (λ rest. residue s ∷ rest) r ≡ Ok (map residue (t ∷ xs))
in_front s t r xs e f = ap₂ (λ w v. map_ok (λ rest. residue w ∷ rest) v) e f

pub axpy_of_residues : (p : ℕ) (xs : List ℕ) (c : ℕ) (ys : List ℕ) → axpy_of (Prime p) (map residue xs) (residue c) (map residue ys) ≡
    Ok (map residue (added p xs c ys))
axpy_of_residues p [] c ys = refl
axpy_of_residues p (x ∷ xs) c [] = refl
axpy_of_residues p (x ∷ xs) c (y ∷ ys) = in_front ((x + c * y % p) % p) ((x + c * y) % p) _ (added p xs c ys) (add-mod-mod x (c * y) p)
    (axpy_of_residues p xs c ys)

pub axpied_residues : (p : ℕ) (xs : List ℕ) (c : ℕ) (ys : List ℕ) → axpied (Prime p) (map residue xs) (residue c) (map residue ys) ≡
    map residue (added p xs c ys)
axpied_residues p [] c ys = refl
axpied_residues p (x ∷ xs) c [] = refl
axpied_residues p (x ∷ xs) c (y ∷ ys) = ap₂ (λ w v. residue w ∷ v) (add-mod-mod x (c * y) p) (axpied_residues p xs c ys)

pub scale_of_residues : (p c : ℕ) (xs : List ℕ) → scale_of (Prime p) (residue c) (map residue xs) ≡ Ok (map residue (multiplied p c xs))
scale_of_residues p c [] = refl
scale_of_residues p c (x ∷ xs) = in_front (c * x % p) (c * x % p) _ (multiplied p c xs) refl (scale_of_residues p c xs)

pub scaled_residues : (p c : ℕ) (xs : List ℕ) → scaled (Prime p) (residue c) (map residue xs) ≡ map residue (multiplied p c xs)
scaled_residues p c [] = refl
scaled_residues p c (x ∷ xs) = ap (λ v. residue (c * x % p) ∷ v) (scaled_residues p c xs)

pub first_of_residues : (xs : List ℕ) → first_of (map residue xs) ≡ first_place_of xs
first_of_residues [] = refl
first_of_residues (x ∷ xs) = ap (λ w. if nat_eq x 0 then option_map suc w else Some 0) (first_of_residues xs)
