-- Items that are read one after another, as a loop does; and that they are those that were written.
use Rattle.std.proofs.Common.{◌≡◌, ℕ, zero, suc, ◌-◌, ◌+◌, ◌≤◌, ◌<◌, ◌^◌, List, [], ◌∷◌, ◌++◌, length, Result, Ok, Err, refl, sym, ap, subst, ◌∙◌, append_assoc, arith}
use Rattle.std.specs.List.{flat_map, AllByRecursion}
use Rattle.std.specs.Int.{Width, to_be_bytes}
use Rattle.std.proofs.lemmas.List.{append-nil}
use Rattle.std.proofs.lemmas.List.Concat.{flat_map-cons}
use mir.Val.{bits}
use Rattle.fpl_bytes.specs.declared.fault.BadBytes.{BadBytes}
use Rattle.fpl_bytes.specs.declared.fault.ScanError.{ScanError}
use Rattle.fpl_bytes.specs.declared.fault.ScanError.TheVariants.{Bad, NoMemory}
use Rattle.fpl_bytes.specs.Codes.{IsBytes, Takes, IsCode, counted_bytes}
use Rattle.fpl_bytes.specs.Reading.{◌>>=◌, Fails, items_at, whole_at, counted_at}
use Rattle.fpl_bytes.proofs.Steps.{bind_ok, ok_is, Takes-then}
use Rattle.fpl_bytes.proofs.WholeNumbers.{IsWide, whole_code}

module _ {A : Type 0} (item : List ℕ → Result (A × List ℕ) BadBytes) where
  -- what was read before, and what is still read
  abbrev pub with_front : List A → Result (List A × List ℕ) BadBytes → Result (List A × List ℕ) BadBytes
  with_front front read = read >>= λ x. Ok (front ++ x.0, x.1)

  regroup : (front : List A) (n : A) (read : Result (List A × List ℕ) BadBytes) →
      with_front front (read >>= λ x. Ok (n ∷ x.0, x.1)) ≡ with_front (front ++ n ∷ []) read
  regroup front n (Ok x) = ap (λ (ns : List A). Ok (ns, x.1)) (simp append_assoc)
  regroup front n (Err f) = refl

  pub goes_on : (front : List A) (count i : ℕ) (bytes : List ℕ) (n : A) (after : List ℕ) (total : Result (List A × List ℕ) BadBytes) → i < count →
      item bytes ≡ Ok (n, after)
      → with_front front (items_at item (count - i) bytes) ≡ total → with_front (front ++ n ∷ []) (items_at item (count - (i + 1)) after) ≡ total
  unfolding items_at
  goes_on front count i bytes n after total lt h so_far =
      let k : count - i ≡ suc (count - (i + 1)) = omega arith in
      let one : with_front front (items_at item (count - i) bytes) ≡ with_front (front ++ n ∷ []) (items_at item (count - (i + 1)) after) =
      rw (k, h) (regroup front n (items_at item (count - (i + 1)) after)) in
      sym one ∙ so_far

  pub ends : (e : ScanError) (front : List A) (count i : ℕ) (bytes : List ℕ) (total : Result (List A × List ℕ) BadBytes) → i < count → Fails e (item bytes)
      → with_front front (items_at item (count - i) bytes) ≡ total → Fails e total
  unfolding items_at
  ends NoMemory front count i bytes total lt h so_far = tt
  ends (Bad f) front count i bytes total lt h so_far =
      let k : count - i ≡ suc (count - (i + 1)) = omega arith in
      let one : with_front front (items_at item (count - i) bytes) ≡ Err f = rw (k, h) refl in
      sym so_far ∙ one

  pub is_done : (front : List A) (count i : ℕ) (bytes : List ℕ) (total : Result (List A × List ℕ) BadBytes) → count ≤ i →
      with_front front (items_at item (count - i) bytes) ≡ total → total ≡ Ok (front, bytes)
  unfolding items_at
  is_done front count i bytes total le so_far =
      let k : count - i ≡ 0 = omega arith in
      let one : with_front front (items_at item (count - i) bytes) ≡ Ok (front, bytes) = rw k (ap (λ (ns : List A). Ok (ns, bytes)) (append-nil front)) in
      sym so_far ∙ one

module _ {A : Type 0} (spell : A → List ℕ) (item : List ℕ → Result (A × List ℕ) BadBytes) (Fits : A → Type 0) (code : IsCode spell item Fits) where
  items_take : (n : ℕ) (bytes : List ℕ) (x : List A × List ℕ) → IsBytes bytes → items_at item n bytes ≡ Ok x → Takes bytes (flat_map spell x.0) x.1 ×
      (length x.0 ≡ n) × AllByRecursion Fits x.0
  unfolding items_at
  items_take zero bytes x fits e =
      subst (λ (y : List A × List ℕ). Takes bytes (flat_map spell y.0) y.1 × (length y.0 ≡ 0) × AllByRecursion Fits y.0) (ok_is ([], bytes) x e)
      (record { parts = refl; rest_fits = fits }, refl, tt)
  items_take (suc n) bytes x fits e =
      let a = bind_ok (item bytes) (λ first. items_at item n first.1 >>= λ others. Ok (first.0 ∷ others.0, others.1)) x e in
      let b = bind_ok (items_at item n a.0.1) (λ others. Ok (a.0.0 ∷ others.0, others.1)) x a.2 in
      let first = code.takes bytes a.0.0 a.0.1 fits a.1 in
      let second = items_take n a.0.1 b.0 first.0.rest_fits b.1 in
      let both = Takes-then bytes (spell a.0.0) a.0.1 (flat_map spell b.0.0) b.0.1 first.0 second.0 in
      let made : List A × List ℕ = (a.0.0 ∷ b.0.0, b.0.1) in
      subst (λ (y : List A × List ℕ). Takes bytes (flat_map spell y.0) y.1 × (length y.0 ≡ suc n) × AllByRecursion Fits y.0) (ok_is made x b.2)
      (rw flat_map-cons both, ap suc second.1, (first.1, second.2))

  items_again : (xs : List A) (rest : List ℕ) → AllByRecursion Fits xs → items_at item (length xs) (flat_map spell xs ++ rest) ≡ Ok (xs, rest)
  unfolding items_at
  items_again [] rest fits = refl
  items_again (x ∷ xs) rest fits =
      let regrouped : flat_map spell (x ∷ xs) ++ rest ≡ spell x ++ (flat_map spell xs ++ rest) =
      ap (λ (y : List ℕ). y ++ rest) (flat_map-cons spell x xs) ∙ append_assoc (spell x) (flat_map spell xs) rest in
      ap (items_at item (suc (length xs))) regrouped ∙ rw (code.again x (flat_map spell xs ++ rest) fits.0, items_again xs rest fits.1) refl

  pub counted_code : (w : Width) → IsWide w → (end : ℕ) →
      IsCode (counted_bytes w spell) (counted_at w item end) (λ xs. (length xs < 2 ^ bits w) × AllByRecursion Fits xs)
  counted_code w wide end = record { takes = takes; again = again }
    where
      takes : (bytes : List ℕ) (xs : List A) (rest : List ℕ) → IsBytes bytes → counted_at w item end bytes ≡ Ok (xs, rest) →
          Takes bytes (counted_bytes w spell xs) rest × ((length xs < 2 ^ bits w) × AllByRecursion Fits xs)
      takes bytes xs rest fits e =
          let n = bind_ok (whole_at w end bytes) (λ n. items_at item n.0 n.1) (xs, rest) e in
          let first = (whole_code w wide end).takes bytes n.0.0 n.0.1 fits n.1 in
          let second = items_take n.0.0 n.0.1 (xs, rest) first.0.rest_fits n.2 in
          let whole = Takes-then bytes (to_be_bytes w n.0.0) n.0.1 (flat_map spell xs) rest first.0 second.0 in
          (subst (λ (k : ℕ). Takes bytes (to_be_bytes w k ++ flat_map spell xs) rest) (sym second.1) whole, (omega (arith, second.1, first.1), second.2))

      again : (xs : List A) (rest : List ℕ) → ((length xs < 2 ^ bits w) × AllByRecursion Fits xs) →
          counted_at w item end (counted_bytes w spell xs ++ rest) ≡ Ok (xs, rest)
      again xs rest fits =
          let regrouped : counted_bytes w spell xs ++ rest ≡ to_be_bytes w (length xs) ++ (flat_map spell xs ++ rest) =
          append_assoc (to_be_bytes w (length xs)) (flat_map spell xs) rest in
          ap (counted_at w item end) regrouped
          ∙ ap (λ (r : Result (ℕ × List ℕ) BadBytes). r >>= λ n. items_at item n.0 n.1)
          ((whole_code w wide end).again (length xs) (flat_map spell xs ++ rest) fits.0) ∙ items_again xs rest fits.1
