-- A row in work, told by its fields.
use Rattle.std.proofs.Common.{◌≡◌, ℕ, ◌<◌, ◌^◌, Bool, true, false, List, length, map, replicate, get_or, refl, sym, ap, ◌∙◌, subst}
use Rattle.std.proofs.Math.ListN.{set}
use Rattle.std.proofs.lemmas.List.{length-map, map-set}
use Rattle.std.proofs.lemmas.List.Elements.{All-replicate}
use Rattle.std.specs.Prelude.{Result, Ok, Err, All}
use Rattle.fpl_numbers.specs.declared.number.Num.{Num}
use Rattle.fpl_numbers.specs.declared.number.Kind.{Kind}
use Rattle.fpl_numbers.specs.declared.number.Op.TheVariants.{Add}
use Rattle.fpl_numbers.specs.declared.number.Unfit.{Unfit}
use Rattle.fpl_numbers.specs.Numbers.{IsElement, operate, residue}
use Rattle.fpl_numbers.specs.Results.{map_ok}
use Rattle.fpl_scalar.specs.Vectors.{AreElements, fused, axpy_of, scale_of}
use Rattle.fpl_rows.specs.Marking.{IsMarked}
use Rattle.fpl_rows.specs.Packing.{IsPacking, spread}
use Rattle.fpl_rows.specs.Positions.{added_at}
use Rattle.fpl_rows.specs.Working.{Working, IsWorking}
use Rattle.fpl_rows.proofs.AtPositions.{number_at}
use Rattle.fpl_rows.proofs.Gatherings.{scaled_row}
use Rattle.fpl_rows.proofs.Markings.{marked_none}
use Rattle.fpl_rows.proofs.Units.{fused_one, loaded}

abbrev kind_in : Working → Kind
kind_in w = w.kind

abbrev row_in : Working → List Num
row_in w = w.row

abbrev pub working_as : Kind → List Num → Working
working_as kind row = record { kind = kind; row = row }

module _ {S : Type 0} (kind : Kind) (value : S → Num) (sums : List S) (self : Working) (seen : working_as kind (map value sums) ≡ self) where
  pub kind_seen : kind ≡ self.kind
  kind_seen = ap kind_in seen

  pub row_seen : map value sums ≡ self.row
  row_seen = ap row_in seen

  pub long_seen : length self.row ≡ length sums
  long_seen = ap length (sym row_seen) ∙ length-map sums value

  put : (s : ℕ) (c : Num) (r : Result S Unfit) → map_ok (λ v. map value (set sums s v)) r ≡ map_ok (λ z. set (map value sums) s z) (map_ok value r)
  put s c (Ok v) = ap Ok (map-set value sums s v)
  put s c (Err u) = refl

  -- a number is added once
  pub added : (s : ℕ) (x : S) (one c : Num) (r : Result S Unfit) → s < length sums → x ≡ get_or sums s x → one ≡ residue 1 → IsElement self.kind c →
      map_ok value r ≡ fused kind (value x) one c → map_ok (λ v. map value (set sums s v)) r ≡ added_at self.kind self.row s c
  added s x one c r l is e is_c fits =
      put s c r
      ∙ ap (map_ok (λ z. set (map value sums) s z)) (fits ∙ ap (λ u. fused kind (value x) u c) e ∙
      fused_one kind (value x) c (subst (λ k. IsElement k c) (sym kind_seen) is_c))
      ∙ ap (λ w. map_ok (λ z. set (map value sums) s z) (operate kind Add w c)) (sym (number_at value sums s x (residue 0) l is))
      ∙ ap (λ w. added_at (kind_in w) (row_in w) s c) seen

  -- the numbers that were gathered are scaled
  pub gathered : {E : Type 0} (f : E → Num) (c : Num) (from : List S) (ys old scaled : List E) (ps : List ℕ) (r : Result (Unit {0}) Unfit) →
      from ≡ sums → IsElement self.kind c → IsPacking (length from) ps (length ys) →
      spread (length from) ps (map f ys) ≡ map value from → old ≡ ys → map_ok (λ (_ : Unit {0}). map f scaled) r ≡ scale_of kind c (map f old) →
      scale_of self.kind c self.row ≡ map_ok (λ (_ : Unit {0}). spread (length self.row) ps (map f scaled)) r
  gathered f c from ys old scaled ps r e is_c packing shown d done =
      ap (λ w. scale_of (kind_in w) c (row_in w)) (sym seen)
      ∙ scaled_row kind f c (map value sums) (length from) ys scaled ps r (subst (λ k. IsElement k c) (sym kind_seen) is_c) packing
      (shown ∙ ap (map value) e) (done ∙ ap (λ ys. scale_of kind c (map f ys)) d)
      ∙ ap (λ n. map_ok (λ (_ : Unit {0}). spread n ps (map f scaled)) r) (ap length e ∙ sym long_seen)

-- nothing is touched
pub working_none : {S : Type 0} (kind : Kind) (has_room : S → Bool) (value : S → Num) (marks : List Bool) (sums : List S) (m n : ℕ) →
    IsElement kind (residue 0) → m ≡ n → n < 2 ^ 32 → marks ≡ replicate m false → map value sums ≡ replicate n (residue 0) →
    All (λ s. has_room s ≡ true) sums → IsWorking kind has_room value marks sums
working_none kind has_room value marks sums m n is l few none zeros room = record {
  marked = subst (λ bs. IsMarked bs (map value sums)) (sym none) (subst (IsMarked (replicate m false)) (sym zeros) (marked_none n m l few));
  room = room;
  elements = subst (AreElements kind) (sym zeros) (All-replicate (IsElement kind) n (residue 0) is);
}

-- a row is put over nothing
pub load_is : (self new : Working) (row : List Num) (one : Num) (r : Result (Unit {0}) Unfit) → one ≡ residue 1 →
    self.row ≡ replicate (length row) (residue 0) → AreElements self.kind row →
    map_ok (λ (_ : Unit {0}). new.row) r ≡ axpy_of self.kind self.row one row → new.kind ≡ self.kind → new ≡ working_as self.kind row
load_is self new row one r e zeros all done same =
    go r (done ∙ ap (λ w. axpy_of self.kind self.row w row) e ∙ ap (λ w. axpy_of self.kind w (residue 1) row) zeros ∙ loaded self.kind row all)
  where
    go : (r : Result (Unit {0}) Unfit) → map_ok (λ (_ : Unit {0}). new.row) r ≡ Ok row → new ≡ working_as self.kind row
    go (Ok u) h = (let k : new.row ≡ row = cc in ap (λ q. working_as q new.row) same ∙ ap (working_as self.kind) k)
    go (Err u) h = absurd (let k : ⊥ = cc in k)
