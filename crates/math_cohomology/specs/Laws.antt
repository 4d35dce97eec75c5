-- Theorems on forms, over a field K. T is a table that obeys the law of some presentation.
--
--   CoboundaryTwice      the coboundary of a 1-form's coboundary is 0 at all basis elements
--   CoboundaryIsForm2    the coboundary of a 1-form of weight w is a 2-form of weight w
--   CoboundaryIsForm3    the coboundary of a 2-form of weight w is a 3-form of weight w
--   CoboundariesClose    so a coboundary of a 1-form is a cocycle
--   IsSorted             a triple i <= j <= k with equal neighbours only where odd
--   SortedSuffice3       a 3-form that is 0 at the sorted triples is 0
--   SortedSuffice2       a 2-form that is 0 at the regular pairs is 0
use Rattle.std.specs.Prelude.{ℕ, ◌≡◌, ◌<◌, length}
use Rattle.math_fields.specs.Field.{Field}
use Rattle.math_algebra.specs.Tree.{Presentation}
use Rattle.math_algebra.specs.Table.{Table, IsRegular, ObeysLaw}
use Rattle.math_cohomology.specs.Forms.{One, Two, Three, IsForm1, IsForm2, IsForm3, IsCocycle2, coboundary1, coboundary2}

abbrev pub CoboundaryTwice : Field → Type 0
CoboundaryTwice K =
    (P : Presentation K.Carrier) (T : Table K) → ObeysLaw K P T → (f : One K) (i j k : ℕ) → i < length T.basis → j < length T.basis → k < length T.basis →
    coboundary2 K T (coboundary1 K T f) i j k ≡ K.nought

abbrev pub CoboundaryIsForm2 : Field → Type 0
CoboundaryIsForm2 K = (P : Presentation K.Carrier) (T : Table K) → ObeysLaw K P T → (w : ℕ) (f : One K) → IsForm1 K T w f → IsForm2 K T w (coboundary1 K T f)

abbrev pub CoboundaryIsForm3 : Field → Type 0
CoboundaryIsForm3 K = (P : Presentation K.Carrier) (T : Table K) → ObeysLaw K P T → (w : ℕ) (f : Two K) → IsForm2 K T w f → IsForm3 K T w (coboundary2 K T f)

abbrev pub CoboundariesClose : Field → Type 0
CoboundariesClose K = (P : Presentation K.Carrier) (T : Table K) → ObeysLaw K P T → (w : ℕ) (f : One K) → IsForm1 K T w f → IsCocycle2 K T w (coboundary1 K T f)

abbrev pub IsSorted : (K : Field) → Table K → ℕ → ℕ → ℕ → Type 0
IsSorted K T i j k = IsRegular T i j × IsRegular T j k

abbrev pub SortedSuffice3 : Field → Type 0
SortedSuffice3 K =
    (T : Table K) (w : ℕ) (f : Three K) → IsForm3 K T w f → ((i j k : ℕ) → k < length T.basis → IsSorted K T i j k → f i j k ≡ K.nought) →
    (i j k : ℕ) → i < length T.basis → j < length T.basis → k < length T.basis → f i j k ≡ K.nought

abbrev pub SortedSuffice2 : Field → Type 0
SortedSuffice2 K =
    (T : Table K) (w : ℕ) (f : Two K) → IsForm2 K T w f → ((i j : ℕ) → j < length T.basis → IsRegular T i j → f i j ≡ K.nought) →
    (i j : ℕ) → i < length T.basis → j < length T.basis → f i j ≡ K.nought
