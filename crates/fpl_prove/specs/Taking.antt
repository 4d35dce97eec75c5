-- Terms of what is 0, combined as the steps of a section combine rows.
--
--   off_number q c            the residue of minus a number
--   taken q zss ts t          ts less a term: plus the terms that it names, times minus its factor
--   all_taken q zss ts terms  ts less each term, in order
--   scaled_terms q scale ts   ts times a scale that is not 0
use Rattle.std.specs.Prelude.{ℕ, ◌-◌, ◌++◌, List, [], ◌∷◌, get_or, if◌then◌else◌}
use Rattle.fpl_numbers.specs.declared.number.Num.{Num}
use Rattle.fpl_numbers.specs.declared.number.Kind.TheVariants.{Prime}
use Rattle.fpl_numbers.specs.Numbers.{is_nought, negative_of, residue_of}
use Rattle.fpl_log.specs.declared.terms.Term as log
use Rattle.fpl_forms.specs.declared.term.Term.{Term}
use Rattle.fpl_forms.specs.Forms.{tidied}
use Rattle.fpl_forms.specs.Combining.{multiplied}

abbrev pub off_number : ℕ → Num → ℕ
off_number q c = residue_of (negative_of (Prime q) c)

abbrev pub taken : ℕ → List (List Term) → List Term → log.Term → List Term
taken q zss ts t = tidied q (ts ++ multiplied q (off_number q t.factor) (get_or zss (t.step - 1) []))

abbrev pub all_taken : ℕ → List (List Term) → List Term → List log.Term → List Term
all_taken q zss ts [] = ts
all_taken q zss ts (t ∷ terms) = all_taken q zss (taken q zss ts t) terms

abbrev pub scaled_terms : ℕ → Num → List Term → List Term
scaled_terms q scale ts = if is_nought scale then ts else multiplied q (residue_of scale) ts
