-- The conclusion of a step that takes nothing off is the row that it begins with.
use Rattle.std.specs.Prelude.{ℕ, ◌≡◌, List, [], ◌∷◌, length, slice_get, Some, None, Ok}
use Rattle.std.proofs.Common.{get_or}
use mathlib.Core.Path.{sym, ap, ◌∙◌}
use native.Mathlib.Omega.{arith}
use Rattle.fpl_numbers.specs.declared.number.Num.{Num}
use Rattle.fpl_numbers.specs.declared.number.Kind.{Kind}
use Rattle.fpl_log.specs.declared.terms.Term.{Term}
use Rattle.fpl_log.specs.Plain.{conclude_of}
use Rattle.plain_elimination.proofs.RowSweeps.{got_row}

pub bare : (kind : Kind) (earlier : List (List Num)) (k : ℕ) (start row : List Num) (terms : List Term) → Some start ≡ slice_get earlier k →
    length terms ≡ 0 → row ≡ start → conclude_of kind earlier (get_or earlier k []) terms None ≡ Ok row
bare kind earlier k start row [] e l is = ap Ok ((got_row earlier k start [] e).1 ∙ sym is)
bare kind earlier k start row (t ∷ ts) e l is = absurd (omega (arith, l))
