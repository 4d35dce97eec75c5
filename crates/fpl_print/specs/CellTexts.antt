-- The text of a combination of named things, by the places of its numbers. Places count from 0.
--   end_text: what stands after the terms: 0 where there is none
--   cells_text: the terms of numbers at some places, and 0 where there is none
use Rattle.std.specs.Prelude.{ℕ, List, [], ◌∷◌, ◌++◌, Bool, if◌then◌else◌, codes}
use Rattle.fpl_numbers.specs.declared.number.Num.{Num}
use Rattle.fpl_print.specs.Combinations.{none_after, term_or_nothing}

abbrev pub end_text : (first : Bool) → List ℕ
end_text first = if first then codes "0" else []

abbrev pub cells_text : (name : ℕ → List ℕ) (first : Bool) (places : List ℕ) → List Num → List ℕ
cells_text name first [] cs = end_text first
cells_text name first (p ∷ ps) [] = end_text first
cells_text name first (p ∷ ps) (c ∷ cs) = term_or_nothing name first p c ++ cells_text name (none_after first c) ps cs
