-- A row in work: a sum at each place, which need not be reduced, and marks on the places that were touched. Places count from 0.
--
--   Working                                    a row, with the kind of its numbers
--   IsWorking kind has_room value marks sums   sums of elements, each with room for one product more; where there is no mark the number is 0
use Rattle.std.specs.Prelude.{◌≡◌, Bool, true, List, map, All}
use Rattle.fpl_numbers.specs.declared.number.Num.{Num}
use Rattle.fpl_numbers.specs.declared.number.Kind.{Kind}
use Rattle.fpl_scalar.specs.Vectors.{AreElements}
use Rattle.fpl_rows.specs.Marking.{IsMarked}

pub record Working : Type 0 where
  pub kind : Kind
  pub row : List Num

pub record IsWorking {S : Type 0} (kind : Kind) (has_room : S → Bool) (value : S → Num) (marks : List Bool) (sums : List S) : Type 0 where
  pub marked : IsMarked marks (map value sums)
  pub room : All (λ s. has_room s ≡ true) sums
  pub elements : AreElements kind (map value sums)
