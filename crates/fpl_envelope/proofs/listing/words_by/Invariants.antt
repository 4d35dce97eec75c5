use Rattle.std.proofs.Common.{◌≡◌, suc, map, take}
use Rattle.fpl_envelope.specs.Counts.{words_in}
use Rattle.fpl_envelope.proofs.listing.words_by.Given as goal

abbrev pub invariant-loop-number : goal.invariant-loop-number
invariant-loop-number g l = record { list : l.list.items ≡ map (λ u. map suc u) (take l.number (words_in l.table l.w)) }
