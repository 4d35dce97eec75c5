use Rattle.std.proofs.Common.{◌≡◌, ◌-◌, length, replicate}
use Rattle.fpl_numbers.specs.Numbers.{residue}
use Rattle.fpl_envelope.specs.Counts.{words_in}
use Rattle.fpl_envelope.specs.Kept.{IsLevelFrom}
use Rattle.fpl_envelope.proofs.building.next_level.Given as goal

abbrev pub invariant-loop-place : goal.invariant-loop-place
invariant-loop-place g l = record {
  level : IsLevelFrom l.table l.w (l.last - l.place) l.level;
  sum : l.sum ≡ record { kind = l.table.kind; row = replicate (length (words_in l.table l.w)) (residue 0) };
}
