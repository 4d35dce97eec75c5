-- What the built-in presentation is.
--   TypeAIsSound: for each rank from 1 to 64 it is sound
use Rattle.std.specs.Prelude.{ℕ, ◌≤◌}
use Rattle.fpl_model.specs.Sound.{IsSound}
use Rattle.fpl_sample.specs.TypeA.{type_a}

abbrev pub TypeAIsSound : Type 0
TypeAIsSound = (n : ℕ) → n ≤ 64 → IsSound (type_a n)
