-- Sources and sinks in memory, as contracts see them.
--   SourceState: the bytes left, the most that one read gives, the calls that fail, and the counts
--   SinkState: the bytes taken, the room for all of them, the most that one put takes, the calls that fail, and the counts
--   counted: a count one higher, which stays at its last value
--   after_read: a source after a read that gave this answer
--   after_put: a sink after a put of a piece that gave this answer
use Rattle.std.specs.Prelude.{ℕ, ◌+◌, ◌-◌, ◌^◌, min, List, ◌++◌, take, drop}
use Rattle.fpl_outside.specs.declared.outside.Got.{Got}
use Rattle.fpl_outside.specs.declared.outside.Got.TheVariants as got
use Rattle.fpl_outside.specs.declared.outside.Put.{Put}
use Rattle.fpl_outside.specs.declared.outside.Put.TheVariants as put

pub record SourceState : Type 0 where
  pub left : List ℕ
  pub most : ℕ
  pub failing : List ℕ
  pub calls : ℕ
  pub faults : ℕ

pub record SinkState : Type 0 where
  pub taken : List ℕ
  pub room : ℕ
  pub most : ℕ
  pub failing : List ℕ
  pub calls : ℕ
  pub faults : ℕ

abbrev pub counted : ℕ → ℕ
counted n = min (n + 1) (2 ^ 64 - 1)

abbrev pub after_read : SourceState → Got → SourceState
after_read s (got.Read n) = record s { left = drop n s.left; calls = counted s.calls }
after_read s got.End = record s { calls = counted s.calls }
after_read s got.Failed = record s { calls = counted s.calls; faults = counted s.faults }

abbrev pub after_put : SinkState → List ℕ → Put → SinkState
after_put s piece (put.Took n) = record s { taken = s.taken ++ take n piece; calls = counted s.calls }
after_put s piece put.Failed = record s { calls = counted s.calls; faults = counted s.faults }
