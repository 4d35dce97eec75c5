use mathlib.Core.Logic.{inl, inr}
use Rattle.fpl_rows.proofs.Fits.{some_same}
use Rattle.fpl_ranks.proofs.Flags.{first_never}
use Rattle.fpl_ranks.proofs.leading.lower_first.Goals as goal

pub returns-then-are_solved : goal.returns-then-are_solved
returns-then-are_solved c = λ s off.
    elim (c.settle.ensures s off) [
      | inl h ↦ c.requires.flags s h
      | inr h ↦ first_never c.args.table.now.kind c.requires.field c.args.rows.now c.args.test.now c.in-Some.first s c.requires.rows c.requires.test
          (c.are_solved.ensures c.if-are_solved.true) c.in-Some.ensures (some_same h)
    ]
