use Rattle.std.proofs.Common.{◌≤◌, ◌-◌, length, sym, subst, arith}
use Rattle.fpl_envelope.specs.Counts.{words_in}
use Rattle.fpl_envelope.proofs.CountRows.{heads_within}
use Rattle.fpl_envelope.proofs.counts.Counts.skipped.Goals as goal

pub returns-in-Even-clause-within : goal.returns-in-Even-clause-within
returns-in-Even-clause-within g c =
    subst (λ n. n ≤ length (words_in c.args.table.now c.args.w)) (sym c.heads.ensures.value)
    (heads_within c.args.table.now c.heads.ensures.shape c.args.w (c.args.i - 1) (omega arith) (omega arith))

pub returns-in-Odd-clause-within : goal.returns-in-Odd-clause-within
returns-in-Odd-clause-within g c =
    subst (λ n. n ≤ length (words_in c.args.table.now c.args.w)) (sym c.heads-in-Odd.ensures.value)
    (heads_within c.args.table.now c.heads-in-Odd.ensures.shape c.args.w c.args.i (omega arith) (omega arith))
