use Rattle.std.proofs.Common.{◌-◌, ap, ◌∙◌, arith}
use Rattle.std.specs.Prelude.{nat_le}
use Rattle.fpl_envelope.proofs.Before.{stands_is}
use Rattle.fpl_envelope.proofs.counts.Counts.stands.Goals as goal

pub returns-clause-value : goal.returns-clause-value
returns-clause-value g c =
    ap (λ s. nat_le s c.args.at.number) c.skipped.ensures.value
    ∙ stands_is c.args.table.now c.basis_len-count.ensures.shape (c.args.i - 1) c.args.at.weight c.args.at.number (omega arith) c.requires.number
