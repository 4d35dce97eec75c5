use Rattle.std.proofs.Common.{map, ap, ◌∙◌}
use Rattle.fpl_numbers.specs.Numbers.{residue}
use Rattle.plain_matrices.specs.Plain.{PlainMatrix}
use Rattle.fpl_ranks.proofs.Weights.{row_is}
use Rattle.fpl_ranks.proofs.ranking.row_of.Goals as goal

pub returns-clause-row : goal.returns-clause-row
returns-clause-row c =
    row_is c.args.table.now.kind _ c.args.x.now c.from_vec.result c.requires
    (c.from_vec.ensures ∙ ap (map residue) c.into_numbers-numbers.ensures ∙ ap (λ (x : PlainMatrix). map residue x.numbers) c.in_ok-copy.ensures)
