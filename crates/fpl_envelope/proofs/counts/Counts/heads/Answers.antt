use Rattle.std.proofs.Common.{◌≡◌, ◌≤◌, suc, length, get_or, ap, sym, ◌∙◌, arith}
use Rattle.std.specs.Prelude.{min}
use Rattle.fpl_table.specs.Plain.{through}
use Rattle.fpl_table.proofs.Lists.{at_default}
use Rattle.fpl_envelope.specs.Counts.{IsCountRow}
use Rattle.fpl_envelope.proofs.CountRows.{counted_here, at_least, min_most}
use Rattle.fpl_envelope.proofs.counts.Counts.heads.Goals as goal

pub returns-clause-value : goal.returns-clause-value
returns-clause-value g c =
    let T = c.args.table.now in
    let row : IsCountRow T c.args.w c.index-row.result.now.items = counted_here T (λ r. r.items) c.self.inside.rows.items c.args.self.now c.self.view_is
    c.requires.counts c.args.w (omega arith) (omega arith) c.index-row.result.now c.index-row.ensures in
    let place : c.min.result ≡ min c.args.i (through T c.args.w) = c.min.ensures ∙ ap (min c.args.i) c.through-last.ensures.value in
    let most : min c.args.i (through T c.args.w) ≤ through T c.args.w = min_most c.args.i (through T c.args.w) in
    let long : length c.index-row.result.now.items ≡ suc (through T c.args.w) = row.long in
    sym (at_default c.index-row.result.now.items c.min.result 0 c.index.result.now (omega arith) c.index.ensures)
    ∙ ap (λ n. get_or c.index-row.result.now.items n 0) place
    ∙ at_least T c.through-last.ensures.shape c.args.w c.index-row.result.now.items row c.args.i c.requires.letter
