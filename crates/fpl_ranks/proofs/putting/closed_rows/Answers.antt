use Rattle.std.proofs.Common.{◌∙◌, ap}
use Rattle.fpl_echelon.proofs.Contracts.{kind_in, size_in}
use Rattle.fpl_ranks.proofs.Stops.{never_at, closed_gives}
use Rattle.fpl_ranks.proofs.putting.closed_rows.Goals as goal

pub put_all-requires-clause-flags : goal.put_all-requires-clause-flags
put_all-requires-clause-flags g c =
    never_at c.args.table.now.kind c.in_ok-echelon.echelon.kind c.args.rows.now c.args.flags.now.items
    (ap kind_in c.in_ok-echelon.ensures ∙ c.field.ensures) c.requires.flags

pub returns-in-Ok-clause-value : goal.returns-in-Ok-clause-value
returns-in-Ok-clause-value g c =
    closed_gives c.args.table.now.kind c.args.places c.put_all.new.echelon c.args.rows.now c.close.result
    (c.in-Ok.ensures.kind ∙ ap kind_in c.in_ok-echelon.ensures ∙ c.field.ensures) (c.in-Ok.ensures.size ∙ ap size_in c.in_ok-echelon.ensures)
    c.requires.over c.requires.rows c.in-Ok.ensures.spans c.close.ensures.value c.close.ensures.form
