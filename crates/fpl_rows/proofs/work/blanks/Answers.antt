use Rattle.std.proofs.Common.{◌≡◌, ◌∙◌, arith, ap, map, replicate}
use Rattle.std.proofs.lemmas.Grind.{common_steps}
use Rattle.fpl_rows.proofs.Packings.{map_replicate}
use Rattle.fpl_rows.proofs.work.blanks.Goals as goal

pub returns-clause-value : goal.returns-clause-value
returns-clause-value g c =
    let e : c.resize.new.self.items ≡ replicate c.args.n c.blank.result = grind (arith, common_steps) in
    ap (map (g.F.Field.summed c.args.field.now)) e ∙ map_replicate (g.F.Field.summed c.args.field.now) c.args.n c.blank.result ∙
    ap (replicate c.args.n) c.blank.ensures.value
