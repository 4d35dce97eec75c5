use Rattle.std.proofs.Common.{◌≡◌, ◌++◌, List, ap, sym, ◌∙◌, subst}
use Rattle.fpl_log.specs.declared.step.Origin.{Origin}
use Rattle.fpl_rewrite.specs.Origins.{cubes_of}
use Rattle.fpl_rewrite.specs.Triples.{firsts_from}
use Rattle.fpl_rewrite.specs.Cursor.{cubes_from, IsNext}
use Rattle.fpl_rewrite.proofs.Cubes.{cubes_are}
use Rattle.fpl_rewrite.proofs.origins.Origins.next_from_triple.Goals as goal

pub returns-in-None-clause-value : goal.returns-in-None-clause-value
returns-in-None-clause-value g c =
    let list : firsts_from c.args.table.now c.args.t.first c.args.t.second c.args.t.third ++ cubes_of c.args.table.now ≡ cubes_from c.args.table.now 0 =
    ap (λ xs. xs ++ cubes_of c.args.table.now) c.in-None.ensures.value ∙ cubes_are c.args.table.now in
    subst (λ (xs : List Origin). IsNext c.args.table.now c.args.p.now xs c.next_from_cube.result c.next_from_cube.new.self.place)
    (sym list) c.next_from_cube.ensures.value
