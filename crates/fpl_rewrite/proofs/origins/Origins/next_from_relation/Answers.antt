use Rattle.std.proofs.Common.{◌≡◌, ◌+◌, ◌++◌, List, drop, ap, sym, ◌∙◌, subst}
use Rattle.fpl_log.specs.declared.step.Origin.{Origin}
use Rattle.fpl_rewrite.specs.Origins.{relations_from, triples_of, cubes_of}
use Rattle.fpl_rewrite.specs.Triples.{firsts_from}
use Rattle.fpl_rewrite.specs.Cursor.{IsNext}
use Rattle.fpl_rewrite.proofs.TriplesInOrder.{triples_are}
use Rattle.fpl_rewrite.proofs.origins.Origins.next_from_relation.Goals as goal

pub returns-in-None-clause-value : goal.returns-in-None-clause-value
returns-in-None-clause-value g c =
    let list : relations_from c.args.table.now (c.args.r + 1) (drop c.args.r c.args.p.now.relations) ++ triples_of c.args.table.now ++ cubes_of c.args.table.now
    ≡ firsts_from c.args.table.now 0 0 0 ++ cubes_of c.args.table.now =
    ap (λ xs. xs ++ triples_of c.args.table.now ++ cubes_of c.args.table.now) c.in-None.ensures.value ∙
    ap (λ xs. xs ++ cubes_of c.args.table.now) (triples_are c.args.table.now) in
    subst (λ (xs : List Origin). IsNext c.args.table.now c.args.p.now xs c.next_from_triple.result c.next_from_triple.new.self.place)
    (sym list) c.next_from_triple.ensures.value
