use Rattle.std.proofs.Common.{◌≡◌, ◌∙◌, ap, subst, arith, map}
use Rattle.fpl_numbers.specs.Results.{IsFault}
use Rattle.fpl_numbers.specs.declared.number.Kind.TheVariants.{Prime}
use Rattle.plain_cohomology.proofs.Fitting.{triples_formed}
use Rattle.plain_spans.specs.Means.{AreAllFormed}
use Rattle.plain_cohomology.specs.Plain.{triple_row, all_of}
use Rattle.fpl_cohomology.specs.Forms.{triple_in}
use Rattle.fpl_cohomology.proofs.Members.{triple_at}
use Rattle.fpl_cohomology.proofs.Putting.{left_first, left_more, left_last, left_stops, map_twice, fault_here}
use Rattle.fpl_cohomology.proofs.put.form_all.Goals as goal

pub triple_row-requires-clause-triple : goal.triple_row-requires-clause-triple
triple_row-requires-clause-triple g c =
    triple_at c.args.table.now c.args.tuples.now.weight c.args.tuples.now.triples.items c.requires.tuples.triples c.loop-k.k c.index.result.now
    (omega arith) c.index.ensures

pub loop-k-init : goal.loop-k-init
loop-k-init g c = left_first (λ x. triple_row c.args.table.now c.args.tuples.now.weight (triple_in x)) c.args.tuples.now.triples.items

pub loop-k-preserved : goal.loop-k-preserved
loop-k-preserved g c =
    left_more (λ x. triple_row c.args.table.now c.args.tuples.now.weight (triple_in x)) c.args.tuples.now.triples.items c.loop-k.k
    c.index.result.now c.index.result.now _ (omega arith) c.index.ensures c.in-Ok.ensures.value c.loop-k.invariant

pub returns-in-Prime-clause-formed : goal.returns-in-Prime-clause-formed
returns-in-Prime-clause-formed g c =
    let kind : c.args.table.now.kind ≡ Prime c.in-Prime.field-0 = cc in
    triples_formed c.in-Prime.field-0 c.args.table.now kind c.args.tuples.now.weight

pub returns-in-Err-clause-fault : goal.returns-in-Err-clause-fault
returns-in-Err-clause-fault g c = λ fault is.
    fault_here fault c.in-Err.fault _ is
    (subst (λ rs. IsFault c.in-Err.fault (all_of rs))
    (map_twice (triple_row c.args.table.now c.args.tuples.now.weight) triple_in c.args.tuples.now.triples.items
    ∙ ap (map (triple_row c.args.table.now c.args.tuples.now.weight)) c.requires.tuples.triples)
    (left_stops (λ x. triple_row c.args.table.now c.args.tuples.now.weight (triple_in x)) c.args.tuples.now.triples.items c.loop-k.k
    c.index.result.now c.index.result.now c.in-Err.fault (omega arith) c.index.ensures c.in-Err.ensures.value c.loop-k.invariant))

pub returns-clause-formed : goal.returns-clause-formed
returns-clause-formed g c =
    subst AreAllFormed
    (map_twice (triple_row c.args.table.now c.args.tuples.now.weight) triple_in c.args.tuples.now.triples.items
    ∙ ap (map (triple_row c.args.table.now c.args.tuples.now.weight)) c.requires.tuples.triples)
    (left_last (λ x. triple_row c.args.table.now c.args.tuples.now.weight (triple_in x)) c.args.tuples.now.triples.items c.loop-k.k
    (omega arith) c.loop-k.invariant)
