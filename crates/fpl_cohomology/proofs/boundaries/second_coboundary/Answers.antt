use Rattle.std.proofs.Common.{◌≡◌, ◌+◌, ◌∙◌, Ok, ap, sym, subst, arith, map}
use Rattle.fpl_numbers.specs.Results.{IsFault}
use Rattle.plain_cohomology.specs.Plain.{triples, triple_row, all_of}
use Rattle.fpl_cohomology.specs.Forms.{triple_in}
use Rattle.fpl_cohomology.proofs.Members.{triple_at}
use Rattle.fpl_cohomology.proofs.Putting.{after_all, rest, formed_first, formed_more, formed_last, formed_stops, map_twice}
use Rattle.fpl_cohomology.proofs.boundaries.second_coboundary.Goals as goal

pub loop-k-init : goal.loop-k-init
loop-k-init g c =
    ap (λ rows. after_all rows (all_of (rest (λ x. triple_row c.args.table.now c.in_ok-tuples.tuples.weight (triple_in x))
    c.in_ok-tuples.tuples.triples.items 0)))
    c.new-rows.ensures
    ∙ formed_first (λ x. triple_row c.args.table.now c.in_ok-tuples.tuples.weight (triple_in x)) c.in_ok-tuples.tuples.triples.items

pub triple_row-requires-clause-triple : goal.triple_row-requires-clause-triple
triple_row-requires-clause-triple g c =
    triple_at c.args.table.now c.in_ok-tuples.tuples.weight c.in_ok-tuples.tuples.triples.items c.in_ok-tuples.ensures.value.triples c.loop-k.k
    c.index.result.now
    (omega arith) c.index.ensures

pub returns-in-Err : goal.returns-in-Err
returns-in-Err g c =
    subst (λ v. IsFault c.in-Err.fault (all_of (map (triple_row c.args.table.now v) (triples c.args.table.now v)))) c.in_ok-tuples.ensures.weight
    (subst (λ rs. IsFault c.in-Err.fault (all_of rs))
    (map_twice (triple_row c.args.table.now c.in_ok-tuples.tuples.weight) triple_in c.in_ok-tuples.tuples.triples.items
    ∙ ap (map (triple_row c.args.table.now c.in_ok-tuples.tuples.weight)) c.in_ok-tuples.ensures.value.triples)
    (subst (IsFault c.in-Err.fault) c.loop-k.invariant
    (formed_stops (λ x. triple_row c.args.table.now c.in_ok-tuples.tuples.weight (triple_in x)) c.in_ok-tuples.tuples.triples.items c.loop-k.rows c.loop-k.k
    c.index.result.now c.index.result.now c.in-Err.fault (omega arith) c.index.ensures c.in-Err.ensures.value)))

pub returns : goal.returns
returns g c =
    subst (λ v. all_of (map (triple_row c.args.table.now v) (triples c.args.table.now v)) ≡ Ok c.loop-k.rows) c.in_ok-tuples.ensures.weight
    (ap all_of (sym (map_twice (triple_row c.args.table.now c.in_ok-tuples.tuples.weight) triple_in c.in_ok-tuples.tuples.triples.items
    ∙ ap (map (triple_row c.args.table.now c.in_ok-tuples.tuples.weight)) c.in_ok-tuples.ensures.value.triples))
    ∙ sym c.loop-k.invariant
    ∙ formed_last (λ x. triple_row c.args.table.now c.in_ok-tuples.tuples.weight (triple_in x)) c.in_ok-tuples.tuples.triples.items c.loop-k.rows
    c.loop-k.k (omega arith))

pub loop-k-preserved : goal.loop-k-preserved
loop-k-preserved g c =
    let F = triple_row c.args.table.now c.in_ok-tuples.tuples.weight in
    let more = formed_more (λ x. F (triple_in x)) c.in_ok-tuples.tuples.triples.items c.loop-k.rows c.loop-k.k c.index.result.now c.index.result.now c.in-Ok.row
    (omega arith) c.index.ensures c.in-Ok.ensures.value in
    ap (λ rows. after_all rows (all_of (rest (λ x. F (triple_in x)) c.in_ok-tuples.tuples.triples.items (c.loop-k.k + 1)))) c.in_ok-push-in-Ok.ensures.ok
    ∙ more ∙ c.loop-k.invariant
