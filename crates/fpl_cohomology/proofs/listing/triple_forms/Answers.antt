use Rattle.std.proofs.Common.{◌∙◌, ap, arith, map}
use Rattle.fpl_cohomology.specs.Forms.{triple_tuple, triple_in}
use Rattle.fpl_cohomology.proofs.Ranges.{pushed, pushed_all}
use Rattle.fpl_cohomology.proofs.Putting.{map_twice}
use Rattle.fpl_cohomology.proofs.Members.{triple_small}
use Rattle.fpl_cohomology.proofs.listing.triple_forms.Goals as goal

pub triple_of-requires : goal.triple_of-requires
triple_of-requires g c =
    triple_small c.args.table.now c.args.w c.in_ok-triples.ensures.shape c.in_ok-triples.triples.items c.in_ok-triples.ensures.value c.loop-k.k
    c.index.result.now
    (omega arith) c.index.ensures

pub loop-k-preserved : goal.loop-k-preserved
loop-k-preserved g c =
    pushed (λ x. triple_tuple (triple_in x)) c.in_ok-triples.triples.items c.loop-k.k c.loop-k.forms c.push.new.self c.index.result.now c.index.result.now
    c.in_ok-triple_of.field-0 (omega arith) c.index.ensures c.in_ok-push.ensures.ok c.loop-k.invariant c.in_ok-triple_of.ensures

pub returns : goal.returns
returns g c =
    pushed_all (λ x. triple_tuple (triple_in x)) c.in_ok-triples.triples.items c.loop-k.k c.loop-k.forms (omega arith) c.loop-k.invariant
    ∙ map_twice triple_tuple triple_in c.in_ok-triples.triples.items ∙ ap (map triple_tuple) c.in_ok-triples.ensures.value
