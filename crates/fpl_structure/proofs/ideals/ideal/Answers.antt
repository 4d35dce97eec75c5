use Rattle.std.proofs.Common.{◌≡◌, ◌+◌, ◌-◌, ◌<◌, ◌∙◌, sym, subst, refl, length, arith}
use Rattle.std.specs.Prelude.{map}
use Rattle.fpl_numbers.specs.Results.{IsFault}
use Rattle.fpl_model.specs.Meaning.{plain}
use Rattle.fpl_structure.proofs.Means.{ideal_is}
use Rattle.fpl_structure.proofs.Terms.{round_last, round_next, round_stops, rounds_done}
use Rattle.fpl_structure.proofs.Steps.{ideal_begins}
use Rattle.fpl_structure.proofs.ideals.ideal.Goals as goal

pub loop-init : goal.loop-init
loop-init g c = record {
  left = ideal_begins c.args.table.now (map plain c.args.elements.now) c.in-Ok.rows (length c.args.table.now.basis) refl c.in-Ok.ensures.value;
  rows = c.in-Ok.ensures.rows;
  rises = omega arith;
}

pub returns-then-len-clause-value : goal.returns-then-len-clause-value
returns-then-len-clause-value g c =
    let T = c.args.table.now in
    let v = c.basis_len.ensures.value in
    let below : c.loop.counter < length T.basis + 1 = omega arith in
    c.loop.invariant.left
    ∙ round_last T (length T.basis + 1) c.loop.counter c.loop.rows c.in-Ok-round.next below c.in-Ok-round.ensures.value (omega arith)

pub returns-then-len-clause-means : goal.returns-then-len-clause-means
returns-then-len-clause-means g c = λ holds within.
    let T = c.args.table.now in
    let v = c.basis_len.ensures.value in
    let below : c.loop.counter < length T.basis + 1 = omega arith in
    ideal_is c.args.p.now T (map plain c.args.elements.now) c.in-Ok-round.next holds within
    (c.loop.invariant.left
    ∙ round_last T (length T.basis + 1) c.loop.counter c.loop.rows c.in-Ok-round.next below c.in-Ok-round.ensures.value (omega arith))

pub returns-in-Err-round-clause-value : goal.returns-in-Err-round-clause-value
returns-in-Err-round-clause-value g c =
    let T = c.args.table.now in
    let v = c.basis_len.ensures.value in
    let below : c.loop.counter < length T.basis + 1 = omega arith in
    subst (IsFault c.in-Err-round.fault) (sym c.loop.invariant.left)
    (round_stops T (length T.basis + 1) c.loop.counter c.loop.rows c.in-Err-round.fault below c.in-Err-round.ensures.value)

pub loop-preserved : goal.loop-preserved
loop-preserved g c =
    let T = c.args.table.now in
    let v = c.basis_len.ensures.value in
    let below : c.loop.counter < length T.basis + 1 = omega arith in
    record {
      left = c.loop.invariant.left
          ∙ round_next T (length T.basis + 1) c.loop.counter c.loop.rows c.in-Ok-round.next below c.in-Ok-round.ensures.value (λ same. omega arith);
      rows = c.in-Ok-round.ensures.rows;
      rises = (let a = c.in-Ok-round.ensures.rises in let b = c.loop.invariant.rises in omega arith);
    }

pub returns-clause-means : goal.returns-clause-means
returns-clause-means g c = λ holds within.
    let T = c.args.table.now in
    let v = c.basis_len.ensures.value in
    ideal_is c.args.p.now T (map plain c.args.elements.now) c.loop.rows holds within
    (c.loop.invariant.left ∙ rounds_done T (length T.basis + 1 - c.loop.counter) c.loop.rows (omega arith))
