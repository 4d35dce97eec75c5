use Rattle.std.proofs.Common.{◌≤◌, ◌+◌, ◌-◌, ℕ, refl, sym, arith, length, append-nil, append_assoc}
use Rattle.std.proofs.lemmas.List.{map-append}
use Rattle.fpl_table.specs.Shape.{HasShape}
use Rattle.fpl_table.specs.Plain.{first_partner, through}
use Rattle.fpl_table.proofs.Weights.{through_within}
use Rattle.fpl_cohomology.proofs.Cells.{first_small, seconds_heavy, thirds_first, thirds_more, thirds_last}
use Rattle.fpl_cohomology.proofs.triples.push_thirds.Goals as goal

pub returns-then-of_two-w : goal.returns-then-of_two-w
returns-then-of_two-w g c =
    rw (seconds_heavy c.args.table.now c.weight_at.ensures.shape c.args.w c.args.first c.args.second c.requires.regular c.requires.places.1 (omega arith))
    (sym (append-nil _))

pub loop-third-init : goal.loop-third-init
loop-third-init g c =
    let shape : HasShape c.args.table.now = c.weight_at.ensures.shape in
    let rest : ℕ = c.args.w - (c.weight_at.result + c.weight_at-2.result) in
    let small : first_partner c.args.table.now c.args.second ≤ length c.args.table.now.basis =
    first_small c.args.table.now shape c.args.second c.requires.places.1 in
    let all : through c.args.table.now (rest - 1) ≤ length c.args.table.now.basis = through_within c.args.table.now shape (rest - 1) in
    let within : c.max-from.result ≤ length c.args.table.now.basis = omega (arith, small, all) in
    let none = thirds_first c.args.table.now shape c.args.w c.args.first c.args.second c.requires.regular c.requires.places.1 rest
    (omega arith) (omega arith) c.max-from.result (omega arith) within in
    record { within = within; value = rw none (sym (append-nil _)) }

pub loop-third-preserved : goal.loop-third-preserved
loop-third-preserved g c =
    let shape : HasShape c.args.table.now = c.weight_at.ensures.shape in
    let rest : ℕ = c.args.w - (c.weight_at.result + c.weight_at-2.result) in
    let end = c.through-to.ensures.within in
    let more = thirds_more c.args.table.now shape c.args.w c.args.first c.args.second c.requires.regular c.requires.places.1 rest
    (omega arith) (omega arith) c.loop-third.third (omega arith) (omega arith) in
    record {
      within = omega (arith, end);
      value = rw (c.in_ok-push.ensures.items, map-append, c.loop-third.invariant.value, more, append_assoc) refl;
    }

pub returns : goal.returns
returns g c =
    let shape : HasShape c.args.table.now = c.weight_at.ensures.shape in
    let rest : ℕ = c.args.w - (c.weight_at.result + c.weight_at-2.result) in
    let all = thirds_last c.args.table.now shape c.args.w c.args.first c.args.second c.requires.regular c.requires.places.1 rest
    (omega arith) (omega arith) c.loop-third.third (omega arith) c.loop-third.invariant.within in
    rw all c.loop-third.invariant.value
