use Rattle.std.proofs.Common.{◌≡◌, ◌-◌, ◌/◌, ◌∙◌, refl, ap, sym, arith, append-nil, append_assoc}
use Rattle.math_linear.specs.Lists.{joined}
use Rattle.fpl_table.specs.Shape.{HasShape}
use Rattle.fpl_table.specs.Plain.{plain_basis, through}
use Rattle.plain_cohomology.specs.Plain.{second_cell}
use Rattle.fpl_cohomology.proofs.Cells.{first_small, seconds_first, seconds_more, seconds_last}
use Rattle.fpl_cohomology.proofs.triples.push_seconds.Goals as goal

pub loop-second-init : goal.loop-second-init
loop-second-init g c =
    let shape : HasShape c.args.table.now = c.weight_at.ensures.shape in
    let small = first_small c.args.table.now shape c.args.first c.requires.place in
    let none = ap (λ n. joined n (second_cell c.args.table.now c.args.w c.args.first)) c.partner_at-from.ensures
    ∙ seconds_first c.args.table.now shape c.args.w c.args.first c.requires.place in
    record { within = omega (arith, small); value = rw none (sym (append-nil _)) }

pub push_thirds-requires-clause-places : goal.push_thirds-requires-clause-places
push_thirds-requires-clause-places g c = (let end = c.through-to.ensures.within in (c.requires.place, omega (arith, end)))

pub loop-second-preserved : goal.loop-second-preserved
loop-second-preserved g c =
    let shape : HasShape c.args.table.now = c.weight_at.ensures.shape in
    let end = c.through-to.ensures.within in
    let more = seconds_more c.args.table.now shape c.args.w c.args.first c.requires.place c.loop-second.second in
    record {
      within = omega (arith, end);
      value = rw (c.in_ok-push_thirds.ensures, c.loop-second.invariant.value, more, append_assoc) refl;
    }

pub returns : goal.returns
returns g c =
    let shape : HasShape c.args.table.now = c.weight_at.ensures.shape in
    let same : through c.args.table.now ((c.args.w - (plain_basis c.args.table.now c.args.first).weight) / 2) ≡ c.through-to.result =
    ap (λ v. through c.args.table.now ((c.args.w - v) / 2)) (sym c.weight_at.ensures.value) ∙ sym c.through-to.ensures.value in
    let all = seconds_last c.args.table.now shape c.args.w c.args.first c.requires.place c.loop-second.second (omega (arith, same))
    c.loop-second.invariant.within in
    rw all c.loop-second.invariant.value
