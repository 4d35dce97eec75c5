use Rattle.std.proofs.Common.{◌≡◌, ◌≤◌, false, take, length, refl, sym, subst, ◌∙◌, arith}
use Rattle.fpl_numbers.specs.Numbers.{IsField}
use Rattle.fpl_model.specs.declared.presentation.Presentation.{Presentation}
use Rattle.fpl_model.specs.Sound.{IsSoundEquation}
use Rattle.fpl_table.specs.Standard.{start_of}
use Rattle.fpl_queries.specs.Queries.{weight_in, is_past}
use Rattle.fpl_prove.specs.Prefixes.{after, IsNextSection}
use Rattle.fpl_prove.proofs.Prefixes.{kind_is, all_hold, next_sections, weight_after}
use Rattle.fpl_prove.proofs.Queries.{within, answers_agree}
use Rattle.fpl_prove.specs.declared.proving.WhyError.TheVariants.{NotEqual}
use Rattle.fpl_prove.proofs.Said.{whole, proof_of, same_error}
use Rattle.fpl_prove.proofs.proving.prove.Goals as goal

pub new-ledger-requires-clause-field : goal.new-ledger-requires-clause-field
new-ledger-requires-clause-field c =
    sym (c.field-field.ensures ∙ kind_is c.args.p.now c.args.table.now c.args.sections.now c.requires.accepted) ∙ c.prime_of.ensures.kind

pub new-ledger-requires-clause-listed : goal.new-ledger-requires-clause-listed
new-ledger-requires-clause-listed c =
    subst IsField (sym (c.field-field.ensures ∙ kind_is c.args.p.now c.args.table.now c.args.sections.now c.requires.accepted) ∙ c.prime_of.ensures.kind)
    c.requires.sound.field

pub weight_for-through-requires-clause-within : goal.weight_for-through-requires-clause-within
weight_for-through-requires-clause-within c =
    subst (λ w. is_past w (weight_in c.args.p.now c.args.query.now) ≡ false) (sym c.weight.ensures.value)
    (within c.args.p.now c.args.query.now c.requires.query c.args.table.now c.requires.within)

pub learn_through-requires-clause-known : goal.learn_through-requires-clause-known
learn_through-requires-clause-known c = c.in_ok-known.ensures.known c.new-ledger.result c.new-ledger.ensures.presentation

pub learn_through-requires-clause-sections : goal.learn_through-requires-clause-sections
learn_through-requires-clause-sections c = λ k s e.
    subst (λ (r : Presentation). IsNextSection r (after (start_of r) (take k c.args.sections.now)) s) (sym c.new-ledger.ensures.presentation)
    (next_sections c.args.p.now c.args.table.now c.args.sections.now c.requires.accepted c.weight.ensures.shape.weight c.requires.few k s e)

pub equal_line-requires-clause-query : goal.equal_line-requires-clause-query
equal_line-requires-clause-query c =
    subst (λ (r : Presentation). IsSoundEquation r c.args.query.now)
    (sym (c.in_ok-learn_through.ensures.grows.presentation ∙ c.new-ledger.ensures.presentation)) c.requires.query

pub equal_line-requires-clause-within : goal.equal_line-requires-clause-within
equal_line-requires-clause-within c =
    let low : c.weight_for-through.result ≤ length c.args.sections.now =
    omega (arith, c.weight_for-through.ensures.within, c.weight.ensures.value, c.requires.weights.count) in
    let is = weight_after c.new-ledger.result.presentation c.args.sections.now c.weight_for-through.result c.learn_through.new.known.table
    c.in_ok-learn_through.ensures.table low in
    subst (λ (r : Presentation). is_past c.learn_through.new.known.table.weight (weight_in r c.args.query.now) ≡ false)
    (sym (c.in_ok-learn_through.ensures.grows.presentation ∙ c.new-ledger.ensures.presentation))
    (subst (λ w. is_past w (weight_in c.args.p.now c.args.query.now) ≡ false) (sym is) c.weight_for-through.ensures.reached)

pub returns-in-Err-clause-differ : goal.returns-in-Err-clause-differ
returns-in-Err-clause-differ c =
    let low : c.weight_for-through.result ≤ length c.args.sections.now =
    omega (arith, c.weight_for-through.ensures.within, c.weight.ensures.value, c.requires.weights.count) in
    let is = weight_after c.new-ledger.result.presentation c.args.sections.now c.weight_for-through.result c.learn_through.new.known.table
    c.in_ok-learn_through.ensures.table low in
    let holds = all_hold c.args.p.now c.args.table.now c.args.sections.now c.requires.sound c.requires.accepted c.weight.ensures.shape.weight c.requires.few in
    λ e one. c.in-Err.ensures.differ (same_error c.in-Err.error NotEqual e)
    ((answers_agree c.args.p.now c.args.query.now c.requires.query c.args.table.now c.learn_through.new.known.table
    c.learn_through.new.ledger.presentation c.weight_for-through.result
    (c.in_ok-learn_through.ensures.grows.presentation ∙ c.new-ledger.ensures.presentation) holds c.in_ok-learn_through.ensures.known.holds c.requires.within is
    c.weight_for-through.ensures.reached).0 one)

pub needed_lines-requires : goal.needed_lines-requires
needed_lines-requires c = (
  c.equal_line.new.ledger.presentation,
  whole c.equal_line.new.ledger c.in-Ok.line c.args.query.now.left c.args.query.now.right c.into_proof.result
      c.in-Ok.ensures.says c.into_proof.ensures.lines c.into_proof.ensures.proof c.into_proof.ensures.over c.into_proof.ensures.distinct,
)

pub returns-in_ok-needed_lines-in-Ok-clause-one : goal.returns-in_ok-needed_lines-in-Ok-clause-one
returns-in_ok-needed_lines-in-Ok-clause-one c =
    let low : c.weight_for-through.result ≤ length c.args.sections.now =
    omega (arith, c.weight_for-through.ensures.within, c.weight.ensures.value, c.requires.weights.count) in
    let is = weight_after c.new-ledger.result.presentation c.args.sections.now c.weight_for-through.result c.learn_through.new.known.table
    c.in_ok-learn_through.ensures.table low in
    let holds = all_hold c.args.p.now c.args.table.now c.args.sections.now c.requires.sound c.requires.accepted c.weight.ensures.shape.weight c.requires.few in
    λ e. (answers_agree c.args.p.now c.args.query.now c.requires.query c.args.table.now c.learn_through.new.known.table
    c.learn_through.new.ledger.presentation c.weight_for-through.result
    (c.in_ok-learn_through.ensures.grows.presentation ∙ c.new-ledger.ensures.presentation) holds c.in_ok-learn_through.ensures.known.holds c.requires.within is
    c.weight_for-through.ensures.reached).1 (c.in-Ok.ensures.one refl)

pub returns-in_ok-needed_lines-in-Ok-clause-proof : goal.returns-in_ok-needed_lines-in-Ok-clause-proof
returns-in_ok-needed_lines-in-Ok-clause-proof c =
    proof_of c.args.p.now c.args.query.now c.equal_line.new.ledger c.in-Ok.line c.into_proof.result c.in_ok-needed_lines-in-Ok.field-0
    (c.in-Ok.ensures.presentation ∙ c.in_ok-learn_through.ensures.grows.presentation ∙ c.new-ledger.ensures.presentation) c.in-Ok.ensures.says
    c.into_proof.ensures.lines (whole c.equal_line.new.ledger c.in-Ok.line c.args.query.now.left c.args.query.now.right c.into_proof.result
    c.in-Ok.ensures.says c.into_proof.ensures.lines c.into_proof.ensures.proof c.into_proof.ensures.over c.into_proof.ensures.distinct)
    c.in_ok-needed_lines-in-Ok.ensures.proof c.in_ok-needed_lines-in-Ok.ensures.last c.in_ok-needed_lines-in-Ok.ensures.needed
