use Rattle.std.proofs.Common.{◌≡◌, get_or, ap, ap₂, sym, subst, ◌∙◌}
use Rattle.fpl_model.specs.declared.expr.Expr.TheVariants.{Zero, Br}
use Rattle.fpl_model.specs.declared.presentation.Parity.TheVariants.{Even}
use Rattle.fpl_forms.specs.Ledgers.{left_of}
use Rattle.fpl_forms.specs.Forms.{sum_expr}
use Rattle.fpl_forms.proofs.Ledgers.{grows_trans, grows_left, grows_right}
use Rattle.fpl_facts.specs.Axioms.{HasParityIn}
use Rattle.fpl_facts.specs.Facts.{halved}
use Rattle.fpl_facts.proofs.pairs.square.Goals as goal

pub swapped-requires-clause-first : goal.swapped-requires-clause-first
swapped-requires-clause-first c = subst (λ p. HasParityIn p c.args.a.now Even) (sym c.in_ok-unit.ensures.grows.presentation) c.requires.even

pub swapped-requires-clause-second : goal.swapped-requires-clause-second
swapped-requires-clause-second c = subst (λ p. HasParityIn p c.args.a.now Even) (sym c.in_ok-unit.ensures.grows.presentation) c.requires.even

pub join-requires-clause-meet : goal.join-requires-clause-meet
join-requires-clause-meet c =
    let unit = c.in_ok-unit in
    let minus = c.in_ok-minus in
    let one = c.in_ok-one in
    let none = c.in_ok-none in
    let X = Br c.args.a.now c.args.a.now in
    let within = unit.ensures.work.within in
    let start : left_of c.unit.new.self unit.unit.line ≡ X =
    unit.ensures.left ∙ ap (λ es. get_or es 0 Zero) (c.deref.ensures.value ∙ c.in_ok-whole.ensures.item) in
    let second : left_of c.swapped.new.ledger unit.unit.line ≡ X = grows_left minus.ensures.grows unit.unit.line within ∙ start in
    let third : left_of c.half_and_half.new.ledger unit.unit.line ≡ X =
    grows_left (grows_trans minus.ensures.grows one.ensures.grows) unit.unit.line within ∙ start in
    let off : left_of c.half_and_half.new.ledger minus.minus.line ≡ X =
    grows_left one.ensures.grows minus.minus.line minus.ensures.fact.work.within ∙ minus.ensures.fact.left in
    grows_left none.ensures.grows one.one.line one.ensures.fact.work.within ∙ one.ensures.fact.left ∙
    ap₂ (halved c.swapped.new.ledger.prime) second second ∙ ap (λ q. halved q X X) (sym one.ensures.grows.prime) ∙
    sym (none.ensures.fact.left ∙ ap₂ (halved c.half_and_half.new.ledger.prime) third off)

pub led-requires-clause-meet : goal.led-requires-clause-meet
led-requires-clause-meet c =
    let unit = c.in_ok-unit in
    let after = grows_trans c.in_ok-minus.ensures.grows (grows_trans c.in_ok-one.ensures.grows
    (grows_trans c.in_ok-none.ensures.grows c.in_ok-gone.ensures.grows)) in
    grows_right after unit.unit.line unit.ensures.work.within ∙ unit.ensures.work.right ∙
    ap₂ sum_expr (c.deref.ensures.value ∙ sym c.deref-5.ensures.value) (unit.ensures.terms ∙ sym c.in_ok-one.ensures.terms) ∙ sym c.in_ok-gone.ensures.left

pub returns-clause-fact : goal.returns-clause-fact
returns-clause-fact c =
    let unit = c.in_ok-unit in
    let after = grows_trans c.in_ok-minus.ensures.grows (grows_trans c.in_ok-one.ensures.grows
    (grows_trans c.in_ok-none.ensures.grows c.in_ok-gone.ensures.grows)) in
    record {
      work = c.in_ok-square.ensures.work;
      left = c.in_ok-square.ensures.left ∙ grows_left after unit.unit.line unit.ensures.work.within ∙ unit.ensures.left ∙
          ap (λ es. get_or es 0 Zero) (c.deref.ensures.value ∙ c.in_ok-whole.ensures.item);
    }

pub returns-clause-grows : goal.returns-clause-grows
returns-clause-grows c =
    grows_trans c.in_ok-unit.ensures.grows (grows_trans c.in_ok-minus.ensures.grows (grows_trans c.in_ok-one.ensures.grows
    (grows_trans c.in_ok-none.ensures.grows (grows_trans c.in_ok-gone.ensures.grows c.in_ok-square.ensures.grows))))
