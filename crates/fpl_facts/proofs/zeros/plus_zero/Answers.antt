use Rattle.std.proofs.Common.{◌≡◌, ◌++◌, [], ◌∷◌, get_or, ap, ap₂, sym, ◌∙◌}
use Rattle.fpl_model.specs.declared.expr.Expr.TheVariants.{Zero, Sum}
use Rattle.fpl_forms.specs.Ledgers.{left_of}
use Rattle.fpl_forms.specs.Forms.{sum_expr, tidied}
use Rattle.fpl_forms.proofs.Ledgers.{grows_trans, grows_left, grows_right}
use Rattle.fpl_facts.specs.Facts.{once}
use Rattle.fpl_facts.proofs.zeros.plus_zero.Goals as goal

pub join-requires-clause-meet : goal.join-requires-clause-meet
join-requires-clause-meet c =
    let g2 = c.in_ok-empty.ensures.grows in
    let g3 = c.in_ok-down.ensures.grows in
    let g4 = c.in_ok-up.ensures.grows in
    let unit = c.in_ok-unit in
    let fact = c.args.fact.now in
    let zero = c.args.zero.now in
    let before = grows_trans unit.ensures.grows (grows_trans g2 g3) in
    let one : left_of c.unit.new.self unit.unit.line ≡ left_of c.args.ledger.now fact.line =
    unit.ensures.left ∙ ap (λ es. get_or es 0 Zero) (c.deref.ensures.value ∙ c.in_ok-whole.ensures.item) in
    grows_left g4 c.in_ok-down.down.line c.in_ok-down.ensures.fact.work.within ∙ c.in_ok-down.ensures.fact.left ∙
    ap₂ (λ e f. Sum (e ∷ f ∷ [])) (grows_left g2 unit.unit.line unit.ensures.work.within ∙ one) c.in_ok-empty.ensures.fact.left ∙
    sym (c.in_ok-up.ensures.fact.left ∙ ap₂ (λ e f. Sum (e ∷ f ∷ [])) (grows_left before fact.line c.requires.fact.within)
    (grows_left before zero.line c.requires.zero.work.within ∙ c.requires.zero.left))

pub led-requires-clause-meet : goal.led-requires-clause-meet
led-requires-clause-meet c =
    let unit = c.in_ok-unit in
    let after = grows_trans c.in_ok-empty.ensures.grows (grows_trans c.in_ok-down.ensures.grows
    (grows_trans c.in_ok-up.ensures.grows c.in_ok-more.ensures.grows)) in
    let whole = c.in_ok-whole.whole.items in
    let down : c.in_ok-down.down.terms.items ≡ once =
    c.in_ok-down.ensures.terms ∙ ap₂ (λ ss ts. tidied c.blank.new.ledger.prime (ss ++ ts)) unit.ensures.terms c.in_ok-empty.ensures.terms in
    grows_right after unit.unit.line unit.ensures.work.within ∙ unit.ensures.work.right ∙
    ap₂ sum_expr (c.deref.ensures.value ∙ sym c.deref-4.ensures.value) (unit.ensures.terms ∙ sym down) ∙ sym c.in_ok-more.ensures.left

pub returns-clause-fact : goal.returns-clause-fact
returns-clause-fact c =
    let unit = c.in_ok-unit in
    let after = grows_trans c.in_ok-empty.ensures.grows (grows_trans c.in_ok-down.ensures.grows
    (grows_trans c.in_ok-up.ensures.grows c.in_ok-more.ensures.grows)) in
    record {
      work = c.in_ok-sum.ensures.work;
      left = c.in_ok-sum.ensures.left ∙ grows_left after unit.unit.line unit.ensures.work.within ∙ unit.ensures.left ∙
          ap (λ es. get_or es 0 Zero) (c.deref.ensures.value ∙ c.in_ok-whole.ensures.item);
    }

pub returns-clause-grows : goal.returns-clause-grows
returns-clause-grows c =
    grows_trans c.in_ok-unit.ensures.grows (grows_trans c.in_ok-empty.ensures.grows (grows_trans c.in_ok-down.ensures.grows
    (grows_trans c.in_ok-up.ensures.grows (grows_trans c.in_ok-more.ensures.grows c.in_ok-sum.ensures.grows))))
