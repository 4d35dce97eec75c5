use Rattle.std.proofs.Common.{◌≡◌, ap, ap₂, sym, subst, ◌∙◌}
use Rattle.fpl_model.specs.Meaning.{generators_in}
use Rattle.fpl_model.specs.Sound.{IsSound}
use Rattle.fpl_log.specs.declared.step.Origin.TheVariants.{Relation}
use Rattle.fpl_facts.specs.Axioms.{relation_at}
use Rattle.fpl_table_facts.specs.Rows.{IsDue}
use Rattle.fpl_prove.specs.Zeros.{origin_vector}
use Rattle.fpl_prove.specs.Sides.{sides_row}
use Rattle.fpl_table_facts.proofs.Grown.{grows_known}
use Rattle.fpl_prove.proofs.LineZeros.{as_vector}
use Rattle.fpl_prove.proofs.Relations.{relation_next, left_due, right_due, relation_vector}
use Rattle.fpl_prove.proofs.origins.relation_zero.Goals as goal

pub line_zero-requires-clause-known : goal.line_zero-requires-clause-known
line_zero-requires-clause-known c = grows_known c.in_ok-n.ensures.grows c.requires.known

pub line_zero-requires-clause-left : goal.line_zero-requires-clause-left
line_zero-requires-clause-left c =
    let p = c.args.p.now in
    let T = c.args.known.now.table in
    let h = c.requires.known.holds in
    let is = c.requires.presentation in
    subst (IsDue p T.weight) (sym c.in_ok-n.ensures.says.left)
    (left_due p T c.args.r (subst IsSound (sym is) h.sound) (h.kind ∙ ap (λ p. p.field) (sym is)) (h.generators ∙ ap generators_in (sym is))
    (relation_next p T c.args.r c.requires.relation))

pub line_zero-requires-clause-right : goal.line_zero-requires-clause-right
line_zero-requires-clause-right c =
    let p = c.args.p.now in
    let T = c.args.known.now.table in
    let h = c.requires.known.holds in
    let is = c.requires.presentation in
    subst (IsDue p T.weight) (sym c.in_ok-n.ensures.says.right)
    (right_due p T c.args.r (subst IsSound (sym is) h.sound) (h.kind ∙ ap (λ p. p.field) (sym is)) (h.generators ∙ ap generators_in (sym is))
    (relation_next p T c.args.r c.requires.relation))

pub returns-clause-zero : goal.returns-clause-zero
returns-clause-zero c =
    let p = c.args.p.now in
    let T = c.args.known.now.table in
    let h = c.requires.known.holds in
    let is = c.requires.presentation in
    let z = c.in_ok-zero in
    let n = c.in_ok-n in
    let N = c.line_zero.new.ledger in
    let r = c.args.r in
    let to : p ≡ N.presentation = is ∙ sym n.ensures.grows.presentation ∙ sym z.ensures.grows.presentation in
    let vector = relation_vector p T r (subst IsSound (sym is) h.sound) (h.kind ∙ ap (λ p. p.field) (sym is)) (h.generators ∙ ap generators_in (sym is))
    (relation_next p T r c.requires.relation) in
    let there : sides_row N.presentation T (relation_at p r).left (relation_at p r).right ≡ origin_vector N.presentation T (Relation r) =
    subst (λ o. sides_row o T (relation_at p r).left (relation_at p r).right ≡ origin_vector o T (Relation r)) to vector in
    as_vector _ _ (ap₂ (sides_row N.presentation T) n.ensures.says.left n.ensures.says.right ∙ there) z.ensures.zero
