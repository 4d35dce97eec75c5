use Rattle.std.proofs.Common.{◌≡◌, subst, ◌∙◌, ap, sym, List, ℕ, map, take, rules}
use Rattle.std.proofs.lemmas.List.{take_all}
use Rattle.fpl_lines.specs.declared.line.Rule.TheVariants as rule
use Rattle.fpl_model.specs.declared.expr.Expr.TheVariants.{Sum}
use Rattle.fpl_forms.specs.Ledgers.{IsSoundLedger, left_of, right_of}
use Rattle.fpl_forms.proofs.Next.{next_as, next_parts, Next}
use Rattle.fpl_forms.proofs.ledger.Ledger.parts.Goals as goal

pub push-requires-2 : goal.push-requires-2
push-requires-2 c =
    let L = c.args.self.now in
    let sound = subst IsSoundLedger c.self.view_is c.self.invariant in
    let ns = c.args.lines.items in
    let list : c.from_vec.result ≡ ns = c.from_vec.ensures in
    let whole : take c.loop-n.n-index ns ≡ ns = take_all c.loop-n.n-index ns (search rules) in
    let left : c.in_ok-left.left ≡ Sum (map (left_of L) ns) = c.in_ok-left.ensures ∙ ap (λ es. Sum es) (c.loop-n.invariant.left ∙ ap (map (left_of L)) whole) in
    let right : c.in_ok-right.right ≡ Sum (map (right_of L) ns) =
    c.in_ok-right.ensures ∙ ap (λ es. Sum es) (c.loop-n.invariant.right ∙ ap (map (right_of L)) whole) in
    next_as L sound left right
    (subst (λ (ms : List ℕ). Next L sound (Sum (map (left_of L) ns)) (Sum (map (right_of L) ns)) (rule.Parts ms))
    (sym list) (next_parts L sound ns c.requires))
