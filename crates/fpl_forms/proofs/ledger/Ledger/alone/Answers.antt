use Rattle.std.proofs.Common.{[], ◌∷◌, ◌∙◌, subst, sym}
use Rattle.fpl_forms.specs.Ledgers.{IsSoundLedger, IsExpr}
use Rattle.fpl_forms.proofs.Trees.{over-Sum}
use Rattle.fpl_forms.proofs.Ledgers.{all_one, sides_over, grows_trans, grows_left, grows_right}
use Rattle.fpl_forms.proofs.Next.{next_as, next_single}
use Rattle.fpl_forms.proofs.ledger.Ledger.alone.Goals as goal

pub push-requires : goal.push-requires
push-requires c =
    let L = c.args.self.now in
    let sound = subst IsSoundLedger c.self.view_is c.self.invariant in
    let e = c.args.once.now in
    let over = subst (IsExpr L.presentation) c.requires.right (sides_over L c.args.line c.requires.line sound).1 in
    next_as L sound c.in_ok-left.ensures c.in_ok-right.ensures
    (next_single L sound e (over-Sum L.presentation (e ∷ []) (all_one (IsExpr L.presentation) e over)) over)

pub chain-requires-clause-meet : goal.chain-requires-clause-meet
chain-requires-clause-meet c =
    grows_right (grows_trans c.in_ok-single.ensures.grows c.in_ok-turned.ensures.grows) c.args.line c.requires.line ∙ c.requires.right ∙
    sym (c.in_ok-turned.ensures.says.left ∙ c.in_ok-single.ensures.says.right ∙ c.in_ok-right.ensures)

pub returns-clause-grows : goal.returns-clause-grows
returns-clause-grows c = grows_trans c.in_ok-single.ensures.grows (grows_trans c.in_ok-turned.ensures.grows c.in_ok-chained.ensures.grows)

pub returns-clause-says : goal.returns-clause-says
returns-clause-says c =
    let s = c.in_ok-chained.ensures.says in
    record {
      from_one = s.from_one;
      to_end = s.to_end;
      left = s.left ∙ grows_left (grows_trans c.in_ok-single.ensures.grows c.in_ok-turned.ensures.grows) c.args.line c.requires.line;
      right = s.right ∙ c.in_ok-turned.ensures.says.right ∙ c.in_ok-single.ensures.says.left ∙ c.in_ok-left.ensures;
    }
