use Rattle.std.proofs.Common.{◌∙◌, sym}
use Rattle.fpl_forms.proofs.Ledgers.{grows_trans, grows_left, grows_right}
use Rattle.fpl_forms.proofs.ledger.Ledger.equal.Goals as goal

pub chain-requires-clause-meet : goal.chain-requires-clause-meet
chain-requires-clause-meet c =
    grows_right c.in_ok-back.ensures.grows c.args.first.now.line c.requires.first ∙ c.requires.meet ∙ sym c.in_ok-back.ensures.says.left

pub returns-clause-grows : goal.returns-clause-grows
returns-clause-grows c = grows_trans c.in_ok-back.ensures.grows c.in_ok-n.ensures.grows

pub returns-clause-says : goal.returns-clause-says
returns-clause-says c =
    let s = c.in_ok-n.ensures.says in
    record {
      from_one = s.from_one;
      to_end = s.to_end;
      left = s.left ∙ grows_left c.in_ok-back.ensures.grows c.args.first.now.line c.requires.first;
      right = s.right ∙ c.in_ok-back.ensures.says.right;
    }
