use Rattle.std.proofs.Common.{◌<◌, subst, ap, ◌∙◌, arith}
use Rattle.fpl_numbers.specs.Numbers.{residue}
use Rattle.fpl_numbers.proofs.KindReads.{listed_prime}
use Rattle.fpl_model.specs.declared.expr.Expr.TheVariants.{Times}
use Rattle.fpl_forms.specs.Ledgers.{IsSoundLedger}
use Rattle.fpl_forms.proofs.Ledgers.{grows_trans}
use Rattle.fpl_forms.proofs.Next.{next_as, next_one, residue_over}
use Rattle.fpl_forms.proofs.ledger.Ledger.once.Goals as goal

pub push-requires : goal.push-requires
push-requires c =
    let L = c.args.self.now in
    let sound = subst IsSoundLedger c.self.view_is c.self.invariant in
    let odd = (listed_prime L.prime sound.listed).1 in
    let small : 1 < L.prime = omega (arith, odd) in
    next_as L sound (c.in_ok-left.ensures ∙ ap (λ x. Times (residue 1) x) c.in_ok-copy.ensures) c.in_ok-right.ensures
    (next_one L sound c.args.atom.now (residue_over L sound 1 c.args.atom.now small c.requires) c.requires)

pub returns-clause-grows : goal.returns-clause-grows
returns-clause-grows c = grows_trans c.in_ok-one.ensures.grows c.in_ok-turned.ensures.grows

pub returns-clause-says : goal.returns-clause-says
returns-clause-says c =
    let s = c.in_ok-turned.ensures.says in
    record {
      from_one = s.from_one;
      to_end = s.to_end;
      left = s.left ∙ c.in_ok-one.ensures.says.right ∙ c.in_ok-right.ensures;
      right = s.right ∙ c.in_ok-one.ensures.says.left ∙ c.in_ok-left.ensures ∙ ap (λ x. Times (residue 1) x) c.in_ok-copy.ensures;
    }
