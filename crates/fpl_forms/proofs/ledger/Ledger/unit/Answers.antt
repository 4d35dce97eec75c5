use Rattle.std.proofs.Common.{◌≡◌, ◌<◌, ◌++◌, [], ◌∷◌, ◌∙◌, subst, sym, ap, length, arith}
use Rattle.std.proofs.lemmas.List.Elements.{All-get_or}
use Rattle.fpl_numbers.specs.Numbers.{residue}
use Rattle.fpl_numbers.proofs.KindReads.{listed_prime}
use Rattle.fpl_model.specs.declared.expr.Expr.TheVariants.{Zero, Sum, Times}
use Rattle.fpl_forms.specs.declared.term.Term.{Term}
use Rattle.fpl_forms.specs.Ledgers.{IsSoundLedger, IsExpr}
use Rattle.fpl_forms.specs.Forms.{IsTermOf, AreTermsOf, sum_expr}
use Rattle.fpl_forms.proofs.Ledgers.{all_one, grows_trans}
use Rattle.fpl_forms.proofs.ledger.Ledger.unit.Goals as goal

pub once-requires : goal.once-requires
once-requires c =
    let p = c.args.self.now.presentation in
    subst (IsExpr p) (sym c.atom_of.ensures) (All-get_or (IsExpr p) c.args.atoms.now c.args.atom Zero c.requires.atom c.requires.atoms)

pub alone-requires-clause-right : goal.alone-requires-clause-right
alone-requires-clause-right c =
    c.in_ok-once.ensures.says.right ∙ ap (λ x. Times (residue 1) x) c.atom_of.ensures ∙ sym c.in_ok-whole.ensures

pub returns-clause-grows : goal.returns-clause-grows
returns-clause-grows c = grows_trans c.in_ok-once.ensures.grows c.in_ok-line.ensures.grows

pub returns-clause-left : goal.returns-clause-left
returns-clause-left c = c.in_ok-line.ensures.says.left ∙ c.in_ok-once.ensures.says.left ∙ c.atom_of.ensures

pub returns-clause-work : goal.returns-clause-work
returns-clause-work c =
    let M = c.alone.new.self in
    let atoms = c.args.atoms.now in
    let t : Term = record { atom = c.args.atom; number = 1 } in
    let says = c.in_ok-line.ensures.says in
    let sound = subst IsSoundLedger c.self.view_is c.self.invariant in
    let odd = (listed_prime c.once.new.self.prime sound.listed).1 in
    let prime : M.prime ≡ c.once.new.self.prime = c.in_ok-line.ensures.grows.prime in
    let items : c.push.new.self.items ≡ t ∷ [] = c.in_ok-push.ensures.items ∙ ap (λ ts. ts ++ t ∷ []) c.new-terms.ensures.items in
    record {
      within = (says.from_one, says.to_end);
      right = says.right ∙ ap (λ e. Sum (e ∷ [])) c.in_ok-whole.ensures ∙ ap (sum_expr atoms) (sym items);
      terms = subst (AreTermsOf M.prime (length atoms)) (sym items)
          (all_one (IsTermOf M.prime (length atoms)) t (c.requires.atom, let small : 1 < M.prime = omega (arith, odd, prime) in small));
    }
