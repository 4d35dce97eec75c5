use Rattle.std.proofs.Common.{◌≡◌, ◌<◌, ◌++◌, ◌∙◌, [], ◌∷◌, subst, sym, ap, ap₂, map, get_or, length, rules}
use Rattle.std.proofs.lemmas.List.{get_or_read, map-append, map_more}
use Rattle.std.proofs.lemmas.List.Elements.{All-append}
use Rattle.fpl_numbers.specs.Numbers.{residue}
use Rattle.fpl_model.specs.declared.expr.Expr.TheVariants.{Times}
use Rattle.fpl_forms.specs.declared.term.Term.{Term}
use Rattle.fpl_forms.specs.Ledgers.{IsWithin, AreWithin, left_of, right_of}
use Rattle.fpl_forms.specs.Forms.{no_term, term_expr}
use Rattle.fpl_forms.specs.Combining.{scaled}
use Rattle.fpl_forms.proofs.Ledgers.{all_one, grows_trans, grows_all, grows_lefts, grows_rights}
use Rattle.fpl_forms.proofs.Moves.{grows_atoms, grows_terms}
use Rattle.fpl_forms.proofs.ledger.Ledger.multiply_each.Goals as goal

pub loop-i-preserved : goal.loop-i-preserved
loop-i-preserved c =
    let i = c.loop-i.invariant in
    let g = c.in_ok-n.ensures.grows in
    let says = c.in_ok-n.ensures.says in
    let M = c.multiply.new.self in
    let q = c.args.self.now.prime in
    let a = c.args.number in
    let ts = c.args.sum.now.terms.items in
    let atoms = c.args.atoms.now in
    let olds = c.loop-i.lines.items in
    let n = c.in_ok-n.n in
    let lt : c.loop-i.i < length ts = search rules in
    let item : c.index.result.now ≡ get_or ts c.loop-i.i no_term = get_or_read ts c.loop-i.i _ lt c.index.ensures no_term in
    let items : c.push.new.self.items ≡ olds ++ n ∷ [] = c.in_ok-push.ensures.items in
    record {
      grows = grows_trans i.grows g;
      atoms = grows_atoms g atoms i.atoms;
      number = subst (λ p. a < p) (sym g.prime) i.number;
      terms = grows_terms g (length atoms) ts i.terms;
      within = subst (AreWithin M) (sym items)
          (All-append (IsWithin M) olds (n ∷ []) (grows_all g olds i.within) (all_one (IsWithin M) n (says.from_one, says.to_end)));
      lefts = ap (map (left_of M)) items ∙ map-append (left_of M) olds (n ∷ []) ∙
          ap₂ (λ a b. a ++ b ∷ []) (grows_lefts g olds i.within ∙ i.lefts) (says.left ∙ ap (λ t. Times (residue a) (term_expr atoms t)) item) ∙
          sym (map_more (λ t. Times (residue a) (term_expr atoms t)) ts c.loop-i.i no_term lt);
      rights = ap (map (right_of M)) items ∙ map-append (right_of M) olds (n ∷ []) ∙
          ap₂ (λ a b. a ++ b ∷ []) (grows_rights g olds i.within ∙ i.rights)
          (says.right ∙ ap₂ (λ p (t : Term). term_expr atoms (scaled p a t)) i.grows.prime item) ∙
          sym (map_more (λ t. term_expr atoms (scaled q a t)) ts c.loop-i.i no_term lt);
    }
