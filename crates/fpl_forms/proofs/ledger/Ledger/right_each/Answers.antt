use Rattle.std.proofs.Common.{◌≡◌, ◌<◌, ◌++◌, ◌∙◌, [], ◌∷◌, subst, sym, ap, ap₂, get_or, length, arith, rules}
use Rattle.std.proofs.lemmas.List.{get_or_read, map_more}
use Rattle.std.proofs.lemmas.List.Elements.{All-get_or}
use Rattle.fpl_numbers.specs.Numbers.{residue}
use Rattle.fpl_model.specs.declared.expr.Expr.TheVariants.{Zero, Times, Br}
use Rattle.fpl_forms.specs.declared.term.Term.{Term}
use Rattle.fpl_forms.specs.declared.term.Fact.{Fact}
use Rattle.fpl_forms.specs.Ledgers.{IsExpr, left_of}
use Rattle.fpl_forms.specs.Forms.{no_term, term_expr}
use Rattle.fpl_forms.specs.Combining.{terms_of, atom_of, pair_of, multiplied, times_term}
use Rattle.fpl_forms.proofs.Ledgers.{grows_trans}
use Rattle.fpl_forms.proofs.Moves.{grows_atoms, grows_terms}
use Rattle.fpl_forms.proofs.Gathering.{members_same, lengths_same, grows_works, grows_lefts_of, facts_next, zip2_more}
use Rattle.fpl_forms.proofs.ledger.Ledger.right_each.Goals as goal

pub times_right-requires-clause-right : goal.times_right-requires-clause-right
times_right-requires-clause-right c =
    let i = c.loop-i.invariant in
    let p = c.loop-i.self.presentation in
    let ts = c.args.second.now.terms.items in
    let k = c.loop-i.i in
    let lt : k < length ts = search rules in
    let t : Term = get_or ts k no_term in
    let item : c.index-t.result.now ≡ t = get_or_read ts k _ lt c.index-t.ensures no_term in
    subst (IsExpr p) (sym (c.atom_of.ensures ∙ ap (atom_of c.args.atoms.now) item))
    (All-get_or (IsExpr p) c.args.atoms.now t.atom Zero (i.terms k no_term lt).0 i.atoms)

pub times_right-requires-clause-bracket : goal.times_right-requires-clause-bracket
times_right-requires-clause-bracket c =
    let i = c.loop-i.invariant in
    let L = c.loop-i.self in
    let ts = c.args.second.now.terms.items in
    let fs = c.args.row.now in
    let atoms = c.args.atoms.now in
    let x = c.args.x.now in
    let k = c.loop-i.i in
    let f : Fact = c.index-row-i.result in
    let t : Term = get_or ts k no_term in
    let long : length fs ≡ length ts = lengths_same (λ (f : Fact). left_of L f.line) (pair_of atoms x) fs ts i.lefts in
    let lt : k < length ts = search rules in
    let lf : k < length fs = omega (arith, lt, long) in
    let item : c.index-t.result.now ≡ t = get_or_read ts k _ lt c.index-t.ensures no_term in
    let is : f ≡ get_or fs k f = c.index-row-i.is in
    ap (λ (f : Fact). left_of L f.line) is ∙ members_same (λ (f : Fact). left_of L f.line) (pair_of atoms x) fs ts k f no_term lf lt i.lefts ∙
    sym (ap (λ a. Br x a) (c.atom_of.ensures ∙ ap (atom_of atoms) item))

pub loop-i-preserved : goal.loop-i-preserved
loop-i-preserved c =
    let i = c.loop-i.invariant in
    let g = c.in_ok-next.ensures.grows in
    let L = c.loop-i.self in
    let M = c.times_right.new.self in
    let q = c.args.self.now.prime in
    let ts = c.args.second.now.terms.items in
    let fs = c.args.row.now in
    let atoms = c.args.atoms.now in
    let values = c.args.values.now in
    let x = c.args.x.now in
    let olds = c.loop-i.all.items in
    let k = c.loop-i.i in
    let f : Fact = c.index-row-i.result in
    let t : Term = get_or ts k no_term in
    let long : length fs ≡ length ts = lengths_same (λ (f : Fact). left_of L f.line) (pair_of atoms x) fs ts i.lefts in
    let lt : k < length ts = search rules in
    let lf : k < length fs = omega (arith, lt, long) in
    let item : c.index-t.result.now ≡ t = get_or_read ts k _ lt c.index-t.ensures no_term in
    let is : f ≡ get_or fs k f = c.index-row-i.is in
    let items : c.push.new.self.items ≡ olds ++ c.in_ok-next.next ∷ [] = c.in_ok-push.ensures.items in
    record {
      grows = grows_trans i.grows g;
      atoms = grows_atoms g atoms i.atoms;
      values = grows_atoms g values i.values;
      left = subst (λ p. IsExpr p x) (sym g.presentation) i.left;
      terms = grows_terms g (length atoms) ts i.terms;
      row = grows_works g values fs i.row;
      lefts = grows_lefts_of g values fs i.row ∙ i.lefts;
      made = facts_next g values _ _ _ _ olds _ c.in_ok-next.next (Br x (term_expr atoms t)) (times_term q t (get_or fs k f))
          (map_more (λ t. Br x (term_expr atoms t)) ts k no_term lt)
          (zip2_more (times_term q) ts fs k no_term f lt lf) items i.made
          c.in_ok-next.ensures.work
          (c.in_ok-next.ensures.left ∙ ap (λ a. Br x (Times (residue c.index-t.result.now.number) a)) c.atom_of.ensures ∙
          ap (λ (t : Term). Br x (term_expr atoms t)) item)
          (c.in_ok-next.ensures.terms ∙ ap (λ p. multiplied p c.index-t.result.now.number (terms_of f)) i.grows.prime ∙
          ap₂ (λ (t : Term) (f : Fact). times_term q t f) item is);
    }
