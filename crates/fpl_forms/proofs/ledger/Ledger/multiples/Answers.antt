use Rattle.std.proofs.Common.{◌≡◌, ◌<◌, ◌++◌, ◌∙◌, [], ◌∷◌, subst, sym, ap, ap₂, get_or, length, arith, rules}
use Rattle.std.proofs.lemmas.List.{get_or_read, map_more}
use Rattle.fpl_numbers.specs.Numbers.{residue}
use Rattle.fpl_model.specs.declared.expr.Expr.{Expr}
use Rattle.fpl_model.specs.declared.expr.Expr.TheVariants.{Times}
use Rattle.fpl_forms.specs.declared.term.Term.{Term}
use Rattle.fpl_forms.specs.declared.term.Fact.{Fact}
use Rattle.fpl_forms.specs.Ledgers.{left_of}
use Rattle.fpl_forms.specs.Forms.{no_term, term_expr}
use Rattle.fpl_forms.specs.Combining.{terms_of, atom_of, multiplied, times_term}
use Rattle.fpl_forms.proofs.Ledgers.{grows_trans}
use Rattle.fpl_forms.proofs.Moves.{grows_atoms, grows_terms}
use Rattle.fpl_forms.proofs.Gathering.{members_same, lengths_same, grows_works, grows_lefts_of, facts_next, zip2_more}
use Rattle.fpl_forms.proofs.ledger.Ledger.multiples.Goals as goal

pub loop-i-preserved : goal.loop-i-preserved
loop-i-preserved c =
    let i = c.loop-i.invariant in
    let g = c.in_ok-next.ensures.grows in
    let L = c.loop-i.self in
    let M = c.times.new.self in
    let q = c.args.self.now.prime in
    let ts = c.args.sum.now.terms.items in
    let fs = c.args.facts.now in
    let atoms = c.args.atoms.now in
    let values = c.args.values.now in
    let olds = c.loop-i.all.items in
    let k = c.loop-i.i in
    let f : Fact = c.index-facts-i.result in
    let t : Term = get_or ts k no_term in
    let long : length fs ≡ length ts = lengths_same (λ (f : Fact). left_of L f.line) (atom_of atoms) fs ts i.lefts in
    let lt : k < length ts = search rules in
    let lf : k < length fs = omega (arith, lt, long) in
    let item : c.index.result.now ≡ t = get_or_read ts k _ lt c.index.ensures no_term in
    let is : f ≡ get_or fs k f = c.index-facts-i.is in
    let atom : left_of L f.line ≡ atom_of atoms t =
    ap (λ (f : Fact). left_of L f.line) is ∙ members_same (λ (f : Fact). left_of L f.line) (atom_of atoms) fs ts k f no_term lf lt i.lefts in
    let items : c.push.new.self.items ≡ olds ++ c.in_ok-next.next ∷ [] = c.in_ok-push.ensures.items in
    record {
      grows = grows_trans i.grows g;
      values = grows_atoms g values i.values;
      terms = grows_terms g (length atoms) ts i.terms;
      facts = grows_works g values fs i.facts;
      lefts = grows_lefts_of g values fs i.facts ∙ i.lefts;
      made = facts_next g values _ _ _ _ olds _ c.in_ok-next.next (term_expr atoms t) (times_term q t (get_or fs k f))
          (map_more (term_expr atoms) ts k no_term lt)
          (zip2_more (times_term q) ts fs k no_term f lt lf) items i.made
          c.in_ok-next.ensures.work
          (c.in_ok-next.ensures.left ∙ ap₂ (λ (t : Term) (e : Expr). Times (residue t.number) e) item atom)
          (c.in_ok-next.ensures.terms ∙ ap (λ p. multiplied p c.index.result.now.number (terms_of f)) i.grows.prime ∙
          ap₂ (λ (t : Term) (f : Fact). times_term q t f) item is);
    }
