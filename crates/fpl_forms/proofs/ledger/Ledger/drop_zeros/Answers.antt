use Rattle.std.proofs.Common.{◌≡◌, ◌<◌, ◌++◌, ◌∙◌, [], ◌∷◌, subst, sym, ap, ap₂, take, get_or, length, rules}
use Rattle.std.proofs.lemmas.List.{get_or_read, take_more}
use Rattle.fpl_forms.specs.Forms.{no_term, nonzero, IsPart}
use Rattle.fpl_forms.proofs.Ledgers.{grows_trans}
use Rattle.fpl_forms.proofs.Moves.{grows_atoms, grows_terms, nonzero-append, rest_is}
use Rattle.fpl_forms.proofs.ledger.Ledger.drop_zeros.Goals as goal

pub loop-i-preserved : goal.loop-i-preserved
loop-i-preserved c =
    let i = c.loop-i.invariant in
    let g = c.in_ok-part-2.ensures.grows in
    let M = c.take_in.new.self in
    let ts = c.args.sum.terms.items in
    let k = c.loop-i.i in
    let atoms = c.args.atoms.now in
    let lt : k < length ts = search rules in
    let item : c.index.result.now ≡ get_or ts k no_term = get_or_read ts k _ lt c.index.ensures no_term in
    record {
      grows = grows_trans i.grows g;
      atoms = grows_atoms g atoms i.atoms;
      whole = grows_terms g (length atoms) ts i.whole;
      part = subst (λ back. IsPart M atoms back c.in_ok-part-2.part) (rest_is c.deref.result.now ts k c.deref.ensures.value) c.in_ok-part-2.ensures.part;
      left = c.in_ok-part-2.ensures.left ∙ i.left;
      terms = c.in_ok-part-2.ensures.terms ∙ ap₂ (λ a t. a ++ nonzero (t ∷ [])) i.terms item ∙
          sym (nonzero-append (take k ts) (get_or ts k no_term ∷ [])) ∙ ap nonzero (sym (take_more ts k no_term lt));
    }
