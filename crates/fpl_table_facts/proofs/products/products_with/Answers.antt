use Rattle.std.proofs.Common.{◌≡◌, ◌<◌, ◌++◌, [], ◌∷◌, length, ap, ap₂, sym, subst, ◌∙◌, rules, All}
use Rattle.std.proofs.lemmas.List.{map_more}
use Rattle.fpl_forms.specs.Forms.{IsWork, no_term}
use Rattle.fpl_forms.specs.Combining.{lefts, pair_of, atom_of}
use Rattle.fpl_forms.proofs.Ledgers.{grows_trans}
use Rattle.fpl_forms.proofs.Gathering.{works_more, lefts_more}
use Rattle.fpl_table_facts.proofs.Grown.{grows_known}
use Rattle.fpl_table_facts.proofs.products.products_with.Goals as goal

pub loop-i-preserved : goal.loop-i-preserved
loop-i-preserved c =
    let i = c.loop-i.invariant in
    let f = c.in_ok-next in
    let M = c.product.new.ledger in
    let atoms = c.args.known.now.basis.items in
    let ts = c.args.second.now in
    let k = c.loop-i.i in
    let olds = c.loop-i.all.items in
    let a = atom_of atoms c.args.s in
    let lt : k < length ts = search rules in
    let items : c.push.new.self.items ≡ olds ++ f.next ∷ [] = c.in_ok-push.ensures.items in
    record {
      grows = grows_trans i.grows f.ensures.grows;
      known = grows_known f.ensures.grows i.known;
      works = subst (All (IsWork M atoms)) (sym items) (works_more f.ensures.grows atoms olds f.next i.works f.ensures.form.fact.work);
      lefts = ap (lefts M) items ∙ lefts_more f.ensures.grows atoms olds f.next i.works ∙
          ap₂ (λ xs x. xs ++ x ∷ []) i.lefts f.ensures.form.fact.left ∙
          sym (map_more (pair_of atoms a) ts k no_term lt);
    }
