use Rattle.std.proofs.Common.{◌≡◌, ◌<◌, ◌++◌, List, [], ◌∷◌, length, map, take, get_or, ap, sym, subst, ◌∙◌, rules}
use Rattle.std.proofs.lemmas.List.{map-append, take_more}
use Rattle.fpl_forms.specs.declared.term.Fact.{Fact}
use Rattle.fpl_forms.specs.Forms.{no_term}
use Rattle.fpl_forms.specs.Combining.{AreRows}
use Rattle.fpl_forms.proofs.Ledgers.{grows_trans}
use Rattle.fpl_forms.proofs.Rows.{grows_rows}
use Rattle.fpl_table_facts.proofs.Grown.{grows_known}
use Rattle.fpl_table_facts.proofs.RowLists.{rows_more}
use Rattle.fpl_table_facts.proofs.products.products.Goals as goal

pub loop-i-preserved : goal.loop-i-preserved
loop-i-preserved c =
    let i = c.loop-i.invariant in
    let r = c.in_ok-row in
    let M = c.products_with.new.ledger in
    let atoms = c.args.known.now.basis.items in
    let ss = c.args.first.now in
    let ts = c.args.second.now in
    let k = c.loop-i.i in
    let olds = c.loop-i.all.items in
    let rows : List (List Fact) = map (λ r. r.items) olds in
    let s = get_or ss k no_term in
    let lt : k < length ss = search rules in
    let items : c.push.new.self.items ≡ olds ++ r.row ∷ [] = c.in_ok-push.ensures.items in
    let here : map (λ r. r.items) c.push.new.self.items ≡ rows ++ r.row.items ∷ [] =
    ap (map (λ r. r.items)) items ∙ map-append (λ r. r.items) olds (r.row ∷ []) in
    record {
      grows = grows_trans i.grows r.ensures.grows;
      known = grows_known r.ensures.grows i.known;
      rows = subst (λ xs. AreRows M atoms atoms xs ts (map (λ r. r.items) c.push.new.self.items)) (sym (take_more ss k no_term lt))
          (subst (AreRows M atoms atoms (take k ss ++ s ∷ []) ts) (sym here)
          (rows_more M atoms atoms (take k ss) ts rows s r.row.items (grows_rows r.ensures.grows atoms atoms (take k ss) ts rows i.rows) r.ensures.works
          r.ensures.lefts));
    }
