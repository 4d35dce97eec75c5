use Rattle.std.proofs.Common.{◌≡◌, ◌<◌, ◌++◌, List, [], ◌∷◌, length, map, take, get_or, ap, sym, subst, ◌∙◌, rules}
use Rattle.std.proofs.lemmas.List.{map-append, take_more}
use Rattle.fpl_forms.specs.declared.term.Term.{Term}
use Rattle.fpl_forms.specs.declared.term.Fact.{Fact}
use Rattle.fpl_forms.specs.Forms.{no_term}
use Rattle.fpl_forms.proofs.Ledgers.{grows_trans}
use Rattle.fpl_table_facts.specs.Rows.{AreLeaves}
use Rattle.fpl_table_facts.proofs.Grown.{grows_known, grows_next}
use Rattle.fpl_table_facts.proofs.LeafLists.{grows_leaves, leaves_more}
use Rattle.fpl_table_facts.proofs.leaves.leaves.Goals as goal

pub loop-i-preserved : goal.loop-i-preserved
loop-i-preserved c =
    let i = c.loop-i.invariant in
    let r = c.in_ok-row in
    let M = c.leaves_with.new.ledger in
    let kn = c.args.known.now in
    let n = c.args.next.now in
    let ss = c.args.first.now in
    let ts = c.args.second.now in
    let k = c.loop-i.i in
    let olds = c.loop-i.all.items in
    let rows : List (List Fact) = map (λ r. r.items) olds in
    let s : Term = get_or ss k no_term in
    let lt : k < length ss = search rules in
    let items : c.push.new.self.items ≡ olds ++ r.row ∷ [] = c.in_ok-push.ensures.items in
    let here : map (λ r. r.items) c.push.new.self.items ≡ rows ++ r.row.items ∷ [] =
    ap (map (λ r. r.items)) items ∙ map-append (λ r. r.items) olds (r.row ∷ []) in
    record {
      grows = grows_trans i.grows r.ensures.grows;
      known = grows_known r.ensures.grows i.known;
      next = grows_next r.ensures.grows i.next;
      leaves = subst (λ xs. AreLeaves M kn n xs ts (map (λ r. r.items) c.push.new.self.items)) (sym (take_more ss k no_term lt))
          (subst (AreLeaves M kn n (take k ss ++ s ∷ []) ts) (sym here)
          (leaves_more M kn n (take k ss) ts rows s r.row.items (grows_leaves r.ensures.grows kn n (take k ss) ts rows i.leaves)
          r.ensures.leaves));
    }
