use Rattle.std.proofs.Common.{◌≡◌, ◌<◌, ◌++◌, [], ◌∷◌, length, take, get_or, sym, subst, rules}
use Rattle.std.proofs.lemmas.List.{take_more}
use Rattle.fpl_forms.specs.declared.term.Term.{Term}
use Rattle.fpl_forms.specs.Forms.{no_term}
use Rattle.fpl_forms.proofs.Ledgers.{grows_trans}
use Rattle.fpl_table_facts.specs.Rows.{AreLeavesOf}
use Rattle.fpl_table_facts.proofs.Grown.{grows_known, grows_next}
use Rattle.fpl_table_facts.proofs.LeafLists.{grows_leaves_of, leaves_of_more}
use Rattle.fpl_table_facts.proofs.leaves.leaves_with.Goals as goal

pub loop-i-preserved : goal.loop-i-preserved
loop-i-preserved c =
    let i = c.loop-i.invariant in
    let f = c.in_ok-row in
    let M = c.leaf.new.ledger in
    let kn = c.args.known.now in
    let n = c.args.next.now in
    let s = c.args.s in
    let ts = c.args.second.now in
    let k = c.loop-i.i in
    let olds = c.loop-i.all.items in
    let lt : k < length ts = search rules in
    let t : Term = get_or ts k no_term in
    let items : c.push.new.self.items ≡ olds ++ f.row ∷ [] = c.in_ok-push.ensures.items in
    let row = f.ensures.row in
    record {
      grows = grows_trans i.grows f.ensures.grows;
      known = grows_known f.ensures.grows i.known;
      next = grows_next f.ensures.grows i.next;
      leaves = subst (λ us. AreLeavesOf M kn n s us c.push.new.self.items) (sym (take_more ts k no_term lt))
          (subst (AreLeavesOf M kn n s (take k ts ++ t ∷ [])) (sym items)
          (leaves_of_more M kn n s (take k ts) olds t f.row (grows_leaves_of f.ensures.grows kn n s (take k ts) olds i.leaves) row));
    }
