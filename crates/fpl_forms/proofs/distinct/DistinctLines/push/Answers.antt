use Rattle.std.proofs.Common.{◌≡◌, ◌+◌, ◌++◌, [], ◌∷◌, ◌∙◌, List, ℕ, cond, Some, nat_eq, length, subst, sym, ap, rules}
use Rattle.indexmap.specs.IndexMap.{get}
use Rattle.fpl_lines.specs.declared.line.Line.{Line}
use Rattle.fpl_forms.specs.Distinct.{HaveNot, AreDistinct, IsLast, IsIndexed, key_at}
use Rattle.fpl_forms.proofs.Indexing.{distinct_more, indexed_more}
use Rattle.fpl_forms.proofs.distinct.DistinctLines.push.Goals as goal

pub invariant_of-self-in-Ok-insert : goal.invariant_of-self-in-Ok-insert
invariant_of-self-in-Ok-insert c =
    let ls : List Line = c.self.inside.lines.items in
    let l : Line = c.args.line in
    let olds : List ℕ = c.self.inside.before.items in
    let key : ℕ = c.sides_key-key.result in
    let m : ℕ = c.last_of-last.result in
    let count : c.len-len.result ≡ length ls = search rules in
    let view : ls ≡ c.args.self.now = c.self.view_is in
    let not : HaveNot ls l.left l.right = subst (λ ls. HaveNot ls l.left l.right) (sym view) c.requires in
    let prior : IsLast (key_at ls) key (length ls) m = subst (λ ls. IsLast (key_at ls) key (length ls) m) (sym view) c.last_of-last.ensures in
    let lines : c.push.new.self.items ≡ ls ++ l ∷ [] = c.in_ok-push.ensures.items in
    let before : c.push-2.new.self.items ≡ olds ++ m ∷ [] = c.in-Ok.ensures.items in
    subst (λ xs. AreDistinct xs × IsIndexed xs (get nat_eq c.insert.new.self) c.push-2.new.self.items) (sym lines) (
      distinct_more ls l c.self.invariant.0 not,
      subst (IsIndexed (ls ++ l ∷ []) (get nat_eq c.insert.new.self)) (sym before)
          (indexed_more ls l (get nat_eq c.self.inside.last) (get nat_eq c.insert.new.self) olds key m c.sides_key-key.ensures prior
          (λ h. c.in-Ok-insert.ensures.updates.0 h ∙ ap (λ n. cond (nat_eq key h) (Some (n + 1)) (get nat_eq c.self.inside.last h)) count)
          c.self.invariant.1),
    )
