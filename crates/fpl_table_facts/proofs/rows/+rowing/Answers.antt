use Rattle.std.proofs.Common.{◌≡◌, ◌<◌, ◌++◌, [], ◌∷◌, length, take, get_or, ap, sym, subst, ◌∙◌, rules}
use Rattle.std.proofs.lemmas.List.{take_more}
use Rattle.fpl_model.specs.declared.expr.Expr.{Expr}
use Rattle.fpl_forms.proofs.Ledgers.{grows_trans}
use Rattle.fpl_table_facts.specs.Rows.{IsRow, AreRowsOf, expr_row}
use Rattle.fpl_table_facts.proofs.Grown.{grows_known, grows_next}
use Rattle.fpl_table_facts.proofs.Rowed.{rows_of_more}
use Rattle.fpl_table_facts.proofs.rows.+rowing.Goals as goal

pub rows-loop-e-preserved : goal.rows-loop-e-preserved
rows-loop-e-preserved t c =
    let i = c.loop-e.invariant in
    let f = c.in_ok-one in
    let g = f.ensures.grows in
    let M = c.row.new.ledger in
    let kn = c.args.known.now in
    let n = c.args.next.now in
    let es = c.args.members.now in
    let k = c.loop-e.e-index in
    let e = c.e-item.result in
    let olds = c.loop-e.all.items in
    let lt : k < length es = search rules in
    let item : e ≡ get_or es k e = c.e-item.is ∙ ap (λ es. get_or es k e) i.same in
    let items : c.push.new.self.items ≡ olds ++ f.one ∷ [] = c.in_ok-push.ensures.items in
    let row = subst (λ (x : Expr). IsRow M n x (expr_row M.presentation kn.table x) f.one) item f.ensures.row in
    record {
      same = i.same;
      grows = grows_trans i.grows g;
      presentation = i.presentation ∙ sym g.presentation;
      known = grows_known g i.known;
      next = grows_next g i.next;
      rows = subst (λ xs. AreRowsOf M kn n xs c.push.new.self.items) (sym (take_more es k e lt))
          (subst (AreRowsOf M kn n (take k es ++ get_or es k e ∷ [])) (sym items)
          (rows_of_more g kn n (take k es) olds (get_or es k e) f.one i.rows row));
    }
