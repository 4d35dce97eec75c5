use Rattle.std.proofs.Common.{◌-◌, arith}
use Rattle.fpl_model.proofs.Relations.{left_term, right_term}
use Rattle.fpl_rewrite.proofs.Relations.{small_relation, relation_row_at}
use Rattle.fpl_rewrite.proofs.forms.relation_row.Goals as goal

pub difference-requires-clause-left : goal.difference-requires-clause-left
difference-requires-clause-left g c =
    left_term c.args.p.now (c.args.r - 1) c.index-as_slice-r.result c.requires.sound (omega arith) (rw c.as_slice.ensures at c.index-as_slice-r.is)

pub difference-requires-clause-right : goal.difference-requires-clause-right
difference-requires-clause-right g c =
    right_term c.args.p.now (c.args.r - 1) c.index-as_slice-r.result c.requires.sound (omega arith) (rw c.as_slice.ensures at c.index-as_slice-r.is)

pub difference-requires-clause-few : goal.difference-requires-clause-few
difference-requires-clause-few g c =
    small_relation c.args.p.now (c.args.r - 1) c.index-as_slice-r.result c.requires.sound (omega arith) (rw c.as_slice.ensures at c.index-as_slice-r.is)

pub returns-clause-value : goal.returns-clause-value
returns-clause-value g c =
    let same = relation_row_at c.args.table.now c.args.p.now.relations c.args.r c.index-as_slice-r.result (omega arith) (omega arith)
    (rw c.as_slice.ensures at c.index-as_slice-r.is) in
    rw same c.difference.ensures.value
