use Rattle.std.proofs.Common.{◌≡◌, ◌-◌, ◌∙◌, ap, sym, subst, length, arith}
use Rattle.std.specs.Prelude.{Ok}
use Rattle.fpl_numbers.specs.Results.{IsFault}
use Rattle.plain_elimination.specs.Plain.{Elimination}
use Rattle.fpl_echelon.proofs.Contracts.{kind_in, size_in}
use Rattle.fpl_echelon.proofs.Spanning.{done, none_left}
use Rattle.fpl_structure.proofs.PutBrackets.{bracket_next, bracket_stops}
use Rattle.fpl_structure.proofs.brackets.put_brackets.Goals as goal
use Rattle.fpl_structure.proofs.brackets.put_brackets.Goals.{in-Some+in-Ok, in_default}

pub returns-in-Err-clause-value : goal.returns-in-Err-clause-value
returns-in-Err-clause-value g c =
    subst (IsFault c.in-Err.fault) (sym c.loop-k.invariant.left)
    (bracket_stops c.args.table.now (c.args.i - 1) c.args.rows.now c.loop-k.k c.in-Some.row.now c.in_ok-left.left c.loop-k.span c.in-Err.fault c.in-Some.ensures
    c.in_ok-left.ensures.value c.in-Err.ensures.value)

pub loop-k-preserved : goal.loop-k-preserved
loop-k-preserved g c =
    elim c.match-get.branch [
      | in-Some+in-Ok w ↦ record {
        left = c.loop-k.invariant.left
            ∙ bracket_next c.args.table.now (c.args.i - 1) c.args.rows.now c.loop-k.k w.in-Some.row.now c.in_ok-left.left c.loop-k.span c.match-get.span
            w.in-Some.ensures c.in_ok-left.ensures.value (w.in-Ok.ensures.value ∙ ap done (sym w.span-is));
        kind = ap kind_in w.span-is ∙ w.in-Ok.ensures.kind ∙ c.loop-k.invariant.kind;
        size = ap size_in w.span-is ∙ w.in-Ok.ensures.size ∙ c.loop-k.invariant.size;
        rises = (let a = w.steps-is in let b = w.in-Ok.ensures.rises in let d = c.loop-k.invariant.rises in omega arith);
      }
      | in_default w ↦ absurd (none_left c.args.rows.now c.loop-k.k (let a = c.len-k-end.ensures.value in omega arith) w.in_default.ensures)
    ]
