use Rattle.std.proofs.Common.{◌∙◌, ap, sym, arith}
use Rattle.std.specs.Prelude.{Ok}
use Rattle.std.proofs.lemmas.Option.{slice_get_within}
use Rattle.fpl_echelon.proofs.Contracts.{kind_in, size_in}
use Rattle.fpl_echelon.proofs.Spanning.{put_next, put_taken, put_stops_at, none_left}
use Rattle.fpl_echelon.proofs.span.Span.put_all.Goals as goal
use Rattle.fpl_echelon.proofs.span.Span.put_all.Goals.{in-Some+in-Ok, in_default}

pub returns-in-Err-clause-value : goal.returns-in-Err-clause-value
returns-in-Err-clause-value g c =
    put_stops_at c.args.rows.now c.loop-k.k c.in-Some.row.now _ c.loop-k.self c.in-Err.fault c.in-Some.ensures c.loop-k.invariant.left c.in-Err.ensures.value

pub returns-in-Err-clause-front : goal.returns-in-Err-clause-front
returns-in-Err-clause-front g c =
    (c.loop-k.k, slice_get_within c.args.rows.now c.loop-k.k c.in-Some.row.now (sym c.in-Some.ensures), c.loop-k.invariant.held ∙ ap (λ e. Ok e) (sym c.in-Err.ensures.unchanged))

pub loop-k-preserved : goal.loop-k-preserved
loop-k-preserved g c =
    elim c.match-get.branch [
      | in-Some+in-Ok w ↦ record {
        left = put_next c.args.rows.now c.loop-k.k w.in-Some.row.now _ c.loop-k.self c.match-get.self w.in-Some.ensures c.loop-k.invariant.left
            (w.in-Ok.ensures.value ∙ ap (λ e. Ok e) (sym w.self-is));
        held = put_taken c.args.rows.now c.loop-k.k w.in-Some.row.now _ c.loop-k.self c.match-get.self w.in-Some.ensures c.loop-k.invariant.held
            (w.in-Ok.ensures.value ∙ ap (λ e. Ok e) (sym w.self-is));
        kind = ap kind_in w.self-is ∙ w.in-Ok.ensures.kind ∙ c.loop-k.invariant.kind;
        size = ap size_in w.self-is ∙ w.in-Ok.ensures.size ∙ c.loop-k.invariant.size;
        rises = (let a = w.steps-is in let b = w.in-Ok.ensures.step in let d = c.loop-k.invariant.rises in omega arith);
      }
      | in_default w ↦ absurd (none_left c.args.rows.now c.loop-k.k (let a = c.len-k-end.ensures.value in omega arith) w.in_default.ensures)
    ]
