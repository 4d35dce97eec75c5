use Rattle.std.proofs.Common.{◌≡◌, ◌+◌, ◌∙◌, ap, sym, subst, refl, Ok, arith}
use Rattle.std.specs.List.{find}
use Rattle.fpl_numbers.specs.Results.{IsFault}
use Rattle.plain_elimination.specs.Plain.{stands_at}
use Rattle.plain_spans.specs.Plain.{begin, put_rows, free_at}
use Rattle.fpl_echelon.proofs.Contracts.{kind_in, size_in}
use Rattle.fpl_echelon.proofs.Spanning.{done, begins, all_at, solved_next, solved_stops}
use Rattle.fpl_echelon.proofs.kernels.solutions.Goals as goal

pub loop-f-init : goal.loop-f-init
loop-f-init g c =
    let kind = g.F.Field.kind_of c.args.field in
    record {
      put = begins kind c.args.n c.args.pivots.now (begin kind c.args.n) ∙ ap done (sym c.in_ok-span.ensures);
      kind = ap kind_in c.in_ok-span.ensures;
      size = ap size_in c.in_ok-span.ensures;
      rises = omega arith;
    }

pub put_solution-requires-clause-pivots : goal.put_solution-requires-clause-pivots
put_solution-requires-clause-pivots g c =
    let kind = g.F.Field.kind_of c.args.field in
    all_at kind kind c.args.n c.loop-f.span.size c.args.pivots.now refl c.loop-f.invariant.size c.requires.pivots

pub returns-in-Err-clause-value : goal.returns-in-Err-clause-value
returns-in-Err-clause-value g c =
    let kind = g.F.Field.kind_of c.args.field in
    let pivots = c.args.pivots.now in
    solved_stops kind c.args.n pivots c.loop-f.f c.loop-f.span c.in-Err.fault c.loop-f-test.true c.loop-f.invariant.put
    (subst (λ n. IsFault c.in-Err.fault (put_rows (free_at kind n pivots c.loop-f.f (find (stands_at (c.loop-f.f + 1)) pivots)) c.loop-f.span))
    c.loop-f.invariant.size c.in-Err.ensures.value)

pub loop-f-preserved : goal.loop-f-preserved
loop-f-preserved g c =
    let kind = g.F.Field.kind_of c.args.field in
    let pivots = c.args.pivots.now in
    record {
      put = solved_next kind c.args.n pivots c.loop-f.f c.loop-f.span c.put_solution.new.span c.loop-f.invariant.put
          (subst (λ n. put_rows (free_at kind n pivots c.loop-f.f (find (stands_at (c.loop-f.f + 1)) pivots)) c.loop-f.span ≡ Ok c.put_solution.new.span)
          c.loop-f.invariant.size c.in-Ok.ensures.value);
      kind = c.in-Ok.ensures.kind ∙ c.loop-f.invariant.kind;
      size = c.in-Ok.ensures.size ∙ c.loop-f.invariant.size;
      rises = (let a = c.in-Ok.ensures.rises in let b = c.loop-f.invariant.rises in omega arith);
    }
