use Rattle.std.proofs.Common.{◌≡◌, ◌∷◌, ◌∙◌, sym, subst, true}
use Rattle.fpl_rewrite.specs.Cursor.{to_come}
use Rattle.fpl_check.proofs.ListedOrigins.{contains_rest, origins_next}
use Rattle.plain_sources.specs.Late.{is_late, IsCut}
use Rattle.fpl_check.proofs.Late.{passed_more, late_passes}
use Rattle.fpl_check.proofs.origins.test_origins.Goals as goal

pub origins-preserved : goal.origins-preserved
origins-preserved g c =
    let T = c.args.table.now in
    let p = c.args.p.now in
    let i = c.origins.invariant in
    let os = to_come T p c.origins.origins in
    let rest = to_come T p c.next.new.self in
    let list : os ≡ c.in-Some.origin ∷ rest = c.in-Some.ensures.value in
    record {
      empty = c.in-Ok-test_next.ensures.emptied ∙ i.empty;
      weight = c.in-Some.ensures.weight ∙ i.weight;
      listed = λ o h. i.listed o (contains_rest os rest c.in-Some.origin o list h);
      shown = c.in-Ok-test_next.ensures.shown;
      bound = i.bound;
      reached = passed_more T p c.args.rows.now (i.reached.0) os rest c.in-Some.origin list i.reached.1 i.reached.2 c.in-Ok-test_next.ensures.value;
      done = i.done ∙ origins_next T p c.args.rows.now os rest c.in-Some.origin list c.in-Ok-test_next.ensures.value;
    }

pub returns-then-is_late : goal.returns-then-is_late
returns-then-is_late g c =
    let T = c.args.table.now in
    let p = c.args.p.now in
    let i = c.origins.invariant in
    let bound = c.reach_of-bound.result in
    let os = to_come T p c.origins.origins in
    let rest = to_come T p c.next.new.self in
    let list : os ≡ c.in-Some.origin ∷ rest = c.in-Some.ensures.value in
    let late : true ≡ is_late bound c.in-Some.origin = c.if-is_late.ensures in
    i.done
    ∙ late_passes p T bound c.requires.holds c.reach_of-bound.ensures i.reached.0 os i.reached.1 (subst (IsCut bound) (sym list) (sym late))
    c.args.rows.now c.requires.closed i.reached.2
