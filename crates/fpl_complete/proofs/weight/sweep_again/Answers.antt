use Rattle.std.proofs.Common.{◌≡◌, ◌∙◌, ◌∷◌}
use Rattle.fpl_rewrite.specs.Origins.{origins_of}
use Rattle.fpl_rewrite.specs.Cursor.{to_come}
use Rattle.plain_weights.specs.Weight.{again}
use Rattle.fpl_check.proofs.ListedOrigins.{contains_rest}
use Rattle.fpl_complete.proofs.Runs.{again_next, again_stops}
use Rattle.fpl_complete.proofs.weight.sweep_again.Goals as goal

pub origins-preserved : goal.origins-preserved
origins-preserved g c =
    let T = c.args.table.now in
    let p = c.args.p.now in
    let i = c.origins.invariant in
    let os = to_come T p c.origins.origins in
    let rest = to_come T p c.next.new.self in
    let list : os ≡ c.in-Some.origin ∷ rest = c.in-Some.ensures.value in
    record {
      empty = c.in-Ok-sweep_one.ensures.emptied ∙ i.empty;
      weight = c.in-Some.ensures.weight ∙ i.weight;
      listed = λ o h. i.listed o (contains_rest os rest c.in-Some.origin o list h);
      done = λ h. again_next T p c.args.rows.now os rest c.in-Some.origin h (again T p c.args.rows.now (origins_of T p) h) list
          (c.in-Ok-sweep_one.ensures.value h) (i.done h);
    }

pub returns-in-Err-sweep_one : goal.returns-in-Err-sweep_one
returns-in-Err-sweep_one g c =
    let T = c.args.table.now in
    let p = c.args.p.now in
    let os = to_come T p c.origins.origins in
    let rest = to_come T p c.next.new.self in
    record {
      value = λ h. again_stops T p c.args.rows.now os rest c.in-Some.origin h c.in-Err-sweep_one.fault
          (again T p c.args.rows.now (origins_of T p) h) c.in-Some.ensures.value (c.in-Err-sweep_one.ensures.value h) (c.origins.invariant.done h);
    }
