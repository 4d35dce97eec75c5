use Rattle.std.proofs.Common.{◌≡◌, ◌+◌, ◌-◌, ◌<◌, ◌∙◌, ap, sym, subst, length, arith}
use Rattle.fpl_numbers.specs.Results.{IsFault, map_ok}
use Rattle.plain_structure.specs.Plain.{series_from}
use Rattle.fpl_structure.proofs.Means.{series_is}
use Rattle.fpl_structure.proofs.Terms.{after, ended, series_next, series_stops, series_nought, series_last}
use Rattle.fpl_structure.proofs.Steps.{terms_more}
use Rattle.fpl_structure.proofs.series.lower_central.Goals as goal

pub returns-then-len-eq0-clause-means : goal.returns-then-len-eq0-clause-means
returns-then-len-eq0-clause-means g c = λ p holds.
    let T = c.args.table.now in
    let none : length c.loop.rows ≡ 0 = omega (arith, c.len.ensures.value, c.if-len-eq0.true) in
    series_is p T c.push.new.self holds
    (c.loop.invariant.left ∙ series_nought T (T.weight - c.loop.counter) c.loop.terms c.loop.rows none ∙ ap ended (sym c.in_ok-push.ensures.ok))

pub returns-in-Err-clause-value : goal.returns-in-Err-clause-value
returns-in-Err-clause-value g c =
    let T = c.args.table.now in
    let v = c.weight-end.ensures.value in
    let below : c.loop.counter < T.weight = omega arith in
    subst (IsFault c.in-Err.fault) (sym c.loop.invariant.left)
    (series_stops T T.weight c.loop.counter c.loop.terms c.loop.rows c.in-Err.fault below
    (λ none. (let a = c.len.ensures.value in let b = c.if-len-eq0.false in omega arith)) c.in-Err.ensures.value)

pub loop-preserved : goal.loop-preserved
loop-preserved g c =
    let T = c.args.table.now in
    let v = c.weight-end.ensures.value in
    let below : c.loop.counter < T.weight = omega arith in
    record {
      left = c.loop.invariant.left
          ∙ series_next T T.weight c.loop.counter c.loop.terms c.loop.rows c.in-Ok.next below
          (λ none. (let a = c.len.ensures.value in let b = c.if-len-eq0.false in omega arith)) c.in-Ok.ensures.value
          ∙ ap (λ t. map_ok (after t) (series_from T (T.weight - (c.loop.counter + 1)) c.in-Ok.next)) (sym c.in_ok-push-in-Ok.ensures.ok);
      rows = c.in-Ok.ensures.rows;
      terms = terms_more T.kind (length T.basis) c.loop.terms c.push-in-Ok.new.self c.loop.rows c.loop.invariant.terms c.loop.invariant.rows
          c.in_ok-push-in-Ok.ensures.ok;
      rises = (let a = c.in-Ok.ensures.rises in let b = c.loop.invariant.rises in omega arith);
    }

pub returns-clause-rows : goal.returns-clause-rows
returns-clause-rows g c =
    let T = c.args.table.now in
    terms_more T.kind (length T.basis) c.loop.terms c.push-2.new.self c.loop.rows c.loop.invariant.terms c.loop.invariant.rows c.in_ok-push-2.ensures.ok

pub returns-clause-means : goal.returns-clause-means
returns-clause-means g c = λ p holds.
    let T = c.args.table.now in
    let v = c.weight-end.ensures.value in
    let none : T.weight - c.loop.counter ≡ 0 = omega arith in
    series_is p T c.push-2.new.self holds
    (c.loop.invariant.left ∙ series_last T (T.weight - c.loop.counter) c.loop.terms c.loop.rows none ∙ ap ended (sym c.in_ok-push-2.ensures.ok))
