use Rattle.std.proofs.Common.{arith}
use Rattle.std.proofs.lemmas.List.{length-map}
use Rattle.fpl_rows.proofs.work.count_filled.Goals as goal

pub loop-s-init : goal.loop-s-init
loop-s-init g c =
    let long = length-map c.args.sums.now (g.F.Field.summed c.args.field.now) in
    let whole = c.requires.marked.whole in
    let most = c.cursor_from-s.ensures.at_most in
    record { few = omega arith; at_most = omega (arith, long, whole, most); rest = c.cursor_from-s.ensures.rest }

pub loop-s-preserved : goal.loop-s-preserved
loop-s-preserved g c =
    let long = length-map c.args.sums.now (g.F.Field.summed c.args.field.now) in
    let whole = c.requires.marked.whole in
    let most = c.after-s.ensures.at_most in
    let least = c.after-s.ensures.at_least in
    let one = c.is_filled-count.ensures in
    let few = c.loop-s.invariant.few in
    record { few = omega (arith, least, one, few); at_most = omega (arith, long, whole, most); rest = c.after-s.ensures.rest }

pub after-s-requires-clause-rest : goal.after-s-requires-clause-rest
after-s-requires-clause-rest g c = c.loop-s.invariant.rest

pub loop-s-smaller : goal.loop-s-smaller
loop-s-smaller g c = let least = c.after-s.ensures.at_least in omega (arith, least, c.loop-s-test.true)
