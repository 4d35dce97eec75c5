use Rattle.std.proofs.Common.{suc, ◌≡◌, ◌∙◌, List, ◌∷◌, ap, length, arith}
use Rattle.fpl_log.specs.declared.step.Origin.{Origin}
use Rattle.fpl_rewrite.specs.Cursor.{to_come}
use Rattle.fpl_complete.proofs.gather.pass_over.Goals as goal

pub loop-count-preserved : goal.loop-count-preserved
loop-count-preserved g c =
    let T = c.args.table.now in
    let p = c.args.p.now in
    let i = c.loop-count.invariant in
    let os = to_come T p c.loop-count.at in
    let rest = to_come T p c.next.new.self in
    let list : os ≡ c.in-Some.field-0 ∷ rest = c.in-Some.ensures.value in
    let long : length os ≡ suc (length rest) = ap (λ (xs : List Origin). length xs) list in
    record {
      weight = c.in-Some.ensures.weight ∙ i.weight;
      told = let n = i.told in omega arith;
      start = let s = c.tick.ensures in let n = i.start in omega arith;
      count = let s = c.tick.ensures in let n = i.count in omega arith;
    }
