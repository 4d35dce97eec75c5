use Rattle.std.proofs.Common.{◌≡◌, ◌+◌, ◌-◌, suc, sym, ◌∙◌, subst, arith}
use Rattle.fpl_envelope.specs.Kept.{IsElementRows, IsLevelFrom}
use Rattle.fpl_envelope.proofs.Levels.{level_more}
use Rattle.fpl_envelope.proofs.building.next_level.Goals as goal

pub loop-place-preserved : goal.loop-place-preserved
loop-place-preserved g c =
    let T = c.args.table.now in
    let less = c.loop-place-test.true in
    let next : suc (c.through-last.result - (c.loop-place.place + 1)) ≡ c.through-last.result - c.loop-place.place = omega arith in
    let one : c.through-last.result - c.loop-place.place - 1 ≡ c.through-last.result - (c.loop-place.place + 1) = omega arith in
    record {
      level = subst (IsLevelFrom T c.args.w (c.through-last.result - (c.loop-place.place + 1))) (sym c.in_ok-push.ensures)
          (level_more T c.args.w (c.through-last.result - c.loop-place.place) (c.through-last.result - (c.loop-place.place + 1)) c.loop-place.level
          c.in_ok-rows.rows.items next c.loop-place.invariant.level
          (subst (λ i. IsElementRows T c.args.w i c.in_ok-rows.rows.items) one c.in_ok-rows.ensures.rows));
      sum = c.in_ok-rows.ensures.empty ∙ c.loop-place.invariant.sum;
    }

pub returns : goal.returns
returns g c =
    let T = c.args.table.now in
    let end : c.through-last.result - c.loop-place.place ≡ 0 = omega arith in
    subst (λ n. IsLevelFrom T c.args.w n c.loop-place.level) end c.loop-place.invariant.level
