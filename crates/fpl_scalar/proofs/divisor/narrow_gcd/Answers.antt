use Rattle.std.proofs.Common.{arith, ◌≡◌, subst}
use Rattle.math_fields.specs.Gcd.{gcd}
use Rattle.fpl_scalar.proofs.Euclid.{AfterTurns, after_turn, found, last_turn, gcd_positive, gcd_within_right}
use Rattle.fpl_scalar.proofs.divisor.narrow_gcd.Goals as goal

pub loop-turn-preserved : goal.loop-turn-preserved
loop-turn-preserved c = after_turn c.args.a c.args.b c.loop-turn.x c.loop-turn.y c.loop-turn._turn (λ e. c.if-y-eq0.false e) c.loop-turn.invariant

pub returns-then-y-eq0 : goal.returns-then-y-eq0
returns-then-y-eq0 c =
    let is : c.loop-turn.x ≡ gcd c.args.a c.args.b = found c.args.a c.args.b c.loop-turn.x c.loop-turn.y c.loop-turn._turn
    (omega (arith, c.if-y-eq0.true)) c.loop-turn.invariant in
    record { value = is; positive = gcd_positive c.args.a c.args.b c.loop-turn.x is; within = gcd_within_right c.args.a c.args.b c.loop-turn.x is }

pub returns-after-loop-turn : goal.returns-after-loop-turn
returns-after-loop-turn c =
    let last : c.loop-turn._turn ≡ 257 = omega (arith, c.loop-turn-test.false, c.loop-turn.auto._turn-end) in
    let all : AfterTurns c.args.a c.args.b c.loop-turn.x c.loop-turn.y 257 = subst (AfterTurns c.args.a c.args.b c.loop-turn.x c.loop-turn.y) last
    c.loop-turn.invariant in
    let is : c.loop-turn.x ≡ gcd c.args.a c.args.b = found c.args.a c.args.b c.loop-turn.x c.loop-turn.y 257
    (last_turn c.args.a c.args.b c.loop-turn.x c.loop-turn.y all) all in
    record { value = is; positive = gcd_positive c.args.a c.args.b c.loop-turn.x is; within = gcd_within_right c.args.a c.args.b c.loop-turn.x is }
