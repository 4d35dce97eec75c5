use Rattle.std.proofs.Common.{◌≡◌, ◌<◌, ◌+◌, None, get_or, refl, sym, subst, arith}
use Rattle.std.specs.List.{find}
use native.Mathlib.Decide.{dec_lt}
use Rattle.plain_elimination.specs.Plain.{stands_at}
use Rattle.fpl_echelon.proofs.close.meets_none_at.Goals as goal

pub loop-k-preserved : goal.loop-k-preserved
loop-k-preserved g c j l below = elim (dec_lt j c.loop-k.k) [
  | yes a ↦ c.loop-k.invariant j a below
  | no b ↦ let e : j ≡ c.loop-k.k = omega (arith, l, b) in
      subst (λ i. get_or c.args.places.now i 0 < c.args.s → find (stands_at (get_or c.args.places.now i 0 + 1)) c.args.closed.now ≡ None) (sym e)
      (c.if-stands_before.ensures refl) below
]
