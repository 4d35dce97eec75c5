use Rattle.std.proofs.Common.{◌≡◌, ◌≤◌, ◌<◌, ◌∙◌, ℕ, map, get_or, ap, sym, arith}
use Rattle.std.proofs.lemmas.List.{length-map}
use native.Mathlib.Decide.{dec_lt, ℕ_discrete}
use Rattle.fpl_numbers.specs.Numbers.{residue, is_nought}
use Rattle.fpl_scalar.proofs.Noughts.{nought_is}
use Rattle.fpl_scalar.proofs.AtPlaces.{element_at}
use Rattle.fpl_rows.proofs.AtPositions.{number_at}
use Rattle.fpl_rows.proofs.work.next_filled.Goals as goal

pub loop-s-init : goal.loop-s-init
loop-s-init g c = record {
  at_least = omega arith;
  at_most = c.requires.from;
  none = λ k a b. absurd (omega (arith, a, b));
  rest = c.requires.rest;
}

pub after-s-requires-clause-rest : goal.after-s-requires-clause-rest
after-s-requires-clause-rest g c = c.loop-s.invariant.rest

pub loop-s-smaller : goal.loop-s-smaller
loop-s-smaller g c = let least = c.after-s.ensures.at_least in omega (arith, least, c.loop-s-test.true)

pub loop-s-preserved : goal.loop-s-preserved
loop-s-preserved g c =
    let long = length-map c.args.sums.now (g.F.Field.summed c.args.field.now) in
    let whole = c.requires.marked.whole in
    let most = c.after-s.ensures.at_most in
    let least = c.after-s.ensures.at_least in
    let before = c.loop-s.invariant.at_least in
    let none : (k : ℕ) → c.args.from.place ≤ k → k < c.after-s.result.place → get_or (map (g.F.Field.summed c.args.field.now) c.args.sums.now) k
    (residue 0) ≡ residue 0 =
    λ k a b. elim (dec_lt k c.loop-s.s.place) [
      | yes l ↦ c.loop-s.invariant.none k a l
      | no l ↦ elim (ℕ_discrete k c.loop-s.s.place) [
        | yes e ↦ ap (λ i. get_or (map (g.F.Field.summed c.args.field.now) c.args.sums.now) i (residue 0)) e ∙
            number_at (g.F.Field.summed c.args.field.now) c.args.sums.now c.loop-s.s.place c.index-sums-s.result (residue 0) c.loop-s-test.true c.index-sums-s.is
            ∙ nought_is (g.F.Field.kind_of c.args.field.now) (g.F.Field.summed c.args.field.now c.index-sums-s.result)
            (element_at (g.F.Field.kind_of c.args.field.now) (g.F.Field.summed c.args.field.now) c.args.sums.now c.loop-s.s.place c.index-sums-s.result
            c.requires.elements c.loop-s-test.true c.index-sums-s.is)
            (ap is_nought (sym c.settle.ensures) ∙ sym c.if-is_zero.ensures)
        | no d ↦ c.requires.marked.nought k (c.after-s.ensures.none k (omega (arith, l, d)) b)
      ]
    ] in
    record { at_least = omega (arith, least, before); at_most = omega (arith, long, whole, most); none = none; rest = c.after-s.ensures.rest }
