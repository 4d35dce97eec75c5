use Rattle.std.proofs.Common.{◌≡◌, ◌<◌, ◌≤◌, ◌+◌, ◌++◌, ◌∷◌, [], ℕ, map, get_or, arith, subst, sym}
use Rattle.std.proofs.lemmas.Grind.{common_steps}
use native.Mathlib.Decide.{dec_lt}
use Rattle.fpl_numbers.specs.Numbers.{IsElement, residue}
use Rattle.fpl_scalar.proofs.AtPlaces.{element_at}
use Rattle.fpl_rows.proofs.Gatherings.{start_put, step_put, elements_put, shows_packing, shows_whole}
use Rattle.fpl_rows.proofs.work.collect.Goals as goal

pub loop-s-init : goal.loop-s-init
loop-s-init g c =
    let places : c.in_ok-places.places.items ≡ [] = grind (arith, common_steps) in
    let numbers : c.in_ok-numbers.numbers.items ≡ [] = grind (arith, common_steps) in
    let none : (k : ℕ) → k < c.next_filled-s.result.place → get_or (map (g.F.Field.summed c.args.field.now) c.args.sums.now) k (residue 0) ≡ residue 0 =
    λ k b. elim (dec_lt k c.cursor_from.result.place) [
      | yes l ↦ c.requires.marked.nought k (c.cursor_from.ensures.none k (omega arith) l)
      | no l ↦ c.next_filled-s.ensures.none k (omega (arith, l)) b
    ] in
    record {
      held = start_put (g.F.Field.summed c.args.field.now) g.F.Field.number c.args.sums.now (g.F.Field.kind_of c.args.field.now) c.next_filled-s.result.place
          c.in_ok-places.places.items c.in_ok-numbers.numbers.items places numbers c.next_filled-s.ensures.at_most none;
      rest = c.next_filled-s.ensures.rest;
    }

pub loop-s-preserved : goal.loop-s-preserved
loop-s-preserved g c =
    let places : c.push.new.self.items ≡ c.loop-s.places.items ++ c.loop-s.s.place ∷ [] = grind (arith, common_steps) in
    let numbers : c.push-in-loop-s.new.self.items ≡ c.loop-s.numbers.items ++ c.settle.result ∷ [] = grind (arith, common_steps) in
    let least = c.after.ensures.at_least in
    let more = c.next_filled-s-in-loop-s.ensures.at_least in
    let none : (k : ℕ) → c.loop-s.s.place + 1 ≤ k → k < c.next_filled-s-in-loop-s.result.place →
    get_or (map (g.F.Field.summed c.args.field.now) c.args.sums.now) k (residue 0) ≡ residue 0 =
    λ k a b. elim (dec_lt k c.after.result.place) [
      | yes l ↦ c.requires.marked.nought k (c.after.ensures.none k a l)
      | no l ↦ c.next_filled-s-in-loop-s.ensures.none k (omega (arith, l)) b
    ] in
    record {
      held = record {
        shows = step_put (g.F.Field.summed c.args.field.now) g.F.Field.number c.args.sums.now c.loop-s.s.place c.next_filled-s-in-loop-s.result.place
            c.loop-s.places.items _ c.loop-s.numbers.items _ c.index-sums-s.result c.settle.result c.loop-s.invariant.held.shows c.loop-s-test.true
            c.index-sums-s.is c.settle.ensures places numbers (omega (arith, least, more)) c.next_filled-s-in-loop-s.ensures.at_most none;
        elements = elements_put (g.F.Field.kind_of c.args.field.now) g.F.Field.number c.loop-s.numbers.items _ c.settle.result
            c.loop-s.invariant.held.elements
            (subst (IsElement (g.F.Field.kind_of c.args.field.now)) (sym c.settle.ensures) (element_at (g.F.Field.kind_of c.args.field.now)
            (g.F.Field.summed c.args.field.now) c.args.sums.now c.loop-s.s.place c.index-sums-s.result c.requires.elements c.loop-s-test.true
            c.index-sums-s.is)) numbers;
      };
      rest = c.next_filled-s-in-loop-s.ensures.rest;
    }

pub returns-clause-packing : goal.returns-clause-packing
returns-clause-packing g c = shows_packing (g.F.Field.summed c.args.field.now) g.F.Field.number c.args.sums.now c.loop-s.s.place c.loop-s.places.items
    c.loop-s.numbers.items c.loop-s.invariant.held.shows

pub returns-clause-value : goal.returns-clause-value
returns-clause-value g c = shows_whole (g.F.Field.summed c.args.field.now) g.F.Field.number c.args.sums.now c.loop-s.s.place c.loop-s.places.items
    c.loop-s.numbers.items c.loop-s.invariant.held.shows (let e = c.loop-s-test.false in omega (arith, e))

pub returns-clause-elements : goal.returns-clause-elements
returns-clause-elements g c = c.loop-s.invariant.held.elements
