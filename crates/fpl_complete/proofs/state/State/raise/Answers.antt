use Rattle.std.proofs.Common.{◌≡◌, ◌≤◌, ◌+◌, ◌-◌, ◌∙◌, ℕ, Ok, length, ap, sym, subst, arith, rules}
use Rattle.fpl_model.specs.declared.presentation.Presentation.{Presentation}
use Rattle.fpl_table.specs.Plain.{PlainTable}
use Rattle.fpl_table.specs.Standard.{IsTableOf, count_through}
use Rattle.fpl_rewrite.specs.Origins.{origins_of}
use Rattle.plain_tables.specs.Raised.{IsRaised}
use Rattle.plain_weights.specs.Section.{Computes, OverflowsAt}
use Rattle.fpl_complete.specs.State.{PlainState, section_at, unfit_of}
use Rattle.fpl_complete.proofs.Onward.{front_stays, computed_more, within_more, cost_next, cost_whole}
use Rattle.fpl_complete.proofs.state.State.raise.Goals as goal

pub loop-self-preserved : goal.loop-self-preserved
loop-self-preserved g c =
    let s = c.loop-self.self in
    let i = c.loop-self.invariant in
    let n = c.in-Ok.ensures in
    let new = c.next_weight.new.self in
    let start = c.args.self.now in
    let p = start.presentation in
    let test = c.loop-self-test.true in
    let at = c.weight.ensures.value in
    let next = n.weight in
    let section = section_at new.sections new.table.weight in
    let origins = length (origins_of s.table s.presentation) in
    record {
      presentation = n.presentation ∙ i.presentation;
      from = (let a = i.from in omega arith);
      to = search rules;
      within = within_more start.table.weight s.table.weight new.table.weight c.args.entries s.table new.table next n.counts n.within i.within;
      sections = front_stays start.sections s.sections new.sections section n.sections i.sections;
      computed = computed_more p start.table.weight s.table.weight new.table.weight s.sections new.sections section next c.weight.ensures.sections
          n.sections i.computed
          (subst (λ (p : Presentation). Computes p new.table.weight (Ok section)) i.presentation n.section);
      later = (let a = i.later in let b = n.step in omega arith);
      cost = cost_next p start.table.weight c.args.d c.args.steps.now c.loop-self.steps s.table
          (subst (λ (p : Presentation). IsRaised p s.table) i.presentation c.weight.ensures.raised) i.from (omega arith) i.cost
          c.next_weight.new.steps new.table.weight next
          (subst (λ (p : Presentation). c.next_weight.new.steps ≤ c.loop-self.steps + length (origins_of s.table p)) i.presentation n.most.1);
    }

pub returns-in-Err-clause-table : goal.returns-in-Err-clause-table
returns-in-Err-clause-table g c = subst (λ (x : PlainState). IsTableOf x.presentation x.table.weight x.table)
    (sym c.in-Err.ensures.unchanged) c.weight.ensures.standard

pub returns-in-Err-clause-overflow : goal.returns-in-Err-clause-overflow
returns-in-Err-clause-overflow g c = λ w op a b e.
    let s = c.loop-self.self in
    let h = c.in-Err.ensures.overflow w op a b e in
    let table = ap (λ (x : PlainState). x.table) c.in-Err.ensures.unchanged in
    let same = ap (λ (x : PlainState). x.table.weight) c.in-Err.ensures.unchanged in
    let at = h.0 in (
      omega (arith, at, same),
      omega (arith, at, c.loop-self-test.true, c.weight.ensures.value),
      subst (λ (p : Presentation). OverflowsAt p w (unfit_of op a b)) c.loop-self.invariant.presentation h.1,
      subst (λ (T : PlainTable). count_through T w ≤ c.args.entries) (sym table) h.2,
    )

pub returns-in-Err-clause-cost : goal.returns-in-Err-clause-cost
returns-in-Err-clause-cost g c =
    let s = c.loop-self.self in
    let i = c.loop-self.invariant in
    let start = c.args.self.now in
    let p = start.presentation in
    let test = c.loop-self-test.true in
    let at = c.weight.ensures.value in
    cost_whole p start.table.weight c.args.d (s.table.weight + 1) c.args.steps.now c.next_weight.new.steps (omega arith)
    (cost_next p start.table.weight c.args.d c.args.steps.now c.loop-self.steps s.table
    (subst (λ (p : Presentation). IsRaised p s.table) i.presentation c.weight.ensures.raised) i.from (omega arith) i.cost
    c.next_weight.new.steps (s.table.weight + 1) (omega arith)
    (subst (λ (p : Presentation). c.next_weight.new.steps ≤ c.loop-self.steps + length (origins_of s.table p)) i.presentation c.in-Err.ensures.most.1))

pub returns-in-Err-clause-limit : goal.returns-in-Err-clause-limit
returns-in-Err-clause-limit g c = λ w n e.
    let s = c.loop-self.self in
    let i = c.loop-self.invariant in
    let h = (c.in-Err.ensures.limit w n).0 e in
    let at : w ≡ s.table.weight + 1 = h.0 in
    let same = ap (λ (x : PlainState). x.table.weight) c.in-Err.ensures.unchanged in
    let below : s.table.weight ≡ w - 1 = omega (arith, at) in (
      record {
        above = omega (arith, at, i.from);
        to_end = omega (arith, at, c.loop-self-test.true, c.weight.ensures.value);
        table = s.table;
        below = subst (λ (p : Presentation). IsTableOf p (w - 1) s.table) i.presentation
            (subst (λ (v : ℕ). IsTableOf s.presentation v s.table) below c.weight.ensures.standard);
        number = sym h.1;
        passes = h.2;
        least = λ v l k. i.within v l (omega (arith, at, k));
      },
      omega (arith, at, same),
    )
