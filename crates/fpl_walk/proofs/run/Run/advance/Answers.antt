use Rattle.std.proofs.Common.{◌≡◌, ◌+◌, ◌≤◌, ◌∙◌, ℕ, suc, Ok, true, false, nat_lt, sym, subst, arith}
use Rattle.fpl_table.specs.Standard.{count_through}
use Rattle.fpl_check.proofs.RowLoops.{below_false}
use Rattle.fpl_section_bytes.specs.declared.frame.Frame.TheVariants.{Tail}
use Rattle.fpl_section_bytes.specs.Frames.{frame_of}
use Rattle.fpl_walk.specs.Walk.{next_weight}
use Rattle.fpl_walk.specs.Stops.{PlainRun, stored_in}
use Rattle.fpl_walk.proofs.Stopping.{tail_steps, tail_costs, ended_costs, frame_is}
use Rattle.fpl_walk.proofs.run.Run.advance.Given as given
use Rattle.fpl_walk.proofs.run.Run.advance.Goals as goal

pub returns-then-not-self-clause-most : goal.returns-then-not-self-clause-most
returns-then-not-self-clause-most g c =
    let run = c.args.self.now in
    let stored = subst (λ (r : PlainRun). r.stage.stored ≡ false) c.self.view_is c.if-not-self.true in
    let few : nat_lt c.args.entries (count_through run.stage.table (next_weight run.stage)) ≡ false =
    subst (λ (r : PlainRun). nat_lt c.args.entries (count_through r.stage.table (next_weight r.stage)) ≡ false) c.self.view_is
    (below_false c.args.entries (count_through c.self.inside.state.table (suc c.self.inside.state.table.weight))
    (subst (λ (w : ℕ). count_through c.self.inside.state.table w ≤ c.args.entries)
    (let e : c.self.inside.state.table.weight + 1 ≡ suc c.self.inside.state.table.weight = omega arith in e)
    (subst (λ (n : ℕ). n ≤ c.args.entries) c.next_count-count.ensures c.if-count-entries.false))) in
    rw (ended_costs c.args.computes c.args.entries run.presentation (stored_in run c.args.bytes.now) run.stage few stored) c.compute.ensures.most

module _ (g : given.Over) (c : goal.After-compute-in-Ok-Tail g) where
  stored : c.args.self.now.stage.stored ≡ true
  stored = subst (λ (r : PlainRun). r.stage.stored ≡ true) c.self.view_is c.if-not-self.false

  tail : frame_of c.args.bytes.now c.args.self.now.stage.place (next_weight c.args.self.now.stage) ≡ Ok Tail
  tail =
      let at : c.weight-weight.result + 1 ≡ suc c.self.inside.state.table.weight = (let v = c.weight-weight.ensures.value in omega (arith, v)) in
      let first = frame_is (frame_of c.args.bytes.now c.self.inside.place (c.weight-weight.result + 1)) c.in-Ok-Tail.field-0 Tail
      (sym c.scan_frame.ensures.value ∙ c.in-Ok-Tail.is) c.in-Ok-Tail.field-0-is in
      subst (λ (r : PlainRun). frame_of c.args.bytes.now r.stage.place (next_weight r.stage) ≡ Ok Tail) c.self.view_is
      (subst (λ (n : ℕ). frame_of c.args.bytes.now c.self.inside.place n ≡ Ok Tail) at first)

  few : nat_lt c.args.entries (count_through c.args.self.now.stage.table (next_weight c.args.self.now.stage)) ≡ false
  few = subst (λ (r : PlainRun). nat_lt c.args.entries (count_through r.stage.table (next_weight r.stage)) ≡ false) c.self.view_is
      (below_false c.args.entries (count_through c.self.inside.state.table (suc c.self.inside.state.table.weight))
      (subst (λ (w : ℕ). count_through c.self.inside.state.table w ≤ c.args.entries) after
      (subst (λ (n : ℕ). n ≤ c.args.entries) c.next_count-count.ensures c.if-count-entries.false)))
    where
      after : c.self.inside.state.table.weight + 1 ≡ suc c.self.inside.state.table.weight
      after = omega arith

pub returns-in-Ok-Tail-clause-stop : goal.returns-in-Ok-Tail-clause-stop
returns-in-Ok-Tail-clause-stop g c =
    let run = c.args.self.now in
    rw (tail_steps c.args.computes c.args.entries run.presentation (stored_in run c.args.bytes.now) run.stage (few g c) (stored g c)
    (tail g c)) c.compute-in-Ok-Tail.ensures.stop

pub returns-in-Ok-Tail-clause-most : goal.returns-in-Ok-Tail-clause-most
returns-in-Ok-Tail-clause-most g c =
    let run = c.args.self.now in
    rw (tail_costs c.args.computes c.args.entries run.presentation (stored_in run c.args.bytes.now) run.stage (few g c) (stored g c)
    (tail g c)) c.compute-in-Ok-Tail.ensures.most
