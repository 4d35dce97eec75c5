use Rattle.std.proofs.Common.{arith}
use native.Mathlib.Decide.{dec_lt}
use Rattle.fpl_ranks.specs.Leads.{NeverLeads}
use Rattle.fpl_ranks.proofs.Flags.{never_next, count_next, not_off}
use Rattle.fpl_ranks.proofs.Stops.{span_ends, blank_never}
use Rattle.fpl_ranks.proofs.leading.filled.Goals as goal

pub loop-s-preserved : goal.loop-s-preserved
loop-s-preserved c =
    let kind = c.args.table.now.kind in
    record {
      never = never_next (NeverLeads kind c.args.rows.now) c.loop-s.flags.items c.push.new.self.items c.loop-s.s _ c.loop-s.invariant.count
          c.in_ok-push.ensures.items
          (λ off. blank_never kind c.requires.field c.args.places c.args.rows.now c.requires.rows c.loop-s.s c.loop-s-test.true
          (c.are_blank.ensures (not_off c.are_blank.result off)))
          c.loop-s.invariant.never;
      count = count_next c.loop-s.flags.items c.push.new.self.items _ c.loop-s.s c.in_ok-push.ensures.items c.loop-s.invariant.count;
    }

pub returns : goal.returns
returns c = λ s off.
    elim (dec_lt s c.loop-s.s) [
      | yes l ↦ c.loop-s.invariant.never s l off
      | no d ↦ (λ v h past.
          span_ends c.args.table.now.kind c.requires.field c.args.places c.args.rows.now c.requires.rows v h s
          (let l = c.loop-s-test.false in let m = c.loop-s.auto.s-end in omega arith))
    ]
