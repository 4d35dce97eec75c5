use Rattle.std.proofs.Common.{◌<◌, length, map, arith, refl}
use Rattle.fpl_table.specs.Plain.{symbol_in}
use Rattle.fpl_print.specs.TableText.{has_value}
use Rattle.fpl_print.proofs.Terms.{valued_step}
use Rattle.fpl_print.proofs.table.push_valued.Goals as goal

pub loop-x-preserved : goal.loop-x-preserved
loop-x-preserved g c =
    let inside : c.loop-x.x-index < length c.deref-x-items.result.now = omega arith in
    record {
      value = valued_step (has_value c.args.table.now) _ (map symbol_in c.loop-x.valued.items)
          (map symbol_in c.push_if_valued.new.valued.items) c.deref-x-items.result.now c.loop-x.x-index _ _ inside refl
          c.in_ok-push_if_valued.ensures.value c.loop-x.invariant.value;
      entries = λ all. c.in_ok-push_if_valued.ensures.entries (c.loop-x.invariant.entries all);
      listed = c.loop-x.invariant.listed;
      same = c.loop-x.invariant.same;
    }
