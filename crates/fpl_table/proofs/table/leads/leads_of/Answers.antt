use Rattle.std.proofs.Common.{◌≡◌, ◌+◌, ◌-◌, ◌∙◌, arith}
use Rattle.std.proofs.Math.ListN.{length-set}
use Rattle.fpl_table.proofs.Leads.{lead_other, lead_set, lead_within}
use Rattle.fpl_table.proofs.table.leads.leads_of.Goals as goal

pub loop-k-preserved : goal.loop-k-preserved
loop-k-preserved g c =
    let same : c.loop-k.k - 1 + 1 ≡ c.loop-k.k = omega arith in
    record {
      count = c.loop-k.invariant.count;
      within = c.loop-k.invariant.within;
      rows_are = λ s lt. lead_other c.args.rows.now c.args.count c.loop-k.leads.items (c.loop-k.k - 1) (omega arith) c.loop-k.invariant.count
          (λ t below. rw same (c.loop-k.invariant.rows_are t below)) s lt (omega arith);
      far = omega arith;
    }

pub loop-k-preserved-then-place-count : goal.loop-k-preserved-then-place-count
loop-k-preserved-then-place-count g c =
    let same : c.loop-k.k - 1 + 1 ≡ c.loop-k.k = omega arith in
    record {
      count = length-set c.loop-k.leads.items c.lead_place-place.result (c.loop-k.k - 1 + 1) ∙ c.loop-k.invariant.count;
      within = lead_within c.args.rows.now c.args.count c.loop-k.leads.items (c.loop-k.k - 1) (omega arith) c.loop-k.invariant.count
          (λ t below. rw same (c.loop-k.invariant.rows_are t below))
          c.lead_place-place.result c.if-place-count.true c.loop-k.invariant.within;
      rows_are = lead_set c.args.rows.now c.args.count c.loop-k.leads.items (c.loop-k.k - 1) (omega arith) c.loop-k.invariant.count
          (λ t below. rw same (c.loop-k.invariant.rows_are t below))
          c.lead_place-place.result c.if-place-count.true c.lead_place-place.ensures;
      far = omega arith;
    }
