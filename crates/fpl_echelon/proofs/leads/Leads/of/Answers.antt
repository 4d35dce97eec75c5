use Rattle.std.proofs.Common.{◌≤◌, ◌-◌, ◌∙◌, sym, arith, length, length-set}
use Rattle.fpl_rows.proofs.Leads.{lead_place}
use Rattle.fpl_log.proofs.TermsTaken.{past_end, term_got}
use Rattle.fpl_numbers.specs.declared.number.Num.{Num}
use Rattle.std.specs.Prelude.{List, Some}
use Rattle.fpl_echelon.proofs.LeadIndex.{index_zero, index_row}
use Rattle.fpl_echelon.proofs.leads.Leads.of.Goals as goal

pub overflow_sub-lead : goal.overflow_sub-lead
overflow_sub-lead g c = (lead_place c.in-Some.row.now c.in-Some-lead.lead c.in-Some-lead.ensures).0

pub index_mut-requires : goal.index_mut-requires
index_mut-requires g c =
    let place = lead_place c.in-Some.row.now c.in-Some-lead.lead c.in-Some-lead.ensures in
    let most = term_got (λ (row : List Num). length row ≤ c.args.n) c.args.rows.now (c.loop-k.k - 1) c.in-Some.row.now c.requires c.in-Some.ensures in
    let long = c.loop-k.invariant.long in
    omega (arith, place.0, place.1, most, long)

pub loop-k-preserved-in-Some-lead : goal.loop-k-preserved-in-Some-lead
loop-k-preserved-in-Some-lead g c =
    let place = lead_place c.in-Some.row.now c.in-Some-lead.lead c.in-Some-lead.ensures in
    let most = term_got (λ (row : List Num). length row ≤ c.args.n) c.args.rows.now (c.loop-k.k - 1) c.in-Some.row.now c.requires c.in-Some.ensures in
    let long = c.loop-k.invariant.long in
    record {
      at_most = (let h = c.loop-k.invariant.at_most in omega arith);
      long = length-set c.loop-k.places.items (c.in-Some-lead.lead - 1) (Some (c.loop-k.k - 1)) ∙ long;
      index = index_row c.args.rows.now c.loop-k.places.items c.loop-k.k (c.loop-k.k - 1) c.in-Some.row.now
          (omega arith) c.in-Some.ensures c.loop-k.invariant.index
          c.in-Some-lead.lead (sym c.in-Some-lead.ensures) place.0 (omega (arith, place.1, most, long));
    }

pub loop-k-preserved-in_default-lead : goal.loop-k-preserved-in_default-lead
loop-k-preserved-in_default-lead g c = record {
  at_most = (let h = c.loop-k.invariant.at_most in omega arith);
  long = c.loop-k.invariant.long;
  index = index_zero c.args.rows.now c.loop-k.places.items c.loop-k.k (c.loop-k.k - 1) c.in-Some.row.now
      (omega arith) c.in-Some.ensures c.loop-k.invariant.index (sym c.in_default-lead.ensures);
}

pub loop-k-preserved : goal.loop-k-preserved
loop-k-preserved g c = absurd (let l : length c.args.rows.now ≤ c.loop-k.k - 1 = past_end c.args.rows.now (c.loop-k.k - 1) c.in_default.ensures in
    let h = c.loop-k.invariant.at_most in omega arith)
