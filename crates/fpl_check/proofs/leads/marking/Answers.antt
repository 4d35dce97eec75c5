use Rattle.std.proofs.Common.{◌≤◌, ◌-◌, sym, arith, length, drop, subst, true}
use Rattle.std.specs.Prelude.{slice_set, List}
use Rattle.fpl_numbers.specs.declared.number.Num.{Num}
use Rattle.fpl_rows.specs.Meaning.{IsRowOf}
use Rattle.fpl_rows.proofs.Leads.{lead_place}
use Rattle.fpl_log.proofs.TermsTaken.{past_end, term_got}
use Rattle.fpl_check.specs.Leads.{IsMarking}
use Rattle.fpl_check.proofs.Composed.{rest_at}
use Rattle.fpl_check.proofs.Marks.{marked_more, marked_same}
use Rattle.fpl_check.proofs.leads.marking.Goals as goal

pub overflow_sub-lead : goal.overflow_sub-lead
overflow_sub-lead g c = (lead_place c.in-Some.row.now c.in-Some-lead.lead c.in-Some-lead.ensures).0

pub index_mut-requires : goal.index_mut-requires
index_mut-requires g c =
    let place = lead_place c.in-Some.row.now c.in-Some-lead.lead c.in-Some-lead.ensures in
    let is = term_got (IsRowOf (g.F.Field.kind_of c.args.field.now) c.args.n) c.args.rows.now (c.loop-k.k - 1) c.in-Some.row.now c.requires c.in-Some.ensures in
    let m = c.loop-k.invariant.marking.length_is in
    omega (arith, place.0, place.1, is.length_is, m)

pub loop-k-preserved-in-Some-lead : goal.loop-k-preserved-in-Some-lead
loop-k-preserved-in-Some-lead g c =
    let place = lead_place c.in-Some.row.now c.in-Some-lead.lead c.in-Some-lead.ensures in
    let is = term_got (IsRowOf (g.F.Field.kind_of c.args.field.now) c.args.n) c.args.rows.now (c.loop-k.k - 1) c.in-Some.row.now c.requires c.in-Some.ensures in
    let list = rest_at c.args.rows.now c.loop-k.k (c.loop-k.k - 1) c.in-Some.row.now (omega arith) c.in-Some.ensures in
    record {
      at_most = (let h = c.loop-k.invariant.at_most in omega arith);
      marking = subst (λ (rows : List (List Num)). IsMarking c.args.n rows (slice_set c.loop-k.marks.items (c.in-Some-lead.lead - 1) true)) (sym list)
          (marked_more c.args.n (drop c.loop-k.k c.args.rows.now) c.in-Some.row.now c.in-Some-lead.lead c.loop-k.marks.items c.loop-k.invariant.marking
          (sym c.in-Some-lead.ensures) place.0 (let l = is.length_is in omega (arith, place.1, l)));
    }

pub loop-k-preserved-in_default-lead : goal.loop-k-preserved-in_default-lead
loop-k-preserved-in_default-lead g c =
    let list = rest_at c.args.rows.now c.loop-k.k (c.loop-k.k - 1) c.in-Some.row.now (omega arith) c.in-Some.ensures in
    record {
      at_most = (let h = c.loop-k.invariant.at_most in omega arith);
      marking = subst (λ (rows : List (List Num)). IsMarking c.args.n rows c.loop-k.marks.items) (sym list)
          (marked_same c.args.n (drop c.loop-k.k c.args.rows.now) c.in-Some.row.now c.loop-k.marks.items c.loop-k.invariant.marking
          (sym c.in_default-lead.ensures));
    }

pub loop-k-preserved : goal.loop-k-preserved
loop-k-preserved g c = absurd
    (let l : length c.args.rows.now ≤ c.loop-k.k - 1 = past_end c.args.rows.now
    (c.loop-k.k - 1) c.in_default.ensures in let h = c.loop-k.invariant.at_most in omega arith)
