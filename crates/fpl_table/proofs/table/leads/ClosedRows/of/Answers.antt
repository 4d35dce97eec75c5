use Rattle.std.proofs.Common.{◌≡◌, [], ◌∷◌, length, ap, sym, ◌∙◌, arith}
use Rattle.std.proofs.lemmas.List.{length-append}
use Rattle.fpl_table.specs.Push.{free_in}
use Rattle.fpl_table.proofs.Leads.{free_here, free_not, free_few, lead_at, ranks_more}
use Rattle.fpl_table.proofs.table.leads.ClosedRows.of.Goals as goal
use Rattle.fpl_table.proofs.table.leads.ClosedRows.of.Goals.{then-index-eq0+in_ok-push-2, else-index-eq0}

pub loop-s-init : goal.loop-s-init
unfolding free_in
loop-s-init g c = record {
  free = c.new-free.ensures.items;
  count = ap length c.in_ok-ranks.ensures.items;
  ranks = λ t l. absurd (omega (arith, l));
}

pub overflow_cast-len : goal.overflow_cast-len
overflow_cast-len g c =
    let few = free_few c.args.rows.now c.loop-s.s in
    let many = ap length c.loop-s.invariant.free in
    omega (arith, few, many, c.loop-s-test.true, c.ranges.count.fits)

pub loop-s-preserved : goal.loop-s-preserved
loop-s-preserved g c =
    let leads = c.in_ok-leads.ensures in
    let here = lead_at c.args.rows.now c.args.count c.in_ok-leads.leads.items leads c.loop-s.s c.index.result.now c.loop-s-test.true c.index.ensures in
    let many = ap length c.loop-s.invariant.free in
    let rank : c.len.result ≡ length (free_in c.args.rows.now c.loop-s.s) = omega (arith, c.len.ensures, many) in
    let count = length-append c.loop-s.ranks.items (c.len.result ∷ []) in
    record {
      free = elim c.if-index-eq0.branch [
        | then-index-eq0+in_ok-push-2 w ↦
            rw (w.free-is, w.in_ok-push-2.ensures.items, c.loop-s.invariant.free)
            (sym (free_here c.args.rows.now _ c.in_ok-leads.leads.items leads c.loop-s.s c.loop-s-test.true (here ∙ w.if-index-eq0.true)))
        | else-index-eq0 w ↦
            rw w.free-is (c.loop-s.invariant.free ∙ sym (free_not c.args.rows.now _ c.in_ok-leads.leads.items leads c.loop-s.s c.loop-s-test.true
            (λ e. w.if-index-eq0.false (sym here ∙ e))))
      ];
      count = omega (arith, ap length c.in_ok-push.ensures.items, count, c.loop-s.invariant.count);
      ranks = rw c.in_ok-push.ensures.items (ranks_more c.args.rows.now c.loop-s.s c.loop-s.ranks.items c.len.result c.loop-s.invariant.count rank
          c.loop-s.invariant.ranks);
    }
