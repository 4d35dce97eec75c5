use Rattle.std.proofs.Common.{◌≡◌, ◌≤◌, ◌+◌, ◌-◌, length, sym, subst, arith}
use Rattle.fpl_envelope.specs.Counts.{words_in}
use Rattle.fpl_envelope.proofs.CountRows.{start_counts, last_total}
use Rattle.fpl_envelope.proofs.listing.counts_through.Goals as goal

pub loop-below-init : goal.loop-below-init
loop-below-init g c = record { counts = start_counts c.args.table.now c.in_ok-counts.counts c.in_ok-counts.ensures; depth = c.in_ok-counts.ensures }

pub push-requires-clause-few : goal.push-requires-clause-few
push-requires-clause-few g c =
    let last : c.index.result.now ≡ length (words_in c.args.table.now (c.loop-below.below + 1)) =
    last_total c.args.table.now c.in_ok-row.ensures.shape (c.loop-below.below + 1) c.in_ok-row.row.items (omega arith) c.in_ok-row.ensures.value
    (c.len.result - 1) c.index.result.now (omega arith) c.index.ensures in
    let depth : length c.loop-below.counts ≡ c.loop-below.below + 1 = omega arith in
    subst (λ n. length (words_in c.args.table.now n) ≤ 2000000) (sym depth) (omega arith)
