use Rattle.std.proofs.Common.{◌≡◌, ◌≤◌, ◌+◌, ◌-◌, ◌*◌, suc, length, ap, sym, ◌∙◌, subst, arith}
use Rattle.fpl_table.specs.Plain.{table_in}
use Rattle.plain_envelope.specs.Listing.{count_through}
use Rattle.fpl_envelope.specs.Counts.{words_in}
use Rattle.fpl_envelope.proofs.CountRows.{start_counts, last_total, total_most, count_after, limit_there, limit_after, limit_start, count_start}
use Rattle.fpl_envelope.proofs.limit.word_count.Goals as goal

pub loop-below-init : goal.loop-below-init
loop-below-init g c = record {
  counts = start_counts c.args.table.now c.in_ok-counts.counts c.in_ok-counts.ensures;
  depth = c.in_ok-counts.ensures;
  sum = sym (count_start c.args.table.now c.args.entries);
  most = omega arith;
  none = limit_start c.args.table.now c.args.entries;
}

pub overflow_add-sum : goal.overflow_add-sum
overflow_add-sum g c =
    let T = c.args.table.now in
    let last : c.index.result.now ≡ length (words_in T (c.loop-below.below + 1)) =
    last_total T c.in_ok-row.ensures.shape (c.loop-below.below + 1) c.in_ok-row.row.items (omega arith) c.in_ok-row.ensures.value
    (c.len.result - 1) c.index.result.now (omega arith) c.index.ensures in
    let depth : length c.loop-below.counts ≡ c.loop-below.below + 1 = omega arith in
    let most : length (words_in T (c.loop-below.below + 1)) ≤ 2000000 * (2000000 * 1000) =
    subst (λ n. length (words_in T n) ≤ 2000000 * (2000000 * 1000)) depth
    (total_most T c.in_ok-row.ensures.shape c.loop-below.counts c.loop-below.invariant.counts (omega arith)) in
    omega (arith, last, most)

pub returns-then-sum-entries : goal.returns-then-sum-entries
returns-then-sum-entries g c =
    let last : c.index.result.now ≡ length (words_in c.args.table.now (c.loop-below.below + 1)) =
    last_total c.args.table.now c.in_ok-row.ensures.shape (c.loop-below.below + 1) c.in_ok-row.row.items (omega arith) c.in_ok-row.ensures.value
    (c.len.result - 1) c.index.result.now (omega arith) c.index.ensures in
    limit_there c.args.table.now c.args.entries c.loop-below.below c.args.w c.loop-below.sum c.index.result.now (omega arith) c.loop-below.invariant.none
    c.loop-below.invariant.sum last (omega arith)

pub push-requires-clause-few : goal.push-requires-clause-few
push-requires-clause-few g c =
    let last : c.index.result.now ≡ length (words_in c.args.table.now (c.loop-below.below + 1)) =
    last_total c.args.table.now c.in_ok-row.ensures.shape (c.loop-below.below + 1) c.in_ok-row.row.items (omega arith) c.in_ok-row.ensures.value
    (c.len.result - 1) c.index.result.now (omega arith) c.index.ensures in
    let depth : length c.loop-below.counts ≡ c.loop-below.below + 1 = omega arith in
    subst (λ n. length (words_in c.args.table.now n) ≤ 2000000) (sym depth) (omega arith)

pub loop-below-preserved : goal.loop-below-preserved
loop-below-preserved g c =
    let T = c.args.table.now in
    let last : c.index.result.now ≡ length (words_in c.args.table.now (c.loop-below.below + 1)) =
    last_total c.args.table.now c.in_ok-row.ensures.shape (c.loop-below.below + 1) c.in_ok-row.row.items (omega arith) c.in_ok-row.ensures.value
    (c.len.result - 1) c.index.result.now (omega arith) c.index.ensures in
    let sum : c.loop-below.sum + c.index.result.now ≡ count_through (table_in T.kind T) (c.loop-below.below + 1) =
    count_after T c.args.entries c.loop-below.below c.loop-below.sum c.index.result.now c.loop-below.invariant.sum last in
    record {
      counts = c.in_ok-push.ensures.counts;
      depth = c.in_ok-push.ensures.next ∙ ap suc (let depth : length c.loop-below.counts ≡ c.loop-below.below + 1 = omega arith in depth);
      sum = sum;
      most = omega arith;
      none = limit_after T c.args.entries c.loop-below.below c.loop-below.invariant.none (subst (λ n. n ≤ c.args.entries) sum (omega arith));
    }
