use Rattle.std.proofs.Common.{◌≡◌, ◌+◌, ◌-◌, refl, sym, arith, append-nil, append_assoc}
use Rattle.fpl_table.proofs.Cells.{pairs_first, pairs_more, pairs_last, symbols_none}
use Rattle.fpl_table.proofs.Weights.{through_below}
use Rattle.fpl_table.proofs.table.Table.symbol_list.Goals as goal

pub returns-then-w-eq0-clause-value : goal.returns-then-w-eq0-clause-value
returns-then-w-eq0-clause-value g c =
    rw (
      symbols_none c.args.self.now c.in_ok-push_generators.ensures.shape c.args.w c.if-w-eq0.true,
      c.in_ok-push_generators.ensures.value,
      c.new-symbols.ensures.items,
    ) refl

pub loop-i-init : goal.loop-i-init
loop-i-init g c = record {
  value = rw (
    c.in_ok-push_generators.ensures.value,
    c.new-symbols.ensures.items,
    pairs_first c.args.self.now c.in_ok-push_generators.ensures.shape
        c.args.w,
  ) (sym (append-nil _));
  numbered = c.in_ok-push_generators.ensures.numbered (rw c.new-symbols.ensures.items (λ k d lt. absurd (omega (arith, lt))));
}

pub push_pairs-requires-clause-above : goal.push_pairs-requires-clause-above
push_pairs-requires-clause-above g c =
    let same : c.loop-i.i + 1 - 1 ≡ c.loop-i.i = omega arith in
    let light = through_below c.args.self.now c.in_ok-push_generators.ensures.shape (c.args.w - 1) c.loop-i.i (omega arith) in
    rw same (omega (arith, light, c.if-w-eq0.false))

pub loop-i-preserved : goal.loop-i-preserved
loop-i-preserved g c =
    let same : c.loop-i.i + 1 - 1 ≡ c.loop-i.i = omega arith in
    let row = rw same at c.in_ok-push_pairs.ensures.value in
    record {
      value = rw (row, c.loop-i.invariant.value, pairs_more c.args.self.now c.in_ok-push_generators.ensures.shape c.args.w c.loop-i.i, append_assoc) refl;
      numbered = c.in_ok-push_pairs.ensures.numbered c.loop-i.invariant.numbered;
    }

pub returns-clause-value : goal.returns-clause-value
returns-clause-value g c =
    rw (pairs_last c.args.self.now c.in_ok-push_generators.ensures.shape c.args.w c.loop-i.i (omega arith) (omega arith)
    (omega (arith, c.if-w-eq0.false))) c.loop-i.invariant.value
