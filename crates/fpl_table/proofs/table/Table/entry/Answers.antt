use Rattle.std.proofs.Common.{◌-◌, ap, arith}
use Rattle.fpl_table.proofs.Entries.{partner_starts, left_within, partner_within, entry_found, entry_row_within}
use Rattle.fpl_table.proofs.table.Table.entry.Goals as goal

pub index-requires-2 : goal.index-requires-2
index-requires-2 g c =
    let within = left_within c.args.self.now c.basis-left.ensures.shape (c.args.i - 1) (c.args.j - 1) (omega arith)
    (omega arith) c.requires.regular c.requires.reached c.self.inside.levels.items (λ l. l.entries.items) (λ v. v.items)
    (ap (λ T. T.entries) c.self.view_is) c.index.result.now
    (rw (ap (λ b. b.weight) c.basis-left.ensures.value, ap (λ b. b.weight) c.basis.ensures.value) at c.index.ensures) in
    omega (arith, within)

pub overflow_sub-j-2 : goal.overflow_sub-j-2
overflow_sub-j-2 g c =
    rw (c.partners-from.ensures.from, ap (λ b. b.weight) c.basis-left.ensures.value, ap (λ b. b.weight) c.basis.ensures.value)
    (partner_starts c.args.self.now c.basis-left.ensures.shape (c.args.i - 1) (c.args.j - 1) (omega arith) (omega arith) c.requires.regular c.requires.reached)

pub index-requires-3 : goal.index-requires-3
index-requires-3 g c =
    let within = partner_within c.args.self.now c.basis-left.ensures.shape (c.args.i - 1) (c.args.j - 1) (omega arith)
    (omega arith) c.requires.regular c.requires.reached c.self.inside.levels.items (λ l. l.entries.items) (λ v. v.items)
    (ap (λ T. T.entries) c.self.view_is) c.index.result.now
    (rw (ap (λ b. b.weight) c.basis-left.ensures.value, ap (λ b. b.weight) c.basis.ensures.value) at c.index.ensures)
    c.index-2.result.now c.index-2.ensures in
    let from = rw (ap (λ b. b.weight) c.basis-left.ensures.value, ap (λ b. b.weight) c.basis.ensures.value) at c.partners-from.ensures.from in
    omega (arith, within, from)

pub returns-clause-value : goal.returns-clause-value
returns-clause-value g c =
    entry_found c.args.self.now c.basis-left.ensures.shape (c.args.i - 1) (c.args.j - 1) (omega arith)
    (omega arith) c.requires.regular c.requires.reached c.self.inside.levels.items (λ l. l.entries.items) (λ v. v.items)
    (ap (λ T. T.entries) c.self.view_is) c.index.result.now
    (rw (ap (λ b. b.weight) c.basis-left.ensures.value, ap (λ b. b.weight) c.basis.ensures.value) at c.index.ensures)
    c.index-2.result.now c.index-2.ensures c.index-3.result.now
    (rw (c.partners-from.ensures.from, ap (λ b. b.weight) c.basis-left.ensures.value, ap (λ b. b.weight) c.basis.ensures.value) at c.index-3.ensures)

pub returns-clause-row : goal.returns-clause-row
returns-clause-row g c =
    rw (returns-clause-value g c)
    (entry_row_within c.args.self.now c.basis-left.ensures.shape (c.args.i - 1) (c.args.j - 1) (omega arith)
    (omega arith) c.requires.regular c.requires.reached)
