use Rattle.std.proofs.Common.{◌<◌, ◌++◌, ◌∷◌, [], ◌∙◌, ℕ, List, ap, sym, subst, arith}
use Rattle.fpl_log.specs.declared.section.Section.{Section}
use Rattle.fpl_table.specs.Plain.{PlainTable}
use Rattle.fpl_rewrite.proofs.SymbolCounts.{rows_counted}
use Rattle.fpl_complete.specs.State.{PlainState, IsState}
use Rattle.fpl_complete.proofs.Raising.{weighs, Keeps, keeps, state_weighed, unfit_fractions, few_symbols, whole_here, within_then, counts_then}
use Rattle.fpl_complete.proofs.state.State.next_weight.Goals as goal

pub complete_weight-requires-clause-few : goal.complete_weight-requires-clause-few
complete_weight-requires-clause-few g c =
    few_symbols c.self.inside.table c.next_count-count.result
    (whole_here c.self.inside.table c.args.self.now.table c.next_count-count.result
    (ap (λ (s : PlainState). s.table) c.self.view_is) c.next_count-count.ensures)
    (omega (arith, c.requires.entries, c.if-count-entries.false))

pub returns-in-Err-Unfit-clause-fractions : goal.returns-in-Err-Unfit-clause-fractions
returns-in-Err-Unfit-clause-fractions g c = λ w op a b e.
    ap (λ (s : PlainState). s.presentation.field) (sym c.self.view_is)
    ∙ unfit_fractions c.self.inside.table c.self.inside.presentation c.self.inside.presentation.field c.in-Err-Unfit.u c.self.invariant.holds.kind
    (rw c.in-Err-Unfit.field-0-is at c.in-Err-Unfit.ensures.value)

pub keep-requires-clause-rows : goal.keep-requires-clause-rows
keep-requires-clause-rows g c = rows_counted c.self.inside.table c.in-Ok.weighed.rows c.in-Ok.ensures.closed.are_rows

pub invariant_of-self : goal.invariant_of-self
invariant_of-self g c =
    let T = c.self.inside.table in
    let p = c.self.inside.presentation in
    let m : ℕ = c.next_count-count.result in
    let below : T.weight < 1000 = subst (λ (s : PlainState). s.table.weight < 1000) (sym c.self.view_is) c.requires.weight in
    subst (λ (xs : List Section). IsState p c.keep.new.table m xs) (sym c.in-Ok-keep.ensures.sections)
    (subst (λ (T : PlainTable). IsState p T m (c.self.inside.sections ++ c.in-Ok.weighed.section ∷ [])) (sym c.in-Ok-keep.ensures.table)
    (state_weighed T p c.self.inside.count m c.self.inside.sections c.in-Ok.weighed.rows c.in-Ok.weighed.section c.self.invariant
    (whole_here T c.args.self.now.table m (ap (λ (s : PlainState). s.table) c.self.view_is) c.next_count-count.ensures)
    (omega (arith, c.requires.entries, c.if-count-entries.false)) below (weighs T p c.in-Ok.weighed.rows c.in-Ok.weighed.section c.in-Ok.ensures.value)))

pub returns-in-Ok-keep-clause-within : goal.returns-in-Ok-keep-clause-within
returns-in-Ok-keep-clause-within g c =
    within_then c.self.inside.table c.args.self.now.table c.keep.new.table c.in-Ok.weighed.rows c.next_count-count.result c.args.entries
    c.self.invariant.holds.shape
    (ap (λ (s : PlainState). s.table) c.self.view_is) c.in-Ok-keep.ensures.table c.next_count-count.ensures (omega (arith, c.if-count-entries.false))

pub returns-in-Ok-keep-clause-counts : goal.returns-in-Ok-keep-clause-counts
returns-in-Ok-keep-clause-counts g c =
    counts_then c.self.inside.table c.args.self.now.table c.keep.new.table c.in-Ok.weighed.rows c.self.invariant.holds.shape
    (ap (λ (s : PlainState). s.table) c.self.view_is) c.in-Ok-keep.ensures.table

pub returns-in-Ok-keep-clause-value : goal.returns-in-Ok-keep-clause-value
returns-in-Ok-keep-clause-value g c =
    subst (λ (s : PlainState). Keeps s c.keep.new.table c.keep.new.sections) c.self.view_is
    (keeps (record {
      presentation = c.self.inside.presentation;
      table = c.self.inside.table;
      sections = c.self.inside.sections;
    }) c.keep.new.table c.keep.new.sections c.in-Ok.weighed.rows c.in-Ok.weighed.section
    (weighs c.self.inside.table c.self.inside.presentation c.in-Ok.weighed.rows c.in-Ok.weighed.section c.in-Ok.ensures.value)
    c.in-Ok-keep.ensures.table c.in-Ok-keep.ensures.sections)
