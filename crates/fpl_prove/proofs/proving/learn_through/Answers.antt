use Rattle.std.proofs.Common.{sym, ap, subst, ◌∙◌, arith}
use Rattle.std.specs.Option.{option_copied}
use Rattle.fpl_check.specs.Check.{Accepts, rows_stored}
use Rattle.fpl_forms.proofs.Ledgers.{grows_trans}
use Rattle.fpl_prove.proofs.Prefixes.{none_past, next_here, after_here}
use Rattle.fpl_prove.proofs.proving.learn_through.Goals as goal

pub learn-requires-clause-weight : goal.learn-requires-clause-weight
learn-requires-clause-weight c =
    (next_here c.args.ledger.now.presentation c.args.sections.now c.loop-k.k c.in-Some.section.now c.loop-k.known.table c.loop-k.invariant.table
    (sym c.get.ensures ∙ ap option_copied c.in-Some.is) c.requires.sections).weight

pub learn-requires-clause-few : goal.learn-requires-clause-few
learn-requires-clause-few c =
    (next_here c.args.ledger.now.presentation c.args.sections.now c.loop-k.k c.in-Some.section.now c.loop-k.known.table c.loop-k.invariant.table
    (sym c.get.ensures ∙ ap option_copied c.in-Some.is) c.requires.sections).few

pub learn-requires-clause-section : goal.learn-requires-clause-section
learn-requires-clause-section c =
    (next_here c.args.ledger.now.presentation c.args.sections.now c.loop-k.k c.in-Some.section.now c.loop-k.known.table c.loop-k.invariant.table
    (sym c.get.ensures ∙ ap option_copied c.in-Some.is) c.requires.sections).section

pub learn-requires-clause-accepted : goal.learn-requires-clause-accepted
learn-requires-clause-accepted c =
    subst (λ p. Accepts c.loop-k.known.table p c.in-Some.section.now (rows_stored c.loop-k.known.table c.in-Some.section.now))
    (sym c.loop-k.invariant.grows.presentation)
    (next_here c.args.ledger.now.presentation c.args.sections.now c.loop-k.k c.in-Some.section.now c.loop-k.known.table c.loop-k.invariant.table
    (sym c.get.ensures ∙ ap option_copied c.in-Some.is) c.requires.sections).accepted

pub unreachable-requires : goal.unreachable-requires
unreachable-requires c =
    none_past c.args.sections.now c.loop-k.k (omega (arith, c.loop-k-test.true, c.requires.through)) (sym c.get.ensures ∙ ap option_copied c.in-None.is)

pub loop-k-preserved : goal.loop-k-preserved
loop-k-preserved c = record {
  grows = grows_trans c.loop-k.invariant.grows c.in_ok-learn-in-Some.ensures.grows;
  known = c.in_ok-learn-in-Some.ensures.known;
  table =
      after_here c.args.ledger.now.presentation c.args.sections.now c.loop-k.k c.in-Some.section.now c.loop-k.known.table c.loop-k.invariant.table
      (sym c.get.ensures ∙ ap option_copied c.in-Some.is) c.learn.new.known.table c.in_ok-learn-in-Some.ensures.table;
}
