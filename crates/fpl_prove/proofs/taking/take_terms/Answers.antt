use Rattle.std.proofs.Common.{◌≤◌, ◌+◌, ◌∙◌, ℕ, subst, sym, ap, arith, length, map}
use Rattle.fpl_numbers.specs.declared.number.Kind.TheVariants.{Prime}
use Rattle.fpl_log.specs.Plain.{IsTermOf}
use Rattle.fpl_log.proofs.TermsTaken.{past_end, term_got}
use Rattle.fpl_forms.specs.declared.term.Fact.{Fact}
use Rattle.fpl_forms.specs.Combining.{terms_of}
use Rattle.fpl_forms.proofs.Ledgers.{grows_trans}
use Rattle.fpl_prove.specs.Taking.{taken}
use Rattle.fpl_table_facts.proofs.Grown.{grows_exprs}
use Rattle.fpl_prove.proofs.Reading.{grows_zeros, taken_step}
use Rattle.fpl_prove.proofs.taking.take_terms.Goals.{in-None, in-Some+in_ok-left-in-Some}
use Rattle.fpl_prove.proofs.taking.take_terms.Goals as goal

pub take_term-requires-clause-term : goal.take_term-requires-clause-term
take_term-requires-clause-term c =
    subst (λ (q : ℕ). IsTermOf (Prime q) (length c.args.zeros.now) c.in-Some.term) (sym c.loop-i.invariant.grows.prime)
    (term_got (IsTermOf (Prime c.args.ledger.now.prime) (length c.args.zeros.now)) c.args.terms.now c.loop-i.i c.in-Some.term c.requires.terms
    c.in-Some.ensures)

pub loop-i-preserved : goal.loop-i-preserved
loop-i-preserved c =
    let i = c.loop-i.invariant in
    elim c.match-get.branch [
      | in-None w ↦ absurd (let l : length c.args.terms.now ≤ c.loop-i.i = past_end c.args.terms.now c.loop-i.i w.in-None.ensures in omega arith)
      | in-Some+in_ok-left-in-Some w ↦
          let g = w.in_ok-left-in-Some.ensures.grows in
          let q = c.args.ledger.now.prime in
          let zss = map terms_of c.args.zeros.now in
          record {
            grows = rw w.ledger-is (grows_trans i.grows g);
            atoms = rw w.ledger-is (grows_exprs g c.args.atoms.now i.atoms);
            zeros = rw w.ledger-is (grows_zeros g c.args.atoms.now c.args.zeros.now i.zeros);
            left = rw (w.ledger-is, w.left-is) w.in_ok-left-in-Some.ensures.zero;
            done = taken_step q zss c.loop-i.left.terms.items c.match-get.left.terms.items c.args.terms.now (c.loop-i.i + 1) c.loop-i.i w.in-Some.term
                (omega arith) w.in-Some.ensures
                (ap (λ (f : Fact). f.terms.items) w.left-is ∙ w.in_ok-left-in-Some.ensures.terms
                ∙ ap (λ (q : ℕ). taken q zss c.loop-i.left.terms.items w.in-Some.term) i.grows.prime)
                ∙ i.done;
          }
    ]
