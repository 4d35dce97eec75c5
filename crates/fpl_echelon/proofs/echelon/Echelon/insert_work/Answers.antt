use Rattle.std.proofs.Common.{◌∙◌, ap, sym, subst, length}
use Rattle.std.specs.Prelude.{All}
use Rattle.fpl_numbers.specs.Results.{GivesBy}
use Rattle.fpl_scalar.specs.Vectors.{AreElements}
use Rattle.plain_elimination.specs.Plain.{IsPivotRow, inserted_as, insert_of}
use Rattle.fpl_echelon.specs.Outcomes.{lead_in}
use Rattle.fpl_echelon.proofs.Contracts.{kind_in, size_in, at_size, spans_with, pivots_after}
use Rattle.fpl_echelon.proofs.echelon.Echelon.insert_work.Goals as goal

pub put_work-outcome-requires-clause-kind : goal.put_work-outcome-requires-clause-kind
put_work-outcome-requires-clause-kind g c = c.requires.kind ∙ sym (ap kind_in c.self.view_is)

pub put_work-outcome-requires-clause-pivots : goal.put_work-outcome-requires-clause-pivots
put_work-outcome-requires-clause-pivots g c =
    subst (λ n. All (IsPivotRow (g.F.Field.kind_of c.self.inside.field) n) c.self.inside.pivots)
    (sym (c.requires.size ∙ sym (ap size_in c.self.view_is))) c.self.invariant

pub invariant_of-self : goal.invariant_of-self
invariant_of-self g c =
    let kind = g.F.Field.kind_of c.self.inside.field in
    let size = c.requires.size ∙ sym (ap size_in c.self.view_is) in
    pivots_after (record { kind = kind; size = c.self.inside.size; held = record { pivots = c.self.inside.pivots; steps = c.self.inside.steps } })
    c.args.work.now.row c.args.origin c.put_work-outcome.new.pivots c.put_work-outcome.new.steps c.put_work-outcome.result
    (g.met.F.Field.is_field c.self.inside.field) c.self.invariant size
    (subst (λ k. AreElements k c.args.work.now.row) (c.requires.kind ∙ sym (ap kind_in c.self.view_is)) c.len-count.ensures.elements)
    (at_size kind c.args.work.now.row c.args.origin _ (length c.args.work.now.row) c.self.inside.size _ c.put_work-outcome.result size
    c.put_work-outcome.ensures.value) c.put_work-outcome.ensures.unchanged

pub returns-clause-value : goal.returns-clause-value
returns-clause-value g c =
    let kind = g.F.Field.kind_of c.self.inside.field in
    let size = c.requires.size ∙ sym (ap size_in c.self.view_is) in
    subst (λ e. GivesBy (λ outcome. inserted_as (lead_in outcome) (record {
      pivots = c.put_work-outcome.new.pivots;
      steps =
          c.put_work-outcome.new.steps;
    })) c.put_work-outcome.result (insert_of e c.args.work.now.row c.args.origin)) c.self.view_is
    (at_size kind c.args.work.now.row c.args.origin _ (length c.args.work.now.row) c.self.inside.size _ c.put_work-outcome.result size
    c.put_work-outcome.ensures.value)

pub returns-clause-spans : goal.returns-clause-spans
returns-clause-spans g c =
    let kind = g.F.Field.kind_of c.self.inside.field in
    let size = c.requires.size ∙ sym (ap size_in c.self.view_is) in
    rw (← c.self.view_is)
    (spans_with (record { kind = kind; size = c.self.inside.size; held = record { pivots = c.self.inside.pivots; steps = c.self.inside.steps } })
    c.args.work.now.row c.args.origin (record { pivots = c.put_work-outcome.new.pivots; steps = c.put_work-outcome.new.steps })
    c.put_work-outcome.result (g.met.F.Field.is_field c.self.inside.field) c.self.invariant size
    (subst (λ k. AreElements k c.args.work.now.row) (c.requires.kind ∙ sym (ap kind_in c.self.view_is)) c.len-count.ensures.elements)
    (at_size kind c.args.work.now.row c.args.origin _ (length c.args.work.now.row) c.self.inside.size _ c.put_work-outcome.result size
    c.put_work-outcome.ensures.value))
