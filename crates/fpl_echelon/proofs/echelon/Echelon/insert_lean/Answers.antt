use Rattle.std.proofs.Common.{◌∙◌, ap, sym, subst, length}
use Rattle.std.specs.Prelude.{All}
use Rattle.fpl_numbers.specs.Results.{GivesBy}
use Rattle.fpl_scalar.specs.Vectors.{AreElements}
use Rattle.plain_elimination.specs.Plain.{IsPivotRow, inserted_as}
use Rattle.fpl_echelon.specs.Outcomes.{lead_in}
use Rattle.plain_lean.specs.Lean.{insert_lean}
use Rattle.fpl_echelon.proofs.Contracts.{kind_in, size_in}
use Rattle.fpl_echelon.proofs.Leaning.{pivots_lean, lean_at_size}
use Rattle.fpl_echelon.proofs.echelon.Echelon.insert_lean.Goals as goal

pub put_lean-outcome-requires-clause-kind : goal.put_lean-outcome-requires-clause-kind
put_lean-outcome-requires-clause-kind g c = c.requires.kind ∙ sym (ap kind_in c.self.view_is)

pub put_lean-outcome-requires-clause-pivots : goal.put_lean-outcome-requires-clause-pivots
put_lean-outcome-requires-clause-pivots g c =
    subst (λ n. All (IsPivotRow (g.F.Field.kind_of c.self.inside.field) n) c.self.inside.pivots)
    (sym (c.requires.size ∙ sym (ap size_in c.self.view_is))) c.self.invariant

pub invariant_of-self : goal.invariant_of-self
invariant_of-self g c =
    let kind = g.F.Field.kind_of c.self.inside.field in
    let size = c.requires.size ∙ sym (ap size_in c.self.view_is) in
    pivots_lean (record { kind = kind; size = c.self.inside.size; held = record { pivots = c.self.inside.pivots; steps = c.self.inside.steps } })
    c.args.row.now.row c.args.origin c.put_lean-outcome.new.pivots c.put_lean-outcome.new.steps c.put_lean-outcome.result
    (g.met.F.Field.is_field c.self.inside.field) c.self.invariant size
    (subst (λ k. AreElements k c.args.row.now.row) (c.requires.kind ∙ sym (ap kind_in c.self.view_is)) c.len-count.ensures.elements)
    (lean_at_size kind c.args.row.now.row c.args.origin _ (length c.args.row.now.row) c.self.inside.size _ c.put_lean-outcome.result size
    c.put_lean-outcome.ensures.value) c.put_lean-outcome.ensures.unchanged

pub returns-clause-value : goal.returns-clause-value
returns-clause-value g c =
    let kind = g.F.Field.kind_of c.self.inside.field in
    let size = c.requires.size ∙ sym (ap size_in c.self.view_is) in
    subst (λ e. GivesBy (λ outcome. inserted_as (lead_in outcome) (record {
      pivots = c.put_lean-outcome.new.pivots;
      steps =
          c.put_lean-outcome.new.steps;
    })) c.put_lean-outcome.result (insert_lean e c.args.row.now.row c.args.origin)) c.self.view_is
    (lean_at_size kind c.args.row.now.row c.args.origin _ (length c.args.row.now.row) c.self.inside.size _ c.put_lean-outcome.result size
    c.put_lean-outcome.ensures.value)
