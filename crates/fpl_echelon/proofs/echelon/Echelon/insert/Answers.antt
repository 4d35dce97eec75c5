use Rattle.std.proofs.Common.{◌∙◌, ap, sym, subst}
use Rattle.plain_elimination.specs.Plain.{Elimination}
use Rattle.fpl_scalar.specs.Vectors.{AreElements}
use Rattle.fpl_echelon.proofs.Contracts.{spans_with, pivots_after}
use Rattle.fpl_echelon.proofs.echelon.Echelon.insert.Goals as goal

pub invariant_of-self : goal.invariant_of-self
invariant_of-self g c =
    pivots_after (record {
      kind = g.F.Field.kind_of c.self.inside.field;
      size = c.self.inside.size;
      held =
          record { pivots = c.self.inside.pivots; steps = c.self.inside.steps };
    })
    c.args.row c.args.origin c.put_in.new.pivots c.put_in.new.steps c.put_in.result (g.met.F.Field.is_field c.self.inside.field) c.self.invariant
    (c.requires.size ∙ sym (ap (λ (e : Elimination). e.size) c.self.view_is)) (let P : Elimination → Type 0 = λ e. AreElements e.kind c.args.row in
    subst P (sym c.self.view_is) c.requires.elements) c.put_in.ensures.value c.put_in.ensures.unchanged

pub returns-clause-spans : goal.returns-clause-spans
returns-clause-spans g c =
    rw (← c.self.view_is)
    (spans_with (record {
      kind = g.F.Field.kind_of c.self.inside.field;
      size = c.self.inside.size;
      held =
          record { pivots = c.self.inside.pivots; steps = c.self.inside.steps };
    })
    c.args.row c.args.origin (record { pivots = c.put_in.new.pivots; steps = c.put_in.new.steps }) c.put_in.result
    (g.met.F.Field.is_field c.self.inside.field) c.self.invariant
    (c.requires.size ∙ sym (ap (λ (e : Elimination). e.size) c.self.view_is)) (let P : Elimination → Type 0 = λ e. AreElements e.kind c.args.row in
    subst P (sym c.self.view_is) c.requires.elements) c.put_in.ensures.value)
