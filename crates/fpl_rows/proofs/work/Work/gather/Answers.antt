use Rattle.std.proofs.Common.{◌≡◌, ◌∙◌, ap, sym, length, map, subst, arith}
use Rattle.std.proofs.lemmas.Grind.{common_steps}
use Rattle.std.specs.Prelude.{Ok, Err}
use Rattle.fpl_scalar.specs.Vectors.{AreElements}
use Rattle.fpl_rows.specs.Packing.{spread}
use Rattle.fpl_rows.proofs.Noughts.{nought_element}
use Rattle.fpl_rows.proofs.Spreads.{spread_elements}
use Rattle.fpl_rows.proofs.Workings.{gathered, kind_seen}
use Rattle.fpl_rows.proofs.work.Work.gather.Goals as goal

pub returns-in-Ok-clause-value : goal.returns-in-Ok-clause-value
returns-in-Ok-clause-value g c =
    let made : c.packed_of.result ≡ spread (length c.args.self.now.row) c.in_ok-places.field-0.places.items (map g.F.Field.number c.scale.new.row) =
    grind (arith, common_steps) in
    gathered (g.F.Field.kind_of c.self.inside.field) (g.F.Field.summed c.self.inside.field) c.self.inside.sums.items c.args.self.now c.self.view_is
    g.F.Field.number (g.F.Field.number c.args.c) c.deref.result.now c.in_ok-places.field-0.numbers.items c.deref_mut.result.now c.scale.new.row
    c.in_ok-places.field-0.places.items (Ok tt)
    c.deref.ensures.value c.requires c.in_ok-places.ensures.packing c.in_ok-places.ensures.value c.deref_mut.ensures.value c.in-Ok.ensures.value
    ∙ ap Ok (sym made)

pub returns-in-Ok-clause-elements : goal.returns-in-Ok-clause-elements
returns-in-Ok-clause-elements g c =
    let made : c.packed_of.result ≡ spread (length c.args.self.now.row) c.in_ok-places.field-0.places.items (map g.F.Field.number c.scale.new.row) =
    grind (arith, common_steps) in
    let kinds = kind_seen (g.F.Field.kind_of c.self.inside.field) (g.F.Field.summed c.self.inside.field) c.self.inside.sums.items c.args.self.now
    c.self.view_is in
    subst (AreElements c.args.self.now.kind) (sym made)
    (spread_elements c.args.self.now.kind (length c.args.self.now.row) c.in_ok-places.field-0.places.items (map g.F.Field.number c.scale.new.row)
    (nought_element c.args.self.now.kind (g.F.Field.number c.args.c) c.requires)
    (subst (λ k. AreElements k (map g.F.Field.number c.scale.new.row)) kinds c.scale.ensures.elements))

pub returns-in-Err-clause-value : goal.returns-in-Err-clause-value
returns-in-Err-clause-value g c =
    gathered (g.F.Field.kind_of c.self.inside.field) (g.F.Field.summed c.self.inside.field) c.self.inside.sums.items c.args.self.now c.self.view_is
    g.F.Field.number (g.F.Field.number c.args.c) c.deref.result.now c.in_ok-places.field-0.numbers.items c.deref_mut.result.now c.scale.new.row
    c.in_ok-places.field-0.places.items (Err c.in-Err.u)
    c.deref.ensures.value c.requires c.in_ok-places.ensures.packing c.in_ok-places.ensures.value c.deref_mut.ensures.value c.in-Err.ensures.value
