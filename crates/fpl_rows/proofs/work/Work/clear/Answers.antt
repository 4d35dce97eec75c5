use Rattle.std.proofs.Common.{◌≡◌, ◌∙◌, ap, sym, subst, arith, length, replicate}
use Rattle.std.proofs.lemmas.Grind.{common_steps}
use Rattle.std.proofs.lemmas.List.{length-map}
use Rattle.std.specs.Vec.{with_items}
use Rattle.fpl_numbers.specs.Numbers.{residue}
use Rattle.fpl_rows.specs.Working.{IsWorking}
use Rattle.fpl_rows.proofs.Noughts.{nought_element}
use Rattle.fpl_rows.proofs.Ones.{one_element}
use Rattle.fpl_rows.proofs.Workings.{working_none}
use Rattle.fpl_rows.proofs.work.Work.clear.Goals as goal

pub invariant_of-self : goal.invariant_of-self
invariant_of-self g c =
    let e : (with_items c.self.inside.sums c.empty.new.sums).items ≡ c.empty.new.sums = grind (arith, common_steps) in
    let q = c.self.invariant.marked.few in
    let long = length-map c.self.inside.sums.items (g.F.Field.summed c.self.inside.field) in
    subst (IsWorking (g.F.Field.kind_of c.self.inside.field) (g.F.Field.has_room c.self.inside.field)
    (g.F.Field.summed c.self.inside.field) c.clear.new.self) (sym e)
    (working_none (g.F.Field.kind_of c.self.inside.field) (g.F.Field.has_room c.self.inside.field)
    (g.F.Field.summed c.self.inside.field) c.clear.new.self c.empty.new.sums (length c.self.inside.marks) (length c.self.inside.sums.items)
    (nought_element (g.F.Field.kind_of c.self.inside.field) (residue 1) (one_element (g.F.Field.kind_of c.self.inside.field)
    (g.met.F.Field.is_field c.self.inside.field)))
    (c.self.invariant.marked.whole ∙ long) (omega (arith, long, q)) c.clear.ensures (c.empty.ensures.value ∙
    ap (λ xs. replicate (length xs) (residue 0)) c.deref_mut.ensures.value) c.empty.ensures.room)
