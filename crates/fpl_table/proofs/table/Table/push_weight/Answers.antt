use Rattle.std.proofs.Common.{◌≡◌, ◌++◌, map, ap, ◌∙◌, arith}
use Rattle.fpl_model.specs.Meaning.{plain}
use Rattle.fpl_model.specs.Mono.{expr_of}
use Rattle.fpl_table.specs.Plain.{basis_in}
use Rattle.fpl_table.specs.Whole.{shape_in}
use Rattle.fpl_table.proofs.PushedFields.{pushed_fields, ok_items, ok_always}
use Rattle.fpl_table.proofs.table.Table.push_weight.Goals as goal

pub invariant_of-self-2 : goal.invariant_of-self-2
invariant_of-self-2 g c =
    let fine = c.append.ensures.succeeds (omega (arith, c.in_ok-reserve.ensures.ok)) in
    let all : c.append.new.self.items ≡ c.self.inside.elements.items ++ c.in_ok-elements.field-0.elements.items =
    ok_items c.append.result _ _ _ fine c.append.ensures.items ∙ ap (λ l. l ++ c.in_ok-elements.field-0.elements.items) c.in_ok-reserve.ensures.items in
    (pushed_fields (g.F.Field.kind_of c.self.inside.field) (map shape_in c.self.inside.shapes.items) (λ l. l.through) (λ l. l.images.items)
    (λ l. map (λ v. v.items) l.entries.items) (λ e. basis_in e.basis)
    (λ e. plain (expr_of e.tree.value)) (λ e. e.basis.symbol) c.self.inside.levels.items c.in_ok-elements.field-0.level c.self.inside.elements.items
    c.in_ok-elements.field-0.elements.items
    c.args.self.now c.args.rows.now c.self.view_is c.requires.below c.requires.few c.self.invariant c.in_ok-elements.ensures.next
    c.push.new.self.items c.append.new.self.items c.in_ok-push.ensures.items all).0

pub returns-clause-value : goal.returns-clause-value
returns-clause-value g c =
    let fine = c.append.ensures.succeeds (omega (arith, c.in_ok-reserve.ensures.ok)) in
    let all : c.append.new.self.items ≡ c.self.inside.elements.items ++ c.in_ok-elements.field-0.elements.items =
    ok_items c.append.result _ _ _ fine c.append.ensures.items ∙ ap (λ l. l ++ c.in_ok-elements.field-0.elements.items) c.in_ok-reserve.ensures.items in
    ok_always _ c.append.result ((pushed_fields (g.F.Field.kind_of c.self.inside.field) (map shape_in c.self.inside.shapes.items) (λ l. l.through)
    (λ l. l.images.items) (λ l. map (λ v. v.items) l.entries.items) (λ e. basis_in e.basis)
    (λ e. plain (expr_of e.tree.value)) (λ e. e.basis.symbol) c.self.inside.levels.items c.in_ok-elements.field-0.level c.self.inside.elements.items
    c.in_ok-elements.field-0.elements.items
    c.args.self.now c.args.rows.now c.self.view_is c.requires.below c.requires.few c.self.invariant c.in_ok-elements.ensures.next
    c.push.new.self.items c.append.new.self.items c.in_ok-push.ensures.items all).1)
