use Rattle.std.proofs.Common.{◌≡◌, map, take, ap, ◌∙◌}
use Rattle.fpl_model.specs.Meaning.{plain}
use Rattle.fpl_model.specs.Mono.{expr_of}
use Rattle.fpl_table.specs.Plain.{basis_in}
use Rattle.fpl_table.specs.Whole.{shape_in}
use Rattle.fpl_table.proofs.Truncated.{truncated_fields}
use Rattle.fpl_table.proofs.table.Table.truncate.Goals as goal

pub invariant_of-result : goal.invariant_of-result
invariant_of-result g c =
    let shapes : c.in_ok-copy_shapes.field-0.items ≡ c.self.inside.shapes.items = c.in_ok-copy_shapes.ensures ∙ c.deref.ensures.value in
    let levels = ap (λ l. take c.args.d l) c.as_slice-levels.ensures.value in
    let elements = ap (λ l. take c.through-count.result l) c.as_slice-elements.ensures.value in
    rw shapes
    (truncated_fields (g.F.Field.kind_of c.self.inside.field) (map shape_in c.self.inside.shapes.items) (λ l. l.through) (λ l. l.images.items)
    (λ l. map (λ v. v.items) l.entries.items) (λ e. basis_in e.basis)
    (λ e. plain (expr_of e.tree.value)) (λ e. e.basis.symbol) c.self.inside.levels.items c.in_ok-copy_levels.field-0.items
    c.self.inside.elements.items c.in_ok-share_elements.field-0.items
    c.args.self.now c.args.d c.through-count.result c.self.view_is c.requires c.through-count.ensures.value c.self.invariant
    (c.in_ok-copy_levels.ensures.counts ∙ ap (map (λ l. l.through)) levels) (c.in_ok-copy_levels.ensures.images ∙ ap (map (λ l. l.images.items)) levels)
    (c.in_ok-copy_levels.ensures.entries ∙ ap (map (λ l. map (λ v. v.items) l.entries.items)) levels)
    (c.in_ok-share_elements.ensures.basis ∙ ap (map (λ e. basis_in e.basis)) elements)
    (c.in_ok-share_elements.ensures.trees ∙ ap (map (λ e. plain (expr_of e.tree.value))) elements)
    (c.in_ok-share_elements.ensures.symbols ∙ ap (map (λ e. e.basis.symbol)) elements)).0

pub returns : goal.returns
returns g c =
    let shapes : c.in_ok-copy_shapes.field-0.items ≡ c.self.inside.shapes.items = c.in_ok-copy_shapes.ensures ∙ c.deref.ensures.value in
    let levels = ap (λ l. take c.args.d l) c.as_slice-levels.ensures.value in
    let elements = ap (λ l. take c.through-count.result l) c.as_slice-elements.ensures.value in
    rw shapes
    (truncated_fields (g.F.Field.kind_of c.self.inside.field) (map shape_in c.self.inside.shapes.items) (λ l. l.through) (λ l. l.images.items)
    (λ l. map (λ v. v.items) l.entries.items) (λ e. basis_in e.basis)
    (λ e. plain (expr_of e.tree.value)) (λ e. e.basis.symbol) c.self.inside.levels.items c.in_ok-copy_levels.field-0.items
    c.self.inside.elements.items c.in_ok-share_elements.field-0.items
    c.args.self.now c.args.d c.through-count.result c.self.view_is c.requires c.through-count.ensures.value c.self.invariant
    (c.in_ok-copy_levels.ensures.counts ∙ ap (map (λ l. l.through)) levels) (c.in_ok-copy_levels.ensures.images ∙ ap (map (λ l. l.images.items)) levels)
    (c.in_ok-copy_levels.ensures.entries ∙ ap (map (λ l. map (λ v. v.items) l.entries.items)) levels)
    (c.in_ok-share_elements.ensures.basis ∙ ap (map (λ e. basis_in e.basis)) elements)
    (c.in_ok-share_elements.ensures.trees ∙ ap (map (λ e. plain (expr_of e.tree.value))) elements)
    (c.in_ok-share_elements.ensures.symbols ∙ ap (map (λ e. e.basis.symbol)) elements)).1
