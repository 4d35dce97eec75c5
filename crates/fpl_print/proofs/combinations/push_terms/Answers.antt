use Rattle.std.proofs.Common.{◌≡◌, ◌++◌, ℕ, List, length, map, IfOk, sym, subst, arith}
use Rattle.fpl_scalar.specs.Vectors.{AreElements}
use Rattle.fpl_rows.proofs.Packings.{packed_elements, packing_map}
use Rattle.fpl_print.specs.CellTexts.{end_text}
use Rattle.fpl_print.specs.TableText.{basis_name}
use Rattle.fpl_print.proofs.CellTexts.{cells_terms}
use Rattle.fpl_print.proofs.combinations.push_terms.Goals as goal

pub push_terms_at-requires-clause-below : goal.push_terms_at-requires-clause-below
push_terms_at-requires-clause-below g c = λ k l.
    let p = c.in-Some.ensures.packing.within k l in let r = c.len-count.ensures.range in omega (arith, p, r)

pub push_terms_at-requires-clause-elements : goal.push_terms_at-requires-clause-elements
push_terms_at-requires-clause-elements g c =
    packed_elements (g.F.Field.kind_of c.args.field.now) (length c.args.row.now) c.in-Some.places.now (map g.F.Field.number c.in-Some.numbers.now)
    (packing_map g.F.Field.number (length c.args.row.now) c.in-Some.places.now c.in-Some.numbers.now c.in-Some.ensures.packing)
    (subst (AreElements (g.F.Field.kind_of c.args.field.now)) (sym c.in-Some.ensures.value) c.requires)

pub returns-in-Some-clause-text : goal.returns-in-Some-clause-text
returns-in-Some-clause-text g c =
    subst (λ (t : List ℕ). IfOk c.push_terms_at.result (λ none_yet. c.push_terms_at.new.out.items ++ end_text none_yet ≡ c.args.out.now.items ++ t))
    (cells_terms basis_name (length c.args.row.now) c.in-Some.places.now (map g.F.Field.number c.in-Some.numbers.now) c.args.row.now
    (packing_map g.F.Field.number (length c.args.row.now) c.in-Some.places.now c.in-Some.numbers.now c.in-Some.ensures.packing) c.in-Some.ensures.value)
    c.push_terms_at.ensures.text
