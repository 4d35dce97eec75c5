use Rattle.std.proofs.Common.{◌≡◌, ◌∙◌, ◌++◌, ℕ, List, length, map, drop, get_or, ap, sym, subst, arith, add-one, drop_of_length-le}
use Rattle.std.proofs.lemmas.List.{length-map}
use Rattle.fpl_numbers.specs.declared.number.Num.{Num}
use Rattle.fpl_numbers.specs.Numbers.{residue}
use Rattle.fpl_scalar.proofs.AtPlaces.{element_at}
use Rattle.fpl_rows.proofs.AtPositions.{number_at}
use Rattle.fpl_print.specs.CellTexts.{cells_text}
use Rattle.fpl_print.specs.TableText.{basis_name}
use Rattle.fpl_print.proofs.CellTexts.{cell_step}
use Rattle.fpl_print.proofs.combinations.push_terms_at.Goals as goal

pub push_term-requires-clause-element : goal.push_term-requires-clause-element
push_term-requires-clause-element g c =
    let s = c.requires.same in
    element_at (g.F.Field.kind_of c.args.field.now) g.F.Field.number c.args.numbers.now c.loop-k.k c.index-numbers-k.result c.requires.elements
    (omega (arith, s, c.loop-k-test.true)) c.index-numbers-k.is

pub loop-k-preserved : goal.loop-k-preserved
loop-k-preserved g c =
    let ps = c.args.places.now in
    let xs = map g.F.Field.number c.args.numbers.now in
    let k = c.loop-k.k in
    let s = c.requires.same in
    let l = c.loop-k-test.true in
    let same : length ps ≡ length xs = s ∙ sym (length-map c.args.numbers.now g.F.Field.number) in
    let at : get_or xs k (residue 0) ≡ g.F.Field.number c.index-numbers-k.result =
    number_at g.F.Field.number c.args.numbers.now k c.index-numbers-k.result (residue 0) (omega (arith, s, l)) c.index-numbers-k.is in
    record {
      front = λ front h. c.in_ok-first.ensures.front front (c.loop-k.invariant.front front h);
      left = cell_step basis_name _ c.loop-k.out.items c.push_term.new.out.items c.loop-k.first c.in_ok-first.first ps xs k
          (g.F.Field.number c.index-numbers-k.result)
          (residue 0) l same at c.in_ok-first.ensures.text.0 c.in_ok-first.ensures.text.1 c.loop-k.invariant.left
          ∙ ap (λ i. c.push_term.new.out.items ++ cells_text basis_name c.in_ok-first.first (drop i ps) (drop i xs)) (sym (add-one k));
    }

pub returns-clause-text : goal.returns-clause-text
returns-clause-text g c =
    sym (c.loop-k.invariant.left ∙ ap (λ (ps : List ℕ). c.loop-k.out.items ++ cells_text basis_name c.loop-k.first ps
    (drop c.loop-k.k (map g.F.Field.number c.args.numbers.now)))
    (drop_of_length-le c.args.places.now (let e = c.loop-k-test.false in omega (arith, e))))
