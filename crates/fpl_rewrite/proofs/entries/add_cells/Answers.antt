use Rattle.std.proofs.Common.{◌≡◌, ◌+◌, ◌-◌, suc, List, length, map, drop, get_or, ap, ap₂, sym, subst, ◌∙◌, arith, add-one}
use Rattle.std.proofs.lemmas.List.{length-map}
use Rattle.std.specs.Prelude.{Result}
use Rattle.fpl_numbers.specs.declared.number.Num.{Num}
use Rattle.fpl_numbers.specs.declared.number.Unfit.{Unfit}
use Rattle.fpl_numbers.specs.Numbers.{residue}
use Rattle.fpl_numbers.specs.Results.{and_then, IsFault}
use Rattle.fpl_scalar.proofs.AtPlaces.{element_at}
use Rattle.fpl_rows.proofs.AtPositions.{number_at}
use Rattle.fpl_table.proofs.Walking.{fault_next}
use Rattle.fpl_rewrite.specs.Terms.{terms_of, add_if, add_cells}
use Rattle.fpl_rewrite.proofs.CellTerms.{next_cell}
use Rattle.fpl_rewrite.proofs.entries.add_cells.Goals as goal

pub add_cell-requires-clause-added : goal.add_cell-requires-clause-added
add_cell-requires-clause-added g c =
    let s = c.requires.packing.same in
    element_at c.args.table.now.kind g.F.Field.number c.args.numbers.now c.loop-k.k c.index-numbers-k.result c.requires.numbers (omega (arith, s))
    c.index-numbers-k.is

pub returns-in-Err-clause-value : goal.returns-in-Err-clause-value
returns-in-Err-clause-value g c =
    let add = terms_of c.args.table.now c.args.beside c.args.negated in
    let ps = c.args.places.now in
    let xs = map g.F.Field.number c.args.numbers.now in
    let s = c.requires.packing.same in
    let l = c.loop-k-test.true in
    let same : length ps ≡ length xs = s ∙ sym (length-map c.args.numbers.now g.F.Field.number) in
    let at : get_or xs c.loop-k.k (residue 0) ≡ g.F.Field.number c.index-numbers-k.result =
    number_at g.F.Field.number c.args.numbers.now c.loop-k.k c.index-numbers-k.result (residue 0) (omega (arith, s, l)) c.index-numbers-k.is in
    let place : get_or ps c.loop-k.k 0 + 1 - 1 ≡ get_or ps c.loop-k.k 0 = omega arith in
    let here : add_if add (get_or ps c.loop-k.k 0) (get_or xs c.loop-k.k (residue 0)) c.loop-k.work.row ≡
    add_if add (get_or ps c.loop-k.k 0 + 1 - 1) (g.F.Field.number c.index-numbers-k.result) c.loop-k.work.row =
    ap₂ (λ p x. add_if add p x c.loop-k.work.row) (sym place) at in
    fault_next (λ w. add_cells add (drop (suc c.loop-k.k) ps) (drop (suc c.loop-k.k) xs) w) c.in-Err.fault _ _
    (c.loop-k.invariant.left ∙ next_cell add ps xs c.loop-k.work.row c.loop-k.k l same)
    (subst (λ (r : Result (List Num) Unfit). IsFault c.in-Err.fault r) (sym here) c.in-Err.ensures.value)

pub loop-k-preserved : goal.loop-k-preserved
loop-k-preserved g c =
    let add = terms_of c.args.table.now c.args.beside c.args.negated in
    let ps = c.args.places.now in
    let xs = map g.F.Field.number c.args.numbers.now in
    let s = c.requires.packing.same in
    let l = c.loop-k-test.true in
    let same : length ps ≡ length xs = s ∙ sym (length-map c.args.numbers.now g.F.Field.number) in
    let at : get_or xs c.loop-k.k (residue 0) ≡ g.F.Field.number c.index-numbers-k.result =
    number_at g.F.Field.number c.args.numbers.now c.loop-k.k c.index-numbers-k.result (residue 0) (omega (arith, s, l)) c.index-numbers-k.is in
    let place : get_or ps c.loop-k.k 0 + 1 - 1 ≡ get_or ps c.loop-k.k 0 = omega arith in
    record {
      kind = c.in-Ok.ensures.kind;
      whole = c.in-Ok.ensures.whole ∙ c.loop-k.invariant.whole;
      left = c.loop-k.invariant.left ∙ next_cell add ps xs c.loop-k.work.row c.loop-k.k l same
          ∙ ap (and_then (λ w. add_cells add (drop (suc c.loop-k.k) ps) (drop (suc c.loop-k.k) xs) w))
          (ap₂ (λ p x. add_if add p x c.loop-k.work.row) (sym place) at ∙ c.in-Ok.ensures.value)
          ∙ ap (λ i. add_cells add (drop i ps) (drop i xs) c.add_cell.new.work.row) (sym (add-one c.loop-k.k));
    }
