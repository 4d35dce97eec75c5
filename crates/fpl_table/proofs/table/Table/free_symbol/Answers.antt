use Rattle.std.proofs.Common.{◌≡◌, ◌+◌, ◌++◌, [], ◌∷◌, length, map, ap, sym, subst, ◌∙◌, arith}
use Rattle.fpl_numbers.specs.Numbers.{IsElement}
use Rattle.fpl_scalar.specs.Vectors.{AreElements}
use Rattle.fpl_rows.specs.Packing.{spread}
use Rattle.fpl_rows.proofs.Noughts.{nought_element}
use Rattle.fpl_rows.proofs.Spreads.{spread_elements}
use Rattle.fpl_table.specs.Plain.{symbols_in}
use Rattle.fpl_table.specs.Push.{free_in, solved}
use Rattle.fpl_table.specs.Value.{zero_row}
use Rattle.fpl_table.proofs.Leads.{free_few, rank_at}
use Rattle.fpl_table.proofs.Lists.{all_push, ok_more}
use Rattle.fpl_table.proofs.NewNumbers.{unit_at, unit_told, told_packing, told_row}
use Rattle.fpl_table.proofs.table.Table.free_symbol.Goals as goal

pub overflow_add-place : goal.overflow_add-place
overflow_add-place g c =
    let rank = rank_at c.args.closed.now.rows.now (length (symbols_in c.args.self.now)) c.args.closed.now.ranks.items
    c.requires.solved.places.are_ranks c.args.s c.index.result.now c.requires.place c.index.ensures in
    let few = free_few c.args.closed.now.rows.now c.args.s in
    let shape = c.basis_len.ensures.shape in
    omega (arith, rank, few, c.requires.place, c.requires.solved.few, shape.small, shape.weight, c.basis_len.ensures.value)

pub spread-requires : goal.spread-requires
spread-requires g c =
    let rows = c.args.closed.now.rows.now in
    let n = length c.args.self.now.basis in
    let m = length (symbols_in c.args.self.now) in
    let rank = rank_at rows m c.args.closed.now.ranks.items c.requires.solved.places.are_ranks c.args.s c.index.result.now c.requires.place c.index.ensures in
    let free = ap length c.requires.solved.places.free_is in
    let size : c.size_with-size.result ≡ n + length (free_in rows m) = omega (arith, free, c.size_with-size.ensures.value) in
    let told = unit_told n rows c.args.s m c.requires.place c.requires.free (c.basis_len.result + c.index.result.now) (g.F.Field.number c.one.result)
    (omega (arith, rank, c.basis_len.ensures.value)) c.one.ensures.value in
    rw (c.deref.ensures.value, c.in_ok-push.ensures.items, c.in_ok-numbers.ensures.items)
    (told_packing g.F.Field.number n (unit_at n rows c.args.s) (free_in rows m) ((c.basis_len.result + c.index.result.now) ∷ [])
    (c.one.result ∷ []) c.size_with-size.result size told)

pub returns-clause-value : goal.returns-clause-value
returns-clause-value g c =
    let rows = c.args.closed.now.rows.now in
    let n = length c.args.self.now.basis in
    let m = length (symbols_in c.args.self.now) in
    let rank = rank_at rows m c.args.closed.now.ranks.items c.requires.solved.places.are_ranks c.args.s c.index.result.now c.requires.place c.index.ensures in
    let free = ap length c.requires.solved.places.free_is in
    let size : c.size_with-size.result ≡ n + length (free_in rows m) = omega (arith, free, c.size_with-size.ensures.value) in
    let told = unit_told n rows c.args.s m c.requires.place c.requires.free (c.basis_len.result + c.index.result.now) (g.F.Field.number c.one.result)
    (omega (arith, rank, c.basis_len.ensures.value)) c.one.ensures.value in
    let numbers = c.deref.ensures.value ∙ c.in_ok-push.ensures.items ∙ ap (λ ys. ys ++ c.one.result ∷ []) c.in_ok-numbers.ensures.items in
    ok_more _ _ c.spread.result
    (λ row e. e ∙ ap (λ ys. spread c.size_with-size.result ((c.basis_len.result + c.index.result.now) ∷ []) (map g.F.Field.number ys)) numbers
    ∙ told_row g.F.Field.number n (unit_at n rows c.args.s) (free_in rows m) ((c.basis_len.result + c.index.result.now) ∷ [])
    (c.one.result ∷ []) c.size_with-size.result size told
    ∙ ap (λ o. zero_row n ++ solved c.args.self.now.kind (free_in rows m) c.args.s o) (sym c.requires.free))
    c.spread.ensures

pub returns-clause-elements : goal.returns-clause-elements
returns-clause-elements g c =
    let kind = c.args.self.now.kind in
    let one : IsElement kind (g.F.Field.number c.one.result) = rw (← c.field-field.ensures) c.one.ensures.element in
    let all : AreElements kind (map g.F.Field.number c.deref.result.now) = rw (
      c.deref.ensures.value,
      c.in_ok-push.ensures.items,
      c.in_ok-numbers.ensures.items,
    ) (all_push (IsElement kind) [] (g.F.Field.number c.one.result) (λ k d lt. absurd (omega (arith, lt))) one) in
    ok_more _ _ c.spread.result
    (λ row e. subst (AreElements kind) (sym e) (spread_elements kind c.size_with-size.result ((c.basis_len.result + c.index.result.now) ∷ [])
    (map g.F.Field.number c.deref.result.now) (nought_element kind (g.F.Field.number c.one.result) one) all))
    c.spread.ensures
