use Rattle.std.proofs.Common.{◌≡◌, ◌+◌, ◌-◌, ◌<◌, ◌++◌, length, map, get_or, ap, refl, sym, subst, ◌∙◌, arith}
use Rattle.std.proofs.lemmas.List.{map-append}
use Rattle.fpl_numbers.specs.Numbers.{IsElement, residue, negative_of}
use Rattle.fpl_scalar.specs.Vectors.{AreElements}
use Rattle.fpl_rows.proofs.Firsts.{next_is_at}
use Rattle.fpl_rows.proofs.Spreads.{spread_elements}
use Rattle.fpl_table.specs.Plain.{symbols_in}
use Rattle.fpl_table.specs.Push.{free_in}
use Rattle.fpl_table.specs.Value.{zero_row}
use Rattle.fpl_table.proofs.Leads.{free_few, lead_at, rank_at}
use Rattle.fpl_table.proofs.Lists.{all_push, ok_more}
use Rattle.fpl_table.proofs.NewNumbers.{tells_none, lead_passed, number_told, all_told, told_packing, told_row, nought_element}
use Rattle.fpl_table.proofs.table.Table.lead_symbol.Goals as goal

pub loop-s-init : goal.loop-s-init
unfolding free_in
loop-s-init g c = record {
  within = omega arith;
  tells = rw (c.in_ok-places.ensures.items, c.in_ok-numbers.ensures.items) (tells_none (length c.args.self.now.basis) _);
  elements = rw c.in_ok-numbers.ensures.items (λ k d lt. absurd (omega (arith, lt)));
}

pub index-requires : goal.index-requires
index-requires g c =
    let h = next_is_at c.args.row.now c.loop-s.after c.in-Some.s c.in-Some.ensures in
    omega (arith, h.from_one, h.to_end, c.requires.row.length_is, c.requires.solved.places.are_leads.count)

pub index-requires-then-index-eq0 : goal.index-requires-then-index-eq0
index-requires-then-index-eq0 g c =
    let h = next_is_at c.args.row.now c.loop-s.after c.in-Some.s c.in-Some.ensures in
    omega (arith, h.from_one, h.to_end, c.requires.row.length_is, c.requires.solved.places.are_ranks.count)

pub overflow_add-basis : goal.overflow_add-basis
overflow_add-basis g c =
    let h = next_is_at c.args.row.now c.loop-s.after c.in-Some.s c.in-Some.ensures in
    let place : c.in-Some.s - 1 < length (symbols_in c.args.self.now) = omega (arith, h.from_one, h.to_end, c.requires.row.length_is) in
    let rank = rank_at c.args.closed.now.rows.now (length (symbols_in c.args.self.now)) c.args.closed.now.ranks.items
    c.requires.solved.places.are_ranks (c.in-Some.s - 1) c.index-then-index-eq0.result.now place c.index-then-index-eq0.ensures in
    let few = free_few c.args.closed.now.rows.now (c.in-Some.s - 1) in
    let shape = c.basis_len-basis.ensures.shape in
    omega (arith, rank, few, place, c.requires.solved.few, shape.small, shape.weight, c.basis_len-basis.ensures.value)

pub at-requires : goal.at-requires
at-requires g c = let h = next_is_at c.args.row.now c.loop-s.after c.in-Some.s c.in-Some.ensures in (h.from_one, h.to_end)

pub neg-requires : goal.neg-requires
neg-requires g c =
    let h = next_is_at c.args.row.now c.loop-s.after c.in-Some.s c.in-Some.ensures in
    rw (c.field-field.ensures, c.at.ensures) (c.requires.row.elements (c.in-Some.s - 1) (residue 0) (omega (arith, h.from_one, h.to_end)))

pub loop-s-preserved-in_ok-push-2 : goal.loop-s-preserved-in_ok-push-2
loop-s-preserved-in_ok-push-2 g c =
    let rows = c.args.closed.now.rows.now in
    let h = next_is_at c.args.row.now c.loop-s.after c.in-Some.s c.in-Some.ensures in
    let place : c.in-Some.s - 1 < length (symbols_in c.args.self.now) = omega (arith, h.from_one, h.to_end, c.requires.row.length_is) in
    let leads = c.requires.solved.places.are_leads in
    let lead = lead_at rows (length (symbols_in c.args.self.now)) c.args.closed.now.leads.items leads
    (c.in-Some.s - 1) c.index.result.now place c.index.ensures in
    let rank = rank_at rows (length (symbols_in c.args.self.now)) c.args.closed.now.ranks.items c.requires.solved.places.are_ranks
    (c.in-Some.s - 1) c.index-then-index-eq0.result.now place c.index-then-index-eq0.ensures in
    let number : g.F.Field.number c.neg.result ≡ negative_of c.args.self.now.kind (get_or c.args.row.now (c.in-Some.s - 1) (residue 0)) =
    rw (c.neg.ensures.value, c.field-field.ensures, c.at.ensures) refl in
    let one : IsElement c.args.self.now.kind (g.F.Field.number c.neg.result) = rw (← c.field-field.ensures) c.neg.ensures.element in
    record {
      within = h.to_end;
      tells = rw (c.in_ok-push.ensures.items, c.in_ok-push-2.ensures.items, map-append)
          (number_told (length c.args.self.now.basis) c.args.self.now.kind rows (length (symbols_in c.args.self.now)) c.args.closed.now.leads.items
          leads c.args.row.now c.requires.row
          c.loop-s.places.items (map g.F.Field.number c.loop-s.numbers.items) c.loop-s.after c.in-Some.s c.in-Some.ensures c.loop-s.invariant.tells
          (lead ∙ c.if-index-eq0.true)
          (c.basis_len-basis.result + c.index-then-index-eq0.result.now) (g.F.Field.number c.neg.result)
          (omega (arith, rank, c.basis_len-basis.ensures.value)) number);
      elements = rw (c.in_ok-push-2.ensures.items, map-append) (all_push (IsElement c.args.self.now.kind) _ _ c.loop-s.invariant.elements one);
    }

pub loop-s-preserved : goal.loop-s-preserved
loop-s-preserved g c =
    let h = next_is_at c.args.row.now c.loop-s.after c.in-Some.s c.in-Some.ensures in
    let place : c.in-Some.s - 1 < length (symbols_in c.args.self.now) = omega (arith, h.from_one, h.to_end, c.requires.row.length_is) in
    let leads = c.requires.solved.places.are_leads in
    let lead = lead_at c.args.closed.now.rows.now (length (symbols_in c.args.self.now)) c.args.closed.now.leads.items leads
    (c.in-Some.s - 1) c.index.result.now place c.index.ensures in
    record {
      within = h.to_end;
      tells = lead_passed (length c.args.self.now.basis) c.args.self.now.kind c.args.closed.now.rows.now
          (length (symbols_in c.args.self.now)) c.args.closed.now.leads.items leads c.args.row.now c.requires.row
          c.loop-s.places.items (map g.F.Field.number c.loop-s.numbers.items) c.loop-s.after c.in-Some.s c.in-Some.ensures c.loop-s.invariant.tells
          (λ e. c.if-index-eq0.false (sym lead ∙ e));
      elements = c.loop-s.invariant.elements;
    }

pub spread_vec-requires : goal.spread_vec-requires
spread_vec-requires g c =
    let rows = c.args.closed.now.rows.now in
    let n = length c.args.self.now.basis in
    let m = length (symbols_in c.args.self.now) in
    let free = ap length c.requires.solved.places.free_is in
    let size : c.size_with-size.result ≡ n + length (free_in rows m) = omega (arith, free, c.size_with-size.ensures.value) in
    let told = all_told n c.args.self.now.kind rows m c.args.closed.now.leads.items c.requires.solved.places.are_leads c.args.row.now c.requires.row
    c.loop-s.places.items (map g.F.Field.number c.loop-s.numbers.items) c.loop-s.after c.loop-s.invariant.within c.in_default.ensures
    c.loop-s.invariant.tells in
    told_packing g.F.Field.number n _ (free_in rows m) c.loop-s.places.items c.loop-s.numbers.items c.size_with-size.result size told

pub returns-clause-value : goal.returns-clause-value
returns-clause-value g c =
    let rows = c.args.closed.now.rows.now in
    let n = length c.args.self.now.basis in
    let m = length (symbols_in c.args.self.now) in
    let free = ap length c.requires.solved.places.free_is in
    let size : c.size_with-size.result ≡ n + length (free_in rows m) = omega (arith, free, c.size_with-size.ensures.value) in
    let told = all_told n c.args.self.now.kind rows m c.args.closed.now.leads.items c.requires.solved.places.are_leads c.args.row.now c.requires.row
    c.loop-s.places.items (map g.F.Field.number c.loop-s.numbers.items) c.loop-s.after c.loop-s.invariant.within c.in_default.ensures
    c.loop-s.invariant.tells in
    ok_more _ _ c.spread_vec.result
    (λ row e. e ∙ told_row g.F.Field.number n _ (free_in rows m) c.loop-s.places.items c.loop-s.numbers.items c.size_with-size.result size told
    ∙ ap (λ free. zero_row n ++ map (λ t. negative_of c.args.self.now.kind (get_or c.args.row.now t (residue 0))) free) (sym c.requires.solved.places.free_is))
    c.spread_vec.ensures

pub returns-clause-elements : goal.returns-clause-elements
returns-clause-elements g c =
    let kind = c.args.self.now.kind in
    ok_more _ _ c.spread_vec.result
    (λ row e. subst (AreElements kind) (sym e) (spread_elements kind c.size_with-size.result c.loop-s.places.items
    (map g.F.Field.number c.loop-s.numbers.items) (nought_element kind c.basis_len-basis.ensures.shape.field) c.loop-s.invariant.elements))
    c.spread_vec.ensures
