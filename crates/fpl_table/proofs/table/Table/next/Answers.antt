use Rattle.std.proofs.Common.{◌≡◌, ◌+◌, length, map, ap, sym, subst, ◌∙◌, arith, add-one}
use Rattle.std.proofs.lemmas.List.{length-map}
use Rattle.fpl_rows.specs.Meaning.{AreRows}
use Rattle.fpl_table.specs.Plain.{symbols_in, symbol_in}
use Rattle.fpl_table.specs.Standard.{count_of}
use Rattle.fpl_table.specs.Push.{free_in, free_of}
use Rattle.fpl_table.specs.Leads.{ArePlaces}
use Rattle.fpl_table.proofs.Pushed.{symbols_next}
use Rattle.fpl_table.proofs.table.Table.next.Goals as goal

pub next_by-requires-clause-symbols : goal.next_by-requires-clause-symbols
next_by-requires-clause-symbols g c = rw (c.as_slice.ensures.value, c.in_ok-symbols.ensures.value, c.weight.ensures.value, add-one)
    (symbols_next c.args.self.now)

pub next_by-requires-clause-solved : goal.next_by-requires-clause-solved
next_by-requires-clause-solved g c =
    let many : count_of c.args.self.now (c.args.self.now.weight + 1) ≡ length (symbols_in c.args.self.now) =
    rw add-one (ap length (symbols_next c.args.self.now)) in
    let listed : map symbol_in c.in_ok-symbols.symbols.items ≡ symbols_in c.args.self.now =
    rw (c.in_ok-symbols.ensures.value, c.weight.ensures.value, add-one) (symbols_next c.args.self.now) in
    let size : length c.in_ok-symbols.symbols.items ≡ length (symbols_in c.args.self.now) =
    sym (length-map c.in_ok-symbols.symbols.items symbol_in) ∙ ap length listed in
    let count : c.len.result ≡ length (symbols_in c.args.self.now) = omega (arith, size) in
    record {
      below = c.requires.below;
      few = rw (← many) c.requires.few;
      are_rows = rw c.in_ok-closed.ensures.rows (subst (λ n. AreRows c.args.self.now.kind n c.args.rows.now) many c.requires.rows);
      places = subst (λ n. ArePlaces n c.in_ok-closed.closed) count c.in_ok-closed.ensures.places;
    }

pub returns-clause-next : goal.returns-clause-next
returns-clause-next g c =
    let listed : map symbol_in c.in_ok-symbols.symbols.items ≡ symbols_in c.args.self.now =
    rw (c.in_ok-symbols.ensures.value, c.weight.ensures.value, add-one) (symbols_next c.args.self.now) in
    let size : length c.in_ok-symbols.symbols.items ≡ length (symbols_in c.args.self.now) =
    sym (length-map c.in_ok-symbols.symbols.items symbol_in) ∙ ap length listed in
    let count : c.len.result ≡ length (symbols_in c.args.self.now) = omega (arith, size) in
    let free : c.in_ok-closed.closed.free.items ≡ free_of c.args.self.now c.in_ok-closed.closed.rows.now =
    c.in_ok-closed.ensures.places.free_is ∙ ap (free_in c.in_ok-closed.closed.rows.now) count in
    rw (← c.in_ok-closed.ensures.rows) (rw free at c.next_by.ensures)
