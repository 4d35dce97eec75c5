use Rattle.std.proofs.Common.{◌≡◌, ◌-◌}
use Rattle.fpl_bytes.specs.Reading.{items_at}
use Rattle.fpl_bytes.proofs.Items.{with_front}
use Rattle.fpl_section_bytes.specs.Reading.{coefficient_at}
use Rattle.fpl_section_bytes.proofs.terms.Payload.row_of.Given as goal

abbrev pub invariant-loop : goal.invariant-loop
invariant-loop l =
    let item = coefficient_at l.self.version l.self.kind l.self.end in
    with_front item l.row (items_at item (l.count - l.counter) l.rest) ≡ items_at item l.count l.bytes
