use Rattle.std.proofs.Common.{◌≡◌, ◌-◌}
use Rattle.fpl_bytes.specs.Reading.{items_at}
use Rattle.fpl_bytes.proofs.Items.{with_front}
use Rattle.fpl_section_bytes.specs.Reading.{term_at}
use Rattle.fpl_section_bytes.proofs.terms.Payload.terms_of.Given as goal

abbrev pub invariant-loop : goal.invariant-loop
invariant-loop l =
    let item = term_at l.self.version l.self.kind l.self.end in
    with_front item l.terms (items_at item (l.count - l.counter) l.rest) ≡ items_at item l.count l.bytes
