use Rattle.std.proofs.Common.{◌-◌, arith, drop}
use Rattle.fpl_bytes.specs.Numbers.{version_of}
use Rattle.fpl_bytes.proofs.Steps.{IsBytes-take, IsBytes-drop}
use Rattle.fpl_section_bytes.proofs.Bodies.{is_found, is_read}
use Rattle.fpl_section_bytes.proofs.payload.read_section.Goals as goal

pub returns-clause-found : goal.returns-clause-found
returns-clause-found c =
    is_found (version_of c.args.version) c.args.kind c.args.w c.args.to _ c.section.result
    (IsBytes-take (c.args.to - c.args.from) (drop c.args.from c.args.bytes.now)
    (IsBytes-drop c.args.from c.args.bytes.now (λ i. omega (arith, c.type_inv.bytes i)))) (rw (← c.of.ensures) c.section.ensures)

pub returns-clause-only : goal.returns-clause-only
returns-clause-only c = is_read (version_of c.args.version) c.args.kind c.args.w c.args.to _ c.section.result (rw (← c.of.ensures) c.section.ensures)
