use Rattle.std.proofs.Common.{of_z, arith}
use Rattle.std.specs.Int.{w128, to_be_bytes}
use Rattle.std.proofs.lemmas.Int.{to_z-of_z, ints}
use Rattle.fpl_bytes.proofs.Pushed.{parts_pushed}
use Rattle.fpl_bytes.proofs.writing.push_fraction.Goals as goal

pub returns-clause-bytes : goal.returns-clause-bytes
returns-clause-bytes c =
    parts_pushed (to_be_bytes w128)
    (of_z w128) c.args.out.now.items c.extend_from_slice.new.self.items c.extend_from_slice-2.new.self.items c.to_be_bytes.result c.to_be_bytes-2.result
    c.args.number.now.numerator c.args.number.now.denominator _ _ c.unsigned_abs.result
    (to_z-of_z w128 c.args.number.now.numerator (let above = c.requires.1.0 in omega (arith, ints)))
    (to_z-of_z w128 c.args.number.now.denominator (let below = c.requires.1.1 in omega (arith, ints)))
    c.to_be_bytes.ensures c.unsigned_abs.ensures.value c.to_be_bytes-2.ensures c.in_ok-extend_from_slice.ensures.items c.in_ok-extend_from_slice-2.ensures.items
