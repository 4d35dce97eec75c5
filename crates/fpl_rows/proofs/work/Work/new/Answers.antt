use Rattle.std.proofs.Common.{refl}
use Rattle.fpl_numbers.specs.Numbers.{residue}
use Rattle.fpl_rows.proofs.Noughts.{nought_element}
use Rattle.fpl_rows.proofs.Ones.{one_element}
use Rattle.fpl_rows.proofs.Workings.{working_none}
use Rattle.fpl_rows.proofs.work.Work.new.Goals as goal

pub invariant_of-result : goal.invariant_of-result
invariant_of-result g c =
    working_none (g.F.Field.kind_of c.args.field) (g.F.Field.has_room c.args.field) (g.F.Field.summed c.args.field) c.in_ok-marks.marks
    c.in_ok-sums.sums.items c.args.n c.args.n
    (nought_element (g.F.Field.kind_of c.args.field) (residue 1) (one_element (g.F.Field.kind_of c.args.field) (g.met.F.Field.is_field c.args.field)))
    refl c.ranges.n.fits c.in_ok-marks.ensures c.in_ok-sums.ensures.value c.in_ok-sums.ensures.room
