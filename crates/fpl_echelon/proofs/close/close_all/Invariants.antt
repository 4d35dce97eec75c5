use Rattle.std.proofs.Common.{◌≡◌, [], Ok, replicate}
use Rattle.fpl_numbers.specs.Numbers.{residue}
use Rattle.plain_elimination.specs.Plain.{close_to}
use Rattle.fpl_echelon.proofs.close.close_all.Given as goal

abbrev pub invariant-loop-s : goal.invariant-loop-s
invariant-loop-s g l = record {
  closed : close_to (g.F.Field.kind_of l.field) l.pivots l.s (record { pivots = []; steps = l.initial.steps }) ≡
      Ok (record { pivots = l.closed; steps = l.steps });
  empty : l.work ≡ record { kind = g.F.Field.kind_of l.field; row = replicate l.size (residue 0) };
}
