use Rattle.std.proofs.Common.{◌≡◌, [], drop}
use Rattle.std.specs.Prelude.{is_some}
use Rattle.std.specs.BTreeMap.{get_by}
use Rattle.std.specs.Cmp.Lexicographic.{slice_cmp}
use Rattle.std.specs.Ordering.{nat_cmp}
use Rattle.fpl_reader.specs.Reading.{name_twice}
use Rattle.fpl_reader.proofs.Twice.{twice_by}
use Rattle.fpl_reader.proofs.declarations.name_twice.Given as goal

abbrev pub invariant-loop-d : goal.invariant-loop-d
invariant-loop-d l = name_twice l.text [] l.names ≡ twice_by l.text (λ q. is_some (get_by (λ k. slice_cmp nat_cmp q k.now) l.seen)) (drop l.d-index l.names)
