use Rattle.std.proofs.Common.{◌≡◌, ◌++◌, map, drop, true}
use Rattle.fpl_spelling.specs.Fronts.{KeepsFront}
use Rattle.fpl_print.specs.CellTexts.{cells_text}
use Rattle.fpl_print.specs.TableText.{basis_name}
use Rattle.fpl_print.proofs.combinations.push_terms_at.Given as goal

-- what is out so far, then what the rest gives, is what all gives
abbrev pub invariant-loop-k : goal.invariant-loop-k
invariant-loop-k g l = record {
  front : KeepsFront l.initial.out.items l.out.items;
  left : l.initial.out.items ++ cells_text basis_name true l.places (map g.F.Field.number l.numbers) ≡
      l.out.items ++ cells_text basis_name l.first (drop l.k l.places) (drop l.k (map g.F.Field.number l.numbers));
}
