use Rattle.std.proofs.Common.{◌∷◌, [], ◌∙◌, ap, arith, length, length-append, map, get_or}
use Rattle.std.proofs.lemmas.List.{map-append}
use Rattle.math_algebra.specs.Symbols.{no_symbol}
use Rattle.fpl_numbers.specs.Numbers.{residue}
use Rattle.fpl_table.specs.Plain.{symbol_in}
use Rattle.plain_cohomology.specs.Plain.{entry_of}
use Rattle.fpl_cohomology.proofs.Ranges.{pushed}
use Rattle.fpl_cohomology.proofs.Members.{pair_at}
use Rattle.fpl_cohomology.proofs.rows.coboundary_row.Goals as goal

pub number_at-requires-clause-pair : goal.number_at-requires-clause-pair
number_at-requires-clause-pair g c =
    pair_at c.args.table.now c.args.tuples.now.weight c.args.tuples.now.pairs c.requires.tuples.pairs c.loop-s.s (symbol_in c.get.result)
    (omega arith) c.get.ensures.value

pub loop-s-preserved : goal.loop-s-preserved
loop-s-preserved g c =
    let items = c.in_ok-push.ensures.items in
    record {
      value = pushed (λ x. get_or (entry_of c.args.table.now x) c.args.e (residue 0)) c.args.tuples.now.pairs c.loop-s.s
          (map g.F.Field.number c.loop-s.numbers.items) (map g.F.Field.number c.push.new.self.items) (symbol_in c.get.result) no_symbol
          (g.F.Field.number c.number_at.result) (omega arith) c.get.ensures.value (ap (map g.F.Field.number) items ∙
          map-append g.F.Field.number c.loop-s.numbers.items (c.number_at.result ∷ []))
          c.loop-s.invariant.value c.number_at.ensures.value;
      count = ap length items ∙ length-append c.loop-s.numbers.items (c.number_at.result ∷ []) ∙ (let n = c.loop-s.invariant.count in omega (arith, n));
    }
