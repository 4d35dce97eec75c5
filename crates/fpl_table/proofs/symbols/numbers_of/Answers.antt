use Rattle.std.proofs.Common.{◌≡◌, refl, ap, ◌∙◌, arith}
use Rattle.std.proofs.Math.Seq.{drop-length}
use Rattle.std.specs.Map.{lookup}
use Rattle.fpl_table.specs.contracts.symbol.SymbolPartialEq.TheImpl.{eq-value}
use Rattle.fpl_table.specs.declared.symbol.Symbol.TheVariants.{Gen}
use Rattle.fpl_table.proofs.Numbering.{one_put}
use Rattle.fpl_table.proofs.symbols.numbers_of.Goals as goal

pub loop-s-init : goal.loop-s-init
loop-s-init c = record { within = omega arith; numbers = λ x. rw drop-length (ap (lookup (eq-value.it x)) c.new-numbers.ensures.empty) }

pub loop-s-preserved : goal.loop-s-preserved
loop-s-preserved c = record {
  within = omega arith;
  numbers = λ x. (c.in-Ok.ensures).updates.0 x ∙
      one_put c.args.list.now c.loop-s.s x (Gen 0) _ (omega arith) (omega arith) (c.loop-s.invariant.numbers x);
}

pub returns : goal.returns
returns c = λ x. c.loop-s.invariant.numbers x ∙ (let e : c.loop-s.s ≡ 0 = omega arith in rw e refl)
