use Rattle.std.proofs.Common.{◌+◌, ◌-◌, ◌∷◌, ◌++◌, [], ◌∙◌, List, ap, sym, subst, drop, arith}
use Rattle.fpl_numbers.specs.declared.number.Num.{Num}
use Rattle.fpl_numbers.specs.declared.number.Kind.{Kind}
use Rattle.fpl_numbers.specs.Numbers.{IsElement, residue}
use Rattle.fpl_log.specs.declared.closed.Coefficient.{Coefficient}
use Rattle.plain_weights.specs.Section.{coefficient, coefficients_from}
use Rattle.fpl_complete.proofs.Coefficients.{next_step, kept_more, kept_all}
use Rattle.fpl_complete.proofs.section.coefficients_by_position.Goals as goal

pub at-requires : goal.at-requires
at-requires g c = let s = next_step c.args.row.now c.loop-symbol.after c.in-Some.symbol c.in-Some.ensures in (s.from_one, s.to_end)

pub num-number-requires : goal.num-number-requires
num-number-requires g c =
    let s = next_step c.args.row.now c.loop-symbol.after c.in-Some.symbol c.in-Some.ensures in
    let a = s.from_one in
    let b = s.to_end in
    let kind : Kind = g.F.Field.kind_of c.args.field.now in
    subst (λ (n : Num). IsElement kind n) (sym c.at.ensures) (c.requires (c.in-Some.symbol - 1) (residue 0) (omega arith))

pub loop-symbol-preserved : goal.loop-symbol-preserved
loop-symbol-preserved g c =
    let s = next_step c.args.row.now c.loop-symbol.after c.in-Some.symbol c.in-Some.ensures in
    let more = kept_more c.args.row.now c.loop-symbol.after c.in-Some.symbol c.loop-symbol.kept c.in-Some.ensures c.loop-symbol.invariant.kept in
    let same = c.in_ok-push.ensures.ok ∙ ap (λ (n : Num). c.loop-symbol.kept ++ (coefficient c.in-Some.symbol n) ∷ []) (c.num-number.ensures ∙ c.at.ensures) in
    record {
      within = s.to_end;
      kept = more ∙ ap (λ (l : List Coefficient). l ++ coefficients_from (c.in-Some.symbol + 1)
          (drop c.in-Some.symbol c.args.row.now)) (sym same);
    }

pub returns : goal.returns
returns g c = sym (kept_all c.args.row.now c.loop-symbol.after c.loop-symbol.kept c.in_default.ensures c.loop-symbol.invariant.kept)
