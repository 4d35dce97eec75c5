use Rattle.std.proofs.Common.{◌∙◌, ap, sym, subst, drop}
use Rattle.fpl_cohomology.specs.Pairs.{leading_generators, IsSplit}
use Rattle.fpl_cohomology.proofs.Splits.{split_leads, pairs_behind}
use Rattle.fpl_cohomology.proofs.pairs.Pairs.of.Goals as goal

pub invariant_of-result : goal.invariant_of-result
invariant_of-result g c =
    subst (IsSplit c.in_ok-symbols.symbols.symbols) (sym c.generators_of-generators.ensures) (split_leads c.in_ok-symbols.symbols.symbols)

pub returns : goal.returns
returns g c =
    ap (λ k. drop k c.in_ok-symbols.symbols.symbols) c.generators_of-generators.ensures
    ∙ ap (λ xs. drop (leading_generators xs) xs) c.in_ok-symbols.ensures.value.1 ∙ pairs_behind c.args.table.now c.args.w
