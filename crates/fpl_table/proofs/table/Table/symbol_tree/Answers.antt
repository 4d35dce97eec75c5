use Rattle.std.proofs.Common.{◌≡◌, ◌-◌, ◌+◌, ap, ap₂, refl, ◌∙◌, arith}
use Rattle.math_algebra.specs.Tree.{bracket_of}
use Rattle.fpl_model.specs.Meaning.{plain}
use Rattle.fpl_model.proofs.Plain.{plain-Gen, plain-Br}
use Rattle.fpl_table.proofs.Lists.{ok_more}
use Rattle.fpl_table.proofs.table.Table.symbol_tree.Goals as goal

pub returns-in-Gen : goal.returns-in-Gen
returns-in-Gen g c =
    let numbered = rw c.in-Gen.is at c.requires.1 in
    let back : c.in-Gen.g - 1 + 1 ≡ c.in-Gen.g = omega (arith, numbered) in
    ok_more _ _ c.of_gen.result (λ m e. ap plain e ∙ plain-Gen c.in-Gen.g ∙ rw (c.in-Gen.is, back) refl) c.of_gen.ensures

pub returns-in-Pair : goal.returns-in-Pair
returns-in-Pair g c =
    ok_more _ _ c.of_pair.result (λ m e. ap plain e ∙ plain-Br _ _ ∙ ap₂ bracket_of c.mono.ensures c.mono-in-Pair.ensures ∙ rw c.in-Pair.is refl)
    c.of_pair.ensures
