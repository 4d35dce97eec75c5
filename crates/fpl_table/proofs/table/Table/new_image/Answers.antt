use Rattle.std.proofs.Common.{◌≡◌, suc, sym, refl, ◌∙◌, arith, add-one}
use Rattle.std.proofs.lemmas.Bool.Decides.{nat_tests}
use Rattle.fpl_table.specs.Plain.{generator_at}
use Rattle.fpl_table.proofs.Lists.{ok_more}
use Rattle.fpl_table.proofs.Places.{generator_place, generator_within}
use Rattle.fpl_table.proofs.table.Table.new_image.Goals as goal

pub symbol_row-requires-clause-place : goal.symbol_row-requires-clause-place
symbol_row-requires-clause-place g c =
    let is : (generator_at c.args.self.now c.args.g).weight ≡ suc c.args.self.now.weight = grind (arith, nat_tests) in
    rw (c.requires.place, add-one) (generator_within c.args.self.now c.args.g c.requires.number is)

pub returns-then-is_next-clause-value : goal.returns-then-is_next-clause-value
returns-then-is_next-clause-value g c =
    let is : (generator_at c.args.self.now c.args.g).weight ≡ suc c.args.self.now.weight = grind (arith, nat_tests) in
    let yes = sym c.is_next.ensures.value ∙ c.if-is_next.true in
    let place = rw add-one at c.requires.place in
    ok_more _ _ c.symbol_row.result (λ row e. e ∙ rw (yes, generator_place c.args.self.now c.args.g c.requires.number is, ← place) refl)
    c.symbol_row.ensures.value
