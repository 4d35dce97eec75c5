use Rattle.std.proofs.Common.{◌≡◌, take, length, arith}
use Rattle.std.specs.Prelude.{count_by, not}
use Rattle.std.proofs.lemmas.Grind.{common_steps}
use Rattle.math_algebra.specs.Symbols.{is_odd}
use Rattle.fpl_print.proofs.series.push_totals.Goals as goal

pub returns : goal.returns
returns g c =
    let bs = c.args.table.now.basis in
    let all : take (length bs) bs ≡ bs = grind (arith, common_steps) in
    let evens : count_by (λ b. not (is_odd b.parity)) bs ≡ c.counts_between.result.evens = (let h =
    rw (c.basis_len.ensures.value, all) at c.counts_between.ensures.evens in omega (arith, h)) in
    let odds : count_by (λ b. is_odd b.parity) bs ≡ c.counts_between.result.odds = (let h =
    rw (c.basis_len.ensures.value, all) at c.counts_between.ensures.odds in omega (arith, h)) in
    rw (evens, odds) (grind (arith, common_steps))
