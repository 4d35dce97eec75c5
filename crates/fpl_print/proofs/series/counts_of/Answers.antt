use Rattle.std.proofs.Common.{◌≡◌, ◌+◌, ◌-◌, ◌≤◌, suc, take, subst, arith}
use Rattle.std.specs.Prelude.{count_by, not}
use Rattle.math_algebra.specs.Symbols.{is_odd}
use Rattle.fpl_table.specs.Plain.{through}
use Rattle.fpl_print.specs.SeriesText.{even_count, odd_count}
use Rattle.fpl_print.proofs.Counts.{counted_of, through_up}
use Rattle.fpl_print.proofs.series.counts_of.Goals as goal

pub counts_between-requires : goal.counts_between-requires
counts_between-requires g c =
    let T = c.args.table.now in
    let next : suc (c.args.w - 1) ≡ c.args.w = omega (arith, c.requires.0) in
    let up : through T (c.args.w - 1) ≤ through T c.args.w = subst (λ n. through T (c.args.w - 1) ≤ through T n) next
    (through_up T c.through.ensures.shape (λ b. b) (c.args.w - 1)) in
    (omega (arith, up, c.through.ensures.value, c.through-2.ensures.value), c.through-2.ensures.within)

pub returns-clause-evens : goal.returns-clause-evens
returns-clause-evens g c =
    let T = c.args.table.now in
    let next : suc (c.args.w - 1) ≡ c.args.w = omega (arith, c.requires.0) in
    let counted : count_by (λ b. not (is_odd b.parity)) (take (through T c.args.w) T.basis) ≡
    count_by (λ b. not (is_odd b.parity)) (take (through T (c.args.w - 1)) T.basis) + even_count T c.args.w =
    subst (λ n. count_by (λ b. not (is_odd b.parity)) (take (through T n) T.basis) ≡ count_by (λ b. not (is_odd b.parity))
    (take (through T (c.args.w - 1)) T.basis) + even_count T n) next (counted_of T c.through.ensures.shape not (c.args.w - 1)) in
    let found = rw (c.through.ensures.value, c.through-2.ensures.value) at c.counts_between.ensures.evens in
    omega (arith, counted, found)

pub returns-clause-odds : goal.returns-clause-odds
returns-clause-odds g c =
    let T = c.args.table.now in
    let next : suc (c.args.w - 1) ≡ c.args.w = omega (arith, c.requires.0) in
    let counted : count_by (λ b. is_odd b.parity) (take (through T c.args.w) T.basis) ≡ count_by (λ b. is_odd b.parity)
    (take (through T (c.args.w - 1)) T.basis) + odd_count T c.args.w =
    subst (λ n. count_by (λ b. is_odd b.parity) (take (through T n) T.basis) ≡ count_by (λ b. is_odd b.parity)
    (take (through T (c.args.w - 1)) T.basis) + odd_count T n) next (counted_of T c.through.ensures.shape (λ b. b) (c.args.w - 1)) in
    let found = rw (c.through.ensures.value, c.through-2.ensures.value) at c.counts_between.ensures.odds in
    omega (arith, counted, found)
