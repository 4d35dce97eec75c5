use Rattle.std.proofs.Common.{◌≡◌, ◌≤◌, ◌+◌, ◌-◌, ◌∙◌, ℕ, suc, ap, ap₂, sym, arith, length, drop, map, List}
use Rattle.std.proofs.lemmas.List.{map-set}
use Rattle.std.specs.Prelude.{slice_set}
use Rattle.fpl_numbers.specs.declared.number.Num.{Num}
use Rattle.fpl_numbers.specs.Numbers.{residue}
use Rattle.fpl_log.proofs.TermsTaken.{past_end, drop_next}
use Rattle.fpl_check.specs.ClosedRows.{stored_in}
use Rattle.fpl_prove.proofs.closed.put_numbers.Goals.{in-None, in-Some}
use Rattle.fpl_prove.proofs.closed.put_numbers.Goals as goal

pub loop-i-preserved : goal.loop-i-preserved
loop-i-preserved c =
    let row = c.args.row.now in
    let i = c.loop-i.i in
    elim c.match-get.branch [
      | in-None w ↦ absurd (let l : length row ≤ i = past_end row i w.in-None.ensures in
          let h = c.loop-i-test.true in let e = c.len-i-end.ensures.value in omega (arith, l, h, e))
      | in-Some w ↦
          let one : i + 1 ≡ suc i = omega arith in
          let k = w.in-Some.c.symbol - 1 in
          let put : map residue c.match-get.numbers ≡ slice_set (map residue c.loop-i.numbers) k w.in-Some.c.number =
          ap (map residue) w.numbers-is ∙ map-set residue c.loop-i.numbers k w.of.result ∙ ap (slice_set (map residue c.loop-i.numbers) k) w.of.ensures in
          ap₂ (λ (ns : List Num) (j : ℕ). stored_in ns (drop j row)) put one
          ∙ ap (stored_in (map residue c.loop-i.numbers)) (sym (drop_next row i w.in-Some.c w.in-Some.ensures))
          ∙ c.loop-i.invariant
    ]
