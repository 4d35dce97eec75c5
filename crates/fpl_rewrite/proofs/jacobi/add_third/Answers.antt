use Rattle.std.proofs.Common.{◌≡◌, ◌-◌, ℕ, List, subst}
use Rattle.std.specs.Prelude.{Result}
use Rattle.fpl_numbers.specs.declared.number.Num.{Num}
use Rattle.fpl_numbers.specs.declared.number.Unfit.{Unfit}
use Rattle.fpl_numbers.specs.Results.{Gives}
use Rattle.fpl_table.specs.Plain.{pairing}
use Rattle.fpl_table.specs.Sums.{add_each}
use Rattle.fpl_rewrite.specs.declared.entries.Beside.TheVariants.{After}
use Rattle.fpl_rewrite.specs.Rows.{add_signed, third_terms, entry_if}
use Rattle.fpl_rewrite.specs.Terms.{terms_of}
use Rattle.fpl_rewrite.proofs.jacobi.add_third.Goals as goal

pub returns-clause-value : goal.returns-clause-value
returns-clause-value g c =
    let same : terms_of c.args.table.now (After c.args.j) c.args.negated ≡ third_terms c.args.table.now (c.args.i - 1) (c.args.j - 1) =
    λ d t n v. add_signed c.args.table.now (pairing c.args.table.now (c.args.j - 1) t) (c.requires.sign n d) v in
    subst (λ (f : ℕ → Num → List Num → Result (List Num) Unfit). Gives c.add_entry.result c.add_entry.new.work.row
    (add_each f 0 (entry_if c.args.table.now (c.args.i - 1) (c.args.k - 1)) c.args.work.now.row))
    same c.add_entry.ensures.value
