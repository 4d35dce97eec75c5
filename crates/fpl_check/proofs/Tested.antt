-- What tests that pass tell of closed rows.
use Rattle.std.specs.Prelude.{◌≡◌, ℕ, ◌+◌, List, [], ◌∷◌, All, Ok, true}
use native.Mathlib.Omega.{arith}
use Rattle.fpl_rows.proofs.Fits.{all_cons}
use Rattle.fpl_log.specs.declared.closed.Coefficient.{Coefficient}
use Rattle.fpl_check.specs.declared.fault.Spot.TheVariants.{Closed as AtClosed}
use Rattle.fpl_check.specs.declared.fault.Why.TheVariants.{RowForm}
use Rattle.fpl_check.specs.Refusal.{demand}
use Rattle.fpl_check.specs.ClosedRows.{is_formed, test_forms}
use Rattle.fpl_check.proofs.ListedOrigins.{demanded, passing_first}

pub all_formed : (n i : ℕ) (rows : List (List Coefficient)) → test_forms n i rows ≡ Ok tt → All (λ row. is_formed n 0 row ≡ true) rows
all_formed n i [] e = λ k d l. absurd (omega (arith, l))
all_formed n i (row ∷ rows) e =
    let a = passing_first (demand (is_formed n 0 row) (AtClosed i) RowForm) (test_forms n (i + 1) rows) tt e in
    all_cons (λ row. is_formed n 0 row ≡ true) row rows (demanded _ _ _ a.0) (all_formed n (i + 1) rows a.1)
