-- The parts of the cohomology of a weight, one after the other.
use Rattle.std.specs.Prelude.{◌≡◌, ℕ, List, [], ◌∷◌, map, Result, Ok, Err}
use Rattle.std.proofs.Common.{sym, ap, ◌∙◌}
use Rattle.fpl_numbers.specs.declared.number.Num.{Num}
use Rattle.fpl_numbers.specs.declared.number.Kind.{Kind}
use Rattle.fpl_numbers.specs.declared.number.Unfit.{Unfit}
use Rattle.fpl_numbers.specs.Results.{and_then, map_ok}
use Rattle.fpl_rows.proofs.Fits.{ok_same, part_fits}
use Rattle.fpl_table.specs.Plain.{PlainTable}
use Rattle.plain_spans.specs.Plain.{kernel_of}
use Rattle.plain_spans.specs.Means.{AreAllFormed}
use Rattle.plain_cohomology.specs.Plain.{all_of, chosen, low_with, h1_of, cocycles_of, coboundaries_of, low_of}
use Rattle.plain_cohomology.proofs.Fitting.{all_of_formed}
use Rattle.fpl_cohomology.specs.Rows.{low_as}

-- rows that can all be formed are formed
formed_again : (rs : List (Result (List Num) Unfit)) (rows : List (List Num)) → AreAllFormed rs → all_of rs ≡ Ok rows → map Ok rows ≡ rs
formed_again [] rows h e = ap (map Ok) (sym (ok_same e))
formed_again (Ok r ∷ rs) rows h e =
    let p = part_fits (λ rows. r ∷ rows) (all_of rs) rows e in
    ap (map Ok) p.1.1 ∙ ap (λ zs. Ok r ∷ zs) (formed_again rs p.0 h p.1.0)
formed_again (Err u ∷ rs) rows h e = absurd h

pub formed_first : (kind : Kind) (n : ℕ) (rs : List (Result (List Num) Unfit)) → AreAllFormed rs →
    and_then (λ rows. kernel_of kind n (map Ok rows)) (all_of rs) ≡ kernel_of kind n rs
formed_first kind n rs h =
    let f = all_of_formed rs h in
    ap (and_then (λ rows. kernel_of kind n (map Ok rows))) f.1 ∙ ap (kernel_of kind n) (formed_again rs f.0 h f.1)

pub low_gives : (T : PlainTable) (w : ℕ) (h1 : List (List Num)) → h1_of T w ≡ Ok h1 → (cocycles : List (List Num)) → cocycles_of T w ≡ Ok cocycles →
    (bounds h2 : List (List Num)) → coboundaries_of T w ≡ Ok bounds → h2 ≡ chosen cocycles bounds → low_of T w ≡ Ok (low_as h1 h2)
low_gives T w h1 one cocycles two bounds h2 three n =
    ap (and_then (λ h1. and_then (λ cocycles. map_ok (low_with h1 cocycles) (coboundaries_of T w)) (cocycles_of T w))) one
    ∙ ap (and_then (λ cocycles. map_ok (low_with h1 cocycles) (coboundaries_of T w))) two ∙ ap (map_ok (low_with h1 cocycles)) three
    ∙ ap (λ h2. Ok (low_as h1 h2)) (sym n)
