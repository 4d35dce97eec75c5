-- Lines of rows and of spaces, one after another.
use Rattle.std.specs.Prelude.{◌≡◌, ℕ, ◌+◌, ◌-◌, List, ◌++◌, drop, slice_get, Some}
use Rattle.std.proofs.Common.{append_assoc, add-one}
use mathlib.Core.Path.{sym, ap, ◌∙◌}
use Rattle.fpl_numbers.specs.declared.number.Num.{Num}
use Rattle.fpl_log.proofs.TermsTaken.{drop_next}
use Rattle.fpl_structure.specs.declared.texts.SpaceWord.{SpaceWord}
use Rattle.fpl_structure.specs.Texts.{row_line, row_lines, term_line, term_lines}

pub row_next : (start out next : List ℕ) (rows : List (List Num)) (k : ℕ) (row : List Num) → Some row ≡ slice_get rows k →
    out ++ row_lines (drop k rows) ≡ start → next ≡ out ++ row_line row → next ++ row_lines (drop (k + 1) rows) ≡ start
row_next start out next rows k row is so_far more =
    ap (λ o. o ++ row_lines (drop (k + 1) rows)) more ∙ append_assoc out (row_line row) (row_lines (drop (k + 1) rows))
    ∙ ap (λ j. out ++ (row_line row ++ row_lines (drop j rows))) (add-one k) ∙ ap (λ rs. out ++ row_lines rs) (sym (drop_next rows k row is)) ∙ so_far

pub term_next : (word : SpaceWord) (start out next : List ℕ) (terms : List (List (List Num))) (k : ℕ) (rows : List (List Num)) → Some rows ≡ slice_get terms k →
    out ++ term_lines word (k + 1) (drop k terms) ≡ start → next ≡ out ++ term_line word (k + 1) rows →
    next ++ term_lines word (k + 1 + 1) (drop (k + 1) terms) ≡ start
term_next word start out next terms k rows is so_far more =
    ap (λ o. o ++ term_lines word (k + 1 + 1) (drop (k + 1) terms)) more
    ∙ append_assoc out (term_line word (k + 1) rows) (term_lines word (k + 1 + 1) (drop (k + 1) terms))
    ∙ ap (λ j. out ++ (term_line word (k + 1) rows ++ term_lines word (k + 1 + 1) (drop j terms))) (add-one k)
    ∙ ap (λ rs. out ++ term_lines word (k + 1) rs) (sym (drop_next terms k rows is)) ∙ so_far
