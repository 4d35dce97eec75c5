-- The text of the view series: how many even and how many odd basis elements each weight has.
--   is_even_of w b, is_odd_of w b: whether a basis element of weight w is even, or odd
--   even_count, odd_count: how many of weight w are
--   counts_text: even A odd B
--   weight_line: weight W even A odd B
--   series_text: the field and the weight; a line for each weight from 1 on; the sums
use Rattle.std.specs.Prelude.{ℕ, ◌+◌, List, ◌++◌, count_by, nat_eq, not, ◌&&◌, Bool, codes, decimal}
use Rattle.math_algebra.specs.Symbols.{is_odd}
use Rattle.math_algebra.specs.Table.{Basis}
use Rattle.fpl_table.specs.Plain.{PlainTable}
use Rattle.fpl_print.specs.Lines.{head_line}
use Rattle.fpl_print.specs.TableText.{text_of}

abbrev pub is_even_of : ℕ → Basis → Bool
is_even_of w b = nat_eq b.weight w && not (is_odd b.parity)

abbrev pub is_odd_of : ℕ → Basis → Bool
is_odd_of w b = nat_eq b.weight w && is_odd b.parity

abbrev pub even_count : PlainTable → ℕ → ℕ
even_count T w = count_by (is_even_of w) T.basis

abbrev pub odd_count : PlainTable → ℕ → ℕ
odd_count T w = count_by (is_odd_of w) T.basis

abbrev pub counts_text : (evens odds : ℕ) → List ℕ
counts_text evens odds = codes " even " ++ decimal evens ++ codes " odd " ++ decimal odds ++ codes "\n"

-- v counts from 0
abbrev pub weight_line : PlainTable → ℕ → List ℕ
weight_line T v = codes "weight " ++ decimal (v + 1) ++ counts_text (even_count T (v + 1)) (odd_count T (v + 1))

abbrev pub series_text : PlainTable → List ℕ
series_text T =
    head_line (codes "series") T.kind T.weight ++ text_of T.weight (weight_line T)
    ++ (codes "total" ++ counts_text (count_by (λ b. not (is_odd b.parity)) T.basis) (count_by (λ b. is_odd b.parity) T.basis)) ++ codes "end\n"
