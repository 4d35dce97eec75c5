-- Which lines of a proof its last line needs.
--
--   cited r                the numbers of the lines that a rule cites
--   IsDistinctProof p ls   a proof over p, with at least one line, in which no two lines have the same two sides
--   last_line ls           the last line
--   IsCitedLater ls n      a line after line n cites it
--   NoneIsIdle ls          each line but the last is cited by a later one
use Rattle.std.specs.Prelude.{ℕ, ◌≤◌, ◌<◌, List, [], ◌∷◌, length}
use Rattle.std.specs.List.{Contains}
use Rattle.fpl_numbers.specs.Kinds.{field_of}
use Rattle.math_proofs.specs.Rules.{Rule, turn, factor, chain, members, parts, IsProof}
use Rattle.fpl_model.specs.declared.presentation.Presentation.{Presentation}
use Rattle.fpl_model.specs.Meaning.{presentation_in}
use Rattle.fpl_lines.specs.declared.line.Line.{Line}
use Rattle.fpl_lines.specs.Meaning.{rule_in, lines_in, AreLines}
use Rattle.fpl_forms.specs.Distinct.{line_number, AreDistinct}

abbrev pub cited : Rule → List ℕ
cited (turn n) = n ∷ []
cited (factor n) = n ∷ []
cited (chain n m) = n ∷ m ∷ []
cited (members n m) = n ∷ m ∷ []
cited (parts ns) = ns
cited _ = []

pub record IsDistinctProof (p : Presentation) (ls : List Line) : Type 0 where
  pub some : 1 ≤ length ls
  pub proof : IsProof (field_of p.field) (presentation_in p) (lines_in p.field ls)
  pub over : AreLines p ls
  pub distinct : AreDistinct ls

abbrev pub last_line : List Line → Line
last_line ls = line_number ls (length ls)

pub record IsCitedLater (ls : List Line) (n : ℕ) : Type 0 where
  pub by : ℕ
  pub after : n < by
  pub within : by ≤ length ls
  pub cites : Contains (cited (rule_in (line_number ls by).why)) n

abbrev pub NoneIsIdle : List Line → Type 0
NoneIsIdle ls = (n : ℕ) → 1 ≤ n → n < length ls → IsCitedLater ls n
