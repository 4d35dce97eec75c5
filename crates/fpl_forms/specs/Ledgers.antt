-- The lines of a proof that is being made.
--
--   PlainLedger         a presentation, its prime, and the lines so far
--   IsExpr p e          e is over p, with canonical numbers
--   proof_in L          the lines over the field of the presentation
--   IsSoundLedger L     the lines are a proof, with sides over the presentation, whose field is that of the prime
--   IsNextLine L l      a line that may stand next
--   Grows L M           M has the lines of L, and perhaps more after them
--   left_of, right_of   the sides of line n
--   Says L n e f        line n has these two sides
--   IsWithin L n        there is a line n
--   AreWithin L ns      each number is that of a line
use Rattle.std.specs.Prelude.{ℕ, ◌≡◌, ◌≤◌, ◌-◌, ◌++◌, List, length, get_or, All}
use Rattle.fpl_numbers.specs.declared.number.Kind.TheVariants.{Prime}
use Rattle.fpl_numbers.specs.Numbers.{IsListed}
use Rattle.fpl_numbers.specs.Kinds.{field_of}
use Rattle.math_proofs.specs.Rules.{IsInstance, IsProof, Cites}
use Rattle.math_proofs.specs.Rules as proofs
use Rattle.fpl_model.specs.declared.expr.Expr.{Expr}
use Rattle.fpl_model.specs.declared.expr.Expr.TheVariants.{Zero}
use Rattle.fpl_model.specs.declared.presentation.Presentation.{Presentation}
use Rattle.fpl_model.specs.Meaning.{plain, tree_in, presentation_in}
use Rattle.fpl_model.specs.Sound.{IsTerm}
use Rattle.fpl_lines.specs.declared.line.Line.{Line}
use Rattle.fpl_lines.specs.declared.line.Rule.TheVariants.{Same}
use Rattle.fpl_lines.specs.Meaning.{rule_in, lines_in, IsLine, AreLines}

pub record PlainLedger : Type 0 where
  pub presentation : Presentation
  pub prime : ℕ
  pub lines : List Line

abbrev pub IsExpr : Presentation → Expr → Type 0
IsExpr p e = IsTerm p.field (length p.generators) (plain e)

abbrev pub proof_in : (L : PlainLedger) → List (proofs.Line (field_of L.presentation.field))
proof_in L = lines_in L.presentation.field L.lines

pub record IsSoundLedger (L : PlainLedger) : Type 0 where
  pub field : L.presentation.field ≡ Prime L.prime
  pub listed : IsListed L.prime
  pub proof : IsProof (field_of L.presentation.field) (presentation_in L.presentation) (proof_in L)
  pub over : AreLines L.presentation L.lines

pub record IsNextLine (L : PlainLedger) (l : Line) : Type 0 where
  pub instance_of : IsInstance (field_of L.presentation.field) (presentation_in L.presentation)
      (Cites (field_of L.presentation.field) (proof_in L) (length L.lines)) (rule_in l.why) (tree_in L.presentation.field l.left)
      (tree_in L.presentation.field l.right)
  pub over : IsLine L.presentation l

pub record Grows (L M : PlainLedger) : Type 0 where
  pub presentation : M.presentation ≡ L.presentation
  pub prime : M.prime ≡ L.prime
  pub more : List Line
  pub lines : M.lines ≡ L.lines ++ more

abbrev pub no_line : Line
no_line = record { left = Zero; right = Zero; why = Same }

abbrev pub line_of : PlainLedger → ℕ → Line
line_of L n = get_or L.lines (n - 1) no_line

abbrev pub left_of : PlainLedger → ℕ → Expr
left_of L n = (line_of L n).left

abbrev pub right_of : PlainLedger → ℕ → Expr
right_of L n = (line_of L n).right

pub record Says (L : PlainLedger) (n : ℕ) (e f : Expr) : Type 0 where
  pub from_one : 1 ≤ n
  pub to_end : n ≤ length L.lines
  pub left : left_of L n ≡ e
  pub right : right_of L n ≡ f

abbrev pub IsWithin : PlainLedger → ℕ → Type 0
IsWithin L n = (1 ≤ n) × (n ≤ length L.lines)

abbrev pub AreWithin : PlainLedger → List ℕ → Type 0
AreWithin L ns = All (IsWithin L) ns
