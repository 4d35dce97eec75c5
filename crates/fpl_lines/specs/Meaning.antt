-- What the lines of a proof stand for.
--
--   rule_in r        the rule
--   line_in k l      its two sides over the field of kind k, and its rule
--   lines_in k ls    the lines, in order
--   IsLine p l       both sides are over p, with canonical numbers
--   AreLines p ls    so are those of each line
use Rattle.std.specs.Prelude.{List, map, length, All}
use Rattle.fpl_numbers.specs.declared.number.Kind.{Kind}
use Rattle.fpl_numbers.specs.Kinds.{field_of}
use Rattle.fpl_model.specs.declared.presentation.Presentation.{Presentation}
use Rattle.fpl_model.specs.Meaning.{plain, tree_in, parity_in}
use Rattle.fpl_model.specs.Sound.{IsTerm}
use Rattle.math_proofs.specs.Rules as proofs
use Rattle.fpl_lines.specs.declared.line.Line.{Line}
use Rattle.fpl_lines.specs.declared.line.Rule.{Rule}
use Rattle.fpl_lines.specs.declared.line.Rule.TheVariants as rule

abbrev pub rule_in : Rule → proofs.Rule
rule_in rule.Same = proofs.same
rule_in (rule.Turn n) = proofs.turn n
rule_in (rule.Chain n m) = proofs.chain n m
rule_in (rule.Parts ns) = proofs.parts ns
rule_in (rule.Factor n) = proofs.factor n
rule_in (rule.Members n m) = proofs.members n m
rule_in (rule.Exchange k) = proofs.exchange k
rule_in (rule.Flat k) = proofs.flat k
rule_in (rule.Drop k) = proofs.drop k
rule_in rule.Empty = proofs.empty
rule_in rule.Single = proofs.single
rule_in rule.Multiply = proofs.multiply
rule_in rule.One = proofs.one
rule_in rule.Nought = proofs.nought
rule_in (rule.Collect k) = proofs.collect k
rule_in rule.Spread = proofs.spread
rule_in rule.LeftSum = proofs.left_sum
rule_in rule.RightSum = proofs.right_sum
rule_in rule.LeftTimes = proofs.left_times
rule_in rule.RightTimes = proofs.right_times
rule_in (rule.Swap s t) = proofs.swap (parity_in s) (parity_in t)
rule_in (rule.Jacobi s t) = proofs.jacobi (parity_in s) (parity_in t)
rule_in (rule.Relation k) = proofs.relation k
rule_in rule.Cube = proofs.cube

abbrev pub line_in : (k : Kind) → Line → proofs.Line (field_of k)
line_in k l = record { left_side = tree_in k l.left; right_side = tree_in k l.right; why = rule_in l.why }

abbrev pub lines_in : (k : Kind) → List Line → List (proofs.Line (field_of k))
lines_in k ls = map (line_in k) ls

abbrev pub IsLine : Presentation → Line → Type 0
IsLine p l = IsTerm p.field (length p.generators) (plain l.left) × IsTerm p.field (length p.generators) (plain l.right)

abbrev pub AreLines : Presentation → List Line → Type 0
AreLines p ls = All (IsLine p) ls
