-- The text of a proof: one line `lN: E = F by RULE` for each line.
--
--   spaced t              a text after one space
--   rule_text r           the name of a rule, then its numbers or parities
--   line_text p n l       line n, which counts from 1
--   lines_text p n ls     lines, numbered from n on
--   proof_text p ls       a proof
use Rattle.std.specs.Prelude.{ℕ, ◌+◌, List, [], ◌∷◌, ◌++◌, flat_map, codes, decimal}
use Rattle.math_proofs.specs.Rules.{Rule, same, empty, single, multiply, one, nought, spread, left_sum, right_sum, left_times, right_times, cube, turn, factor, exchange, flat, drop, collect, relation, chain, members, parts, swap, jacobi}
use Rattle.fpl_model.specs.declared.presentation.Presentation.{Presentation}
use Rattle.fpl_spelling.specs.Spelling.{parity_text}
use Rattle.fpl_canonical.specs.Canonical.{side_text}
use Rattle.fpl_lines.specs.declared.line.Line.{Line}
use Rattle.fpl_lines.specs.Meaning.{rule_in}

abbrev pub spaced : List ℕ → List ℕ
spaced t = codes " " ++ t

abbrev pub rule_text : Rule → List ℕ
rule_text same = codes "same"
rule_text (turn n) = codes "turn" ++ spaced (decimal n)
rule_text (chain n m) = codes "chain" ++ spaced (decimal n) ++ spaced (decimal m)
rule_text (parts ns) = codes "parts" ++ flat_map (λ n. spaced (decimal n)) ns
rule_text (factor n) = codes "factor" ++ spaced (decimal n)
rule_text (members n m) = codes "members" ++ spaced (decimal n) ++ spaced (decimal m)
rule_text (exchange k) = codes "exchange" ++ spaced (decimal k)
rule_text (flat k) = codes "flat" ++ spaced (decimal k)
rule_text (drop k) = codes "drop" ++ spaced (decimal k)
rule_text empty = codes "empty"
rule_text single = codes "single"
rule_text multiply = codes "multiply"
rule_text one = codes "one"
rule_text nought = codes "nought"
rule_text (collect k) = codes "collect" ++ spaced (decimal k)
rule_text spread = codes "spread"
rule_text left_sum = codes "leftsum"
rule_text right_sum = codes "rightsum"
rule_text left_times = codes "lefttimes"
rule_text right_times = codes "righttimes"
rule_text (swap s t) = codes "swap" ++ spaced (parity_text s) ++ spaced (parity_text t)
rule_text (jacobi s t) = codes "jacobi" ++ spaced (parity_text s) ++ spaced (parity_text t)
rule_text (relation k) = codes "relation" ++ spaced (decimal k)
rule_text cube = codes "cube"

abbrev pub line_text : Presentation → ℕ → Line → List ℕ
line_text p n l =
    codes "l" ++ decimal n ++ codes ": " ++ side_text p l.left ++ codes " = " ++ side_text p l.right ++ codes " by " ++ rule_text (rule_in l.why) ++ codes "\n"

abbrev pub lines_text : Presentation → ℕ → List Line → List ℕ
lines_text p n [] = []
lines_text p n (l ∷ ls) = line_text p n l ++ lines_text p (n + 1) ls

abbrev pub proof_text : Presentation → List Line → List ℕ
proof_text p ls = lines_text p 1 ls
