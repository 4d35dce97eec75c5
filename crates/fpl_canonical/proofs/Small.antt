-- Sums of fewer than two members, and others.
use Rattle.std.proofs.Common.{ℕ, ◌≡◌, ◌≤◌, ◌<◌, ◌+◌, ◌++◌, ◌∙◌, List, [], ◌∷◌, Bool, true, false, nat_lt, length, map, refl, ap, arith}
use Rattle.std.proofs.lemmas.List.{append-nil}
use Rattle.fpl_numbers.specs.declared.number.Num.{Num}
use Rattle.math_algebra.specs.Tree.{Trees, trees}
use Rattle.fpl_model.specs.declared.expr.Expr.{Expr}
use Rattle.fpl_model.specs.Meaning.{plain}
use Rattle.fpl_model.specs.Sound.{many}
use Rattle.fpl_canonical.specs.Canonical.{is_small, in_small}

pub many_members : (es : List Expr) → many (trees (map plain es)) ≡ length es
many_members [] = refl
many_members (e ∷ es) = let rest : many (trees (map plain es)) ≡ length es = many_members es in omega (arith, rest)

is_whole : (es : Trees Num) → 2 ≤ many es → is_small es ≡ false
is_whole es two = grind arith

-- a sum of two members or more stands as it is
pub not_small : (es : Trees Num) → 2 ≤ many es → (t : List ℕ) → in_small (is_small es) t ≡ t
not_small es two t = ap (λ b. in_small b t) (is_whole es two) ∙ append-nil t
