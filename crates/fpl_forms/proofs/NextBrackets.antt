-- The lines that may stand next, on brackets and on the empty sum.
use Rattle.std.proofs.Common.{◌≡◌, ◌<◌, ℕ, zero, suc, List, [], ◌∷◌, map, refl, ap, ap₂, ◌∙◌, arith, All}
use Rattle.fpl_numbers.specs.Numbers.{residue}
use Rattle.fpl_numbers.specs.Kinds.{field_of, number_of}
use Rattle.math_algebra.specs.Tree.{multiple, bracket_of}
use Rattle.math_algebra.specs.Derives.{sum_all}
use Rattle.math_proofs.specs.Rules.IsInstance.{is_empty, is_left_sum, is_right_sum, is_left_times, is_right_times}
use Rattle.fpl_model.specs.declared.expr.Expr.{Expr}
use Rattle.fpl_model.specs.declared.expr.Expr.TheVariants.{Zero, Sum, Times, Br}
use Rattle.fpl_lines.specs.declared.line.Rule.TheVariants as rule
use Rattle.fpl_forms.specs.Ledgers.{PlainLedger, IsSoundLedger}
use Rattle.fpl_forms.proofs.Trees.{tree-Zero, tree-Sum, tree-Times, tree-Br, over-Zero, over-Sum, over-Br}
use Rattle.fpl_forms.proofs.Next.{k, tree, IsOver, Next, carried, residue_over}

pub over_each : (P Q : Expr → Type 0) (f : Expr → Expr) → ((x : Expr) → P x → Q (f x)) → (xs : List Expr) → All P xs → All Q (map f xs)
over_each P Q f goes [] h i d lt = absurd (omega (arith, lt))
over_each P Q f goes (x ∷ xs) h zero d lt = goes x (h zero x (omega arith))
over_each P Q f goes (x ∷ xs) h (suc i) d lt = over_each P Q f goes xs (λ j e l. h (suc j) e (omega (arith, l))) i d (omega (arith, lt))

pub none_over : (P : Expr → Type 0) → All P []
none_over P i d lt = absurd (omega (arith, lt))

module _ (L : PlainLedger) (s : IsSoundLedger L) where
  pub next_empty : Next L s (Sum []) Zero rule.Empty
  next_empty = record {
    instance_of = carried L s (tree-Sum (k L s) []) (tree-Zero (k L s)) is_empty;
    over = (over-Sum L.presentation [] (none_over (IsOver L s)), over-Zero L.presentation);
  }

  each_right : (e : Expr) (xs : List Expr) → map (tree L s) (map (Br e) xs) ≡ map (bracket_of (tree L s e)) (map (tree L s) xs)
  each_right e [] = refl
  each_right e (x ∷ xs) = ap₂ (λ t ts. t ∷ ts) (tree-Br (k L s) e x) (each_right e xs)

  each_left : (e : Expr) (xs : List Expr) → map (tree L s) (map (λ x. Br x e) xs) ≡ map (λ t. bracket_of t (tree L s e)) (map (tree L s) xs)
  each_left e [] = refl
  each_left e (x ∷ xs) = ap₂ (λ t ts. t ∷ ts) (tree-Br (k L s) x e) (each_left e xs)

  pub next_right_sum : (e : Expr) (xs : List Expr) → IsOver L s e → All (IsOver L s) xs → Next L s (Br e (Sum xs)) (Sum (map (Br e) xs)) rule.RightSum
  next_right_sum e xs h l = record {
    instance_of = carried L s (tree-Br (k L s) e (Sum xs) ∙ ap (bracket_of (tree L s e)) (tree-Sum (k L s) xs))
        (tree-Sum (k L s) (map (Br e) xs) ∙ ap (sum_all (field_of (k L s))) (each_right e xs)) (is_right_sum (tree L s e) (map (tree L s) xs));
    over = (
      over-Br L.presentation e (Sum xs) h (over-Sum L.presentation xs l),
      over-Sum L.presentation _ (over_each (IsOver L s) (IsOver L s) (Br e) (λ x o. over-Br L.presentation e x h o) xs l),
    );
  }

  pub next_left_sum : (xs : List Expr) (e : Expr) → All (IsOver L s) xs → IsOver L s e → Next L s (Br (Sum xs) e) (Sum (map (λ x. Br x e) xs)) rule.LeftSum
  next_left_sum xs e l h = record {
    instance_of = carried L s (tree-Br (k L s) (Sum xs) e ∙ ap (λ t. bracket_of t (tree L s e)) (tree-Sum (k L s) xs))
        (tree-Sum (k L s) (map (λ x. Br x e) xs) ∙ ap (sum_all (field_of (k L s))) (each_left e xs)) (is_left_sum (map (tree L s) xs) (tree L s e));
    over = (
      over-Br L.presentation (Sum xs) e (over-Sum L.presentation xs l) h,
      over-Sum L.presentation _ (over_each (IsOver L s) (IsOver L s) (λ x. Br x e) (λ x o. over-Br L.presentation x e o h) xs l),
    );
  }

  pub next_right_times : (e : Expr) (c : ℕ) (x : Expr) → IsOver L s e → c < L.prime → IsOver L s x →
      Next L s (Br e (Times (residue c) x)) (Times (residue c) (Br e x)) rule.RightTimes
  next_right_times e c x h lt o = record {
    instance_of = carried L s (tree-Br (k L s) e (Times (residue c) x) ∙ ap (bracket_of (tree L s e)) (tree-Times (k L s) (residue c) x))
        (tree-Times (k L s) (residue c) (Br e x) ∙ ap (multiple (number_of (k L s) (residue c))) (tree-Br (k L s) e x))
        (is_right_times (number_of (k L s) (residue c)) (tree L s x) (tree L s e));
    over = (
      over-Br L.presentation e (Times (residue c) x) h (residue_over L s c x lt o),
      residue_over L s c (Br e x) lt (over-Br L.presentation e x h o),
    );
  }

  pub next_left_times : (c : ℕ) (x e : Expr) → c < L.prime → IsOver L s x → IsOver L s e →
      Next L s (Br (Times (residue c) x) e) (Times (residue c) (Br x e)) rule.LeftTimes
  next_left_times c x e lt o h = record {
    instance_of = carried L s (tree-Br (k L s) (Times (residue c) x) e ∙ ap (λ t. bracket_of t (tree L s e)) (tree-Times (k L s) (residue c) x))
        (tree-Times (k L s) (residue c) (Br x e) ∙ ap (multiple (number_of (k L s) (residue c))) (tree-Br (k L s) x e))
        (is_left_times (number_of (k L s) (residue c)) (tree L s x) (tree L s e));
    over = (
      over-Br L.presentation (Times (residue c) x) e (residue_over L s c x lt o) h,
      residue_over L s c (Br x e) lt (over-Br L.presentation x e o h),
    );
  }
