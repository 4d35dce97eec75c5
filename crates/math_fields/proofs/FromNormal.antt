-- Laws of the normal numbers.
use mathlib.Core.Path.{◌≡◌, ◌∙◌}
use mathlib.Core.HLevel.{hedberg, Σ_prop_path}
use Rattle.math_fields.specs.Normal.{Normal, Number, of_raw}

module _ (N : Normal) where
  pub number_same : (a b : Number N) → a.0 ≡ b.0 → a ≡ b
  number_same a b e = Σ_prop_path (λ x. hedberg N.same (N.norm x) x) e

  pub of_raw_itself : (a : Number N) → of_raw N a.0 ≡ a
  of_raw_itself a = number_same _ _ a.1

  pub right-plus : (x y : N.Raw) → N.norm (N.plus x (N.norm y)) ≡ N.norm (N.plus x y)
  right-plus x y = N.plus_comm _ _ ∙ N.norm-plus y x ∙ N.plus_comm _ _

  pub right-times : (x y : N.Raw) → N.norm (N.times x (N.norm y)) ≡ N.norm (N.times x y)
  right-times x y = N.times_comm _ _ ∙ N.norm-times y x ∙ N.times_comm _ _
