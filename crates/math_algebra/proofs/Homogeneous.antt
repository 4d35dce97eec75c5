-- Weights as relations, which proofs match on, and presentations that are homogeneous in their terms.
use Rattle.std.specs.Prelude.{ℕ, ◌≡◌, ◌⊎◌, ◌+◌, ◌<◌, ◌≤◌, length}
use Rattle.math_algebra.specs.Tree.{Tree, Trees, gen, sum_of, multiple, bracket_of, end, more, Parity, Presentation, generator, left, right, IsOver}
use Rattle.math_algebra.specs.Degrees.{IsVoid, HasParity, exact, weight_of_both}

-- every written weight is d, or the expression is void
mutual
  pub data WeightIs {N : Type 0} (P : Presentation N) : Tree N → ℕ → Type 0 where
    weight_void : {e : Tree N} (d : ℕ) → IsVoid e → WeightIs P e d
    weight_gen : (g : ℕ) → g < length P.generators → WeightIs P (gen g) (generator P g).weight
    weight_sum : {es : Trees N} {d : ℕ} → WeightsAre P es d → WeightIs P (sum_of es) d
    weight_multiple : {c : N} {e : Tree N} {d : ℕ} → WeightIs P e d → WeightIs P (multiple c e) d
    weight_bracket : {e f : Tree N} {b c : ℕ} → WeightIs P e b → WeightIs P f c → WeightIs P (bracket_of e f) (b + c)

  pub data WeightsAre {N : Type 0} (P : Presentation N) : Trees N → ℕ → Type 0 where
    weight_end : {d : ℕ} → WeightsAre P end d
    weight_more : {e : Tree N} {es : Trees N} {d : ℕ} → WeightIs P e d → WeightsAre P es d → WeightsAre P (more e es) d

-- the greatest written weight is at most d, or the expression is void
mutual
  pub data TopIs {N : Type 0} (P : Presentation N) : Tree N → ℕ → Type 0 where
    top_void : {e : Tree N} (d : ℕ) → IsVoid e → TopIs P e d
    top_gen : (g d : ℕ) → g < length P.generators → (generator P g).weight ≤ d → TopIs P (gen g) d
    top_sum : {es : Trees N} {d : ℕ} → TopsAre P es d → TopIs P (sum_of es) d
    top_multiple : {c : N} {e : Tree N} {d : ℕ} → TopIs P e d → TopIs P (multiple c e) d
    top_bracket : {e f : Tree N} {b c d : ℕ} → TopIs P e b → TopIs P f c → b + c ≤ d → TopIs P (bracket_of e f) d

  pub data TopsAre {N : Type 0} (P : Presentation N) : Trees N → ℕ → Type 0 where
    top_end : {d : ℕ} → TopsAre P end d
    top_more : {e : Tree N} {es : Trees N} {d : ℕ} → TopIs P e d → TopsAre P es d → TopsAre P (more e es) d

-- generators of weight at least 1, and relations over P that are homogeneous in weight and parity
pub record IsHomogeneous {N : Type 0} (P : Presentation N) : Type 0 where
  pub positive : (g : ℕ) → g < length P.generators → 0 < (generator P g).weight
  pub over : (k : ℕ) → k < length P.relations → IsOver P (left P k) × IsOver P (right P k)
  pub weights : (k : ℕ) → k < length P.relations → (d : ℕ) × WeightIs P (left P k) d × WeightIs P (right P k) d
  pub parities : (k : ℕ) → k < length P.relations → (s : Parity) × HasParity P (left P k) s × HasParity P (right P k) s
  pub has : (k w : ℕ) → k < length P.relations → weight_of_both P (left P k) (right P k) ≡ exact w → WeightIs P (left P k) w × WeightIs P (right P k) w
  pub is : (k w : ℕ) → k < length P.relations → WeightIs P (left P k) w → WeightIs P (right P k) w →
      (IsVoid (left P k) × IsVoid (right P k)) ⊎ (weight_of_both P (left P k) (right P k) ≡ exact w)
