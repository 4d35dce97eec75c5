-- Weights and parities of expressions as written, whatever their numbers are.
--
--   IsVoid, AreVoid                  a void expression: 0, a sum of void members, a multiple of a void one, or a bracket with a void member
--   is_void, are_void                the test for it
--   top, tops                        the greatest written weight, and 0 for a void expression
--   HasParity, HaveParity            the parities that an expression has; a void one has both
--   Degree                           none, exactly one, or two that differ
--   of_both                          that of a sum, from those of two parts
--   of_bracket                       that of a bracket, from those of its members
--   weight_of, weights_of            the weight of an expression
--   parity_of, parities_of           the parity of an expression
--   weight_of_both, parity_of_both   those of an equation, its two sides taken as one sum
--   IsSoundPresentation              weights are at least 1, relations are over P, and each is homogeneous in weight and in parity
use Rattle.std.specs.Prelude.{ℕ, ◌≢◌, ◌+◌, ◌<◌, length, max, Bool, true, false, cond, nat_eq, ◌&&◌, ◌||◌}
use Rattle.math_algebra.specs.Tree.{Tree, Trees, gen, none, sum_of, multiple, bracket_of, end, more, Parity, even, odd, parity_sum, Presentation, generator, left, right, IsOver}

mutual
  pub data IsVoid {N : Type 0} : Tree N → Type 0 where
    void_none : IsVoid none
    void_sum : {es : Trees N} → AreVoid es → IsVoid (sum_of es)
    void_multiple : {c : N} {e : Tree N} → IsVoid e → IsVoid (multiple c e)
    void_left : {e f : Tree N} → IsVoid e → IsVoid (bracket_of e f)
    void_right : {e f : Tree N} → IsVoid f → IsVoid (bracket_of e f)

  pub data AreVoid {N : Type 0} : Trees N → Type 0 where
    void_end : AreVoid end
    void_more : {e : Tree N} {es : Trees N} → IsVoid e → AreVoid es → AreVoid (more e es)

unfoldable mutual
  pub is_void : {N : Type 0} → Tree N → Bool
  is_void (gen g) = false
  is_void none = true
  is_void (sum_of es) = are_void es
  is_void (multiple c e) = is_void e
  is_void (bracket_of e f) = is_void e || is_void f

  pub are_void : {N : Type 0} → Trees N → Bool
  are_void end = true
  are_void (more e es) = is_void e && are_void es

module _ {N : Type 0} (P : Presentation N) where
  unfoldable mutual
    pub top : Tree N → ℕ
    top (gen g) = (generator P g).weight
    top none = 0
    top (sum_of es) = tops es
    top (multiple c e) = top e
    top (bracket_of e f) = cond (is_void e || is_void f) 0 (top e + top f)

    pub tops : Trees N → ℕ
    tops end = 0
    tops (more e es) = max (top e) (tops es)

mutual
  pub data HasParity {N : Type 0} (P : Presentation N) : Tree N → Parity → Type 0 where
    parity_void : {e : Tree N} (s : Parity) → IsVoid e → HasParity P e s
    parity_gen : (g : ℕ) → g < length P.generators → HasParity P (gen g) (generator P g).parity
    parity_all : {es : Trees N} {s : Parity} → HaveParity P es s → HasParity P (sum_of es) s
    parity_multiple : {c : N} {e : Tree N} {s : Parity} → HasParity P e s → HasParity P (multiple c e) s
    parity_bracket : {e f : Tree N} {s t : Parity} → HasParity P e s → HasParity P f t → HasParity P (bracket_of e f) (parity_sum s t)

  pub data HaveParity {N : Type 0} (P : Presentation N) : Trees N → Parity → Type 0 where
    parity_end : {s : Parity} → HaveParity P end s
    parity_more : {e : Tree N} {es : Trees N} {s : Parity} → HasParity P e s → HaveParity P es s → HaveParity P (more e es) s

pub data Degree (A : Type 0) : Type 0 where
  any : Degree A
  exact : A → Degree A
  mixed : Degree A

abbrev pub of_both : {A : Type 0} → (A → A → Bool) → Degree A → Degree A → Degree A
of_both same any b = b
of_both same (exact a) any = exact a
of_both same (exact a) (exact b) = cond (same a b) (exact a) mixed
of_both same (exact a) mixed = mixed
of_both same mixed b = mixed

abbrev pub of_bracket : {A : Type 0} → (A → A → A) → Degree A → Degree A → Degree A
of_bracket plus any any = any
of_bracket plus any (exact b) = any
of_bracket plus any mixed = mixed
of_bracket plus (exact a) any = any
of_bracket plus (exact a) (exact b) = exact (plus a b)
of_bracket plus (exact a) mixed = mixed
of_bracket plus mixed b = mixed

abbrev pub same_parity : Parity → Parity → Bool
same_parity even even = true
same_parity even odd = false
same_parity odd even = false
same_parity odd odd = true

module _ {N : Type 0} (P : Presentation N) where
  unfoldable mutual
    pub weight_of : Tree N → Degree ℕ
    weight_of (gen g) = exact (generator P g).weight
    weight_of none = any
    weight_of (sum_of es) = weights_of es
    weight_of (multiple c e) = weight_of e
    weight_of (bracket_of e f) = of_bracket (λ a b. a + b) (weight_of e) (weight_of f)

    pub weights_of : Trees N → Degree ℕ
    weights_of end = any
    weights_of (more e es) = of_both nat_eq (weight_of e) (weights_of es)

  unfoldable mutual
    pub parity_of : Tree N → Degree Parity
    parity_of (gen g) = exact (generator P g).parity
    parity_of none = any
    parity_of (sum_of es) = parities_of es
    parity_of (multiple c e) = parity_of e
    parity_of (bracket_of e f) = of_bracket parity_sum (parity_of e) (parity_of f)

    pub parities_of : Trees N → Degree Parity
    parities_of end = any
    parities_of (more e es) = of_both same_parity (parity_of e) (parities_of es)

  abbrev pub weight_of_both : Tree N → Tree N → Degree ℕ
  weight_of_both e f = of_both nat_eq (weight_of e) (weight_of f)

  abbrev pub parity_of_both : Tree N → Tree N → Degree Parity
  parity_of_both e f = of_both same_parity (parity_of e) (parity_of f)

pub record IsSoundPresentation {N : Type 0} (P : Presentation N) : Type 0 where
  pub positive : (g : ℕ) → g < length P.generators → 0 < (generator P g).weight
  pub over : (k : ℕ) → k < length P.relations → IsOver P (left P k) × IsOver P (right P k)
  pub weights : (k : ℕ) → k < length P.relations → weight_of_both P (left P k) (right P k) ≢ mixed
  pub parities : (k : ℕ) → k < length P.relations → parity_of_both P (left P k) (right P k) ≢ mixed
