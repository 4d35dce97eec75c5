-- Derivability: the equations between expressions over P that follow from the super axioms and the relations of P. No weight limits a derivation.
--
--   Expression   an expression with numbers of the field
--   sum_all      the sum of a list
--   sign         (-1)^(st), for parities s and t
--   three        1 + 1 + 1, which is 0 modulo 3 alone
--   Derives      the least relation on expressions over P that is an equivalence and goes through sums, multiples and brackets; that has the laws of
--                a vector space (sums permuted and flattened, 0 left out, and multiples); in which the bracket is linear in each member; that has
--                super anticommutativity, the Jacobi identity and the relations of P; and, where three is 0, [a, [a, a]] = 0 for odd a
use Rattle.std.specs.Prelude.{ℕ, List, [], ◌∷◌, ◌≡◌, map, ◌++◌, length, ◌<◌}
use Rattle.math_fields.specs.Field.{Field}
use Rattle.math_algebra.specs.Tree.{Tree, none, sum_of, multiple, bracket_of, trees, Parity, even, odd, Presentation, left, right, IsOver, AreOver}
use Rattle.math_algebra.specs.Degrees.{HasParity}

abbrev pub Expression : Field → Type 0
Expression K = Tree K.Carrier

abbrev pub sum_all : (K : Field) → List (Expression K) → Expression K
sum_all K es = sum_of (trees es)

abbrev pub sign : (K : Field) → Parity → Parity → K.Carrier
sign K even t = K.unit
sign K odd even = K.unit
sign K odd odd = K.minus K.unit

abbrev pub three : (K : Field) → K.Carrier
three K = K.plus (K.plus K.unit K.unit) K.unit

pub data Derives (K : Field) (P : Presentation K.Carrier) : Expression K → Expression K → Type 0 where
  same : {e : Expression K} → IsOver P e → Derives K P e e
  back : {e f : Expression K} → Derives K P e f → Derives K P f e
  then : {e f g : Expression K} → Derives K P e f → Derives K P f g → Derives K P e g
  in_sum : {e f : Expression K} (es : List (Expression K)) → AreOver P (trees es) → Derives K P e f → Derives K P (sum_all K (e ∷ es)) (sum_all K (f ∷ es))
  in_multiple : {e f : Expression K} (c : K.Carrier) → Derives K P e f → Derives K P (multiple c e) (multiple c f)
  in_left : {e f : Expression K} (g : Expression K) → IsOver P g → Derives K P e f → Derives K P (bracket_of e g) (bracket_of f g)
  in_right : {e f : Expression K} (g : Expression K) → IsOver P g → Derives K P e f → Derives K P (bracket_of g e) (bracket_of g f)
  sum_swap : (e f : Expression K) (es : List (Expression K)) → IsOver P e → IsOver P f → AreOver P (trees es) →
      Derives K P (sum_all K (e ∷ f ∷ es)) (sum_all K (f ∷ e ∷ es))
  sum_rest : (e : Expression K) (es fs : List (Expression K)) → IsOver P e → Derives K P (sum_all K es) (sum_all K fs) →
      Derives K P (sum_all K (e ∷ es)) (sum_all K (e ∷ fs))
  sum_flat : (es fs : List (Expression K)) → AreOver P (trees es) → AreOver P (trees fs) → Derives K P (sum_all K (sum_all K es ∷ fs)) (sum_all K (es ++ fs))
  sum_none : (es : List (Expression K)) → AreOver P (trees es) → Derives K P (sum_all K (none ∷ es)) (sum_all K es)
  sum_empty : Derives K P (sum_all K []) none
  sum_one : (e : Expression K) → IsOver P e → Derives K P (sum_all K (e ∷ [])) e
  multiple_multiple : (c a : K.Carrier) (e : Expression K) → IsOver P e → Derives K P (multiple c (multiple a e)) (multiple (K.times c a) e)
  multiple_unit : (e : Expression K) → IsOver P e → Derives K P (multiple K.unit e) e
  multiple_nought : (e : Expression K) → IsOver P e → Derives K P (multiple K.nought e) none
  multiple_plus : (c a : K.Carrier) (e : Expression K) → IsOver P e → Derives K P (sum_all K (multiple c e ∷ multiple a e ∷ [])) (multiple (K.plus c a) e)
  multiple_sum : (c : K.Carrier) (es : List (Expression K)) → AreOver P (trees es) → Derives K P (multiple c (sum_all K es)) (sum_all K (map (multiple c) es))
  left_sum : (es : List (Expression K)) (g : Expression K) → AreOver P (trees es) → IsOver P g →
      Derives K P (bracket_of (sum_all K es) g) (sum_all K (map (λ e. bracket_of e g) es))
  right_sum : (g : Expression K) (es : List (Expression K)) → IsOver P g → AreOver P (trees es) →
      Derives K P (bracket_of g (sum_all K es)) (sum_all K (map (bracket_of g) es))
  left_multiple : (c : K.Carrier) (e g : Expression K) → IsOver P e → IsOver P g → Derives K P (bracket_of (multiple c e) g) (multiple c (bracket_of e g))
  right_multiple : (c : K.Carrier) (e g : Expression K) → IsOver P e → IsOver P g → Derives K P (bracket_of g (multiple c e)) (multiple c (bracket_of g e))
  exchange : (s t : Parity) (a b : Expression K) → IsOver P a → IsOver P b → HasParity P a s → HasParity P b t →
      Derives K P (bracket_of a b) (multiple (K.minus (sign K s t)) (bracket_of b a))
  jacobi : (s t u : Parity) (a b c : Expression K) → IsOver P a → IsOver P b → IsOver P c → HasParity P a s → HasParity P b t → HasParity P c u →
      Derives K P (bracket_of a (bracket_of b c)) (sum_all K (bracket_of (bracket_of a b) c ∷ multiple (sign K s t) (bracket_of b (bracket_of a c)) ∷ []))
  relation : (k : ℕ) → k < length P.relations → Derives K P (left P k) (right P k)
  cube : (a : Expression K) → IsOver P a → three K ≡ K.nought → HasParity P a odd → Derives K P (bracket_of a (bracket_of a a)) none
