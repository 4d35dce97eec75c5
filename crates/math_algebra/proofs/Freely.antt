-- Derivability among expressions with any generators. It is easier to work with, and agrees with Derives on expressions over P (proofs/Within).
use Rattle.std.specs.Prelude.{ℕ, List, [], ◌∷◌, ◌≡◌, map, ◌++◌, length, ◌<◌}
use Rattle.math_fields.specs.Field.{Field}
use Rattle.math_algebra.specs.Tree.{none, multiple, bracket_of, Parity, odd, Presentation, left, right}
use Rattle.math_algebra.specs.Degrees.{HasParity}
use Rattle.math_algebra.specs.Derives.{Expression, sum_all, sign, three}

pub data DerivesFreely (K : Field) (P : Presentation K.Carrier) : Expression K → Expression K → Type 0 where
  same : {e : Expression K} → DerivesFreely K P e e
  back : {e f : Expression K} → DerivesFreely K P e f → DerivesFreely K P f e
  then : {e f g : Expression K} → DerivesFreely K P e f → DerivesFreely K P f g → DerivesFreely K P e g
  in_sum : {e f : Expression K} (es : List (Expression K)) → DerivesFreely K P e f → DerivesFreely K P (sum_all K (e ∷ es)) (sum_all K (f ∷ es))
  in_multiple : {e f : Expression K} (c : K.Carrier) → DerivesFreely K P e f → DerivesFreely K P (multiple c e) (multiple c f)
  in_left : {e f : Expression K} (g : Expression K) → DerivesFreely K P e f → DerivesFreely K P (bracket_of e g) (bracket_of f g)
  in_right : {e f : Expression K} (g : Expression K) → DerivesFreely K P e f → DerivesFreely K P (bracket_of g e) (bracket_of g f)
  sum_swap : (e f : Expression K) (es : List (Expression K)) → DerivesFreely K P (sum_all K (e ∷ f ∷ es)) (sum_all K (f ∷ e ∷ es))
  sum_rest : (e : Expression K) (es fs : List (Expression K)) → DerivesFreely K P (sum_all K es) (sum_all K fs) →
      DerivesFreely K P (sum_all K (e ∷ es)) (sum_all K (e ∷ fs))
  sum_flat : (es fs : List (Expression K)) → DerivesFreely K P (sum_all K (sum_all K es ∷ fs)) (sum_all K (es ++ fs))
  sum_none : (es : List (Expression K)) → DerivesFreely K P (sum_all K (none ∷ es)) (sum_all K es)
  sum_empty : DerivesFreely K P (sum_all K []) none
  sum_one : (e : Expression K) → DerivesFreely K P (sum_all K (e ∷ [])) e
  multiple_multiple : (c a : K.Carrier) (e : Expression K) → DerivesFreely K P (multiple c (multiple a e)) (multiple (K.times c a) e)
  multiple_unit : (e : Expression K) → DerivesFreely K P (multiple K.unit e) e
  multiple_nought : (e : Expression K) → DerivesFreely K P (multiple K.nought e) none
  multiple_plus : (c a : K.Carrier) (e : Expression K) → DerivesFreely K P (sum_all K (multiple c e ∷ multiple a e ∷ [])) (multiple (K.plus c a) e)
  multiple_sum : (c : K.Carrier) (es : List (Expression K)) → DerivesFreely K P (multiple c (sum_all K es)) (sum_all K (map (multiple c) es))
  left_sum : (es : List (Expression K)) (g : Expression K) → DerivesFreely K P (bracket_of (sum_all K es) g) (sum_all K (map (λ e. bracket_of e g) es))
  right_sum : (g : Expression K) (es : List (Expression K)) → DerivesFreely K P (bracket_of g (sum_all K es)) (sum_all K (map (bracket_of g) es))
  left_multiple : (c : K.Carrier) (e g : Expression K) → DerivesFreely K P (bracket_of (multiple c e) g) (multiple c (bracket_of e g))
  right_multiple : (c : K.Carrier) (e g : Expression K) → DerivesFreely K P (bracket_of g (multiple c e)) (multiple c (bracket_of g e))
  exchange : (s t : Parity) (a b : Expression K) → HasParity P a s → HasParity P b t → DerivesFreely K P (bracket_of a b)
      (multiple (K.minus (sign K s t)) (bracket_of b a))
  jacobi : (s t u : Parity) (a b c : Expression K) → HasParity P a s → HasParity P b t → HasParity P c u →
      DerivesFreely K P (bracket_of a (bracket_of b c)) (sum_all K (bracket_of (bracket_of a b) c ∷ multiple (sign K s t) (bracket_of b (bracket_of a c)) ∷ []))
  relation : (k : ℕ) → k < length P.relations → DerivesFreely K P (left P k) (right P k)
  cube : (a : Expression K) → three K ≡ K.nought → HasParity P a odd → DerivesFreely K P (bracket_of a (bracket_of a a)) none
