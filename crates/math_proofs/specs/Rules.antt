-- Proofs from the axioms, line by line. Lines, members of sums and relations count from 1 in the rules.
--
--   Rule           the reason of a line
--   Line           two sides and a reason
--   Earlier        what is known of the lines before: which sides a number has
--   AreEarlier     the same, member by member
--   IsInstance     the two sides are an instance of the rule
--   line_at        a line by number, counted from 0
--   Cites          line c, counted from 1, is one of the first n lines and has these sides
--   IsProof        each line is an instance of its rule, and cites only lines before it
--   AreLinesOver   both sides of each line are over P
--   LinesDerive    each line of a proof is derivable
use Rattle.std.specs.Prelude.{ℕ, suc, List, [], ◌∷◌, ◌≡◌, ◌<◌, ◌++◌, map, length, get_or}
use Rattle.math_fields.specs.Field.{Field}
use Rattle.math_algebra.specs.Tree.{none, multiple, bracket_of, Parity, odd, Presentation, left, right, IsOver}
use Rattle.math_algebra.specs.Degrees.{HasParity, IsSoundPresentation}
use Rattle.math_algebra.specs.Derives.{Expression, sum_all, sign, three, Derives}

pub data Rule : Type 0 where
  same empty single multiply one nought spread left_sum right_sum left_times right_times cube : Rule
  turn factor exchange flat drop collect relation : ℕ → Rule
  chain members : ℕ → ℕ → Rule
  parts : List ℕ → Rule
  swap jacobi : Parity → Parity → Rule

pub record Line (K : Field) : Type 0 where
  pub left_side : Expression K
  pub right_side : Expression K
  pub why : Rule

abbrev pub Earlier : Field → Type 1
Earlier K = ℕ → Expression K → Expression K → Type 0

abbrev pub AreEarlier : (K : Field) → Earlier K → List ℕ → List (Expression K) → List (Expression K) → Type 0
AreEarlier K E [] [] [] = Unit {0}
AreEarlier K E [] [] (f ∷ fs) = ⊥
AreEarlier K E [] (e ∷ es) fs = ⊥
AreEarlier K E (n ∷ ns) [] fs = ⊥
AreEarlier K E (n ∷ ns) (e ∷ es) [] = ⊥
AreEarlier K E (n ∷ ns) (e ∷ es) (f ∷ fs) = (E n e f) × AreEarlier K E ns es fs

pub data IsInstance (K : Field) (P : Presentation K.Carrier) (E : Earlier K) : Rule → Expression K → Expression K → Type 0 where
  is_same : (e : Expression K) → IsInstance K P E same e e
  is_turn : (n : ℕ) (e f : Expression K) → E n f e → IsInstance K P E (turn n) e f
  is_chain : (n m : ℕ) (e g f : Expression K) → E n e g → E m g f → IsInstance K P E (chain n m) e f
  is_parts : (ns : List ℕ) (es fs : List (Expression K)) → AreEarlier K E ns es fs → IsInstance K P E (parts ns) (sum_all K es) (sum_all K fs)
  is_factor : (n : ℕ) (c : K.Carrier) (e f : Expression K) → E n e f → IsInstance K P E (factor n) (multiple c e) (multiple c f)
  is_members : (n m : ℕ) (a b e f : Expression K) → E n a e → E m b f → IsInstance K P E (members n m) (bracket_of a b) (bracket_of e f)
  is_exchange : (before after : List (Expression K)) (e f : Expression K) →
      IsInstance K P E (exchange (suc (length before))) (sum_all K (before ++ (e ∷ f ∷ after))) (sum_all K (before ++ (f ∷ e ∷ after)))
  is_flat : (before after es : List (Expression K)) →
      IsInstance K P E (flat (suc (length before))) (sum_all K (before ++ (sum_all K es ∷ after))) (sum_all K (before ++ (es ++ after)))
  is_drop : (before after : List (Expression K)) →
      IsInstance K P E (drop (suc (length before))) (sum_all K (before ++ (none ∷ after))) (sum_all K (before ++ after))
  is_empty : IsInstance K P E empty (sum_all K []) none
  is_single : (e : Expression K) → IsInstance K P E single (sum_all K (e ∷ [])) e
  is_multiply : (c a : K.Carrier) (e : Expression K) → IsInstance K P E multiply (multiple c (multiple a e)) (multiple (K.times c a) e)
  is_one : (e : Expression K) → IsInstance K P E one (multiple K.unit e) e
  is_nought : (e : Expression K) → IsInstance K P E nought (multiple K.nought e) none
  is_collect : (before after : List (Expression K)) (c a : K.Carrier) (e : Expression K) →
      IsInstance K P E (collect (suc (length before))) (sum_all K (before ++ (multiple c e ∷ multiple a e ∷ after)))
      (sum_all K (before ++ (multiple (K.plus c a) e ∷ after)))
  is_spread : (c : K.Carrier) (es : List (Expression K)) → IsInstance K P E spread (multiple c (sum_all K es)) (sum_all K (map (multiple c) es))
  is_left_sum : (es : List (Expression K)) (g : Expression K) →
      IsInstance K P E left_sum (bracket_of (sum_all K es) g) (sum_all K (map (λ e. bracket_of e g) es))
  is_right_sum : (g : Expression K) (es : List (Expression K)) → IsInstance K P E right_sum (bracket_of g (sum_all K es)) (sum_all K (map (bracket_of g) es))
  is_left_times : (c : K.Carrier) (e g : Expression K) → IsInstance K P E left_times (bracket_of (multiple c e) g) (multiple c (bracket_of e g))
  is_right_times : (c : K.Carrier) (e g : Expression K) → IsInstance K P E right_times (bracket_of g (multiple c e)) (multiple c (bracket_of g e))
  is_swap : (s t : Parity) (a b : Expression K) → HasParity P a s → HasParity P b t →
      IsInstance K P E (swap s t) (bracket_of a b) (multiple (K.minus (sign K s t)) (bracket_of b a))
  is_jacobi : (s t u : Parity) (a b c : Expression K) → HasParity P a s → HasParity P b t → HasParity P c u →
      IsInstance K P E (jacobi s t) (bracket_of a (bracket_of b c))
      (sum_all K (bracket_of (bracket_of a b) c ∷ multiple (sign K s t) (bracket_of b (bracket_of a c)) ∷ []))
  is_relation : (k : ℕ) → k < length P.relations → IsInstance K P E (relation (suc k)) (left P k) (right P k)
  is_cube : (a : Expression K) → three K ≡ K.nought → HasParity P a odd → IsInstance K P E cube (bracket_of a (bracket_of a a)) none

abbrev pub no_line : (K : Field) → Line K
no_line K = record { left_side = none; right_side = none; why = same }

abbrev pub line_at : (K : Field) → List (Line K) → ℕ → Line K
line_at K lines n = get_or lines n (no_line K)

pub record Cites (K : Field) (lines : List (Line K)) (n c : ℕ) (e f : Expression K) : Type 0 where
  pub which : ℕ
  pub counts : c ≡ suc which
  pub before : which < n
  pub its_left : (line_at K lines which).left_side ≡ e
  pub its_right : (line_at K lines which).right_side ≡ f

abbrev pub IsProof : (K : Field) → Presentation K.Carrier → List (Line K) → Type 0
IsProof K P lines =
    (n : ℕ) → n < length lines → IsInstance K P (Cites K lines n) (line_at K lines n).why (line_at K lines n).left_side (line_at K lines n).right_side

abbrev pub AreLinesOver : (K : Field) → Presentation K.Carrier → List (Line K) → Type 0
AreLinesOver K P lines = (n : ℕ) → n < length lines → IsOver P (line_at K lines n).left_side × IsOver P (line_at K lines n).right_side

abbrev pub LinesDerive : Field → Type 0
LinesDerive K =
    (P : Presentation K.Carrier) → IsSoundPresentation P → (lines : List (Line K)) → AreLinesOver K P lines → IsProof K P lines →
    (n : ℕ) → n < length lines → Derives K P (line_at K lines n).left_side (line_at K lines n).right_side
