-- Whether a line is an instance of its rule, as a test. Most rules give one right side for a left side: the test forms it, and compares.
-- Lines, members of sums and relations count from 1 in the rules; a number that names none fails.
--
--   is_number                whether two numbers are equal
--   same_tree, same_trees    whether two expressions are equal
--   same_list                the same of lists of expressions
--   list_of                  the members of a sum, in order
--   member                   a member of a list, from 0
--   has, has_some            an expression has this parity; any
--   is_cited                 a line before has these sides
--   are_cited                the same, member by member
--   checks_..                an expression and the right side that a rule gives it
--   checked                  a line is an instance of its rule
--   CheckedIsInstance        that is what the test tells
use Rattle.std.specs.Prelude.{ℕ, List, [], ◌∷◌, ◌≡◌, ◌↔◌, ◌++◌, ◌+◌, ◌-◌, Bool, true, false, ◌&&◌, nat_eq, nat_le, nat_lt, map, take, drop, length, get_or}
use Rattle.math_fields.specs.Field.{Field}
use Rattle.math_algebra.specs.Tree.{Tree, Trees, gen, none, sum_of, multiple, bracket_of, end, more, Parity, odd, Presentation, left, right, IsOver}
use Rattle.math_algebra.specs.Degrees.{Degree, any, exact, mixed}
use Rattle.math_algebra.specs.Derives.{Expression, sum_all, sign, three}
use Rattle.math_proofs.specs.Shown.{shown, includes}
use Rattle.math_proofs.specs.Rules.{Rule, same, empty, single, multiply, one, nought, spread, left_sum, right_sum, left_times, right_times, cube, turn, factor, exchange, flat, drop as drop_member, collect, relation, chain, members, parts, swap, jacobi, Line, IsInstance, line_at, Cites}

abbrev pub decided : {A : Type 0} → Dec A → Bool
decided (yes e) = true
decided (no e) = false

abbrev pub is_number : (K : Field) → K.Carrier → K.Carrier → Bool
is_number K c d = decided (K.same c d)

module _ (K : Field) where
  unfoldable mutual
    pub same_tree : Expression K → Expression K → Bool
    same_tree (gen g) (gen h) = nat_eq g h
    same_tree none none = true
    same_tree (sum_of es) (sum_of fs) = same_trees es fs
    same_tree (multiple c e) (multiple d f) = is_number K c d && same_tree e f
    same_tree (bracket_of a b) (bracket_of c d) = same_tree a c && same_tree b d
    same_tree e f = false

    pub same_trees : Trees K.Carrier → Trees K.Carrier → Bool
    same_trees end end = true
    same_trees (more e es) (more f fs) = same_tree e f && same_trees es fs
    same_trees es fs = false

abbrev pub list_of : {N : Type 0} → Trees N → List (Tree N)
list_of end = []
list_of (more e es) = e ∷ list_of es

abbrev pub same_list : (K : Field) → List (Expression K) → List (Expression K) → Bool
same_list K [] [] = true
same_list K [] (f ∷ fs) = false
same_list K (e ∷ es) [] = false
same_list K (e ∷ es) (f ∷ fs) = same_tree K e f && same_list K es fs

abbrev pub member : (K : Field) → List (Expression K) → ℕ → Expression K
member K es i = get_or es i none

abbrev pub has : (K : Field) → Presentation K.Carrier → Expression K → Parity → Bool
has K P e s = includes (shown P e) s

abbrev pub is_one_or_both : Degree Parity → Bool
is_one_or_both any = true
is_one_or_both (exact s) = true
is_one_or_both mixed = false

abbrev pub has_some : (K : Field) → Presentation K.Carrier → Expression K → Bool
has_some K P e = is_one_or_both (shown P e)

abbrev pub is_cited : (K : Field) → List (Line K) → (n c : ℕ) → Expression K → Expression K → Bool
is_cited K lines n c e f = nat_le 1 c && nat_le c n && same_tree K (line_at K lines (c - 1)).left_side e && same_tree K (line_at K lines (c - 1)).right_side f

abbrev pub are_cited : (K : Field) → List (Line K) → ℕ → List ℕ → List (Expression K) → List (Expression K) → Bool
are_cited K lines n [] [] [] = true
are_cited K lines n [] [] (f ∷ fs) = false
are_cited K lines n [] (e ∷ es) fs = false
are_cited K lines n (c ∷ cs) [] fs = false
are_cited K lines n (c ∷ cs) (e ∷ es) [] = false
are_cited K lines n (c ∷ cs) (e ∷ es) (f ∷ fs) = is_cited K lines n c e f && are_cited K lines n cs es fs

abbrev pub checks_chain : (K : Field) → List (Line K) → (n c d : ℕ) → Expression K → Expression K → Bool
checks_chain K lines n c d e f =
    nat_le 1 c && nat_le c n && same_tree K (line_at K lines (c - 1)).left_side e && is_cited K lines n d (line_at K lines (c - 1)).right_side f

abbrev pub checks_factor : (K : Field) → List (Line K) → (n c : ℕ) → Expression K → Expression K → Bool
checks_factor K lines n c (multiple a e) (multiple b f) = is_number K a b && is_cited K lines n c e f
checks_factor K lines n c e f = false

abbrev pub checks_members : (K : Field) → List (Line K) → (n c d : ℕ) → Expression K → Expression K → Bool
checks_members K lines n c d (bracket_of a b) (bracket_of e f) = is_cited K lines n c a e && is_cited K lines n d b f
checks_members K lines n c d e f = false

abbrev pub checks_parts : (K : Field) → List (Line K) → ℕ → List ℕ → Expression K → Expression K → Bool
checks_parts K lines n cs (sum_of es) (sum_of fs) = are_cited K lines n cs (list_of es) (list_of fs)
checks_parts K lines n cs e f = false

-- members k and k + 1 exchanged
abbrev pub exchanged : (K : Field) → ℕ → List (Expression K) → List (Expression K)
exchanged K k es = take (k - 1) es ++ (member K es k ∷ member K es (k - 1) ∷ drop (k + 1) es)

abbrev pub checks_exchange : (K : Field) → ℕ → List (Expression K) → Expression K → Bool
checks_exchange K k es f = nat_le 1 k && nat_lt k (length es) && same_tree K (sum_all K (exchanged K k es)) f

-- member k, a sum, replaced by its members
abbrev pub checks_flat_at : (K : Field) → ℕ → List (Expression K) → Expression K → Expression K → Bool
checks_flat_at K k es (sum_of gs) f = same_tree K (sum_all K (take (k - 1) es ++ (list_of gs ++ drop k es))) f
checks_flat_at K k es e f = false

abbrev pub checks_flat : (K : Field) → ℕ → List (Expression K) → Expression K → Bool
checks_flat K k es f = nat_le 1 k && nat_le k (length es) && checks_flat_at K k es (member K es (k - 1)) f

abbrev pub checks_drop_at : (K : Field) → ℕ → List (Expression K) → Expression K → Expression K → Bool
checks_drop_at K k es none f = same_tree K (sum_all K (take (k - 1) es ++ drop k es)) f
checks_drop_at K k es e f = false

abbrev pub checks_drop : (K : Field) → ℕ → List (Expression K) → Expression K → Bool
checks_drop K k es f = nat_le 1 k && nat_le k (length es) && checks_drop_at K k es (member K es (k - 1)) f

-- two multiples of one expression, collected
abbrev pub checks_collect_at : (K : Field) → ℕ → List (Expression K) → Expression K → Expression K → Expression K → Bool
checks_collect_at K k es (multiple c e) (multiple a g) f =
    same_tree K e g && same_tree K (sum_all K (take (k - 1) es ++ (multiple (K.plus c a) e ∷ drop (k + 1) es))) f
checks_collect_at K k es e g f = false

abbrev pub checks_collect : (K : Field) → ℕ → List (Expression K) → Expression K → Bool
checks_collect K k es f = nat_le 1 k && nat_lt k (length es) && checks_collect_at K k es (member K es (k - 1)) (member K es k) f

abbrev pub checks_in_sum : (K : Field) → (List (Expression K) → Expression K → Bool) → Expression K → Expression K → Bool
checks_in_sum K test (sum_of es) f = test (list_of es) f
checks_in_sum K test e f = false

abbrev pub checks_empty : (K : Field) → List (Expression K) → Expression K → Bool
checks_empty K [] f = same_tree K none f
checks_empty K (e ∷ es) f = false

abbrev pub checks_single : (K : Field) → List (Expression K) → Expression K → Bool
checks_single K [] f = false
checks_single K (e ∷ []) f = same_tree K e f
checks_single K (e ∷ g ∷ es) f = false

abbrev pub checks_multiply : (K : Field) → Expression K → Expression K → Bool
checks_multiply K (multiple c (multiple a e)) f = same_tree K (multiple (K.times c a) e) f
checks_multiply K e f = false

abbrev pub checks_one : (K : Field) → Expression K → Expression K → Bool
checks_one K (multiple c e) f = is_number K c K.unit && same_tree K e f
checks_one K e f = false

abbrev pub checks_nought : (K : Field) → Expression K → Expression K → Bool
checks_nought K (multiple c e) f = is_number K c K.nought && same_tree K none f
checks_nought K e f = false

abbrev pub checks_spread : (K : Field) → Expression K → Expression K → Bool
checks_spread K (multiple c (sum_of es)) f = same_tree K (sum_all K (map (multiple c) (list_of es))) f
checks_spread K e f = false

abbrev pub checks_left_sum : (K : Field) → Expression K → Expression K → Bool
checks_left_sum K (bracket_of (sum_of es) g) f = same_tree K (sum_all K (map (λ e. bracket_of e g) (list_of es))) f
checks_left_sum K e f = false

abbrev pub checks_right_sum : (K : Field) → Expression K → Expression K → Bool
checks_right_sum K (bracket_of g (sum_of es)) f = same_tree K (sum_all K (map (bracket_of g) (list_of es))) f
checks_right_sum K e f = false

abbrev pub checks_left_times : (K : Field) → Expression K → Expression K → Bool
checks_left_times K (bracket_of (multiple c e) g) f = same_tree K (multiple c (bracket_of e g)) f
checks_left_times K e f = false

abbrev pub checks_right_times : (K : Field) → Expression K → Expression K → Bool
checks_right_times K (bracket_of g (multiple c e)) f = same_tree K (multiple c (bracket_of g e)) f
checks_right_times K e f = false

abbrev pub checks_swap : (K : Field) → Presentation K.Carrier → (s t : Parity) → Expression K → Expression K → Bool
checks_swap K P s t (bracket_of a b) f = has K P a s && has K P b t && same_tree K (multiple (K.minus (sign K s t)) (bracket_of b a)) f
checks_swap K P s t e f = false

abbrev pub checks_jacobi : (K : Field) → Presentation K.Carrier → (s t : Parity) → Expression K → Expression K → Bool
checks_jacobi K P s t (bracket_of a (bracket_of b c)) f =
    has K P a s && has K P b t && has_some K P c &&
    same_tree K (sum_all K (bracket_of (bracket_of a b) c ∷ multiple (sign K s t) (bracket_of b (bracket_of a c)) ∷ [])) f
checks_jacobi K P s t e f = false

abbrev pub checks_relation : (K : Field) → Presentation K.Carrier → ℕ → Expression K → Expression K → Bool
checks_relation K P k e f = nat_le 1 k && nat_le k (length P.relations) && same_tree K (left P (k - 1)) e && same_tree K (right P (k - 1)) f

abbrev pub checks_cube : (K : Field) → Presentation K.Carrier → Expression K → Expression K → Bool
checks_cube K P (bracket_of a (bracket_of b c)) f =
    is_number K (three K) K.nought && has K P a odd && same_tree K a b && same_tree K a c && same_tree K none f
checks_cube K P e f = false

-- line n of the lines, from 0, may cite those before it
abbrev pub checked : (K : Field) → Presentation K.Carrier → List (Line K) → ℕ → Rule → Expression K → Expression K → Bool
checked K P lines n same e f = same_tree K e f
checked K P lines n (turn c) e f = is_cited K lines n c f e
checked K P lines n (chain c d) e f = checks_chain K lines n c d e f
checked K P lines n (parts cs) e f = checks_parts K lines n cs e f
checked K P lines n (factor c) e f = checks_factor K lines n c e f
checked K P lines n (members c d) e f = checks_members K lines n c d e f
checked K P lines n (exchange k) e f = checks_in_sum K (checks_exchange K k) e f
checked K P lines n (flat k) e f = checks_in_sum K (checks_flat K k) e f
checked K P lines n (drop_member k) e f = checks_in_sum K (checks_drop K k) e f
checked K P lines n empty e f = checks_in_sum K (checks_empty K) e f
checked K P lines n single e f = checks_in_sum K (checks_single K) e f
checked K P lines n multiply e f = checks_multiply K e f
checked K P lines n one e f = checks_one K e f
checked K P lines n nought e f = checks_nought K e f
checked K P lines n (collect k) e f = checks_in_sum K (checks_collect K k) e f
checked K P lines n spread e f = checks_spread K e f
checked K P lines n left_sum e f = checks_left_sum K e f
checked K P lines n right_sum e f = checks_right_sum K e f
checked K P lines n left_times e f = checks_left_times K e f
checked K P lines n right_times e f = checks_right_times K e f
checked K P lines n (swap s t) e f = checks_swap K P s t e f
checked K P lines n (jacobi s t) e f = checks_jacobi K P s t e f
checked K P lines n (relation k) e f = checks_relation K P k e f
checked K P lines n cube e f = checks_cube K P e f

abbrev pub CheckedIsInstance : Field → Type 0
CheckedIsInstance K =
    (P : Presentation K.Carrier) (lines : List (Line K)) (n : ℕ) (r : Rule) (e f : Expression K) → IsOver P e → IsOver P f →
    (checked K P lines n r e f ≡ true) ↔ IsInstance K P (Cites K lines n) r e f
