-- Bracket expressions and presentations, over numbers of any type N. Generators and relations count from 0.
--
--   Tree, Trees              an expression: a generator, 0, a sum of expressions, a multiple, or a bracket
--   trees                    the expressions of a list, in order
--   Parity, parity_sum       even or odd, and the sum of two parities
--   Generator                the weight and the parity of a generator
--   Presentation             generators and relations; a relation is the pair of its two sides
--   generator, left, right   a generator, and the sides of a relation, by number
--   IsOver, AreOver          an expression over P: each of its generators is one of P's
use Rattle.std.specs.Prelude.{ℕ, List, [], ◌∷◌, ◌<◌, length, get_or}

mutual
  pub data Tree (N : Type 0) : Type 0 where
    gen : ℕ → Tree N
    none : Tree N
    sum_of : Trees N → Tree N
    multiple : N → Tree N → Tree N
    bracket_of : Tree N → Tree N → Tree N

  pub data Trees (N : Type 0) : Type 0 where
    end : Trees N
    more : Tree N → Trees N → Trees N

abbrev pub trees : {N : Type 0} → List (Tree N) → Trees N
trees [] = end
trees (e ∷ es) = more e (trees es)

pub data Parity : Type 0 where
  even odd : Parity

abbrev pub parity_sum : Parity → Parity → Parity
parity_sum even t = t
parity_sum odd even = odd
parity_sum odd odd = even

pub record Generator : Type 0 where
  pub weight : ℕ
  pub parity : Parity

pub record Presentation (N : Type 0) : Type 0 where
  pub generators : List Generator
  pub relations : List (Tree N × Tree N)

abbrev pub no_generator : Generator
no_generator = record { weight = 1; parity = even }

abbrev pub generator : {N : Type 0} → Presentation N → ℕ → Generator
generator P g = get_or P.generators g no_generator

abbrev pub left : {N : Type 0} → Presentation N → ℕ → Tree N
left P k = (get_or P.relations k (none, none)).0

abbrev pub right : {N : Type 0} → Presentation N → ℕ → Tree N
right P k = (get_or P.relations k (none, none)).1

module _ {N : Type 0} (P : Presentation N) where
  mutual
    pub data IsOver : Tree N → Type 0 where
      over_gen : (g : ℕ) → g < length P.generators → IsOver (gen g)
      over_none : IsOver none
      over_sum : {es : Trees N} → AreOver es → IsOver (sum_of es)
      over_multiple : {c : N} {e : Tree N} → IsOver e → IsOver (multiple c e)
      over_bracket : {e f : Tree N} → IsOver e → IsOver f → IsOver (bracket_of e f)

    pub data AreOver : Trees N → Type 0 where
      over_end : AreOver end
      over_more : {e : Tree N} {es : Trees N} → IsOver e → AreOver es → AreOver (more e es)
