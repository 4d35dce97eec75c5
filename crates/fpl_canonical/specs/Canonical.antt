-- The canonical text of a presentation: one line for each item, in which every generator has its weight and every relation both sides.
--
--   opening b, closing b, in_parentheses b t   parentheses where b says so, and the text t in them
--   encloses_sum, encloses_multiple   whether an expression that stands there needs parentheses: a sum as a member or a factor, a multiple as a factor
--   own_sign stand c       the sign of a multiple's number, which the sum writes where the multiple is its member
--   begins_below e         whether a member of a sum is a multiple whose number is below 0
--   expression_text names stand e   the text of a tree: a name, 0, [A,B], C*A, or a sum
--   is_small es, small_opening b, in_small b t   whether a sum has fewer than two members, as in no presentation; it stands in sum( and )
--   sum_text names first es         the members of a sum, each after its sign
--   side_text p e          the text of a side of an equation, or of an ideal element
--   field_line, generator_line, equation_line, ideal_line   the lines of these items
--   lines line xs          the lines of a list's members, in order
--   canonical_of p         field; generators; relations; ideal elements; queries
use Rattle.std.specs.Prelude.{ℕ, List, [], ◌∷◌, ◌++◌, Bool, true, false, nat_lt, if◌then◌else◌, codes, decimal}
use Rattle.fpl_numbers.specs.declared.number.Num.{Num}
use Rattle.fpl_numbers.specs.declared.number.Kind.{Kind}
use Rattle.math_algebra.specs.Tree.{Tree, Trees, gen, none, sum_of, multiple, bracket_of, end, more}
use Rattle.fpl_model.specs.Meaning.{plain, parity_in}
use Rattle.fpl_model.specs.declared.expr.Expr.{Expr}
use Rattle.fpl_model.specs.declared.presentation.Generator.{Generator}
use Rattle.fpl_model.specs.declared.presentation.Equation.{Equation}
use Rattle.fpl_model.specs.declared.presentation.Presentation.{Presentation}
use Rattle.fpl_model.specs.Sound.{many}
use Rattle.fpl_canonical.specs.declared.expression.Stand.{Stand}
use Rattle.fpl_canonical.specs.declared.expression.Stand.TheVariants.{Alone, Member, Factor}
use Rattle.fpl_spelling.specs.Spelling.{field_text, parity_text, names_of, name_text, is_below_nought, magnitude_text, sign_text}

abbrev pub opening : Bool → List ℕ
opening b = if b then codes "(" else []

abbrev pub closing : Bool → List ℕ
closing b = if b then codes ")" else []

abbrev pub in_parentheses : Bool → List ℕ → List ℕ
in_parentheses b t = opening b ++ t ++ closing b

abbrev pub encloses_sum : Stand → Bool
encloses_sum Alone = false
encloses_sum Member = true
encloses_sum Factor = true

abbrev pub encloses_multiple : Stand → Bool
encloses_multiple Alone = false
encloses_multiple Member = false
encloses_multiple Factor = true

abbrev pub own_sign : Stand → Num → List ℕ
own_sign Alone c = sign_text true (is_below_nought c)
own_sign Member c = []
own_sign Factor c = sign_text true (is_below_nought c)

abbrev pub begins_below : Tree Num → Bool
begins_below (gen g) = false
begins_below none = false
begins_below (sum_of es) = false
begins_below (multiple c e) = is_below_nought c
begins_below (bracket_of a b) = false

abbrev pub is_small : Trees Num → Bool
is_small es = nat_lt (many es) 2

abbrev pub small_opening : Bool → List ℕ
small_opening b = if b then codes "sum(" else []

abbrev pub in_small : Bool → List ℕ → List ℕ
in_small b t = small_opening b ++ t ++ closing b

abbrev mutual
  pub expression_text : (names : List (List ℕ)) → Stand → Tree Num → List ℕ
  expression_text names stand (gen g) = name_text names g
  expression_text names stand none = codes "0"
  expression_text names stand (sum_of es) = in_parentheses (encloses_sum stand) (in_small (is_small es) (sum_text names true es))
  expression_text names stand (multiple c e) =
      in_parentheses (encloses_multiple stand) (own_sign stand c ++ magnitude_text c ++ codes "*" ++ expression_text names Factor e)
  expression_text names stand (bracket_of a b) = codes "[" ++ expression_text names Alone a ++ codes "," ++ expression_text names Alone b ++ codes "]"

  pub sum_text : (names : List (List ℕ)) → (first : Bool) → Trees Num → List ℕ
  sum_text names first end = []
  sum_text names first (more e es) = sign_text first (begins_below e) ++ expression_text names Member e ++ sum_text names false es

abbrev pub side_text : Presentation → Expr → List ℕ
side_text p e = expression_text (names_of p) Alone (plain e)

abbrev pub field_line : Kind → List ℕ
field_line k = codes "field " ++ field_text k ++ codes ";\n"

abbrev pub generator_line : Generator → List ℕ
generator_line g = parity_text (parity_in g.parity) ++ codes " " ++ g.name ++ codes ":" ++ decimal g.weight ++ codes ";\n"

abbrev pub equation_line : (word : List ℕ) → Presentation → Equation → List ℕ
equation_line word p q = word ++ side_text p q.left ++ codes " = " ++ side_text p q.right ++ codes ";\n"

abbrev pub ideal_line : Presentation → Expr → List ℕ
ideal_line p e = codes "ideal " ++ side_text p e ++ codes ";\n"

abbrev pub lines : {A : Type 0} → (A → List ℕ) → List A → List ℕ
lines line [] = []
lines line (x ∷ xs) = line x ++ lines line xs

abbrev pub canonical_of : Presentation → List ℕ
canonical_of p =
    field_line p.field
    ++ lines generator_line p.generators
    ++ lines (equation_line (codes "relation ") p) p.relations
    ++ lines (ideal_line p) p.ideals
    ++ lines (equation_line (codes "equal ") p) p.queries
