-- Lines, no two of which have the same two sides, and how they are found.
--
--   line_number ls n    line n, from 1
--   HasSides l e f      the line has these two sides
--   HaveNot ls e f      no line has them
--   AreDistinct ls      no two lines have the same two sides
--   mixed               a number of two
--   number_key          that of a number
--   key_of, keys_of     that of a tree, and of some
--   sides_key e f       that of two sides
--   key_at ls n         that of the sides of line n
--   IsLast k h n m      m is the greatest of the numbers 1 to n that k takes to h, and 0 where there is none
--   IsIndexed           the last line of each key, and for each line the one before it with the same key
use Rattle.std.specs.Prelude.{ℕ, ◌≡◌, ◌≢◌, ◌≤◌, ◌<◌, ◌+◌, ◌-◌, ◌*◌, ◌%◌, Option, unwrap_or, List, length, get_or}
use Rattle.fpl_numbers.specs.declared.number.Num.{Num}
use Rattle.fpl_numbers.specs.Numbers.{residue_of}
use Rattle.math_algebra.specs.Tree.{Tree, Trees, gen, none, sum_of, multiple, bracket_of, end, more}
use Rattle.fpl_model.specs.declared.expr.Expr.{Expr}
use Rattle.fpl_model.specs.Meaning.{plain}
use Rattle.fpl_lines.specs.declared.line.Line.{Line}
use Rattle.fpl_forms.specs.Ledgers.{no_line}

abbrev pub line_number : List Line → ℕ → Line
line_number ls n = get_or ls (n - 1) no_line

abbrev pub HasSides : Line → Expr → Expr → Type 0
HasSides l e f = (l.left ≡ e) × (l.right ≡ f)

abbrev pub HaveNot : List Line → Expr → Expr → Type 0
HaveNot ls e f = (n : ℕ) → 1 ≤ n → n ≤ length ls → HasSides (line_number ls n) e f → ⊥

abbrev pub AreDistinct : List Line → Type 0
AreDistinct ls = (n m : ℕ) → 1 ≤ n → n < m → m ≤ length ls → HasSides (line_number ls n) (line_number ls m).left (line_number ls m).right → ⊥

-- any numbers would do here: they only spread keys
unfoldable pub mixed : ℕ → ℕ → ℕ
mixed a b = (a * 1000003 + b * 65599 + 1) % 4294967291

unfoldable pub number_key : Num → ℕ
number_key c = residue_of c % 4294967291

unfoldable mutual
  pub key_of : Tree Num → ℕ
  key_of (gen g) = mixed 1 g
  key_of none = 2
  key_of (sum_of es) = mixed 3 (keys_of es)
  key_of (multiple c e) = mixed (mixed 4 (number_key c)) (key_of e)
  key_of (bracket_of a b) = mixed (mixed 5 (key_of a)) (key_of b)

  pub keys_of : Trees Num → ℕ
  keys_of end = 6
  keys_of (more e es) = mixed (key_of e) (keys_of es)

abbrev pub sides_key : Expr → Expr → ℕ
sides_key e f = mixed (key_of (plain e)) (key_of (plain f))

abbrev pub key_at : List Line → ℕ → ℕ
key_at ls n = sides_key (line_number ls n).left (line_number ls n).right

pub record IsLast (k : ℕ → ℕ) (h n m : ℕ) : Type 0 where
  pub within : m ≤ n
  pub key : 0 < m → k m ≡ h
  pub none_after : (i : ℕ) → m < i → i ≤ n → k i ≢ h

pub record IsIndexed (ls : List Line) (last : ℕ → Option ℕ) (before : List ℕ) : Type 0 where
  pub count : length before ≡ length ls
  pub lasts : (h : ℕ) → IsLast (key_at ls) h (length ls) (unwrap_or (last h) 0)
  pub befores : (n : ℕ) → 1 ≤ n → n ≤ length ls → IsLast (key_at ls) (key_at ls n) (n - 1) (get_or before (n - 1) 0)
