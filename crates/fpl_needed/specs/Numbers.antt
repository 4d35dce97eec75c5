-- Marks of the lines that are needed, and their new numbers: lists with a number for each line, which is 0 where it isn't needed.
--
--   IsWithin n c, AreWithin n cs   there is a line c among n lines; so it is with each
--   why_at ls i, cited_at ls i     the rule of line i, from 0, and the lines that it cites
--   CiteEarlier ls                 each line cites only lines before it
--   IsAt xs i                      line i, from 0, has a mark
--   marked xs cs                   with a mark at each of the lines cs
--   IsMarked ls xs i               the last line has a mark, and from line i on, each line that a marked one cites; the others are cited by marked lines
--   numbered k xs                  the marks replaced by k + 1, k + 2, ..
--   AreNumbers ls new              the new numbers of the lines that the last one needs
--   number_in xs c                 the number at line c, from 1
--   IsRenumbered f l m             m has the sides of l, and its rule with other numbers
--   AreKept f ls xs ms             the lines of ls with a mark, renumbered, are ms
use Rattle.std.specs.Prelude.{ℕ, zero, suc, ◌≡◌, ◌≤◌, ◌<◌, ◌+◌, ◌-◌, List, [], ◌∷◌, All, length, get_or, slice_index, slice_set}
use Rattle.std.specs.List.{Contains}
use Rattle.math_proofs.specs.Renumbering.{renumbered}
use Rattle.fpl_lines.specs.declared.line.Line.{Line}
use Rattle.fpl_lines.specs.Meaning.{rule_in}
use Rattle.fpl_forms.specs.Ledgers.{no_line}
use Rattle.fpl_needed.specs.Needed.{cited}

abbrev pub IsWithin : ℕ → ℕ → Type 0
IsWithin n c = (1 ≤ c) × (c ≤ n)

abbrev pub AreWithin : ℕ → List ℕ → Type 0
AreWithin n cs = All (IsWithin n) cs

abbrev pub line_at : List Line → ℕ → Line
line_at ls i = get_or ls i no_line

abbrev pub cited_at : List Line → ℕ → List ℕ
cited_at ls i = cited (rule_in (line_at ls i).why)

abbrev pub CiteEarlier : List Line → Type 0
CiteEarlier ls = (i : ℕ) → i < length ls → AreWithin i (cited_at ls i)

abbrev pub IsAt : List ℕ → ℕ → Type 0
IsAt xs i = 0 < slice_index xs i

abbrev pub marked : List ℕ → List ℕ → List ℕ
marked xs [] = xs
marked xs (c ∷ cs) = marked (slice_set xs (c - 1) 1) cs

pub record IsNeededBy (ls : List Line) (xs : List ℕ) (i : ℕ) : Type 0 where
  pub by : ℕ
  pub after : i < by
  pub within : by < length ls
  pub needed : IsAt xs by
  pub cites : Contains (cited_at ls by) (i + 1)

pub record IsMarked (ls : List Line) (xs : List ℕ) (i : ℕ) : Type 0 where
  pub count : length xs ≡ length ls
  pub last : IsAt xs (length ls - 1)
  pub closed : (j : ℕ) → i ≤ j → j < length ls → IsAt xs j → All (λ c. IsAt xs (c - 1)) (cited_at ls j)
  pub used : (j : ℕ) → j + 1 < length ls → IsAt xs j → IsNeededBy ls xs j

abbrev pub numbered : ℕ → List ℕ → List ℕ
numbered k [] = []
numbered k (zero ∷ xs) = zero ∷ numbered k xs
numbered k (suc x ∷ xs) = suc k ∷ numbered (suc k) xs

pub record AreNumbers (ls : List Line) (new : List ℕ) : Type 0 where
  pub needed : List ℕ
  pub marked : IsMarked ls needed 0
  pub are : new ≡ numbered 0 needed

abbrev pub number_in : List ℕ → ℕ → ℕ
number_in xs c = slice_index xs (c - 1)

pub record IsRenumbered (f : ℕ → ℕ) (l m : Line) : Type 0 where
  pub left : m.left ≡ l.left
  pub right : m.right ≡ l.right
  pub why : rule_in m.why ≡ renumbered f (rule_in l.why)

abbrev pub AreKept : (ℕ → ℕ) → List Line → List ℕ → List Line → Type 0
AreKept f [] xs [] = Unit {0}
AreKept f [] xs (m ∷ ms) = ⊥
AreKept f (l ∷ ls) [] ms = ⊥
AreKept f (l ∷ ls) (zero ∷ xs) ms = AreKept f ls xs ms
AreKept f (l ∷ ls) (suc x ∷ xs) [] = ⊥
AreKept f (l ∷ ls) (suc x ∷ xs) (m ∷ ms) = IsRenumbered f l m × AreKept f ls xs ms
