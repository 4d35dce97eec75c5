-- The text of the view `why`: for each query a proof from the axioms, or that there is none. It is no function of the presentation and its table: any proof
-- will do.
--
--   reason_text r, reason_lines p r   what is said of a query, in words, and the lines of its proof
--   query_text p n r, queries_text p n rs   both of query n, which counts from 1; those of queries from n on
--   why_text p T reasons   the field and the weight; the queries
--   IsProofOf p q ls       an accepted proof whose last line has the sides of the query, in which no two lines have the same two sides, and each line
--                          but the last is cited by a later one
--   IsReason p T q r       `beyond` exactly where the weight is past the table's, else `different` exactly where the two values differ, else a proof
--   AreReasons             the same of each query, in order
--   IsWhyText p T text     the text is that of reasons, one for each query
--   ShowsReason p T q r    what is said, in the words of the algebra: the sides aren't derivably equal; they are, and so are those of each line
--   ShowsWhy p T text      the text is that of reasons that say so
--   WhyTextsShow           a text of the view shows so
use Rattle.std.specs.Prelude.{ℕ, ◌≡◌, ◌≤◌, ◌+◌, List, [], ◌∷◌, ◌++◌, All, length, codes, decimal}
use Rattle.fpl_model.specs.declared.presentation.Presentation.{Presentation}
use Rattle.fpl_model.specs.declared.presentation.Equation.{Equation}
use Rattle.fpl_model.specs.Sound.{IsSound}
use Rattle.fpl_lines.specs.declared.line.Line.{Line}
use Rattle.fpl_lines.specs.Meaning.{AreLines}
use Rattle.fpl_why.specs.Checking.{AreInstances}
use Rattle.fpl_why.specs.Texts.{proof_text}
use Rattle.fpl_forms.specs.Distinct.{line_number, HasSides, AreDistinct}
use Rattle.fpl_needed.specs.Needed.{NoneIsIdle}
use Rattle.fpl_table.specs.Plain.{PlainTable}
use Rattle.fpl_table.specs.Standard.{IsTableOf}
use Rattle.fpl_print.specs.Lines.{head_line}
use Rattle.plain_derivations.specs.Derivations.{IsDerived}
use Rattle.fpl_reasons.specs.declared.why.Reason.{Reason}
use Rattle.fpl_reasons.specs.declared.why.Reason.TheVariants.{Beyond, Different, Proved}
use Rattle.fpl_queries.specs.Queries.{IsBeyond, HaveOneValue, AreEqual}

abbrev pub reason_text : Reason → List ℕ
reason_text Beyond = codes "beyond"
reason_text Different = codes "different"
reason_text (Proved ls) = codes "lines " ++ decimal (length ls)

abbrev pub reason_lines : Presentation → Reason → List ℕ
reason_lines p Beyond = []
reason_lines p Different = []
reason_lines p (Proved ls) = proof_text p ls

abbrev pub query_text : Presentation → ℕ → Reason → List ℕ
query_text p n r = codes "query " ++ decimal n ++ codes " " ++ reason_text r ++ codes "\n" ++ reason_lines p r

abbrev pub queries_text : Presentation → ℕ → List Reason → List ℕ
queries_text p n [] = []
queries_text p n (r ∷ rs) = query_text p n r ++ queries_text p (n + 1) rs

abbrev pub why_text : Presentation → (weight : ℕ) → List Reason → List ℕ
why_text p weight rs = head_line (codes "why") p.field weight ++ queries_text p 1 rs ++ codes "end\n"

pub record IsProofOf (p : Presentation) (q : Equation) (ls : List Line) : Type 0 where
  pub over : AreLines p ls
  pub accepted : AreInstances p ls
  pub distinct : AreDistinct ls
  pub some : 1 ≤ length ls
  pub proves : HasSides (line_number ls (length ls)) q.left q.right
  pub needed : NoneIsIdle ls

pub data IsReason (p : Presentation) (T : PlainTable) (q : Equation) : Reason → Type 0 where
  is_beyond_limit : IsBeyond p T q → IsReason p T q Beyond
  is_different : (IsBeyond p T q → ⊥) → (HaveOneValue p T q → ⊥) → IsReason p T q Different
  is_proved : (IsBeyond p T q → ⊥) → HaveOneValue p T q → (ls : List Line) → IsProofOf p q ls → IsReason p T q (Proved ls)

abbrev pub AreReasons : Presentation → PlainTable → List Equation → List Reason → Type 0
AreReasons p T [] [] = Unit {0}
AreReasons p T [] (r ∷ rs) = ⊥
AreReasons p T (q ∷ qs) [] = ⊥
AreReasons p T (q ∷ qs) (r ∷ rs) = IsReason p T q r × AreReasons p T qs rs

abbrev pub IsWhyText : Presentation → PlainTable → List ℕ → Type 0
IsWhyText p T text = (rs : List Reason) × AreReasons p T p.queries rs × (text ≡ why_text p T.weight rs)

pub data ShowsReason (p : Presentation) (T : PlainTable) (q : Equation) : Reason → Type 0 where
  shows_beyond : IsBeyond p T q → ShowsReason p T q Beyond
  shows_different : (IsBeyond p T q → ⊥) → (AreEqual p q → ⊥) → ShowsReason p T q Different
  shows_proof : (IsBeyond p T q → ⊥) → AreEqual p q → (ls : List Line) → IsProofOf p q ls → All (IsDerived p) ls → ShowsReason p T q (Proved ls)

abbrev pub ShowReasons : Presentation → PlainTable → List Equation → List Reason → Type 0
ShowReasons p T [] [] = Unit {0}
ShowReasons p T [] (r ∷ rs) = ⊥
ShowReasons p T (q ∷ qs) [] = ⊥
ShowReasons p T (q ∷ qs) (r ∷ rs) = ShowsReason p T q r × ShowReasons p T qs rs

abbrev pub ShowsWhy : Presentation → PlainTable → List ℕ → Type 0
ShowsWhy p T text = (rs : List Reason) × ShowReasons p T p.queries rs × (text ≡ why_text p T.weight rs)

abbrev pub WhyTextsShow : Type 0
WhyTextsShow = (p : Presentation) (T : PlainTable) (text : List ℕ) → IsSound p → IsTableOf p T.weight T → IsWhyText p T text → ShowsWhy p T text
