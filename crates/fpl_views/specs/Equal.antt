-- The view `equal`: is each query's equation a consequence of the relations?
--   same_row, compared: rows with the same numbers; the answer by the values of both sides
--   answer_of, answers_of: the answer to a query, and those to all, in order: the value of the left side is formed, then that of the right; or the first
--   operation that doesn't fit
--   text_of_equal: the text of the answers
--   IsAnswer p T q a: what an answer says of a query
--   ShowsEqual p T text: the text is that of answers, one for each query, in order: `beyond` exactly where the weight is past the limit, else `equal` exactly
--   where the two sides are derivably equal, else the values of both sides
use Rattle.std.specs.Prelude.{ℕ, ◌≡◌, List, [], ◌∷◌, Bool, true, false, ◌&&◌, Result, Ok, if◌then◌else◌}
use Rattle.fpl_numbers.specs.declared.number.Num.{Num}
use Rattle.fpl_numbers.specs.declared.number.Unfit.{Unfit}
use Rattle.fpl_numbers.specs.Results.{and_then, map_ok}
use Rattle.fpl_numbers.specs.Kinds.{field_of}
use Rattle.fpl_rows.specs.Meaning.{vector_in}
use Rattle.math_algebra.specs.Table.{val}
use Rattle.fpl_model.specs.declared.presentation.Presentation.{Presentation}
use Rattle.fpl_model.specs.declared.presentation.Equation.{Equation}
use Rattle.fpl_model.specs.Meaning.{plain, tree_in}
use Rattle.fpl_table.specs.Plain.{PlainTable, table_in}
use Rattle.fpl_table.specs.Value.{value_of}
use Rattle.fpl_check.specs.ClosedRows.{same_num}
use Rattle.fpl_print.specs.EqualText.{Answer, same, different, beyond, equal_text}
use Rattle.fpl_queries.specs.Queries.{is_beyond, IsBeyond, AreEqual}
use Rattle.fpl_reply.specs.declared.view_fault.ViewFault.{ViewFault}
use Rattle.fpl_views.specs.Overflows.{in_view}

abbrev pub same_row : List Num → List Num → Bool
same_row [] [] = true
same_row [] (y ∷ ys) = false
same_row (x ∷ xs) [] = false
same_row (x ∷ xs) (y ∷ ys) = same_num x y && same_row xs ys

abbrev pub compared : List Num → List Num → Answer
compared left right = if same_row left right then same else different left right

abbrev pub answer_by : PlainTable → Equation → Result Answer Unfit
answer_by T q = and_then (λ left. map_ok (compared left) (value_of T (plain q.right))) (value_of T (plain q.left))

abbrev pub answer_of : Presentation → PlainTable → Equation → Result Answer Unfit
answer_of p T q = if is_beyond p T q then Ok beyond else answer_by T q

abbrev pub answers_of : Presentation → PlainTable → List Equation → Result (List Answer) Unfit
answers_of p T [] = Ok []
answers_of p T (q ∷ qs) = and_then (λ a. map_ok (λ rest. a ∷ rest) (answers_of p T qs)) (answer_of p T q)

abbrev pub text_of_equal : Presentation → PlainTable → Result (List ℕ) ViewFault
text_of_equal p T = in_view (map_ok (equal_text T) (answers_of p T p.queries))

pub data IsAnswer (p : Presentation) (T : PlainTable) (q : Equation) : Answer → Type 0 where
  is_beyond_limit : IsBeyond p T q → IsAnswer p T q beyond
  is_same : (IsBeyond p T q → ⊥) → AreEqual p q → IsAnswer p T q same
  is_different : (left right : List Num) → (IsBeyond p T q → ⊥) → (AreEqual p q → ⊥) →
      vector_in p.field left ≡ val (field_of p.field) (table_in p.field T) (tree_in p.field q.left) →
      vector_in p.field right ≡ val (field_of p.field) (table_in p.field T) (tree_in p.field q.right) →
      IsAnswer p T q (different left right)

abbrev pub AreAnswers : Presentation → PlainTable → List Equation → List Answer → Type 0
AreAnswers p T [] [] = Unit {0}
AreAnswers p T [] (a ∷ rest) = ⊥
AreAnswers p T (q ∷ qs) [] = ⊥
AreAnswers p T (q ∷ qs) (a ∷ rest) = IsAnswer p T q a × AreAnswers p T qs rest

abbrev pub ShowsEqual : Presentation → PlainTable → List ℕ → Type 0
ShowsEqual p T text = (answers : List Answer) × AreAnswers p T p.queries answers × (text ≡ equal_text T answers)
