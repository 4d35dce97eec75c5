-- The text of the view equal: what is answered to each query.
--   Answer: both sides of a query have one value; or they have these two; or the query is past the table's weight
--   answer_in: that of an answer of code
--   AreOfKind k answers: the numbers of the values are canonical and fit
--   value_text, values_text, answer_text: a value after a word; equal, the two values as combinations of basis elements, or beyond
--   answer_line answers k: query N and its answer; k counts from 0
--   equal_text: the field and the weight; a line for each query
use Rattle.std.specs.Prelude.{ℕ, ◌+◌, List, ◌++◌, length, All, codes, decimal}
use Rattle.fpl_numbers.specs.declared.number.Num.{Num}
use Rattle.fpl_numbers.specs.declared.number.Kind.{Kind}
use Rattle.fpl_scalar.specs.Vectors.{AreElements}
use Rattle.fpl_table.specs.Plain.{PlainTable}
use Rattle.fpl_print.specs.declared.answers.Answer as code
use Rattle.fpl_print.specs.declared.answers.Answer.TheVariants.{Same, Different, Beyond}
use Rattle.fpl_print.specs.Combinations.{combination_text}
use Rattle.fpl_print.specs.Lines.{head_line, text_at}
use Rattle.fpl_print.specs.TableText.{text_of, basis_name}

pub data Answer : Type 0 where
  same : Answer
  different : (left right : List Num) → Answer
  beyond : Answer

abbrev pub answer_in : {F E S : Type 0} → code.Answer F E S → Answer
answer_in Same = same
answer_in (Different left right) = different left right
answer_in Beyond = beyond

abbrev pub IsOfKind : Kind → Answer → Type 0
IsOfKind k same = Unit {0}
IsOfKind k (different left right) = AreElements k left × AreElements k right
IsOfKind k beyond = Unit {0}

abbrev pub AreOfKind : Kind → List Answer → Type 0
AreOfKind k answers = All (IsOfKind k) answers

abbrev pub value_text : (word : List ℕ) → List Num → List ℕ
value_text word value = word ++ combination_text basis_name value

abbrev pub values_text : (left right : List Num) → List ℕ
values_text left right = value_text (codes "different left ") left ++ value_text (codes " right ") right

abbrev pub answer_text : Answer → List ℕ
answer_text same = codes "equal"
answer_text (different left right) = values_text left right
answer_text beyond = codes "beyond"

abbrev pub answer_line : List Answer → ℕ → List ℕ
answer_line answers k = codes "query " ++ decimal (k + 1) ++ codes " " ++ text_at answer_text answers k ++ codes "\n"

abbrev pub equal_text : PlainTable → List Answer → List ℕ
equal_text T answers = head_line (codes "equal") T.kind T.weight ++ text_of (length answers) (answer_line answers) ++ codes "end\n"
