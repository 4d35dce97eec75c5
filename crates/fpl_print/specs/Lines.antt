-- Lines that several texts share.
--   head_line word kind weight: WORD FIELD through D
--   count_line word n: a word and a number
--   text_if text x, text_at text xs k: the text of what is there; that of item k of a list, which counts from 0; nothing where there is none
use Rattle.std.specs.Prelude.{ℕ, List, [], ◌++◌, slice_get, Option, Some, None, codes, decimal}
use Rattle.fpl_numbers.specs.declared.number.Kind.{Kind}
use Rattle.fpl_spelling.specs.Spelling.{field_text}

abbrev pub head_line : (word : List ℕ) → Kind → (weight : ℕ) → List ℕ
head_line word kind weight = word ++ codes " " ++ field_text kind ++ codes " through " ++ decimal weight ++ codes "\n"

abbrev pub count_line : (word : List ℕ) → ℕ → List ℕ
count_line word n = word ++ decimal n ++ codes "\n"

abbrev pub text_if : {X : Type 0} → (X → List ℕ) → Option X → List ℕ
text_if text None = []
text_if text (Some x) = text x

abbrev pub text_at : {X : Type 0} → (X → List ℕ) → List X → ℕ → List ℕ
text_at text xs k = text_if text (slice_get xs k)
