-- The text of the view log: for each weight its steps and its closed rows. Steps, relations, basis elements and symbols count from 1.
--   origin_text: R and a relation's number, J(i,j,k), or C(i); rows of other lists have no name
--   term_text: what a step takes off: - or +, the magnitude of the factor, and the step that it cites
--   terms_text: all that it takes off
--   step_text: of an Insert step its scale times its origin less the terms; of a Close step the step that it closes less the terms
--   step_line, closed_line: sN = STEP, where n counts from 0; row and a combination of the weight's symbols
--   symbols_at T w: the symbols of a weight
--   symbol_text, symbol_name: the name of a generator, or [bI,bJ]; that of a symbol by its number, and nothing where there is none
--   coefficient_text, coefficients_text: a term of a closed row; all of them; k counts from 0
--   section_lines: the steps and the closed rows of a section
--   weight_lines: the number of a weight's symbols, then the lines of its section, if there is one; v counts from 0
--   log_text: the field and the weight; the lines of each weight
use Rattle.std.specs.Prelude.{ℕ, ◌+◌, ◌-◌, List, [], ◌++◌, length, get_or, nat_eq, Bool, true, false, if◌then◌else◌, nat_lt, codes, decimal}
use Rattle.fpl_numbers.specs.declared.number.Num.{Num}
use Rattle.fpl_log.specs.declared.terms.Term.{Term}
use Rattle.fpl_log.specs.declared.step.Origin.{Origin}
use Rattle.fpl_log.specs.declared.step.Origin.TheVariants.{Relation, Jacobi, Cube, Row}
use Rattle.fpl_log.specs.declared.step.Step.{Step}
use Rattle.fpl_log.specs.declared.step.Step.TheVariants.{Insert, Close}
use Rattle.fpl_log.specs.declared.closed.Coefficient.{Coefficient}
use Rattle.fpl_log.specs.declared.section.Section.{Section}
use Rattle.math_algebra.specs.Table.{Symbol, of_generator, of_pair}
use Rattle.math_algebra.specs.Symbols.{symbols_of, no_symbol}
use Rattle.fpl_table.specs.Plain.{PlainTable, table_in, shell_in}
use Rattle.fpl_spelling.specs.Spelling.{number_text, magnitude_text, is_below_nought}
use Rattle.fpl_print.specs.Combinations as combinations
use Rattle.fpl_print.specs.Lines.{head_line, text_at}
use Rattle.fpl_print.specs.TableText.{text_of, pair_name}

abbrev pub origin_text : Origin → List ℕ
origin_text (Relation r) = codes "R" ++ decimal r
origin_text (Jacobi i j k) = codes "J(" ++ decimal i ++ codes "," ++ decimal j ++ codes "," ++ decimal k ++ codes ")"
origin_text (Cube i) = codes "C(" ++ decimal i ++ codes ")"
origin_text (Row n) = []

-- what is taken off has the other sign
abbrev pub taken_sign : (below : Bool) → List ℕ
taken_sign true = codes " + "
taken_sign false = codes " - "

abbrev pub term_text : Term → List ℕ
term_text t = taken_sign (is_below_nought t.factor) ++ magnitude_text t.factor ++ codes "*s" ++ decimal t.step

abbrev pub terms_text : List Term → List ℕ
terms_text terms = text_of (length terms) (text_at term_text terms)

abbrev pub step_text : Step → List ℕ
step_text (Insert origin terms scale) = number_text scale ++ codes "*( " ++ origin_text origin ++ terms_text terms ++ codes " )"
step_text (Close of terms) = codes "s" ++ decimal of ++ terms_text terms

abbrev pub step_line : List Step → ℕ → List ℕ
step_line steps n = codes "s" ++ decimal (n + 1) ++ codes " = " ++ text_at step_text steps n ++ codes "\n"

abbrev pub symbols_at : PlainTable → ℕ → List Symbol
symbols_at T w = symbols_of (shell_in T.kind T) (table_in T.kind T) w

abbrev pub symbol_text : (names : List (List ℕ)) → Symbol → List ℕ
symbol_text names (of_generator g) = get_or names g []
symbol_text names (of_pair i j) = pair_name i j

abbrev pub symbol_name : (names : List (List ℕ)) → List Symbol → ℕ → List ℕ
symbol_name names symbols s = if nat_lt (s - 1) (length symbols) then symbol_text names (get_or symbols (s - 1) no_symbol) else []

abbrev pub coefficient_text : (names : List (List ℕ)) → List Symbol → (first : Bool) → Coefficient → List ℕ
coefficient_text names symbols first c = combinations.term_text first c.number (symbol_name names symbols c.symbol)

abbrev pub coefficients_text : (names : List (List ℕ)) → List Symbol → List Coefficient → List ℕ
coefficients_text names symbols row = text_of (length row) (λ k. text_at (coefficient_text names symbols (nat_eq k 0)) row k)

abbrev pub closed_line : (names : List (List ℕ)) → List Symbol → List (List Coefficient) → ℕ → List ℕ
closed_line names symbols closed k = codes "row " ++ text_at (coefficients_text names symbols) closed k ++ codes "\n"

abbrev pub section_lines : (names : List (List ℕ)) → List Symbol → Section → List ℕ
section_lines names symbols s = text_of (length s.steps) (step_line s.steps) ++ text_of (length s.closed) (closed_line names symbols s.closed)

abbrev pub weight_lines : (names : List (List ℕ)) → PlainTable → List Section → ℕ → List ℕ
weight_lines names T sections v =
    codes "weight " ++ decimal (v + 1) ++ codes " symbols " ++ decimal (length (symbols_at T (v + 1))) ++ codes "\n"
    ++ text_at (section_lines names (symbols_at T (v + 1))) sections v

abbrev pub log_text : (names : List (List ℕ)) → PlainTable → List Section → List ℕ
log_text names T sections = head_line (codes "log") T.kind T.weight ++ text_of T.weight (weight_lines names T sections) ++ codes "end\n"
