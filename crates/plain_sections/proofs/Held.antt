-- The laws, at a held table.
use Rattle.std.specs.Prelude.{◌≡◌, ℕ, ◌+◌, ◌≤◌, List, [], ◌∷◌, length, Option, Some, Ok, Bool, true, false, All, if◌then◌else◌}
use mathlib.Core.Logic.{inl, inr}
use mathlib.Core.Path.{sym, refl, ap, ◌∙◌, subst}
use native.Mathlib.Omega.{arith}
use Rattle.std.proofs.lemmas.List.{length-map}
use Rattle.fpl_numbers.specs.declared.number.Num.{Num}
use Rattle.fpl_numbers.specs.declared.number.Kind.{Kind}
use Rattle.fpl_numbers.specs.Numbers.{IsElement, is_nought}
use Rattle.fpl_numbers.specs.Results.{map_ok}
use Rattle.fpl_scalar.specs.Vectors.{AreElements}
use Rattle.fpl_rows.specs.Meaning.{IsRowOf, AreRows}
use Rattle.fpl_rows.proofs.Fits.{part_fits, all_cons, all_head, all_tail}
use Rattle.fpl_model.specs.declared.presentation.Presentation.{Presentation}
use Rattle.fpl_log.specs.declared.closed.Coefficient.{Coefficient}
use Rattle.fpl_log.specs.declared.section.Section.{Section}
use Rattle.plain_elimination.specs.Plain.{PivotRow, Held, rows_of}
use Rattle.plain_elimination.proofs.Ascending.{AscendsFrom}
use Rattle.fpl_table.specs.Plain.{PlainTable, symbols_in}
use Rattle.fpl_table.specs.Push.{push_of}
use Rattle.plain_tables.specs.Holds.{Holds}
use Rattle.fpl_rewrite.specs.Origins.{origins_of}
use Rattle.plain_sources.proofs.HeldTables.{is_field, origin_rows}
use Rattle.plain_weights.specs.Weight.{close_weight}
use Rattle.plain_weights.specs.Section.{slimmed, coefficient, coefficients_from, closed_list, section_of}
use Rattle.plain_weights.proofs.Completed.{weighed_in_order}
use Rattle.fpl_check.specs.declared.fault.Spot.TheVariants.{Whole}
use Rattle.fpl_check.specs.declared.fault.Why.TheVariants.{OriginCount}
use Rattle.fpl_check.specs.Refusal.{demand}
use Rattle.fpl_check.specs.Premises.{AreCoefficientsOf, IsSectionFor}
use Rattle.fpl_check.specs.Check.{test_count, Accepts}
use Rattle.plain_sections.specs.Valid.{whole_section, TellsOrigins, AcceptedInOrder, SlimIsAccepted, SlimIsFor, SlimIsSlim, WholeIsAccepted, SectionIsAccepted, SectionIsFor, SectionIsSlim, OneStepEach}
use Rattle.plain_sections.proofs.Accepted.{accepted_parts, accepts_whole}
use Rattle.plain_sections.proofs.InOrder.{accepted_in_order}
use Rattle.plain_sections.proofs.Tests.{same_true}
use Rattle.plain_sections.proofs.Slimmed.{slim_parts}
use Rattle.plain_sections.proofs.SlimAgain.{slim_again, slim_numbers}
use Rattle.plain_sections.proofs.Whole.{rows_closed, ascending, whole_parts, whole_accepted}
use Rattle.plain_sections.proofs.Numbered.{run_numbers}
use Rattle.plain_sections.proofs.Counted.{inserts_counted}
use Rattle.fpl_check.specs.ClosedRows.{close_count}
use Rattle.fpl_check.proofs.ListedOrigins.{demanded}
use Rattle.fpl_check.proofs.PassedRows.{same_count}
use Rattle.plain_sections.specs.Valid.{insert_count}

module _ (p : Presentation) (T : PlainTable) (holds : Holds p T) where
  -- the computed section of a weight
  pub record IsComputed (s : Section) : Type 0 where
    pub held : Held
    pub run : close_weight T p ≡ Ok held
    pub is : s ≡ section_of T p held

  computed : (s : Section) → map_ok (section_of T p) (close_weight T p) ≡ Ok s → IsComputed s
  computed s e = let f = part_fits (section_of T p) (close_weight T p) s e in record { held = f.0; run = f.1.0; is = f.1.1 }

count_passes : (n : ℕ) (origins : Option ℕ) → TellsOrigins n origins → test_count origins n ≡ Ok tt
count_passes n origins (inl e) = ap (λ o. test_count o n) e
count_passes n origins (inr e) = ap (λ o. test_count o n) e ∙ ap (λ b. demand b Whole (OriginCount n n)) (same_true n n refl)

pub held_in_order : AcceptedInOrder
held_in_order p T s rows holds is e = accepted_in_order T p (is_field p T holds) (origin_rows p T holds) s rows is e

pub slim_is_accepted : SlimIsAccepted
slim_is_accepted p T s rows holds is e =
    let n = length (origins_of T p) in
    let h = accepted_parts T p s rows e in
    let slim = slim_parts T p (is_field p T holds) (origin_rows p T holds) s (Some n) (count_passes n (Some n) (inr refl))
    (held_in_order p T s rows holds is e) is.numbers.steps h.0 in
    subst (Accepts T p (slimmed T p s)) h.1 (accepts_whole T p (slimmed T p s) slim)

pub slim_is_for : SlimIsFor
slim_is_for p T s is = record {
  weight = is.weight;
  numbers = record { steps = slim_numbers T.kind [] 0 s.steps is.numbers.steps; closed = is.numbers.closed };
  few = is.few;
}

pub slim_is_slim : SlimIsSlim
slim_is_slim p T s order = ap (λ steps. record { weight = s.weight; origins = Some (length (origins_of T p)); steps = steps; closed = s.closed })
    (slim_again s.steps order)

pub whole_is_accepted : WholeIsAccepted
whole_is_accepted p T h origins holds tells run = whole_accepted T p (is_field p T holds) (origin_rows p T holds) origins h
    (count_passes (length (origins_of T p)) origins tells) run

pub held_is_accepted : (p : Presentation) (T : PlainTable) (h : Held) → Holds p T → close_weight T p ≡ Ok h → Accepts T p (section_of T p h) (rows_of h.pivots)
held_is_accepted p T h holds run =
    let n = length (origins_of T p) in
    let count = count_passes n (Some n) (inr refl) in
    let numbers = run_numbers T p (is_field p T holds) (origin_rows p T holds) h run in
    let w = whole_parts T p (is_field p T holds) (origin_rows p T holds) (Some n) h count run in
    let slim = slim_parts T p (is_field p T holds) (origin_rows p T holds) (whole_section T (Some n) h) (Some n) count
    (weighed_in_order p T holds h run) numbers w.0 in
    subst (Accepts T p (section_of T p h)) w.1 (accepts_whole T p (section_of T p h) slim)

pub section_is_accepted : SectionIsAccepted
section_is_accepted p T s holds e =
    let c = computed p T holds s e in (
      rows_of c.held.pivots,
      subst (λ s. Accepts T p s (rows_of c.held.pivots)) (sym c.is) (held_is_accepted p T c.held holds c.run),
      ap (map_ok (λ h. push_of T (rows_of h.pivots))) c.run,
    )

-- closed rows are no more than symbols, and their coefficients are numbers of the field
as_few : (m n : ℕ) (ps : List PivotRow) → AscendsFrom m n ps → m + length ps ≤ n
as_few m n [] up = omega (arith, up)
as_few m n (q ∷ ps) up = let k = as_few q.lead n ps up.1 in let a = up.0 in omega (arith, k, a)

coefficients_are : (kind : Kind) (s : ℕ) (row : List Num) → AreElements kind row → AreCoefficientsOf kind (coefficients_from s row)
coefficients_are kind s [] all = λ i d l. absurd (omega (arith, l))
coefficients_are kind s (c ∷ cs) all = go (is_nought c) (coefficients_are kind (s + 1) cs (all_tail (IsElement kind) c cs all))
  where
    go : (b : Bool) → AreCoefficientsOf kind (coefficients_from (s + 1) cs) →
        AreCoefficientsOf kind (if b then coefficients_from (s + 1) cs else coefficient s c ∷ coefficients_from (s + 1) cs)
    go true h = h
    go false h = all_cons (λ (c : Coefficient). IsElement kind c.number) (coefficient s c) (coefficients_from (s + 1) cs) (all_head (IsElement kind) c cs all) h

all_coefficients : (kind : Kind) (n : ℕ) (rows : List (List Num)) → AreRows kind n rows → All (AreCoefficientsOf kind) (closed_list rows)
all_coefficients kind n [] all = λ i d l. absurd (omega (arith, l))
all_coefficients kind n (row ∷ rows) all =
    all_cons (AreCoefficientsOf kind) (coefficients_from 1 row) (closed_list rows)
    (coefficients_are kind 1 row (all_head (IsRowOf kind n) row rows all).elements) (all_coefficients kind n rows (all_tail (IsRowOf kind n) row rows all))

-- a weight has no more closed rows than symbols
pub few_closed : (p : Presentation) (T : PlainTable) (h : Held) → Holds p T → close_weight T p ≡ Ok h →
    length (closed_list (rows_of h.pivots)) ≤ length (symbols_in T)
few_closed p T h holds run =
    let up = as_few 0 (length (symbols_in T)) h.pivots (ascending T p (is_field p T holds) (origin_rows p T holds) h run).up in
    let long : length (closed_list (rows_of h.pivots)) ≡ length h.pivots =
    length-map (rows_of h.pivots) (coefficients_from 1) ∙ length-map h.pivots (λ q. q.row) in
    omega (arith, up, long)

pub section_is_for : SectionIsFor
section_is_for p T s holds few e =
    let c = computed p T holds s e in
    let rows = rows_of c.held.pivots in
    let closed = few_closed p T c.held holds c.run in
    subst (IsSectionFor T) (sym c.is)
    (record {
      weight = refl;
      numbers = record {
        steps = slim_numbers T.kind [] 0 c.held.steps (run_numbers T p (is_field p T holds) (origin_rows p T holds) c.held c.run);
        closed = all_coefficients T.kind (length (symbols_in T)) rows (rows_closed T p (is_field p T holds) (origin_rows p T holds) c.held c.run).are_rows;
      };
      few = omega (arith, closed, few);
    })

pub section_is_slim : SectionIsSlim
section_is_slim p T s holds e =
    let c = computed p T holds s e in
    subst (λ s. slimmed T p s ≡ s) (sym c.is)
    (slim_is_slim p T (whole_section T (Some (length (origins_of T p))) c.held) (weighed_in_order p T holds c.held c.run))

pub one_step_each : OneStepEach
one_step_each p T s holds e =
    let c = computed p T holds s e in
    let rows = rows_of c.held.pivots in
    let inserts = inserts_counted T p (is_field p T holds) (origin_rows p T holds) c.held c.run in
    let long : length (closed_list rows) ≡ length c.held.pivots = length-map rows (coefficients_from 1) ∙ length-map c.held.pivots (λ q. q.row) in
    let accepted = section_is_accepted p T s holds e in
    let h = accepted_parts T p s accepted.0 accepted.1 in (
      subst (λ s. insert_count s.steps ≡ length s.closed) (sym c.is) (inserts ∙ sym long),
      same_count (close_count s.steps) (length s.closed)
          (demanded _ _ _ h.0.closes),
    )
