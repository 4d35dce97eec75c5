-- What the contracts say of spans follows from what they say of the plain run.
use Rattle.std.specs.Prelude.{◌≡◌, ℕ, List, length, replicate, Result, Ok, Err, All, IfOk, OnErr}
use Rattle.std.proofs.Common.{subst, sym, ap, ◌∙◌}
use Rattle.std.proofs.lemmas.List.{length-replicate}
use Rattle.fpl_numbers.specs.declared.number.Num.{Num}
use Rattle.fpl_numbers.specs.declared.number.Kind.{Kind}
use Rattle.fpl_numbers.specs.declared.number.Fault.{Fault}
use Rattle.fpl_numbers.specs.Numbers.{IsField, residue}
use Rattle.fpl_rows.specs.Working.{Working}
use Rattle.fpl_rows.proofs.Workings.{working_as}
use Rattle.fpl_numbers.specs.Results.{GivesBy}
use Rattle.fpl_log.specs.declared.step.Origin.{Origin}
use Rattle.fpl_log.specs.declared.step.Step.{Step}
use Rattle.fpl_scalar.specs.Vectors.{AreElements}
use Rattle.plain_elimination.specs.Plain.{PivotRow, IsPivotRow, Held, Elimination, inserted_as, insert_of}
use Rattle.plain_elimination.specs.Spans.{SpansWith}
use Rattle.plain_elimination.proofs.Found.{insert_means, insert_pivots}
use Rattle.fpl_echelon.specs.declared.outcome.Outcome.{Outcome}
use Rattle.fpl_echelon.specs.Outcomes.{lead_in}

pub spans_with : (e : Elimination) (row : List Num) (origin : Origin) (held : Held) (r : Result Outcome Fault) → IsField e.kind →
    All (IsPivotRow e.kind e.size) e.held.pivots → length row ≡ e.size → AreElements e.kind row →
    GivesBy (λ outcome. inserted_as (lead_in outcome) held) r (insert_of e row origin) → IfOk r (λ outcome. SpansWith e row held.pivots (lead_in outcome))
spans_with e row origin held (Ok outcome) listed all len a g = insert_means e row origin (inserted_as (lead_in outcome) held) listed all len a g
spans_with e row origin held (Err fault) listed all len a g = tt

pub pivots_after : (e : Elimination) (row : List Num) (origin : Origin) (pivots : List PivotRow) (steps : List Step) (r : Result Outcome Fault) →
    IsField e.kind → All (IsPivotRow e.kind e.size) e.held.pivots → length row ≡ e.size → AreElements e.kind row →
    GivesBy (λ outcome. inserted_as (lead_in outcome) (record { pivots = pivots; steps = steps })) r (insert_of e row origin) →
    OnErr r ((pivots ≡ e.held.pivots) × (steps ≡ e.held.steps)) → All (IsPivotRow e.kind e.size) pivots
pivots_after e row origin pivots steps (Ok outcome) listed all len a g h = insert_pivots e row origin
    (inserted_as (lead_in outcome) (record { pivots = pivots; steps = steps })) listed all len a g
pivots_after e row origin pivots steps (Err fault) listed all len a g h = subst (All (IsPivotRow e.kind e.size)) (sym h.0) all

abbrev pub kind_in : Elimination → Kind
kind_in e = e.kind

abbrev pub size_in : Elimination → ℕ
size_in e = e.size

-- the same, over as many positions by another name
pub at_size : (kind : Kind) (row : List Num) (origin : Origin) (before : Held) (n m : ℕ) (after : Held) (r : Result Outcome Fault) → n ≡ m →
    GivesBy (λ outcome. inserted_as (lead_in outcome) after) r (insert_of (record { kind = kind; size = n; held = before }) row origin) →
    GivesBy (λ outcome. inserted_as (lead_in outcome) after) r (insert_of (record { kind = kind; size = m; held = before }) row origin)
at_size kind row origin before n m after r e h =
    subst (λ k. GivesBy (λ outcome. inserted_as (lead_in outcome) after) r (insert_of (record { kind = kind; size = k; held = before }) row origin)) e h

-- an empty row in work
abbrev row_in : Working → List Num
row_in w = w.row

abbrev pub long_in : Working → ℕ
long_in w = length w.row

pub long_of : (w : Working) (kind : Kind) (n : ℕ) → w ≡ working_as kind (replicate n (residue 0)) → length w.row ≡ n
long_of w kind n e = ap (λ v. length (row_in v)) e ∙ length-replicate n (residue 0)

pub zeros_of : (w : Working) (kind : Kind) (n : ℕ) → w ≡ working_as kind (replicate n (residue 0)) → w.row ≡ replicate (length w.row) (residue 0)
zeros_of w kind n e = ap row_in e ∙ ap (λ k. replicate k (residue 0)) (sym (long_of w kind n e))

pub emptied_is : (old new : Working) (kind between : Kind) (m : ℕ) → old.kind ≡ kind → old.row ≡ replicate (length old.row) (residue 0) →
    new ≡ working_as between (replicate m (residue 0)) → between ≡ kind → m ≡ length old.row → new ≡ old
emptied_is old new kind between m is zeros e same long = e ∙ ap (λ k. working_as k (replicate m (residue 0))) (same ∙ sym is) ∙
    ap (λ n. working_as old.kind (replicate n (residue 0))) long ∙ ap (working_as old.kind) (sym zeros)
