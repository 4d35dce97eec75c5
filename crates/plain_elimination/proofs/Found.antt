-- What the code of an elimination asks of pivot rows: the row that is found, the rows that are kept, the operation at which closing stops.
use Rattle.std.specs.Prelude.{◌≡◌, ℕ, zero, suc, ◌+◌, ◌<◌, ◌≤◌, List, [], ◌∷◌, length, All, Some, Ok, Err}
use Rattle.std.specs.List.{find}
use mathlib.Core.Path.{sym, refl, ap, ◌∙◌, subst}
use native.Mathlib.Omega.{arith}
use native.Mathlib.Decide.{ℕ_discrete}
use Rattle.fpl_numbers.specs.declared.number.Num.{Num}
use Rattle.fpl_numbers.specs.declared.number.Kind.{Kind}
use Rattle.fpl_numbers.specs.declared.number.Unfit.{Unfit}
use Rattle.fpl_numbers.specs.declared.number.Fault.{Fault}
use Rattle.fpl_numbers.specs.declared.number.Fault.TheVariants.{NoMemory}
use Rattle.fpl_numbers.specs.declared.number.Fault.TheVariants.{Unfit as Unfits}
use Rattle.fpl_numbers.specs.Numbers.{IsField}
use Rattle.fpl_numbers.specs.Results.{Gives, IsFault, and_then}
use Rattle.fpl_numbers.specs.Kinds.{field_of, number_of}
use Rattle.fpl_numbers.proofs.KindReads.{kind_reads}
use Rattle.fpl_scalar.specs.Vectors.{AreElements}
use Rattle.fpl_rows.proofs.Fits.{all_found}
use Rattle.fpl_log.specs.declared.step.Origin.{Origin}
use Rattle.plain_elimination.specs.Plain.{PivotRow, IsPivotRow, stands_at, Held, Elimination, Inserted, insert_of, close_at, close_to, close_of, rows_of}
use Rattle.plain_elimination.specs.Spans.{SpansWith, ClosesTo}
use Rattle.plain_elimination.proofs.Spans.{standing, insert_reads, close_reads, close_form}
use Rattle.plain_elimination.proofs.Ascending.{close_ascends}
use Rattle.plain_elimination.proofs.ClosedLists.{closed_list}
use Rattle.fpl_rows.specs.Meaning.{AreRows}

pub found_length : (kind : Kind) (n s : ℕ) (pivots : List PivotRow) (p : PivotRow) → All (IsPivotRow kind n) pivots →
    Some p ≡ find (stands_at s) pivots → n ≡ length p.row
found_length kind n s pivots p h e = sym (all_found (IsPivotRow kind n) (stands_at s) pivots p h e).length_is

pub found_elements : (kind : Kind) (n s : ℕ) (pivots : List PivotRow) (p : PivotRow) → All (IsPivotRow kind n) pivots →
    Some p ≡ find (stands_at s) pivots → AreElements kind p.row
found_elements kind n s pivots p h e = (all_found (IsPivotRow kind n) (stands_at s) pivots p h e).elements

pub found_fits : (kind : Kind) (n s : ℕ) (pivots : List PivotRow) (p : PivotRow) → s < n → All (IsPivotRow kind n) pivots →
    Some p ≡ find (stands_at (s + 1)) pivots → s ≤ length p.row
found_fits kind n s pivots p l h e = let f = found_length kind n (s + 1) pivots p h e in omega arith

pub close_stops : (kind : Kind) (pivots : List PivotRow) (n s : ℕ) (h g : Held) (u : Unfit) → s < n → close_to kind pivots s h ≡ Ok g →
    close_at kind pivots s g ≡ Err u → close_to kind pivots n h ≡ Err u
close_stops kind pivots zero s h g u l e f = absurd (omega arith)
close_stops kind pivots (suc n) s h g u l e f = go (ℕ_discrete s n) (λ k. close_stops kind pivots n s h g u k e f)
  where
    go : Dec (s ≡ n) → (s < n → close_to kind pivots n h ≡ Err u) → and_then (λ g. close_at kind pivots n g) (close_to kind pivots n h) ≡ Err u
    go (yes d) k = subst (λ n. and_then (λ g. close_at kind pivots n g) (close_to kind pivots n h) ≡ Err u) d
        (ap (and_then (λ g. close_at kind pivots s g)) e ∙ f)
    go (no d) k = ap (and_then (λ g. close_at kind pivots n g)) (k (omega arith))

pub close_fault : (U : Type 0) (kind : Kind) (pivots : List PivotRow) (n s : ℕ) (h g now : Held) (e : Fault) → s < n → close_to kind pivots s h ≡ Ok g →
    Gives {U = U} (Err e) now (close_at kind pivots s g) → IsFault e (close_to kind pivots n h)
close_fault U kind pivots n s h g now (Unfits u) l d k = close_stops kind pivots n s h g u l d k
close_fault U kind pivots n s h g now NoMemory l d k = tt

-- closed rows are pivot rows again
pub close_pivots : (kind : Kind) (n m : ℕ) (pivots : List PivotRow) (h g : Held) → IsField kind → All (IsPivotRow kind n) pivots → m ≤ n →
    h.pivots ≡ [] → close_to kind pivots m h ≡ Ok g → All (IsPivotRow kind n) g.pivots
close_pivots kind n m pivots h g listed all l none e =
    (close_reads kind (field_of kind) (number_of kind) (kind_reads kind listed) listed n pivots m h g
    (standing kind (field_of kind) (number_of kind) (kind_reads kind listed) listed n pivots all) l none e).rows

-- what inserting means
pub insert_means : (e : Elimination) (row : List Num) (origin : Origin) (r : Inserted) → IsField e.kind →
    All (IsPivotRow e.kind e.size) e.held.pivots → length row ≡ e.size → AreElements e.kind row →
    insert_of e row origin ≡ Ok r → SpansWith e row r.held.pivots r.lead
insert_means e row origin r listed all len a is =
    let reads = kind_reads e.kind listed in
    (insert_reads e.kind (field_of e.kind) (number_of e.kind) reads listed e.size e.held row origin r
    (standing e.kind (field_of e.kind) (number_of e.kind) reads listed e.size e.held.pivots all) a len is).inserted

pub insert_pivots : (e : Elimination) (row : List Num) (origin : Origin) (r : Inserted) → IsField e.kind →
    All (IsPivotRow e.kind e.size) e.held.pivots → length row ≡ e.size → AreElements e.kind row →
    insert_of e row origin ≡ Ok r → All (IsPivotRow e.kind e.size) r.held.pivots
insert_pivots e row origin r listed all len a is =
    let reads = kind_reads e.kind listed in
    (insert_reads e.kind (field_of e.kind) (number_of e.kind) reads listed e.size e.held row origin r
    (standing e.kind (field_of e.kind) (number_of e.kind) reads listed e.size e.held.pivots all) a len is).pivots

rows_are : (kind : Kind) (n : ℕ) (ps : List PivotRow) → All (IsPivotRow kind n) ps → AreRows kind n (rows_of ps)
rows_are kind n [] all i d l = absurd (omega arith)
rows_are kind n (p ∷ ps) all zero d l = (let h = all 0 p (omega arith) in record { elements = h.elements; length_is = h.length_is })
rows_are kind n (p ∷ ps) all (suc i) d l = rows_are kind n ps (λ j e m. all (suc j) e (omega arith)) i d (omega arith)

-- what closing means
pub close_means : (e : Elimination) (g : Held) → IsField e.kind → All (IsPivotRow e.kind e.size) e.held.pivots → close_of e ≡ Ok g →
    ClosesTo e (rows_of g.pivots)
close_means e g listed all is =
    let reads = kind_reads e.kind listed in
    let f = close_form e.kind (field_of e.kind) (number_of e.kind) reads listed e.size e.held g
    (standing e.kind (field_of e.kind) (number_of e.kind) reads listed e.size e.held.pivots all) is in
    let c = closed_list e.kind (field_of e.kind) (number_of e.kind) reads listed e.size g.pivots f.rows
    (close_ascends e.kind e.held.pivots e.size (record { pivots = []; steps = e.held.steps }) g refl is) f.reduced in
    record {
      closed = record { are_rows = rows_are e.kind e.size g.pivots f.rows; closed = c.0 };
      span = λ v. ((λ k. (f.span v).0 ((c.1 v).0 k)), (λ k. (c.1 v).1 ((f.span v).1 k)));
    }
