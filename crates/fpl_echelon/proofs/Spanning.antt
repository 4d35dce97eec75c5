-- Rows put in for what they span, and the solutions of free places.
use Rattle.std.specs.Prelude.{◌≡◌, ℕ, ◌+◌, ◌-◌, ◌<◌, ◌≤◌, List, [], ◌∷◌, ◌++◌, length, map, take, drop, slice_get, Option, Some, None, Result, Ok, Err, All, IfOk}
use Rattle.std.specs.List.{find}
use Rattle.std.proofs.Common.{subst, sym, ap, ◌∙◌, refl, arith}
use Rattle.std.proofs.lemmas.List.{take_more, map-append}
use Rattle.std.proofs.lemmas.Option.{slice_get_within, get_or_from_slice_get}
use Rattle.math_linear.specs.Span.{IsRowOf as IsAmong}
use Rattle.math_linear.specs.Lists.{joined}
use Rattle.math_linear.specs.Span.Spanned.{span_kind}
use Rattle.math_linear.proofs.Kernel.{same_solutions}
use Rattle.fpl_numbers.specs.declared.number.Num.{Num}
use Rattle.fpl_numbers.specs.declared.number.Kind.{Kind}
use Rattle.fpl_numbers.specs.declared.number.Unfit.{Unfit}
use Rattle.fpl_numbers.specs.declared.number.Fault.{Fault}
use Rattle.fpl_numbers.specs.Numbers.{IsField}
use Rattle.fpl_numbers.specs.Kinds.{field_of}
use Rattle.fpl_numbers.specs.Results.{IsFault, Gives, GivesBy, and_then}
use Rattle.fpl_log.specs.declared.step.Step.{Step}
use Rattle.fpl_log.proofs.TermsTaken.{past_end}
use Rattle.fpl_rows.specs.Meaning.{IsRowOf, AreRows, row_in}
use Rattle.plain_elimination.specs.Plain.{PivotRow, IsPivotRow, stands_at, Held, Elimination, close_to, rows_of}
use Rattle.plain_elimination.proofs.Found.{close_pivots}
use Rattle.plain_spans.specs.Plain.{begin, put_row, put_rows, closed_of, closed_span, span_of, free_row, free_at, free_rows, kernel_by, kernel_of}
use Rattle.plain_spans.specs.Means.{IsFormed, AreSolutions}
use Rattle.plain_spans.proofs.Kernels.{free_is_row, kernel_means}
use Rattle.plain_spans.proofs.Putting.{fault_part, fault_first, put_then, put_joined, joined_stops, formed_next, formed_rows, formed_row}

abbrev pub held_as : List PivotRow → List Step → Held
held_as pivots steps = record { pivots = pivots; steps = steps }

abbrev pub done : Elimination → Result Elimination Unfit
done e = Ok e

-- closed rows are pivot rows
pub pivots_closed : (kind : Kind) (n : ℕ) (pivots : List PivotRow) (steps after : List Step) (r : Result (List PivotRow) Fault) → IsField kind →
    All (IsPivotRow kind n) pivots → GivesBy (λ closed. held_as closed after) r (close_to kind pivots n (held_as [] steps)) →
    IfOk r (λ closed. All (IsPivotRow kind n) closed)
pivots_closed kind n pivots steps after (Ok closed) listed all g =
    close_pivots kind n n pivots (held_as [] steps) (held_as closed after) listed all (omega arith) refl g
pivots_closed kind n pivots steps after (Err fault) listed all g = tt

pub all_at : (kind here : Kind) (n m : ℕ) (pivots : List PivotRow) → here ≡ kind → m ≡ n → All (IsPivotRow here n) pivots → All (IsPivotRow kind m) pivots
all_at kind here n m pivots k e h = subst (λ j. All (IsPivotRow kind j) pivots) (sym e) (subst (λ j. All (IsPivotRow j n) pivots) k h)

-- the next row of a list
pub put_next : (rows : List (List Num)) (k : ℕ) (row : List Num) (start : Result Elimination Unfit) (e new : Elimination) → Some row ≡ slice_get rows k →
    start ≡ put_rows (map Ok (drop k rows)) e → put_row (Ok row) e ≡ Ok new → start ≡ put_rows (map Ok (drop (k + 1) rows)) new
put_next rows k row start e new is so_far h = so_far ∙ formed_next rows k row e is ∙ ap (and_then (put_rows (map Ok (drop (k + 1) rows)))) h

-- the rows up to and with the next one
pub put_taken : (rows : List (List Num)) (k : ℕ) (row : List Num) (b e new : Elimination) → Some row ≡ slice_get rows k →
    put_rows (map Ok (take k rows)) b ≡ Ok e → put_row (Ok row) e ≡ Ok new → put_rows (map Ok (take (k + 1) rows)) b ≡ Ok new
put_taken rows k row b e new is so_far h =
    let within = slice_get_within rows k row (sym is) in
    let one : take (k + 1) rows ≡ take k rows ++ row ∷ [] = take_more rows k row within ∙ ap (λ y. take k rows ++ y ∷ []) (get_or_from_slice_get rows k row row (sym is)) in
    ap (λ xs. put_rows (map Ok xs) b) one ∙ ap (λ rs. put_rows rs b) (map-append Ok (take k rows) (row ∷ []))
    ∙ put_then (map Ok (take k rows)) (Ok row ∷ []) b e new so_far (ap (and_then (put_rows [])) h)

pub put_stops_at : (rows : List (List Num)) (k : ℕ) (row : List Num) (start : Result Elimination Unfit) (e : Elimination) (fault : Fault) →
    Some row ≡ slice_get rows k → start ≡ put_rows (map Ok (drop k rows)) e → IsFault fault (put_row (Ok row) e) → IsFault fault start
put_stops_at rows k row start e fault is so_far h =
    subst (IsFault fault) (sym (so_far ∙ formed_next rows k row e is)) (fault_first (put_rows (map Ok (drop (k + 1) rows))) fault (put_row (Ok row) e) h)

pub none_left : {X : Type 0} (xs : List X) (k : ℕ) → k < length xs → None ≡ slice_get xs k → ⊥
none_left xs k l e = (let m = past_end xs k e in omega arith)

-- the solutions of the free places below f
module _ (kind : Kind) (n : ℕ) (pivots : List PivotRow) where
  abbrev at_place : ℕ → List (Result (List Num) Unfit)
  at_place f = free_at kind n pivots f (find (stands_at (f + 1)) pivots)

  pub begins : (e : Elimination) → put_rows (free_rows kind n pivots 0) e ≡ Ok e
  unfolding joined
  begins e = refl

  pub one_gives : {U : Type 0} (f : ℕ) (row : List Num) (e new : Elimination) (r : Result U Fault) → None ≡ find (stands_at (f + 1)) pivots →
      row ≡ free_row kind n pivots f → Gives r new (put_row (Ok row) e) → Gives r new (put_rows (at_place f) e)
  one_gives f row e new (Ok x) is same h =
      ap (λ o. put_rows (free_at kind n pivots f o) e) (sym is) ∙ ap (λ v. put_rows (Ok v ∷ []) e) (sym same) ∙ ap (and_then (put_rows [])) h
  one_gives f row e new (Err fault) is same h =
      subst (λ o. IsFault fault (put_rows (free_at kind n pivots f o) e)) is
      (subst (λ v. IsFault fault (put_rows (Ok v ∷ []) e)) same (fault_first (put_rows []) fault (put_row (Ok row) e) h))

  pub solved_next : (f : ℕ) (e new : Elimination) → put_rows (free_rows kind n pivots f) (begin kind n) ≡ Ok e → put_rows (at_place f) e ≡ Ok new →
      put_rows (free_rows kind n pivots (f + 1)) (begin kind n) ≡ Ok new
  solved_next f e new h k = put_joined at_place (begin kind n) f e new h k

  pub solved_stops : (f : ℕ) (e : Elimination) (fault : Fault) → f < n → put_rows (free_rows kind n pivots f) (begin kind n) ≡ Ok e →
      IsFault fault (put_rows (at_place f) e) → IsFault fault (span_of kind n (free_rows kind n pivots n))
  solved_stops f e fault l h k =
      fault_part rows_of fault (closed_span kind n (free_rows kind n pivots n))
      (fault_first closed_of fault (put_rows (free_rows kind n pivots n) (begin kind n)) (joined_stops at_place (begin kind n) n f e fault l h k))

pub solution_is_row : (kind here : Kind) (n m f : ℕ) (pivots : List PivotRow) (row : List Num) → IsField kind → here ≡ kind → m ≡ n → f < n →
    All (IsPivotRow kind n) pivots → row ≡ free_row kind m pivots f → IsRowOf here n row
solution_is_row kind here n m f pivots row listed k e l all is =
    subst (λ j. IsRowOf j n row) (sym k) (subst (IsRowOf kind n) (sym (is ∙ ap (λ j. free_row kind j pivots f) e)) (free_is_row kind listed n pivots all f l))

pub kernel_then : {U : Type 0} (kind : Kind) (n : ℕ) (rows : List (Result (List Num) Unfit)) (b e : Elimination) (see : U → List (List Num))
    (r : Result U Fault) →
    b ≡ begin kind n → put_rows rows b ≡ Ok e → GivesBy see r (kernel_by e) → GivesBy see r (kernel_of kind n rows)
kernel_then kind n rows b e see r is h k = subst (GivesBy see r) (sym (ap (and_then kernel_by) (ap (put_rows rows) (sym is) ∙ h))) k

-- what the rows of a kernel are
pub kernel_solves : (kind : Kind) (n : ℕ) (rows : List (List Num)) (r : Result (List (List Num)) Fault) → IsField kind → AreRows kind n rows →
    GivesBy (λ (solved : List (List Num)). solved) r (kernel_of kind n (map Ok rows)) → IfOk r (λ solved. AreSolutions kind n rows solved)
kernel_solves kind n rows (Err fault) listed are g = tt
kernel_solves kind n rows (Ok solved) listed are g =
    let m = kernel_means kind listed n (map Ok rows) solved (formed_rows kind n rows are) g in
    record {
      closed = m.0;
      span = λ v. (
        (λ h. same_solutions (field_of kind) n (IsFormed kind (map Ok rows)) (IsAmong (field_of kind) (length rows) (row_in kind rows))
            (λ u k. span_kind u ((formed_row kind rows u).1 k)) v ((m.1 v).0 h)),
        (λ h. (m.1 v).1 (same_solutions (field_of kind) n (IsAmong (field_of kind) (length rows) (row_in kind rows)) (IsFormed kind (map Ok rows))
            (λ u k. span_kind u ((formed_row kind rows u).0 k)) v h)),
      );
    }
