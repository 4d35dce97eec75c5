-- Where rows put into an elimination can add nothing more.
use Rattle.std.specs.Prelude.{◌≡◌, ◌≢◌, ℕ, zero, suc, ◌+◌, ◌-◌, ◌<◌, ◌≤◌, ◌⊎◌, ◌↔◌, List, [], ◌∷◌, ◌++◌, length, map, get_or, take, Option, Some, None, Result, Ok, Err, Bool, false}
use Rattle.std.specs.Prelude.{slice_get, option_map, IfOk}
use Rattle.std.specs.List.{find}
use Rattle.std.specs.Option.{option_or}
use Rattle.std.proofs.lemmas.List.{map_more}
use Rattle.std.proofs.lemmas.List.Elements.{All-take}
use Rattle.std.proofs.lemmas.List.Folds.{find-append}
use mathlib.Core.Path.{sym, refl, ap, ap₂, ◌∙◌, subst, fun_ext}
use mathlib.Core.Logic.{inl, inr}
use native.Mathlib.Omega.{arith}
use native.Mathlib.Decide.{dec_lt}
use Rattle.math_fields.specs.Field.{Field}
use Rattle.math_linear.specs.Vector.{Vector, vzero, vplus, scale, EndsAt}
use Rattle.math_linear.specs.Span.{Spanned}
use Rattle.math_linear.specs.Kernel.{product_sum, IsSolution}
use Rattle.math_linear.specs.Echelon.{Pivots, IsRow, IsEchelon, reduce}
use Rattle.math_linear.proofs.Numbers.{times-nought, nought-times}
use Rattle.math_linear.proofs.Vectors.{vplus_comm, vplus_assoc, vplus-vzero, minus-vplus}
use Rattle.math_linear.proofs.Span.{in_span, spanned_one, spanned_vplus, spanned_scale, spanned_more, spanned_through, by_span}
use Rattle.math_linear.proofs.Echelon.{reduce_rest, reduce_clears, spanned_reduce}
use Rattle.math_linear.proofs.Kernel.{product_one, same_solutions}
use Rattle.fpl_numbers.specs.declared.number.Num.{Num}
use Rattle.fpl_numbers.specs.declared.number.Kind.{Kind}
use Rattle.fpl_numbers.specs.declared.number.Unfit.{Unfit}
use Rattle.fpl_numbers.specs.declared.number.Fault.{Fault}
use Rattle.fpl_numbers.specs.declared.number.Fault.TheVariants.{NoMemory}
use Rattle.fpl_numbers.specs.declared.number.Fault.TheVariants.{Unfit as Unfits}
use Rattle.fpl_numbers.specs.Numbers.{IsField, residue, inverse_of}
use Rattle.fpl_numbers.specs.Results.{and_then, map_ok, IsFault, GivesBy}
use Rattle.fpl_numbers.specs.Kinds.{field_of, number_of}
use Rattle.fpl_numbers.proofs.KindReads.{kind_reads}
use Rattle.fpl_log.specs.declared.step.Origin.{Origin}
use Rattle.fpl_log.specs.declared.step.Origin.TheVariants.{Row}
use Rattle.fpl_rows.specs.Positions.{lead_of}
use Rattle.fpl_rows.specs.Meaning.{vector_in, row_in, IsRowOf, AreRows}
use Rattle.fpl_rows.proofs.Readings.{vector_past, nought_at}
use Rattle.fpl_rows.proofs.Fits.{ok_same, ok_not_err, some_same, none_some, first_fits, part_fits}
use Rattle.plain_elimination.specs.Plain.{PivotRow, stands_at, Swept, sweep_of, Held, Elimination, kept, keep_of, Inserted, inserted_as, insert_of, close_of, rows_of}
use Rattle.plain_elimination.specs.Spans.{table_of, IsSpanned, ClosesTo}
use Rattle.plain_elimination.specs.Fitting.{DoesFit}
use Rattle.plain_elimination.proofs.Ascending.{found_first}
use Rattle.plain_elimination.proofs.Fitting.{Always, prime_always, map_fits, insert_fits, close_fits}
use Rattle.plain_elimination.proofs.RowSweeps.{got_row}
use Rattle.plain_elimination.proofs.Spans.{standing}
use Rattle.plain_spans.specs.Plain.{begin, with_held, put_row, put_rows, closed_of, span_of}
use Rattle.plain_spans.specs.Means.{IsFormed}
use Rattle.plain_spans.proofs.Fitting.{spans_fit, all_formed_map}
use Rattle.plain_spans.proofs.Gathered.{IsGathered, gathered, over, span_means}
use Rattle.plain_spans.proofs.Putting.{put_then, formed_rows, formed_row}
use Rattle.plain_tables.proofs.OneRaised.{rows_one}
use Rattle.fpl_matrices.specs.Matrices.{prime_in}
use Rattle.fpl_ranks.specs.Leads.{IsOverPrime, InSpan, NeverLeads, OthersNeverLead, EachRow, IsBlankAt, LowersLead, SpansRows}

-- a pivot row stands at place s
abbrev pub HasPivot : List PivotRow → ℕ → Type 0
HasPivot pivots s = (p : PivotRow) × (find (stands_at (s + 1)) pivots ≡ Some p)

abbrev pub IsSettled : Kind → List (List Num) → List PivotRow → ℕ → Type 0
IsSettled kind rows pivots s = NeverLeads kind rows s ⊎ HasPivot pivots s

-- what holds of each row's vector
pub formed_each : (kind : Kind) (rows : List (List Num)) (Q : Vector (field_of kind) → Type 0) → EachRow (λ row. Q (vector_in kind row)) rows →
    (v : Vector (field_of kind)) → IsFormed kind (map Ok rows) v → Q v
formed_each kind rows Q each v h = let r = (formed_row kind rows v).0 h in subst Q (sym r.2) (each r.0 r.1)

module _ (kind : Kind) (listed : IsField kind) (n : ℕ) (rows : List (List Num)) (are : AreRows kind n rows) where
  abbrev K : Field
  K = field_of kind

  abbrev S : Vector (field_of kind) → Type 0
  S = IsFormed kind (map Ok rows)

  pub span_ends : (v : Vector (field_of kind)) → InSpan kind rows v → EndsAt (field_of kind) n v
  span_ends v h s l =
      by_span (field_of kind) S (λ v. v s ≡ K.nought) (unfold vzero in refl) (λ x y a b. unfold vplus in (ap₂ K.plus a b ∙ K.plus-nought _))
      (λ c x a. unfold scale in (ap (K.times c) a ∙ times-nought (field_of kind) c))
      (formed_each kind rows (λ v. v s ≡ K.nought)
      (λ i m. vector_past (field_of kind) (number_of kind) (get_or rows i []) s (let e = (are i [] m).length_is in omega arith))) v h

  -- a place where each row is 0
  pub blank_never : (s : ℕ) → s < n → EachRow (IsBlankAt s) rows → NeverLeads kind rows s
  blank_never s l blank v h past =
      by_span (field_of kind) S (λ v. v s ≡ K.nought) (unfold vzero in refl) (λ x y a b. unfold vplus in (ap₂ K.plus a b ∙ K.plus-nought _))
      (λ c x a. unfold scale in (ap (K.times c) a ∙ times-nought (field_of kind) c))
      (formed_each kind rows (λ v. v s ≡ K.nought)
      (λ i m. nought_at kind (field_of kind) (number_of kind) (kind_reads kind listed) (get_or rows i []) s (are i [] m).elements
      (let e = (are i [] m).length_is in omega arith) (blank i m))) v h

  -- the least place that isn't 0 of a test that each row passes
  module _ (test : Vector (field_of kind)) (ends : EndsAt (field_of kind) n test) (solved : (u : Vector (field_of kind)) → S u →
      product_sum (field_of kind) n u test ≡ (field_of kind).nought) where
    pub solved_never : (s : ℕ) → s < n → test s ≢ K.nought → ((t : ℕ) → t < s → test t ≡ K.nought) → NeverLeads kind rows s
    solved_never s l filled before v h past = no_zero (sym one ∙ all.solves v h)
      where
        all : IsSolution (field_of kind) n (InSpan kind rows) test
        all = same_solutions (field_of kind) n S (InSpan kind rows) (λ u k. k) test (record { past = ends; solves = solved })

        one : product_sum (field_of kind) n v test ≡ K.times (v s) (test s)
        one = product_one (field_of kind) n s v test l (λ i m d. elim (dec_lt i s) [
          | yes k ↦ ap (K.times (v i)) (before i k) ∙ times-nought (field_of kind) _
          | no k ↦ ap (λ w. K.times w (test i)) (past i (omega (arith, k, d))) ∙ nought-times (field_of kind) _
        ])

        no_zero : K.times (v s) (test s) ≡ K.nought → v s ≡ K.nought
        no_zero e =
            sym (K.times-unit (v s)) ∙ ap (K.times (v s)) (sym (K.times-inverse (test s) filled)) ∙ sym (K.times_assoc (v s) (test s) _)
            ∙ ap (λ w. K.times w (K.inverse (test s))) e ∙ nought-times (field_of kind) _

  -- pivot rows at all places that may lead span all
  module _ (at : Pivots (field_of kind)) (echelon : IsEchelon (field_of kind) n at)
      (settled : (s : ℕ) → NeverLeads kind rows s ⊎ ((u : Vector (field_of kind)) × (at s ≡ Some u)))
      (within : (u : Vector (field_of kind)) → IsRow (field_of kind) at u → InSpan kind rows u) where
    left_in : (v : Vector (field_of kind)) → InSpan kind rows v → InSpan kind rows (reduce (field_of kind) at n v)
    left_in v h =
        let d = reduce_rest (field_of kind) at n v in
        let r = reduce (field_of kind) at n v in
        let taken = spanned_through (field_of kind) (IsRow (field_of kind) at) S within d.0 d.1.0 in
        subst (InSpan kind rows)
        (ap (λ w. vplus (field_of kind) w (scale (field_of kind) (K.minus K.unit) d.0)) (d.1.1 ∙ vplus_comm (field_of kind) d.0 r)
        ∙ vplus_assoc (field_of kind) r d.0 _ ∙ ap (vplus (field_of kind) r) (vplus_comm (field_of kind) d.0 _ ∙ minus-vplus (field_of kind) d.0)
        ∙ vplus-vzero (field_of kind) r)
        (spanned_vplus (field_of kind) S v _ h (spanned_scale (field_of kind) S (K.minus K.unit) d.0 taken))

    left_zero : (v : Vector (field_of kind)) → InSpan kind rows v → (k s : ℕ) → n ≤ s + k → reduce (field_of kind) at n v s ≡ K.nought
    left_zero v h zero s l = span_ends (reduce (field_of kind) at n v) (left_in v h) s (omega arith)
    left_zero v h (suc k) s l = go (settled s) (λ t m. left_zero v h k t (omega arith))
      where
        go : NeverLeads kind rows s ⊎ ((u : Vector (field_of kind)) × (at s ≡ Some u)) →
            ((t : ℕ) → s < t → reduce (field_of kind) at n v t ≡ K.nought) → reduce (field_of kind) at n v s ≡ K.nought
        go (inl never) past = never (reduce (field_of kind) at n v) (left_in v h) past
        go (inr u) past = reduce_clears (field_of kind) n at echelon.has_lead n s u.0 v (echelon.below s u.0 u.1) u.1

    pub settled_spans : (v : Vector (field_of kind)) → InSpan kind rows v → Spanned (field_of kind) (IsRow (field_of kind) at) v
    settled_spans v h =
        spanned_reduce (field_of kind) n at echelon v (fun_ext (λ s. left_zero v h n s (omega arith) ∙ sym (unfold vzero in refl)))

-- ---- an elimination of these rows
module _ (kind : Kind) (listed : IsField kind) (n : ℕ) (rows : List (List Num)) (are : AreRows kind n rows) (k : ℕ) (e : Elimination)
    (made : put_rows (map Ok (take k rows)) (begin kind n) ≡ Ok e) where
  formed_front : (j : ℕ) (rs : List (List Num)) (x : Vector (field_of kind)) → IsFormed kind (map Ok (take j rs)) x → IsFormed kind (map Ok rs) x
  formed_front zero rs x h = absurd h
  formed_front (suc j) [] x h = absurd h
  formed_front (suc j) (r ∷ rs) x (inl e) = inl e
  formed_front (suc j) (r ∷ rs) x (inr h) = inr (formed_front j rs x h)

  front : IsGathered kind listed n (IsFormed kind (map Ok (take k rows))) e
  front = gathered kind listed n (map Ok (take k rows)) e (formed_rows kind n (take k rows) (All-take (IsRowOf kind n) k rows are)) made

  -- where each place that may lead has its pivot row
  pub stopped_spans : ((s : ℕ) → IsSettled kind rows e.held.pivots s) → SpansRows e rows
  stopped_spans settled =
      subst (λ e. SpansRows e rows) (sym front.is)
      (λ v. (
        (λ h. spanned_through (field_of kind) (IsRow (field_of kind) at) (IsFormed kind (map Ok rows)) within v h),
        settled_spans kind listed n rows are at
            (standing kind (field_of kind) (number_of kind) (kind_reads kind listed) listed n front.held.pivots front.pivots).echelon stands within v,
      ))
    where
      at : Pivots (field_of kind)
      at = table_of (field_of kind) (number_of kind) front.held.pivots

      within : (u : Vector (field_of kind)) → IsRow (field_of kind) at u → InSpan kind rows u
      within u h =
          spanned_more (field_of kind) (IsFormed kind (map Ok (take k rows))) (IsFormed kind (map Ok rows)) (formed_front k rows) u
          ((front.spans u).1 (spanned_one (field_of kind) (IsRow (field_of kind) at) u h))

      stands : (s : ℕ) → NeverLeads kind rows s ⊎ ((u : Vector (field_of kind)) × (at s ≡ Some u))
      stands s = elim (settled s) [
        | inl h ↦ inl h
        | inr h ↦ inr (
          vector_in kind h.0.row,
          ap (λ (w : Elimination). option_map (λ p. vector_in kind p.row) (find (stands_at (s + 1)) w.held.pivots)) (sym front.is)
              ∙ ap (option_map (λ p. vector_in kind p.row)) h.1,
        )
      ]

  -- where all were put in
  pub whole_spans : length rows ≤ k → SpansRows e rows
  whole_spans l =
      subst (λ e. SpansRows e rows) (sym front.is)
      (subst (λ rs. (v : Vector (field_of kind)) → IsSpanned (over kind listed n front.held) v ↔ InSpan kind rs v) (take_whole k rows l)
      (λ v. ((front.spans v).1, (front.spans v).0)))
    where
      take_whole : (j : ℕ) (rs : List (List Num)) → length rs ≤ j → take j rs ≡ rs
      take_whole zero [] m = refl
      take_whole zero (r ∷ rs) m = absurd (omega arith)
      take_whole (suc j) [] m = refl
      take_whole (suc j) (r ∷ rs) m = ap (λ xs. r ∷ xs) (take_whole j rs (omega arith))

-- the next row
pub made_next : (rows : List (List Num)) (k : ℕ) (row : List Num) (b e new : Elimination) → Some row ≡ slice_get rows k →
    put_rows (map Ok (take k rows)) b ≡ Ok e → put_row (Ok row) e ≡ Ok new → put_rows (map Ok (take (k + 1) rows)) b ≡ Ok new
made_next rows k row b e new is made h =
    let g = got_row rows k row row is in
    ap (λ (rs : List (Result (List Num) Unfit)). put_rows rs b) (map_more Ok rows k row g.0 ∙ ap (λ r. map Ok (take k rows) ++ Ok r ∷ []) g.1)
    ∙ put_then (map Ok (take k rows)) (Ok row ∷ []) b e new made (ap (and_then (put_rows [])) h)

-- ---- what is held after a row
pub data Grows (old new : List PivotRow) : Option ℕ → Type 0 where
  same : new ≡ old → Grows old new None
  longer : (p : PivotRow) → new ≡ old ++ p ∷ [] → Grows old new (Some p.lead)

kept_grows : (kind : Kind) (h g : Held) (origin : Origin) (x : Swept) (lead : Option ℕ) → keep_of kind h origin x lead ≡ Ok g → Grows h.pivots g.pivots lead
kept_grows kind h g origin x None is = same (ap (λ (w : Held). w.pivots) (sym (ok_same is)))
kept_grows kind h g origin x (Some s) is =
    let f = part_fits (λ row. kept h origin x.terms s (inverse_of kind (get_or x.row (s - 1) (residue 0))) row) _ g is in
    longer (record { lead = s; step = length h.steps + 1; row = f.0 }) (ap (λ (w : Held). w.pivots) f.1.1)

pub insert_grows : (e : Elimination) (row : List Num) (origin : Origin) (lead : Option ℕ) (h : Held) → insert_of e row origin ≡ Ok (inserted_as lead h) →
    Grows e.held.pivots h.pivots lead
insert_grows e row origin lead h is =
    let f =
    first_fits (λ x. map_ok (λ g. inserted_as (lead_of x.row) g) (keep_of e.kind e.held origin x (lead_of x.row)))
    (sweep_of e.kind e.held.pivots e.size (record { row = row; terms = [] })) (inserted_as lead h) is in
    let g = part_fits (λ g. inserted_as (lead_of f.0.row) g) (keep_of e.kind e.held origin f.0 (lead_of f.0.row)) (inserted_as lead h) f.1.1 in
    subst (λ (r : Inserted). Grows e.held.pivots r.held.pivots r.lead) (sym g.1.1) (kept_grows e.kind e.held g.0 origin f.0 (lead_of f.0.row) g.1.0)

found_more : (t : PivotRow → Bool) (xs : List PivotRow) (y p : PivotRow) → find t xs ≡ Some p → find t (xs ++ y ∷ []) ≡ Some p
found_more t xs y p h = find-append t xs (y ∷ []) ∙ ap (λ o. option_or o (find t (y ∷ []))) h

found_last : (xs : List PivotRow) (y : PivotRow) → (p : PivotRow) × (find (stands_at y.lead) (xs ++ y ∷ []) ≡ Some p)
found_last xs y = go (find (stands_at y.lead) xs) refl
  where
    go : (o : Option PivotRow) → find (stands_at y.lead) xs ≡ o → (p : PivotRow) × (find (stands_at y.lead) (xs ++ y ∷ []) ≡ Some p)
    go (Some p) e = (p, found_more (stands_at y.lead) xs y p e)
    go None e = (y, find-append (stands_at y.lead) xs (y ∷ []) ∙ ap (λ o. option_or o (find (stands_at y.lead) (y ∷ []))) e ∙ found_first y [])

-- the flags after a row
pub settled_next : (kind : Kind) (rows : List (List Num)) (old new : List PivotRow) (lead : Option ℕ) (flags now : List Bool) → Grows old new lead →
    LowersLead flags lead now → ((s : ℕ) → get_or flags s false ≡ false → IsSettled kind rows old s) →
    (s : ℕ) → get_or now s false ≡ false → IsSettled kind rows new s
settled_next kind rows old new lead flags now grows closes settled s off = go lead grows (closes s off)
  where
    more : (l : Option ℕ) → Grows old new l → HasPivot old s → HasPivot new s
    more _ (same e) h = subst (λ ps. HasPivot ps s) (sym e) h
    more _ (longer p e) h = subst (λ ps. HasPivot ps s) (sym e) (h.0, found_more (stands_at (s + 1)) old p h.0 h.1)

    here : (l : Option ℕ) → Grows old new l → l ≡ Some (s + 1) → HasPivot new s
    here _ (same e) h = absurd (none_some h)
    here _ (longer p e) h =
        subst (λ ps. HasPivot ps s) (sym e) (subst (λ i. (q : PivotRow) × (find (stands_at i) (old ++ p ∷ []) ≡ Some q)) (some_same h) (found_last old p))

    go : (l : Option ℕ) → Grows old new l → (get_or flags s false ≡ false) ⊎ (l ≡ Some (s + 1)) → IsSettled kind rows new s
    go l g (inl h) = elim (settled s h) [ inl a ↦ inl a | inr a ↦ inr (more l g a) ]
    go l g (inr h) = inr (here l g h)

-- ---- over a prime all fits
fit_fault : {T : Type 0} (r : Result T Unfit) (fault : Fault) → DoesFit r → IsFault fault r → fault ≡ NoMemory
fit_fault r NoMemory h f = refl
fit_fault r (Unfits u) h f = absurd (ok_not_err (sym h.1 ∙ f))

pub put_fault : (e : Elimination) (row : List Num) (fault : Fault) → IsOverPrime e.kind → IsFault fault (put_row (Ok row) e) → fault ≡ NoMemory
put_fault e row fault over =
    fit_fault (put_row (Ok row) e) fault
    (map_fits (λ x. with_held e x.held) (insert_of e row (Row 0))
    (insert_fits e.kind (subst Always (sym over.prime) (prime_always (prime_in e.kind))) e.size e.held row (Row 0)))

pub over_at : (kind here : Kind) → here ≡ kind → IsOverPrime kind → IsOverPrime here
over_at kind here e over = subst IsOverPrime (sym e) over

pub row_at : (kind here : Kind) (n m : ℕ) (row : List Num) → here ≡ kind → m ≡ n → IsRowOf kind n row → IsRowOf here m row
row_at kind here n m row e d h = subst (λ k. IsRowOf k m row) (sym e) (subst (λ j. IsRowOf kind j row) (sym d) h)

pub close_fault : (e : Elimination) (fault : Fault) → IsOverPrime e.kind → IsFault fault (map_ok rows_of (closed_of e)) → fault ≡ NoMemory
close_fault e fault over =
    fit_fault (map_ok rows_of (closed_of e)) fault
    (map_fits rows_of (closed_of e) (map_fits (λ (h : Held). h.pivots) (close_of e)
    (close_fits e.kind (subst Always (sym over.prime) (prime_always (prime_in e.kind))) e.held.pivots e.size (record { pivots = []; steps = e.held.steps }))))

pub over_field : (kind : Kind) → IsOverPrime kind → IsField kind
over_field kind over = subst IsField (sym over.prime) over.listed

-- closed rows of one span are one list
pub closed_is : (e : Elimination) (rows closed : List (List Num)) → IsOverPrime e.kind → AreRows e.kind e.size rows → SpansRows e rows → ClosesTo e closed →
    span_of e.kind e.size (map Ok rows) ≡ Ok closed
closed_is e rows closed over are spans closes =
    let kind = e.kind in
    let fits = subst (λ k. (all : List (List Num)) × (span_of k e.size (map Ok rows) ≡ Ok all)) (sym over.prime)
    (spans_fit (prime_in e.kind) e.size (map Ok rows) (all_formed_map (λ row. Ok row) rows (λ row. (row, refl)))) in
    let m = span_means e.kind (over_field e.kind over) e.size (map Ok rows) fits.0 (formed_rows e.kind e.size rows are) fits.1 in
    fits.1
    ∙ ap (λ (rs : List (List Num)). Ok rs)
    (rows_one e.kind (over_field e.kind over) e.size (IsFormed e.kind (map Ok rows)) fits.0 closed m.0 closes.closed
    (record {
      each = λ v h. (m.1 v).1 (spanned_one (field_of e.kind) (IsFormed e.kind (map Ok rows)) v h);
      from = λ i l. (m.1 (row_in e.kind fits.0 i)).0 (in_span (field_of e.kind) (length fits.0) (row_in e.kind fits.0) i l);
    })
    (record {
      each = λ v h. (closes.span v).1 ((spans v).1 (spanned_one (field_of e.kind) (IsFormed e.kind (map Ok rows)) v h));
      from = λ i l. (spans (row_in e.kind closed i)).0 ((closes.span (row_in e.kind closed i)).0
          (in_span (field_of e.kind) (length closed) (row_in e.kind closed) i l));
    }))

pub never_at : (kind here : Kind) (rows : List (List Num)) (flags : List Bool) → here ≡ kind → OthersNeverLead kind rows flags → OthersNeverLead here rows flags
never_at kind here rows flags e h = subst (λ k. OthersNeverLead k rows flags) (sym e) h

-- what is answered in the end
pub closed_gives : (kind : Kind) (n : ℕ) (e : Elimination) (rows : List (List Num)) (r : Result (List (List Num)) Fault) → e.kind ≡ kind → e.size ≡ n →
    IsOverPrime kind → AreRows kind n rows → SpansRows e rows → GivesBy (λ (closed : List (List Num)). closed) r (map_ok rows_of (closed_of e)) →
    IfOk r (λ closed. ClosesTo e closed) → GivesBy (λ (closed : List (List Num)). closed) r (span_of kind n (map Ok rows))
closed_gives kind n e rows (Ok closed) k s over are spans gives closes =
    subst (λ j. span_of kind j (map Ok rows) ≡ Ok closed) s
    (subst (λ h. span_of h e.size (map Ok rows) ≡ Ok closed) k
    (closed_is e rows closed (over_at kind e.kind k over)
    (subst (λ j. AreRows e.kind j rows) (sym s) (subst (λ h. AreRows h n rows) (sym k) are)) spans closes))
closed_gives kind n e rows (Err fault) k s over are spans gives closes =
    subst (λ f. IsFault f (span_of kind n (map Ok rows))) (sym (close_fault e fault (over_at kind e.kind k over) gives)) tt
