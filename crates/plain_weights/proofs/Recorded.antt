-- The steps that a weight's run records: in order, with one Insert step for each origin.
use Rattle.std.specs.Prelude.{ℕ, ◌+◌, ◌≡◌, List, [], ◌∷◌, length, Ok, All}
use mathlib.Core.Path.{refl, ap, ◌∙◌, subst}
use native.Mathlib.Omega.{arith}
use Rattle.math_linear.specs.Vector.{Vector}
use Rattle.fpl_numbers.specs.declared.number.Num.{Num}
use Rattle.fpl_numbers.specs.Numbers.{IsField}
use Rattle.fpl_numbers.specs.Kinds.{field_of}
use Rattle.fpl_numbers.specs.Results.{map_ok}
use Rattle.fpl_rows.proofs.Fits.{ok_same, first_fits, part_fits}
use Rattle.fpl_log.specs.declared.step.Origin.{Origin}
use Rattle.fpl_log.specs.Slim.{AreInOrder}
use Rattle.plain_elimination.specs.Plain.{IsPivotRow, Held, Elimination, Inserted, insert_of, close_of, rows_of}
use Rattle.plain_elimination.proofs.Found.{insert_pivots}
use Rattle.fpl_model.specs.declared.presentation.Presentation.{Presentation}
use Rattle.fpl_table.specs.Plain.{PlainTable, symbols_in}
use Rattle.fpl_rewrite.specs.Origins.{origins_of}
use Rattle.fpl_rewrite.specs.Rows.{row_of_origin}
use Rattle.plain_weights.specs.Weight.{begun, with_held, put_of, gather, again, close_weight}
use Rattle.plain_weights.proofs.Gathered.{again_same, ReadsRows, first_of, rest}
use Rattle.plain_weights.proofs.InOrder.{Recorded, insert_recorded, close_order, insert_counts, close_counts}

module _ (T : PlainTable) (p : Presentation) (n : ℕ) where
  -- one origin and its parts
  pub record Put (o : Origin) (h : Held) (e : Elimination) : Type 0 where
    pub row : List Num
    pub inserted : Inserted
    pub reads : row_of_origin T p o ≡ Ok row
    pub inserts : insert_of (record { kind = T.kind; size = n; held = h }) row o ≡ Ok inserted
    pub is : e ≡ record { kind = T.kind; size = n; held = inserted.held }

  pub put_parts : (o : Origin) (h : Held) (e : Elimination) → put_of T p o (record { kind = T.kind; size = n; held = h }) ≡ Ok e → Put o h e
  put_parts o h e eq =
      let f = first_fits {T = List Num}
      (λ row. map_ok (λ x. with_held (record { kind = T.kind; size = n; held = h }) x.held)
      (insert_of (record { kind = T.kind; size = n; held = h }) row o)) (row_of_origin T p o) e eq in
      let g = part_fits {T = Inserted} (λ x. with_held (record { kind = T.kind; size = n; held = h }) x.held)
      (insert_of (record { kind = T.kind; size = n; held = h }) f.0 o) e f.1.1 in
      record { row = f.0; inserted = g.0; reads = f.1.0; inserts = g.1.0; is = g.1.1 }

  gather_counts : (os : List Origin) (h : Held) (e : Elimination) → gather T p os (record { kind = T.kind; size = n; held = h }) ≡ Ok e →
      length e.held.steps ≡ length h.steps + length os
  gather_counts [] h e eq = subst (λ e. length e.held.steps ≡ length h.steps + 0) (ok_same eq) (omega arith)
  gather_counts (o ∷ os) h e eq =
      let q = first_fits {T = Elimination} (λ f. gather T p os f) (put_of T p o (record { kind = T.kind; size = n; held = h })) e eq in
      let g = put_parts o h q.0 q.1.0 in
      let a = insert_counts T.kind n h g.row o g.inserted g.inserts in
      let b = gather_counts os g.inserted.held e (subst (λ w. gather T p os w ≡ Ok e) g.is q.1.1) in omega arith

  -- what gathering records, with the kind that stays
  record GatheredInOrder (e : Elimination) : Type 0 where
    kind : e.kind ≡ T.kind
    recorded : Recorded e.held.pivots e.held.steps

  module _ (is_field : IsField T.kind) (vector : Origin → Vector (field_of T.kind)) where
    gather_recorded : (os : List Origin) (h : Held) (e : Elimination) → ReadsRows T is_field p n vector os → All (IsPivotRow T.kind n) h.pivots →
        Recorded h.pivots h.steps →
        gather T p os (record { kind = T.kind; size = n; held = h }) ≡ Ok e → GatheredInOrder e
    gather_recorded [] h e r all rec eq = subst GatheredInOrder (ok_same eq) (record { kind = refl; recorded = rec })
    gather_recorded (o ∷ os) h e r all rec eq =
        let q = first_fits {T = Elimination} (λ f. gather T p os f) (put_of T p o (record { kind = T.kind; size = n; held = h })) e eq in
        let g = put_parts o h q.0 q.1.0 in
        let here = first_of T is_field p n vector o os in
        let elements = r.elements o here g.row g.reads in
        let long = r.long o here g.row g.reads in
        let pivots = insert_pivots (record { kind = T.kind; size = n; held = h }) g.row o g.inserted is_field all long elements g.inserts in
        let more = insert_recorded T.kind is_field n h g.row o g.inserted all elements long rec g.inserts in
        gather_recorded os g.inserted.held e (rest T is_field p n vector o os r) pivots more (subst (λ w. gather T p os w ≡ Ok e) g.is q.1.1)

nothing_recorded : Recorded [] []
nothing_recorded = record { order = tt; steps = λ i d l. absurd (omega (arith, l)) }

module _ (T : PlainTable) (p : Presentation) where
  -- the parts of a weight's run
  pub record Run (h : Held) : Type 0 where
    pub gathered : Elimination
    pub gathers : gather T p (origins_of T p) (begun T) ≡ Ok gathered
    pub closes : close_of gathered ≡ Ok h

  pub run_parts : (h : Held) → close_weight T p ≡ Ok h → Run h
  run_parts h eq =
      let f = first_fits {T = Elimination} _ (gather T p (origins_of T p) (begun T)) h eq in
      let g = first_fits {T = Held} (λ g. again T p (rows_of g.pivots) (origins_of T p) g) (close_of f.0) h f.1.1 in
      record { gathered = f.0; gathers = f.1.0; closes = g.1.0 ∙ ap Ok (again_same T p (rows_of g.0.pivots) (origins_of T p) g.0 h g.1.1) }

  pub origins_counted : (h : Held) → close_weight T p ≡ Ok h → length h.steps ≡ length (origins_of T p) + length h.pivots
  origins_counted h eq =
      let r = run_parts h eq in
      let a = gather_counts T p (length (symbols_in T)) (origins_of T p) (record { pivots = []; steps = [] }) r.gathered r.gathers in
      let b = close_counts r.gathered.kind r.gathered.held.pivots r.gathered.size
      (record { pivots = []; steps = r.gathered.held.steps }) h r.closes in omega arith

  pub steps_in_order : (is_field : IsField T.kind) (vector : Origin → Vector (field_of T.kind)) →
      ReadsRows T is_field p (length (symbols_in T)) vector (origins_of T p) → (h : Held) → close_weight T p ≡ Ok h → AreInOrder [] 0 h.steps
  steps_in_order is_field vector reads h eq =
      let r = run_parts h eq in
      let g = gather_recorded T p (length (symbols_in T)) is_field vector (origins_of T p) (record { pivots = []; steps = [] }) r.gathered reads
      (λ i d l. absurd (omega (arith, l))) nothing_recorded r.gathers in
      close_order r.gathered.kind r.gathered.held.pivots r.gathered.size (record { pivots = []; steps = r.gathered.held.steps }) h refl g.recorded r.closes
