-- The rows that a weight gathers span what the vectors of its origins span; closed, they are the closed list of that span.
use Rattle.std.specs.Prelude.{ℕ, zero, suc, ◌+◌, ◌≡◌, ◌<◌, ◌↔◌, ◌⊎◌, List, [], ◌∷◌, length, get_or, Ok, All, Contains}
use mathlib.Core.Logic.{inl, inr}
use mathlib.Core.Path.{sym, refl, ap, ◌∙◌, subst}
use native.Mathlib.Omega.{arith}
use Rattle.math_fields.specs.Field.{Field}
use Rattle.math_linear.specs.Vector.{Vector}
use Rattle.math_linear.specs.Span.{Spanned}
use Rattle.math_linear.proofs.Span.{spanned_one, spanned_through}
use Rattle.fpl_numbers.specs.declared.number.Num.{Num}
use Rattle.fpl_numbers.specs.Numbers.{IsField}
use Rattle.fpl_numbers.specs.Kinds.{field_of, number_of}
use Rattle.fpl_numbers.specs.Results.{map_ok}
use Rattle.fpl_numbers.specs.Reads.{Reads}
use Rattle.fpl_numbers.proofs.KindReads.{kind_reads}
use Rattle.fpl_scalar.specs.Vectors.{AreElements}
use Rattle.fpl_rows.specs.Meaning.{vector_in}
use Rattle.fpl_rows.proofs.Fits.{ok_same, first_fits, part_fits}
use Rattle.fpl_log.specs.declared.step.Origin.{Origin}
use Rattle.plain_elimination.specs.Plain.{PivotRow, IsPivotRow, Held, Elimination, Inserted, insert_of, sweep_rows}
use Rattle.plain_elimination.specs.Spans.{InSpanAt}
use Rattle.plain_elimination.proofs.Spans.{standing, insert_reads, spans_more}
use Rattle.fpl_model.specs.declared.presentation.Presentation.{Presentation}
use Rattle.fpl_table.specs.Plain.{PlainTable}
use Rattle.fpl_rewrite.specs.Rows.{row_of_origin}
use Rattle.plain_weights.specs.Weight.{with_held, put_of, gather, again}

-- sweeping the origins again changes nothing
pub again_same : {A : Type 0} (T : PlainTable) (p : Presentation) (rows : List (List Num)) (os : List Origin) (x y : A) → again T p rows os x ≡ Ok y → x ≡ y
again_same T p rows [] x y e = ok_same e
again_same T p rows (o ∷ os) x y e =
    let f = first_fits _ (row_of_origin T p o) y e in
    let g = first_fits {T = List Num} (λ left. again T p rows os x) (sweep_rows T.kind rows f.0) y f.1.1 in
    again_same T p rows os x y g.1.1

module _ (T : PlainTable) (is_field : IsField T.kind) (p : Presentation) (n : ℕ) (vector : Origin → Vector (field_of T.kind)) where
  abbrev K : Field
  K = field_of T.kind

  abbrev value : Num → K.Carrier
  value = number_of T.kind

  reads : Reads T.kind K value
  reads = kind_reads T.kind is_field

  -- each row that an origin of the list has stands for its vector
  pub record ReadsRows (os : List Origin) : Type 0 where
    pub elements : (o : Origin) → Contains os o → (v : List Num) → row_of_origin T p o ≡ Ok v → AreElements T.kind v
    pub long : (o : Origin) → Contains os o → (v : List Num) → row_of_origin T p o ≡ Ok v → length v ≡ n
    pub stands : (o : Origin) → Contains os o → (v : List Num) → row_of_origin T p o ≡ Ok v → vector_in T.kind v ≡ vector o

  -- x is the vector of one of the origins
  abbrev pub IsAmong : List Origin → Vector K → Type 0
  IsAmong os x = (o : Origin) × Contains os o × (vector o ≡ x)

  pub first_of : (o : Origin) (os : List Origin) → Contains (o ∷ os) o
  first_of o os = (0, omega arith, refl)

  later : (o : Origin) (os : List Origin) (x : Origin) → Contains os x → Contains (o ∷ os) x
  later o os x h = (h.0 + 1, (let l = h.1 in omega arith), at h.0 h.2)
    where
      at : (k : ℕ) → get_or os k x ≡ x → get_or (o ∷ os) (k + 1) x ≡ x
      at k e = subst (λ w. get_or (o ∷ os) w x ≡ x) (let f : suc k ≡ k + 1 = omega arith in f) e

  pub rest : (o : Origin) (os : List Origin) → ReadsRows (o ∷ os) → ReadsRows os
  rest o os h = record {
    elements = λ x c. h.elements x (later o os x c);
    long = λ x c. h.long x (later o os x c);
    stands = λ x c. h.stands x (later o os x c);
  }

  -- the rows span what the vectors of a kind span
  abbrev SpansAll : List PivotRow → (Vector K → Type 0) → Type 0
  SpansAll pivots S = (y : Vector K) → Spanned K S y ↔ InSpanAt K value pivots y

  spans_as : (pivots : List PivotRow) (S S' : Vector K → Type 0) → ((x : Vector K) → S x → S' x) → ((x : Vector K) → S' x → S x) → SpansAll pivots S →
      SpansAll pivots S'
  spans_as pivots S S' f g h y = (
    (λ k. (h y).0 (spanned_through K S' S (λ x m. spanned_one K S x (g x m)) y k)),
    (λ k. spanned_through K S S' (λ x m. spanned_one K S' x (f x m)) y ((h y).1 k)),
  )

  -- what gathering gives
  pub record IsGathered (S : Vector K → Type 0) (os : List Origin) (e : Elimination) : Type 0 where
    pub kind : e.kind ≡ T.kind
    pub size : e.size ≡ n
    pub rows : All (IsPivotRow T.kind n) e.held.pivots
    pub spans : SpansAll e.held.pivots (λ x. S x ⊎ IsAmong os x)

  pub gather_spans : (os : List Origin) (h : Held) (e : Elimination) (S : Vector K → Type 0) → ReadsRows os → All (IsPivotRow T.kind n) h.pivots →
      SpansAll h.pivots S →
      gather T p os (record { kind = T.kind; size = n; held = h }) ≡ Ok e → IsGathered S os e
  gather_spans [] h e S r rows spans eq =
      subst (IsGathered S []) (ok_same eq) (record {
        kind = refl;
        size = refl;
        rows = rows;
        spans = spans_as h.pivots S (λ x. S x ⊎ IsAmong [] x) (λ x m. inl m) (λ x m. elim m [
          | inl s ↦ s
          | inr a ↦ absurd (let l = a.1.1 in omega arith)
        ]) spans;
      })
  gather_spans (o ∷ os) h e S r rows spans eq =
      let q = first_fits {T = Elimination} (λ f. gather T p os f) (put_of T p o (record { kind = T.kind; size = n; held = h })) e eq in
      let f = first_fits {T = List Num}
      (λ row. map_ok (λ x. with_held (record { kind = T.kind; size = n; held = h }) x.held)
      (insert_of (record { kind = T.kind; size = n; held = h }) row o)) (row_of_origin T p o) q.0 q.1.0 in
      let row = f.0 in
      let g = part_fits {T = Inserted} (λ x. with_held (record { kind = T.kind; size = n; held = h }) x.held)
      (insert_of (record { kind = T.kind; size = n; held = h }) row o) q.0 f.1.1 in
      let x = g.0 in
      let here = first_of o os in
      let put = insert_reads T.kind K value reads is_field n h row o x (standing T.kind K value reads is_field n h.pivots rows)
      (r.elements o here row f.1.0) (r.long o here row f.1.0) g.1.0 in
      let more = spans_more T.kind K value reads is_field n h.pivots x.held.pivots x.lead (vector_in T.kind row) S spans put.inserted in
      let d = gather_spans os x.held e (λ y. S y ⊎ (y ≡ vector_in T.kind row)) (rest o os r) put.pivots more
      (subst (λ w. gather T p os w ≡ Ok e) g.1.1 q.1.1) in
      record {
        kind = d.kind;
        size = d.size;
        rows = d.rows;
        spans = spans_as e.held.pivots (λ y. (S y ⊎ (y ≡ vector_in T.kind row)) ⊎ IsAmong os y) (λ y. S y ⊎ IsAmong (o ∷ os) y)
            (λ y m. forth row y (r.stands o here row f.1.0) m) (λ y m. back row y (r.stands o here row f.1.0) m) d.spans;
      }
    where
      forth : (row : List Num) (y : Vector K) → vector_in T.kind row ≡ vector o → (S y ⊎ (y ≡ vector_in T.kind row)) ⊎ IsAmong os y → S y ⊎ IsAmong (o ∷ os) y
      forth row y s (inl (inl m)) = inl m
      forth row y s (inl (inr m)) = inr (o, first_of o os, sym (m ∙ s))
      forth row y s (inr a) = inr (a.0, later o os a.0 a.1, a.2)

      back : (row : List Num) (y : Vector K) → vector_in T.kind row ≡ vector o → S y ⊎ IsAmong (o ∷ os) y → (S y ⊎ (y ≡ vector_in T.kind row)) ⊎ IsAmong os y
      back row y s (inl m) = inl (inl m)
      back row y s (inr a) = by_place a.0 a.1.0 a.1.1 a.1.2 a.2
        where
          by_place : (x : Origin) (k : ℕ) → k < length (o ∷ os) → get_or (o ∷ os) k x ≡ x → vector x ≡ y → (S y ⊎ (y ≡ vector_in T.kind row)) ⊎ IsAmong os y
          by_place x zero l e v = inl (inr (sym v ∙ ap vector (sym e) ∙ sym s))
          by_place x (suc k) l e v = inr (x, (k, omega arith, e), v)
