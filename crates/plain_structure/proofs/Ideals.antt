-- The plain run of an ideal gives its closed form.
use Rattle.std.specs.Prelude.{◌≡◌, ℕ, zero, suc, ◌+◌, ◌<◌, ◌≤◌, ◌↔◌, ◌⊎◌, List, [], ◌++◌, length, map, get_or, Result, Ok, cond, nat_eq, true, false}
use mathlib.Core.Logic.{inl, inr}
use mathlib.Core.Path.{sym, refl, ap, ◌∙◌, subst}
use native.Mathlib.Omega.{arith}
use native.Mathlib.Decide.{ℕ_discrete}
use Rattle.math_linear.specs.Vector.{Vector}
use Rattle.math_linear.specs.Span.{Spanned, InSpan, IsRowOf}
use Rattle.math_linear.specs.Span.Spanned.{span_kind}
use Rattle.math_linear.specs.Closed.{IsClosed}
use Rattle.math_linear.proofs.Span.{spanned_more, spanned_through, in_span, rows_span, span_of_kind, by_span}
use Rattle.fpl_numbers.specs.declared.number.Num.{Num}
use Rattle.fpl_numbers.specs.declared.number.Unfit.{Unfit}
use Rattle.fpl_numbers.specs.Numbers.{IsField}
use Rattle.fpl_numbers.specs.Kinds.{field_of, number_of}
use Rattle.fpl_rows.specs.Meaning.{vector_in, row_in, pivot_in, IsRowOf as IsRowOfKind, IsClosedList, InSpanOf}
use Rattle.fpl_rows.proofs.Fits.{ok_same, first_fits}
use Rattle.fpl_rows.proofs.Readings.{vector_past}
use Rattle.math_algebra.specs.Tree.{Tree, none}
use Rattle.fpl_model.specs.declared.presentation.Presentation.{Presentation}
use Rattle.fpl_table.specs.Plain.{PlainTable, table_in}
use Rattle.fpl_table.specs.Value.{value_of}
use Rattle.plain_sources.proofs.Laws.{value_stands, rows_of_shape, weights_of_built}
use Rattle.plain_sources.specs.Premises.{HasRows}
use Rattle.math_subspaces.proofs.Counts.{count_bounded, count_grows, equal_counts}
use Rattle.math_structure.specs.Structure.{InIdeal}
use Rattle.math_subspaces.specs.Subspaces.Least.{least_kind, least_none, least_sum, least_multiple}
use Rattle.math_structure.specs.Laws.{IsRoundRow}
use Rattle.math_structure.proofs.Rounds.{rounds_stay_within}
use Rattle.plain_spans.specs.Plain.{span_of}
use Rattle.plain_spans.specs.Means.{IsFormed, AreFormed}
use Rattle.plain_spans.proofs.Among.{Among, formed_is, is_formed, are_formed, among_left, among_right, among_either, among_map, map_among}
use Rattle.plain_spans.proofs.Gathered.{span_means, span_fits}
use Rattle.plain_structure.specs.Plain.{Rows, size, bracket_rows, round_of, after_round, rounds_from, ideal_of}
use Rattle.plain_structure.specs.Means.{AreRowsOf, start_in, IdealMeans}
use Rattle.plain_structure.proofs.Acting.{IsActing, IsEnough, is_enough}
use Rattle.plain_structure.proofs.Held.{held_field}
use Rattle.plain_structure.proofs.BracketRows.{is_bracket, stands, formed_bracket, bracket_formed}

module _ (T : PlainTable) (listed : IsField T.kind) (has : HasRows T) (enough : IsEnough T.kind T) (m : ℕ) (start : ℕ → Vector (field_of T.kind)) where
  abbrev Ideal : Vector (field_of T.kind) → Type 0
  Ideal = InIdeal (field_of T.kind) (table_in T.kind T) (IsRowOf (field_of T.kind) m start)

  -- the rows of a round
  abbrev IsRound : ℕ → (ℕ → Vector (field_of T.kind)) → Vector (field_of T.kind) → Type 0
  IsRound n row v = IsRowOf (field_of T.kind) n row v ⊎ IsActing T.kind T n row v

  round_row : (n : ℕ) (row : ℕ → Vector (field_of T.kind)) (v : Vector (field_of T.kind)) → IsRound n row v →
      IsRoundRow (field_of T.kind) (table_in T.kind T) n row v
  round_row n row v (inl r) = inl r
  round_row n row v (inr u) = inr (u.0, u.1, u.2, u.4, u.5)

  pub record IsWithinIdeal (rows : Rows) : Type 0 where
    pub closed : IsClosedList T.kind (size T) rows
    pub holds : (k : ℕ) → k < m → InSpanOf T.kind rows (start k)
    pub within : (i : ℕ) → i < length rows → InIdeal (field_of T.kind) (table_in T.kind T) (IsRowOf (field_of T.kind) m start) (row_in T.kind rows i)

  module _ (rows : Rows) (h : IsWithinIdeal rows) where
    round_formed : AreFormed T.kind (size T) (map Ok rows ++ bracket_rows T rows)
    round_formed = are_formed T.kind (size T) _ (λ z a. each z (among_either (map Ok rows) (bracket_rows T rows) (Ok z) a))
      where
        each : (z : List Num) → Among {X = Result (List Num) Unfit} (map Ok rows) (Ok z) ⊎ Among (bracket_rows T rows) (Ok z) → IsRowOfKind T.kind (size T) z
        each z (inl a) = (let r = among_map Ok rows [] (Ok z) a in subst (IsRowOfKind T.kind (size T)) (ok_same r.2) (h.closed.are_rows r.0 [] r.1))
        each z (inr a) = (let b = is_bracket T listed has rows h.closed.are_rows (Ok z) a in
            (stands T listed has rows h.closed.are_rows b.0 b.1 z b.2 b.4 b.5).0)

    round_to : (v : Vector (field_of T.kind)) → IsFormed T.kind (map Ok rows ++ bracket_rows T rows) v → IsRound (length rows) (row_in T.kind rows) v
    round_to v f = (let r = formed_is T.kind _ v f in each r.0 r.2 (among_either (map Ok rows) (bracket_rows T rows) (Ok r.0) r.1))
      where
        each : (z : List Num) → v ≡ vector_in T.kind z → Among {X = Result (List Num) Unfit} (map Ok rows) (Ok z) ⊎
            Among (bracket_rows T rows) (Ok z) → IsRound (length rows) (row_in T.kind rows) v
        each z e (inl a) = (let r = among_map Ok rows [] (Ok z) a in inl (r.0, r.1, e ∙ ap (vector_in T.kind) (sym (ok_same r.2))))
        each z e (inr a) = inr (formed_bracket T listed has rows h.closed.are_rows v (subst (IsFormed T.kind (bracket_rows T rows)) (sym e)
            (is_formed T.kind (bracket_rows T rows) z a)))

    round_from : (next : Rows) → round_of T rows ≡ Ok next → (v : Vector (field_of T.kind)) → IsRound (length rows) (row_in T.kind rows) v →
        Spanned (field_of T.kind) (IsFormed T.kind (map Ok rows ++ bracket_rows T rows)) v
    round_from next e v (inl r) =
        span_kind v
        (subst (IsFormed T.kind (map Ok rows ++ bracket_rows T rows)) (sym r.2)
        (is_formed T.kind _ (get_or rows r.0 []) (among_left (map Ok rows) (bracket_rows T rows) _ (map_among Ok rows [] r.0 r.1))))
    round_from next e v (inr u) =
        spanned_more (field_of T.kind) (IsFormed T.kind (bracket_rows T rows)) (IsFormed T.kind (map Ok rows ++ bracket_rows T rows)) further v
        (bracket_formed T listed has rows h.closed.are_rows
        (λ r a. span_fits T.kind (size T) (map Ok rows ++ bracket_rows T rows) next e r (among_right (map Ok rows) (bracket_rows T rows) r a)) v u)
      where
        further : (x : Vector (field_of T.kind)) → IsFormed T.kind (bracket_rows T rows) x → IsFormed T.kind (map Ok rows ++ bracket_rows T rows) x
        further x k =
            let f = formed_is T.kind (bracket_rows T rows) x k in
            subst (IsFormed T.kind (map Ok rows ++ bracket_rows T rows)) (sym f.2) (is_formed T.kind _ f.0
            (among_right (map Ok rows) (bracket_rows T rows) _ f.1))

    module _ (next : Rows) (e : round_of T rows ≡ Ok next) where
      pub next_span : (v : Vector (field_of T.kind)) → InSpanOf T.kind next v ↔ Spanned (field_of T.kind) (IsRound (length rows) (row_in T.kind rows)) v
      next_span v =
          let means = span_means T.kind listed (size T) (map Ok rows ++ bracket_rows T rows) next round_formed e in (
            (λ s. spanned_more (field_of T.kind) _ _ round_to v ((means.1 v).0 s)),
            (λ s. (means.1 v).1 (spanned_through (field_of T.kind) _ _ (round_from next e) v s)),
          )

      pub next_closed : IsClosedList T.kind (size T) next
      next_closed = (span_means T.kind listed (size T) (map Ok rows ++ bracket_rows T rows) next round_formed e).0

      pub rows_in_next : (v : Vector (field_of T.kind)) → InSpanOf T.kind rows v → InSpanOf T.kind next v
      rows_in_next v s =
          (next_span v).1
          (spanned_more (field_of T.kind) _ _ (λ x r. inl r) v (span_of_kind (field_of T.kind)
          (IsRowOf (field_of T.kind) (length rows) (row_in T.kind rows)) (length rows) (row_in T.kind rows)
          (rows_span (field_of T.kind) (length rows) (row_in T.kind rows)) v s))

      pub next_within : IsWithinIdeal next
      next_within = record {
        closed = next_closed;
        holds = λ k l. rows_in_next _ (h.holds k l);
        within = λ i l.
            rounds_stay_within (field_of T.kind) (table_in T.kind T) m start (length rows) (row_in T.kind rows) h.within (row_in T.kind next i)
            (spanned_more (field_of T.kind) _ _ (round_row (length rows) (row_in T.kind rows)) (row_in T.kind next i)
            ((next_span _).0 (in_span (field_of T.kind) (length next) (row_in T.kind next) i l)));
      }

      pub grown : length rows ≤ length next
      grown = count_grows (field_of T.kind) (length rows) (length next) (row_in T.kind rows) (row_in T.kind next) (pivot_in rows)
          (pivot_in next) h.closed.closed next_closed.closed rows_in_next

      -- a round that doesn't raise the dimension
      pub stopped : length next ≡ length rows → AreRowsOf T.kind T next (InIdeal (field_of T.kind) (table_in T.kind T) (IsRowOf (field_of T.kind) m start))
      stopped same =
          let b : IsClosed (field_of T.kind) (length rows) (row_in T.kind next) (pivot_in next) =
          subst (λ n. IsClosed (field_of T.kind) n (row_in T.kind next) (pivot_in next)) same next_closed.closed in
          let spans : (v : Vector (field_of T.kind)) → InSpan (field_of T.kind) (length rows) (row_in T.kind next) v ↔
          Spanned (field_of T.kind) (IsRound (length rows) (row_in T.kind rows)) v =
          subst (λ n. (v : Vector (field_of T.kind)) → InSpan (field_of T.kind) n (row_in T.kind next) v ↔
          Spanned (field_of T.kind) (IsRound (length rows) (row_in T.kind rows)) v) same next_span in
          let ideal : (v : Vector (field_of T.kind)) → InSpan (field_of T.kind) (length rows) (row_in T.kind rows) v ↔ Ideal v =
          enough.rounds m start (length rows) (row_in T.kind rows) h.holds h.within
          (λ u a.
          equal_counts (field_of T.kind) (length rows) (row_in T.kind rows) (row_in T.kind next) (pivot_in rows) (pivot_in next) h.closed.closed b
          (λ x t. subst (λ n. InSpan (field_of T.kind) n (row_in T.kind next) x) same (rows_in_next x t)) u ((spans u).1 (span_kind u (inr a)))) in
          record {
            closed = next_closed;
            span = λ v. (
              (λ s. (ideal v).0
                  (equal_counts (field_of T.kind) (length rows) (row_in T.kind rows) (row_in T.kind next) (pivot_in rows) (pivot_in next) h.closed.closed b
                  (λ u t. subst (λ n. InSpan (field_of T.kind) n (row_in T.kind next) u) same (rows_in_next u t)) v
                  (subst (λ n. InSpan (field_of T.kind) n (row_in T.kind next) v) same s))),
              (λ s. rows_in_next v ((ideal v).1 s)),
            );
          }

  -- rounds, where there are enough
  pub rounds_give : (fuel : ℕ) (rows out : Rows) → IsWithinIdeal rows → size T < fuel + length rows → rounds_from T fuel rows ≡ Ok out →
      AreRowsOf T.kind T out (InIdeal (field_of T.kind) (table_in T.kind T) (IsRowOf (field_of T.kind) m start))
  rounds_give zero rows out h l e =
      let b = count_bounded (field_of T.kind) (size T) (length rows) (row_in T.kind rows) (pivot_in rows) h.closed.closed
      (λ i k s past. short rows h i s k past) in
      absurd (omega arith)
    where
      short : (rows : Rows) → IsWithinIdeal rows → (i s : ℕ) → i < length rows → size T ≤ s → row_in T.kind rows i s ≡ (field_of T.kind).nought
      short rows h i s k past = vector_past (field_of T.kind) (number_of T.kind) (get_or rows i []) s
          (let a = (h.closed.are_rows i [] k).length_is in omega arith)
  rounds_give (suc fuel) rows out h l e =
      let r = first_fits (after_round (rounds_from T fuel) rows) (round_of T rows) out e in
      go r.0 r.1.0 (ℕ_discrete (length r.0) (length rows)) r.1.1 (λ next k d. rounds_give fuel next out k d)
    where
      go : (next : Rows) → round_of T rows ≡ Ok next → Dec (length next ≡ length rows) → after_round (rounds_from T fuel) rows next ≡ Ok out →
          ((next : Rows) → IsWithinIdeal next → size T < fuel + length next → rounds_from T fuel next ≡ Ok out →
          AreRowsOf T.kind T out (InIdeal (field_of T.kind) (table_in T.kind T) (IsRowOf (field_of T.kind) m start))) →
          AreRowsOf T.kind T out (InIdeal (field_of T.kind) (table_in T.kind T) (IsRowOf (field_of T.kind) m start))
      go next is (yes d) f further =
          let t : nat_eq (length next) (length rows) ≡ true = grind arith in
          subst (λ out. AreRowsOf T.kind T out (InIdeal (field_of T.kind) (table_in T.kind T) (IsRowOf (field_of T.kind) m start)))
          (ok_same (sym (ap (λ b. cond b (Ok next) (rounds_from T fuel next)) t) ∙ f)) (stopped rows h next is d)
      go next is (no d) f further =
          let t : nat_eq (length next) (length rows) ≡ false = grind arith in
          let g = grown rows h next is in
          further next (next_within rows h next is) (omega arith) (sym (ap (λ b. cond b (Ok next) (rounds_from T fuel next)) t) ∙ f)

  -- the values of the elements
  module _ (es : List (Tree Num)) (long : length es ≡ m) (values : (k : ℕ) (v : List Num) → k < m → value_of T (get_or es k none) ≡ Ok v →
      IsRowOfKind T.kind (size T) v × (vector_in T.kind v ≡ start k)) where
    values_formed : AreFormed T.kind (size T) (map (value_of T) es)
    values_formed = are_formed T.kind (size T) _ (λ z a. let r = among_map (value_of T) es none (Ok z) a in (values r.0 z (let l = r.1 in omega arith) r.2).0)

    pub ideal_rows : (out : Rows) → ideal_of T es ≡ Ok out →
        AreRowsOf T.kind T out (InIdeal (field_of T.kind) (table_in T.kind T) (IsRowOf (field_of T.kind) m start))
    ideal_rows out e =
        let r = first_fits (rounds_from T (suc (size T))) (span_of T.kind (size T) (map (value_of T) es)) out e in
        let means = span_means T.kind listed (size T) (map (value_of T) es) r.0 values_formed r.1.0 in
        rounds_give (suc (size T)) r.0 out
        (record {
          closed = means.0;
          holds = λ k l. (means.1 (start k)).1 (span_kind _ (first r.0 r.1.0 k l));
          within = λ i l.
              by_span (field_of T.kind) (IsFormed T.kind (map (value_of T) es)) Ideal least_none (λ x y a b. least_sum x y a b) (λ c x a. least_multiple c x a)
              (λ x f. least_kind x (of_start x (formed_is T.kind (map (value_of T) es) x f)))
              (row_in T.kind r.0 i) ((means.1 (row_in T.kind r.0 i)).0 (in_span (field_of T.kind) (length r.0) (row_in T.kind r.0) i l));
        })
        (omega arith) r.1.1
      where
        first : (rows : Rows) → span_of T.kind (size T) (map (value_of T) es) ≡ Ok rows → (k : ℕ) → k < m → IsFormed T.kind (map (value_of T) es) (start k)
        first rows e k l =
            let a = map_among (value_of T) es none k (omega arith) in
            let f = span_fits T.kind (size T) (map (value_of T) es) rows e (value_of T (get_or es k none)) a in
            subst (IsFormed T.kind (map (value_of T) es)) (values k f.0 l f.1).1 (is_formed T.kind (map (value_of T) es) f.0
            (subst (Among (map (value_of T) es)) f.1 a))

        of_start : (x : Vector (field_of T.kind)) → (row : List Num) × Among {X = Result (List Num) Unfit} (map (value_of T) es) (Ok row) ×
            (x ≡ vector_in T.kind row) → IsRowOf (field_of T.kind) m start x
        of_start x f =
            let r = among_map (value_of T) es none (Ok f.0) f.1 in
            (r.0, (let l = r.1 in omega arith), f.2 ∙ (values r.0 f.0 (let l = r.1 in omega arith) r.2).1)

pub ideal_means : (p : Presentation) → IdealMeans p
ideal_means p T holds es within rows e =
    subst (λ k. AreRowsOf k T rows (InIdeal (field_of k) (table_in k T) (IsRowOf (field_of k) (length es) (start_in k T es)))) holds.kind
    (ideal_rows T (held_field p T holds) has (is_enough p T holds) (length es) (start_in T.kind T es) es refl values rows e)
  where
    has : HasRows T
    has = rows_of_shape T holds.shape

    values : (k : ℕ) (v : List Num) → k < length es → value_of T (get_or es k none) ≡ Ok v →
        IsRowOfKind T.kind (size T) v × (vector_in T.kind v ≡ start_in T.kind T es k)
    values k v l f =
        subst (λ k'. IsRowOfKind k' (size T) v × (vector_in k' v ≡ start_in k' T es k)) (sym holds.kind)
        (let s = value_stands p T holds.kind holds.generators holds.sound has (weights_of_built p T holds.kind holds.generators holds.sound holds.built)
        (get_or es k none) (within k none l) v f in
        (record { elements = s.elements; length_is = s.long }, s.vector))
