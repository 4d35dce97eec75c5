-- Terms of a series, and rounds, one after another.
use Rattle.std.specs.Prelude.{◌≡◌, ℕ, suc, ◌+◌, ◌-◌, ◌<◌, List, [], ◌∷◌, ◌++◌, length, Result, Ok, Err, nat_eq, cond, true, false}
use Rattle.std.proofs.Common.{append_assoc}
use mathlib.Core.Path.{sym, refl, ap, ◌∙◌, subst}
use native.Mathlib.Omega.{arith}
use Rattle.fpl_numbers.specs.declared.number.Unfit.{Unfit}
use Rattle.fpl_numbers.specs.declared.number.Fault.{Fault}
use Rattle.fpl_numbers.specs.Results.{and_then, map_ok, IsFault}
use Rattle.fpl_table.specs.Plain.{PlainTable}
use Rattle.plain_spans.proofs.Putting.{fault_part, fault_first}
use Rattle.plain_structure.specs.Plain.{Rows, next_term, before, series_from, round_of, after_round, rounds_from}

abbrev pub after : List Rows → List Rows → List Rows
after terms more = terms ++ more

abbrev pub ended : List Rows → Result (List Rows) Unfit
ended terms = Ok terms

-- a term more in front
one_more : (terms : List Rows) (rows : Rows) (x : Result (List Rows) Unfit) →
    map_ok (after terms) (map_ok (before rows) x) ≡ map_ok (after (terms ++ rows ∷ [])) x
one_more terms rows (Ok more) = ap ended (sym (append_assoc terms (rows ∷ []) more))
one_more terms rows (Err u) = refl

module _ (T : PlainTable) where
  -- where the term before isn't 0
  from_next : (m : ℕ) (rows : Rows) → (length rows ≡ 0 → ⊥) → series_from T (suc m) rows ≡ map_ok (before rows) (and_then (series_from T m) (next_term T rows))
  from_next m [] n = absurd (n refl)
  from_next m (r ∷ rs) n = refl

  pub series_next : (w k : ℕ) (terms : List Rows) (rows next : Rows) → k < w → (length rows ≡ 0 → ⊥) → next_term T rows ≡ Ok next →
      map_ok (after terms) (series_from T (w - k) rows) ≡ map_ok (after (terms ++ rows ∷ [])) (series_from T (w - (k + 1)) next)
  series_next w k terms rows next l n is =
      let e : w - k ≡ suc (w - (k + 1)) = omega arith in
      ap (λ m. map_ok (after terms) (series_from T m rows)) e ∙ ap (map_ok (after terms)) (from_next (w - (k + 1)) rows n)
      ∙ ap (λ x. map_ok (after terms) (map_ok (before rows) (and_then (series_from T (w - (k + 1))) x))) is ∙
      one_more terms rows (series_from T (w - (k + 1)) next)

  pub series_stops : (w k : ℕ) (terms : List Rows) (rows : Rows) (fault : Fault) → k < w → (length rows ≡ 0 → ⊥) → IsFault fault (next_term T rows) →
      IsFault fault (map_ok (after terms) (series_from T (w - k) rows))
  series_stops w k terms rows fault l n h =
      let e : suc (w - (k + 1)) ≡ w - k = omega arith in
      subst (λ m. IsFault fault (map_ok (after terms) (series_from T m rows))) e
      (subst (λ x. IsFault fault (map_ok (after terms) x)) (sym (from_next (w - (k + 1)) rows n))
      (fault_part (after terms) fault _ (fault_part (before rows) fault _ (fault_first (series_from T (w - (k + 1))) fault (next_term T rows) h))))

  -- the last term
  pub series_nought : (m : ℕ) (terms : List Rows) (rows : Rows) → length rows ≡ 0 → map_ok (after terms) (series_from T m rows) ≡ Ok (terms ++ rows ∷ [])
  series_nought m terms [] e = refl
  series_nought m terms (r ∷ rs) e = absurd (omega arith)

  pub series_last : (m : ℕ) (terms : List Rows) (rows : Rows) → m ≡ 0 → map_ok (after terms) (series_from T m rows) ≡ Ok (terms ++ rows ∷ [])
  series_last m terms [] e = refl
  series_last m terms (r ∷ rs) e = ap (λ k. map_ok (after terms) (series_from T k (r ∷ rs))) e

  -- rounds
  rounds_at : (n k : ℕ) (rows : Rows) → k < n → rounds_from T (n - k) rows ≡ and_then (after_round (rounds_from T (n - (k + 1))) rows) (round_of T rows)
  rounds_at n k rows l = (let e : n - k ≡ suc (n - (k + 1)) = omega arith in ap (λ m. rounds_from T m rows) e)

  pub round_last : (n k : ℕ) (rows next : Rows) → k < n → round_of T rows ≡ Ok next → length next ≡ length rows → rounds_from T (n - k) rows ≡ Ok next
  round_last n k rows next l is same =
      let t : nat_eq (length next) (length rows) ≡ true = grind arith in
      rounds_at n k rows l ∙ ap (and_then (after_round (rounds_from T (n - (k + 1))) rows)) is
      ∙ ap (λ b. cond b (Ok next) (rounds_from T (n - (k + 1)) next)) t

  pub round_next : (n k : ℕ) (rows next : Rows) → k < n → round_of T rows ≡ Ok next → (length next ≡ length rows → ⊥) →
      rounds_from T (n - k) rows ≡ rounds_from T (n - (k + 1)) next
  round_next n k rows next l is other =
      let t : nat_eq (length next) (length rows) ≡ false = grind arith in
      rounds_at n k rows l ∙ ap (and_then (after_round (rounds_from T (n - (k + 1))) rows)) is
      ∙ ap (λ b. cond b (Ok next) (rounds_from T (n - (k + 1)) next)) t

  pub round_stops : (n k : ℕ) (rows : Rows) (fault : Fault) → k < n → IsFault fault (round_of T rows) → IsFault fault (rounds_from T (n - k) rows)
  round_stops n k rows fault l h =
      subst (IsFault fault) (sym (rounds_at n k rows l)) (fault_first (after_round (rounds_from T (n - (k + 1))) rows) fault (round_of T rows) h)

  pub rounds_done : (m : ℕ) (rows : Rows) → m ≡ 0 → rounds_from T m rows ≡ Ok rows
  rounds_done m rows e = ap (λ k. rounds_from T k rows) e
