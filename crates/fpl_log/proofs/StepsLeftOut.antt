-- Leaving out the steps that conclude 0 by their scale changes no conclusion of the others.
use Rattle.std.specs.Prelude.{◌≡◌, ◌≢◌, ℕ, zero, suc, ◌+◌, ◌-◌, ◌<◌, ◌≤◌, List, [], ◌∷◌, ◌++◌, length, get_or, Option, Some, None, unwrap_or, Bool, true, false, All}
use mathlib.Core.Path.{sym, refl, ap, ap₂, ◌∙◌, subst}
use native.Mathlib.Omega.{arith}
use native.Mathlib.Decide.{ℕ_discrete}
use Rattle.std.proofs.lemmas.List.{length-append}
use Rattle.math_fields.specs.Field.{Field}
use Rattle.math_linear.specs.Vector.{Vector, vzero, vplus, scale}
use Rattle.math_linear.proofs.Vectors.{vzero-vplus, scale-nought, scale-vzero}
use Rattle.fpl_numbers.specs.declared.number.Num.{Num}
use Rattle.fpl_numbers.specs.declared.number.Kind.{Kind}
use Rattle.fpl_numbers.specs.Reads.{Reads}
use Rattle.fpl_numbers.specs.Kinds.{field_of, number_of}
use Rattle.fpl_numbers.proofs.KindReads.{kind_reads}
use Rattle.fpl_rows.proofs.Fits.{all_head, all_tail}
use Rattle.fpl_log.specs.declared.terms.Term.{Term}
use Rattle.fpl_log.specs.declared.step.Origin.{Origin}
use Rattle.fpl_log.specs.declared.step.Step.{Step}
use Rattle.fpl_log.specs.declared.step.Step.TheVariants.{Insert, Close}
use Rattle.fpl_log.specs.Conclusion.{cited, terms_sum, less, conclude, concluded}
use Rattle.fpl_log.specs.Slim.{is_left_out, new_number, next_number, next_count, slim_term, slim_terms, slim_step, kept_if, slim_steps, numbers_after, IsEarlier, CitesEarlier, AreInOrder}
use Rattle.fpl_log.specs.Laws.{HaveElements, ConclusionsStay, ConclusionsUnfold}
use Rattle.fpl_log.proofs.Unfoldings.{conclusion_unfolds, length-concluded}

get-before : {X : Type 0} (xs : List X) (x d : X) (i : ℕ) → i < length xs → get_or (xs ++ x ∷ []) i d ≡ get_or xs i d
get-before [] x d i l = absurd (omega arith)
get-before (y ∷ xs) x d zero l = refl
get-before (y ∷ xs) x d (suc i) l = get-before xs x d i (omega arith)

get-last : {X : Type 0} (xs : List X) (x d : X) → get_or (xs ++ x ∷ []) (length xs) d ≡ x
get-last [] x d = refl
get-last (y ∷ xs) x d = get-last xs x d

longer : {X : Type 0} (xs : List X) (x : X) → length (xs ++ x ∷ []) ≡ length xs + 1
longer xs x = length-append xs (x ∷ [])

-- a conclusion, by its new number
abbrev Agrees : (K : Field) → List (Vector K) → Option ℕ → Vector K → Type 0
Agrees K done' None v = v ≡ vzero K
Agrees K done' (Some n) v = (1 ≤ n) × ((n ≤ length done') × (get_or done' (n - 1) (vzero K) ≡ v))

module _ (k : Kind) (K : Field) (value : Num → K.Carrier) (reads : Reads k K value) (source : Origin → Vector K) where
  -- what is concluded before stands in the same relation after one more
  agrees-more : (done' : List (Vector K)) (x : Vector K) (o : Option ℕ) (v : Vector K) → Agrees K done' o v → Agrees K (done' ++ x ∷ []) o v
  agrees-more done' x None v h = h
  agrees-more done' x (Some n) v h = (
    h.0,
    (
      (let l = h.1.0 in let m = longer done' x in omega arith),
      get-before done' x (vzero K) (n - 1) (let a = h.0 in let b = h.1.0 in omega arith) ∙ h.1.1,
    ),
  )

  record Same (numbers : List (Option ℕ)) (done done' : List (Vector K)) : Type 0 where
    same_length : length numbers ≡ length done
    each : (i : ℕ) → i < length done → Agrees K done' (get_or numbers i None) (get_or done i (vzero K))

  -- a step named by a term, or by what is closed
  at_step : (numbers : List (Option ℕ)) (done done' : List (Vector K)) (i : ℕ) → Same numbers done done' → IsEarlier (length numbers) i →
      Agrees K done' (new_number numbers i) (cited K value done i)
  at_step numbers done done' i h e = h.each (i - 1) (let a = e.from_one in let b = e.to_end in let c = h.same_length in omega arith)

  sum_term : (done' : List (Vector K)) (o : Option ℕ) (t : Term) (ts : List Term) (v : Vector K) → Agrees K done' o v →
      terms_sum K value (cited K value done') (slim_term o t ts) ≡ vplus K (scale K (value t.factor) v) (terms_sum K value (cited K value done') ts)
  unfolding terms_sum
  sum_term done' None t ts v h = sym (ap (λ w. vplus K w (terms_sum K value (cited K value done') ts))
      (ap (scale K (value t.factor)) h ∙ scale-vzero K _) ∙ vzero-vplus K _)
  sum_term done' (Some n) t ts v h = ap (λ w. vplus K (scale K (value t.factor) w) (terms_sum K value (cited K value done') ts)) h.1.1

  sum_same : (numbers : List (Option ℕ)) (done done' : List (Vector K)) (ts : List Term) → Same numbers done done' →
      All (λ t. IsEarlier (length numbers) t.step) ts →
      terms_sum K value (cited K value done') (slim_terms numbers ts) ≡ terms_sum K value (cited K value done) ts
  unfolding terms_sum
  sum_same numbers done done' [] h all = refl
  sum_same numbers done done' (t ∷ ts) h all =
      sum_term done' (new_number numbers t.step) t (slim_terms numbers ts) (cited K value done t.step)
      (at_step numbers done done' t.step h (all_head (λ t. IsEarlier (length numbers) t.step) t ts all))
      ∙ ap (vplus K (scale K (value t.factor) (cited K value done t.step))) (sum_same numbers done done' ts h
      (all_tail (λ t. IsEarlier (length numbers) t.step) t ts all))

  closed_same : (done' : List (Vector K)) (o : Option ℕ) (v : Vector K) → o ≢ None → Agrees K done' o v → cited K value done' (unwrap_or o 0) ≡ v
  closed_same done' None v d h = absurd (d refl)
  closed_same done' (Some n) v d h = h.1.1

  step_same : (numbers : List (Option ℕ)) (done done' : List (Vector K)) (s : Step) → Same numbers done done' → CitesEarlier numbers s →
      conclude K value source done' (slim_step numbers s) ≡ conclude K value source done s
  step_same numbers done done' (Insert origin terms c) h e = ap (λ w. scale K (value c) (vplus K (source origin) (scale K (K.minus K.unit) w)))
      (sum_same numbers done done' terms h e)
  step_same numbers done done' (Close of terms) h e =
      ap₂ (λ v w. vplus K v (scale K (K.minus K.unit) w)) (closed_same done' (new_number numbers of) (cited K value done of) e.1
      (at_step numbers done done' of h e.0)) (sum_same numbers done done' terms h e.2)

  left_out_zero : (done : List (Vector K)) (s : Step) (ss : List Step) → HaveElements k (s ∷ ss) → is_left_out s ≡ true →
      conclude K value source done s ≡ vzero K
  left_out_zero done (Insert origin terms c) ss h e = ap (λ w. scale K w (less K value done (source origin) terms)) (reads.zero_is c h.0 e) ∙ scale-nought K _
  left_out_zero done (Close of terms) ss h e = absurd (let f : ⊥ = cc in f)

  rest_elements : (s : Step) (ss : List Step) → HaveElements k (s ∷ ss) → HaveElements k ss
  rest_elements (Insert origin terms c) ss h = h.1
  rest_elements (Close of terms) ss h = h

  same_more : (numbers : List (Option ℕ)) (done done' after : List (Vector K)) (o : Option ℕ) (v : Vector K) → Same numbers done done' →
      ((o : Option ℕ) (v : Vector K) → Agrees K done' o v → Agrees K after o v) → Agrees K after o v → Same (numbers ++ o ∷ []) (done ++ v ∷ []) after
  same_more numbers done done' after o v h on new = record {
    same_length = (let a = longer numbers o in let b = longer done v in let c = h.same_length in omega arith);
    each = λ i l. at i l (ℕ_discrete i (length done));
  }
    where
      at : (i : ℕ) → i < length (done ++ v ∷ []) → Dec (i ≡ length done) → Agrees K after (get_or (numbers ++ o ∷ []) i None)
          (get_or (done ++ v ∷ []) i (vzero K))
      at i l (yes e) = subst (λ i. Agrees K after (get_or (numbers ++ o ∷ []) i None) (get_or (done ++ v ∷ []) i (vzero K))) (sym e)
          (subst (λ w. Agrees K after (get_or (numbers ++ o ∷ []) (length done) None) w) (sym (get-last done v (vzero K)))
          (subst (λ p. Agrees K after p v) (sym (ap (λ i. get_or (numbers ++ o ∷ []) i None) (sym h.same_length) ∙ get-last numbers o None)) new))
      at i l (no d) =
          let below : i < length done = (let b = longer done v in omega arith) in
          subst (λ w. Agrees K after (get_or (numbers ++ o ∷ []) i None) w) (sym (get-before done v (vzero K) i below))
          (subst (λ p. Agrees K after p (get_or done i (vzero K))) (sym (get-before numbers o None i (let c = h.same_length in omega arith)))
          (on (get_or numbers i None) (get_or done i (vzero K)) (h.each i below)))

  -- what follows a list of steps, for whatever stands before them
  abbrev Follows : List Step → Type 0
  Follows ss = (numbers : List (Option ℕ)) (done done' : List (Vector K)) → Same numbers done done' → AreInOrder numbers (length done') ss → HaveElements k ss →
      Same (numbers_after numbers (length done') ss) (concluded K value source done ss) (concluded K value source done' (slim_steps numbers (length done') ss))

  one_step : (numbers : List (Option ℕ)) (done done' : List (Vector K)) (s : Step) (ss : List Step) → Follows ss → Same numbers done done' →
      CitesEarlier numbers s → HaveElements k (s ∷ ss) → (b : Bool) → is_left_out s ≡ b →
      AreInOrder (numbers ++ (next_number b (length done')) ∷ []) (next_count b (length done')) ss →
      Same (numbers_after (numbers ++ (next_number b (length done')) ∷ []) (next_count b (length done')) ss)
      (concluded K value source (done ++ (conclude K value source done s) ∷ []) ss)
      (concluded K value source done' (kept_if b (slim_step numbers s) (slim_steps (numbers ++ (next_number b (length done')) ∷ [])
      (next_count b (length done')) ss)))
  one_step numbers done done' s ss rest h cites elements true e order =
      rest (numbers ++ None ∷ []) (done ++ (conclude K value source done s) ∷ []) done'
      (same_more numbers done done' done' None (conclude K value source done s) h (λ o v a. a) (left_out_zero done s ss elements e)) order
      (rest_elements s ss elements)
  one_step numbers done done' s ss rest h cites elements false e order = subst P (longer done' v') start order
    where
      v : Vector K
      v = conclude K value source done s

      v' : Vector K
      v' = conclude K value source done' (slim_step numbers s)

      after : List (Option ℕ)
      after = numbers ++ (Some (length done' + 1)) ∷ []

      new : Agrees K (done' ++ v' ∷ []) (Some (length done' + 1)) v
      new = (
        (omega arith),
        (
          (let m = longer done' v' in omega arith),
          subst (λ i. get_or (done' ++ v' ∷ []) i (vzero K) ≡ v) (let q : length done' ≡ length done' + 1 - 1 = omega arith in q)
              (get-last done' v' (vzero K) ∙ step_same numbers done done' s h cites),
        ),
      )

      P : ℕ → Type 0
      P n = AreInOrder after n ss → Same (numbers_after after n ss) (concluded K value source (done ++ v ∷ []) ss)
          (concluded K value source (done' ++ v' ∷ []) (slim_steps after n ss))

      start : P (length (done' ++ v' ∷ []))
      start = λ o. rest after (done ++ v ∷ []) (done' ++ v' ∷ []) (same_more numbers done done' (done' ++ v' ∷ []) (Some (length done' + 1)) v h
          (λ o w a. agrees-more done' v' o w a) new) o (rest_elements s ss elements)

  all_same : (steps : List Step) → Follows steps
  all_same [] numbers done done' h order elements = h
  all_same (s ∷ ss) numbers done done' h order elements = one_step numbers done done' s ss (all_same ss) h order.0 elements (is_left_out s) refl order.1

-- each step that stays concludes what it concluded before
pub conclusions_stay : (k : Kind) → ConclusionsStay k
conclusions_stay k listed source steps order elements i n one end e =
    let K = field_of k in
    let value = number_of k in
    let s = all_same k K value (kind_reads k listed) source steps [] [] [] (record { same_length = refl; each = λ i l. absurd (omega arith) }) order elements in
    let l = length-concluded K value source [] steps in
    let a = s.each (i - 1) (omega arith) in
    (subst (λ o. Agrees K (concluded K value source [] (slim_steps [] 0 steps)) o (cited K value (concluded K value source [] steps) i)) e a).1.1

pub conclusions_unfold : (k : Kind) → ConclusionsUnfold k
conclusions_unfold k source steps i = conclusion_unfolds (field_of k) (number_of k) source steps i
