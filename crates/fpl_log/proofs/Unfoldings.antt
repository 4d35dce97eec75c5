-- A step's conclusion is the value of its unfolding; conclusions stay where steps are added.
use Rattle.std.specs.Prelude.{◌≡◌, ℕ, zero, suc, ◌+◌, ◌-◌, ◌<◌, ◌≤◌, List, [], ◌∷◌, ◌++◌, length, get_or, map}
use mathlib.Core.Path.{sym, refl, ap, ap₂, ◌∙◌}
use native.Mathlib.Omega.{arith}
use Rattle.math_fields.specs.Field.{Field}
use Rattle.math_linear.specs.Vector.{Vector, vzero, vplus, scale}
use Rattle.math_linear.proofs.Vectors.{vplus_assoc, vplus_comm, vplus-vzero, vzero-vplus, scale-vplus, scale_scale, scale-unit, scale-vzero, minus-vplus}
use Rattle.fpl_numbers.specs.declared.number.Num.{Num}
use Rattle.fpl_log.specs.declared.terms.Term.{Term}
use Rattle.fpl_log.specs.declared.step.Origin.{Origin}
use Rattle.fpl_log.specs.declared.step.Step.{Step}
use Rattle.fpl_log.specs.declared.step.Step.TheVariants.{Insert, Close}
use Rattle.fpl_log.specs.Conclusion.{cited, terms_sum, less, conclude, concluded, Unfolding, unfolding_cited, times_all, unfold_terms, unfold_less, unfold_step, unfolded, unfolding_value}

module _ (K : Field) (value : Num → K.Carrier) (source : Origin → Vector K) where
  pub values : List (Unfolding K value) → List (Vector K)
  values us = map (unfolding_value K value source) us

  value-append : (a b : Unfolding K value) → unfolding_value K value source (a ++ b) ≡ vplus K (unfolding_value K value source a)
      (unfolding_value K value source b)
  unfolding unfolding_value
  value-append [] b = sym (vzero-vplus K _)
  value-append (o ∷ a) b = ap (vplus K _) (value-append a b) ∙ sym (vplus_assoc K _ _ _)

  value-times : (c : K.Carrier) (a : Unfolding K value) → unfolding_value K value source (times_all K value c a) ≡ scale K c (unfolding_value K value source a)
  unfolding unfolding_value
  value-times c [] = sym (scale-vzero K c)
  value-times c (o ∷ a) = ap₂ (vplus K) (sym (scale_scale K c o.0 (source o.1))) (value-times c a) ∙ sym (scale-vplus K c _ _)

  value-cited : (done : List (Unfolding K value)) (i : ℕ) → unfolding_value K value source (get_or done i []) ≡ get_or (values done) i (vzero K)
  unfolding unfolding_value values
  value-cited [] i = refl
  value-cited (u ∷ done) zero = refl
  value-cited (u ∷ done) (suc i) = value-cited done i

  value-terms : (done : List (Unfolding K value)) (ts : List Term) → unfolding_value K value source (unfold_terms K value done ts) ≡
      terms_sum K value (cited K value (values done)) ts
  unfolding unfolding_value terms_sum
  value-terms done [] = refl
  value-terms done (t ∷ ts) =
      value-append (times_all K value (value t.factor) (unfolding_cited K value done t.step)) (unfold_terms K value done ts)
      ∙ ap₂ (vplus K) (value-times (value t.factor) (unfolding_cited K value done t.step) ∙
      ap (scale K (value t.factor)) (value-cited done (t.step - 1))) (value-terms done ts)

  value-less : (done : List (Unfolding K value)) (u : Unfolding K value) (ts : List Term) →
      unfolding_value K value source (unfold_less K value done u ts) ≡ less K value (values done) (unfolding_value K value source u) ts
  value-less done u ts =
      value-append u (times_all K value (K.minus K.unit) (unfold_terms K value done ts))
      ∙ ap (vplus K (unfolding_value K value source u)) (value-times (K.minus K.unit) (unfold_terms K value done ts) ∙
      ap (scale K (K.minus K.unit)) (value-terms done ts))

  value-step : (done : List (Unfolding K value)) (s : Step) → unfolding_value K value source (unfold_step K value done s) ≡
      conclude K value source (values done) s
  value-step done (Insert origin terms k) =
      value-times (value k) (unfold_less K value done ((K.unit, origin) ∷ []) terms) ∙ ap (scale K (value k))
      (value-less done ((K.unit, origin) ∷ []) terms ∙ ap (λ v. less K value (values done) v terms) one)
    where
      one : unfolding_value K value source ((K.unit, origin) ∷ []) ≡ source origin
      one = unfold unfolding_value in (vplus-vzero K _ ∙ scale-unit K _)
  value-step done (Close of terms) = value-less done (unfolding_cited K value done of) terms ∙
      ap (λ v. less K value (values done) v terms) (value-cited done (of - 1))

  values-append : (a : List (Unfolding K value)) (u : Unfolding K value) → values (a ++ u ∷ []) ≡ values a ++ (unfolding_value K value source u) ∷ []
  unfolding values
  values-append [] u = refl
  values-append (b ∷ a) u = ap (λ w. unfolding_value K value source b ∷ w) (values-append a u)

  -- the conclusion of each step is the value of its unfolding
  pub unfolded_concluded : (done : List (Unfolding K value)) (steps : List Step) → values (unfolded K value done steps) ≡
      concluded K value source (values done) steps
  unfolded_concluded done [] = refl
  unfolded_concluded done (s ∷ ss) =
      unfolded_concluded (done ++ (unfold_step K value done s) ∷ []) ss
      ∙ ap (λ w. concluded K value source w ss) (values-append done (unfold_step K value done s) ∙ ap (λ v. values done ++ v ∷ []) (value-step done s))

  pub conclusion_unfolds : (steps : List Step) (i : ℕ) → cited K value (concluded K value source [] steps) i ≡
      unfolding_value K value source (unfolding_cited K value (unfolded K value [] steps) i)
  conclusion_unfolds steps i = ap (λ w. get_or w (i - 1) (vzero K))
      (sym (unfolded_concluded [] steps ∙ ap (λ w. concluded K value source w steps) none)) ∙ sym (value-cited (unfolded K value [] steps) (i - 1))
    where
      none : values [] ≡ []
      none = unfold values in refl

  -- one step more
  pub concluded-append : (done : List (Vector K)) (ss : List Step) (s : Step) → concluded K value source done (ss ++ s ∷ []) ≡
      concluded K value source done ss ++ (conclude K value source (concluded K value source done ss) s) ∷ []
  concluded-append done [] s = refl
  concluded-append done (r ∷ ss) s = concluded-append (done ++ (conclude K value source done r) ∷ []) ss s

  length-more : (xs : List (Vector K)) (x : Vector K) → length (xs ++ x ∷ []) ≡ length xs + 1
  length-more [] x = refl
  length-more (y ∷ xs) x = let h = length-more xs x in omega arith

  pub length-concluded : (done : List (Vector K)) (ss : List Step) → length (concluded K value source done ss) ≡ length done + length ss
  length-concluded done [] = omega arith
  length-concluded done (s ∷ ss) =
      let h = length-concluded (done ++ (conclude K value source done s) ∷ []) ss in let l = length-more done (conclude K value source done s) in omega arith

  at_old : (xs : List (Vector K)) (x : Vector K) (i : ℕ) → i < length xs → get_or (xs ++ x ∷ []) i (vzero K) ≡ get_or xs i (vzero K)
  at_old [] x i l = absurd (omega arith)
  at_old (y ∷ xs) x zero l = refl
  at_old (y ∷ xs) x (suc i) l = at_old xs x i (omega arith)

  at_new : (xs : List (Vector K)) (x : Vector K) → get_or (xs ++ x ∷ []) (length xs) (vzero K) ≡ x
  at_new [] x = refl
  at_new (y ∷ xs) x = at_new xs x

  -- the conclusions of earlier steps stay, and the new step has its own
  pub cited_old : (steps : List Step) (s : Step) (i : ℕ) → 1 ≤ i → i ≤ length steps → cited K value (concluded K value source [] (steps ++ s ∷ [])) i
      ≡ cited K value (concluded K value source [] steps) i
  cited_old steps s i l m =
      ap (λ w. get_or w (i - 1) (vzero K)) (concluded-append [] steps s) ∙ at_old (concluded K value source [] steps) _ (i - 1)
      (let h = length-concluded [] steps in omega arith)

  pub cited_new : (steps : List Step) (s : Step) → cited K value (concluded K value source [] (steps ++ s ∷ [])) (length steps + 1) ≡
      conclude K value source (concluded K value source [] steps) s
  cited_new steps s =
      ap (λ w. get_or w (length steps + 1 - 1) (vzero K)) (concluded-append [] steps s)
      ∙ ap (λ i. get_or (concluded K value source [] steps ++ (conclude K value source (concluded K value source [] steps) s) ∷ []) i (vzero K))
      (let h = length-concluded [] steps in here h)
      ∙ at_new (concluded K value source [] steps) _
    where
      here : length (concluded K value source [] steps) ≡ 0 + length steps → length steps + 1 - 1 ≡ length (concluded K value source [] steps)
      here h = omega arith

  -- what is left, from what was taken off
  pub less_is : (done : List (Vector K)) (v left : Vector K) (terms : List Term) → vplus K left (terms_sum K value (cited K value done) terms) ≡
      vplus K v (terms_sum K value (cited K value done) []) → less K value done v terms ≡ left
  unfolding terms_sum
  less_is done v left terms e = go (terms_sum K value (cited K value done) terms) (e ∙ vplus-vzero K v)
    where
      go : (t : Vector K) → vplus K left t ≡ v → vplus K v (scale K (K.minus K.unit) t) ≡ left
      go t f = ap (λ w. vplus K w (scale K (K.minus K.unit) t)) (sym f) ∙ vplus_assoc K left t _ ∙
          ap (vplus K left) (vplus_comm K t _ ∙ minus-vplus K t) ∙ vplus-vzero K left
