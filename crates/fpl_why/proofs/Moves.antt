-- The rules on sums, part by part.
use Rattle.std.proofs.Common.{◌≡◌, ◌≢◌, ◌<◌, ◌≤◌, ◌+◌, ◌-◌, ℕ, suc, Bool, true, false, ◌&&◌, nat_le, nat_lt, List, [], ◌∷◌, ◌++◌, length, take, drop, refl, ap, ap₂, sym, ◌∙◌, subst, arith, length-append, length-drop}
use Rattle.std.proofs.lemmas.List.{length-take-le, drop_more}
use Rattle.math_fields.specs.Field.{Field}
use Rattle.math_algebra.specs.Tree.{gen, none, sum_of, multiple, bracket_of}
use Rattle.math_algebra.specs.Derives.{Expression, sum_all}
use Rattle.fpl_numbers.specs.declared.number.Kind.{Kind}
use Rattle.fpl_numbers.specs.Kinds.{field_of}
use Rattle.fpl_model.specs.declared.expr.Expr.{Expr}
use Rattle.fpl_model.specs.Meaning.{trees_in}
use Rattle.plain_proofs.specs.Checks.{same_tree, same_list, list_of, member, exchanged, checks_exchange, checks_drop_at, checks_drop, checks_flat_at, checks_flat, checks_collect_at, checks_collect, checks_empty, checks_single}
use Rattle.fpl_why.proofs.Apart.{equal_tests}
use Rattle.fpl_why.proofs.Lists.{list_means, same_parts, list_long, sum_same}

never : {A : Type 0} → false ≡ true → A
never h = absurd (let k : ⊥ = cc in k)

le_false : (m n : ℕ) → n < m → nat_le m n ≡ false
le_false m n h = grind (arith, h)

lt_false : (m n : ℕ) → n ≤ m → nat_lt m n ≡ false
lt_false m n h = grind (arith, h)

le_true : (m n : ℕ) → m ≤ n → nat_le m n ≡ true
le_true m n h = grind (arith, h)

lt_true : (m n : ℕ) → m < n → nat_lt m n ≡ true
lt_true m n h = grind (arith, h)

and_false : (b : Bool) → (b && false) ≡ false
and_false true = refl
and_false false = refl

first_fails : (a b c : Bool) → a ≡ false → false ≡ (a && b && c)
first_fails a b c h = sym (ap (λ a. a && b && c) h)

second_fails : (a b c : Bool) → b ≡ false → false ≡ (a && b && c)
second_fails a b c h = sym (ap (λ b. a && b && c) h ∙ ap (λ b. b && c) (and_false a))

third_fails : (a b c : Bool) → c ≡ false → false ≡ (a && b && c)
third_fails a b c h = sym (ap (λ c. a && b && c) h ∙ and_false (a && b))

both_hold : (a b c d : Bool) → a ≡ true → b ≡ true → d ≡ c → d ≡ (a && b && c)
both_hold a b c d h k e = e ∙ sym (ap₂ (λ a b. a && b && c) h k)

module _ (K : Field) where
  -- lists of two lengths differ
  lengths_differ : (xs ys : List (Expression K)) → (length xs ≡ length ys → ⊥) → same_list K xs ys ≡ false
  lengths_differ xs ys d = sym (equal_tests false _ (λ h. never h) (λ h. absurd (d (ap length (list_means K xs ys h)))))

  long_front : (E : List (Expression K)) (m : ℕ) → 1 ≤ m → m ≤ length E → length (take (m - 1) E) ≡ m - 1
  long_front E m h l = length-take-le (m - 1) E (omega (arith, h, l))

  -- a front and a rest
  front_parts : (E R F : List (Expression K)) (m : ℕ) → 1 ≤ m → m ≤ length E →
      same_list K (take (m - 1) E ++ R) F ≡ (same_list K (take (m - 1) E) (take (m - 1) F) && same_list K R (drop (m - 1) F))
  front_parts E R F m h l =
      same_parts K (take (m - 1) E) R F ∙ ap (λ n. same_list K (take (m - 1) E) (take n F) && same_list K R (drop n F)) (long_front E m h l)

  exchange_parts : (E F : List (Expression K)) (m : ℕ) → 1 ≤ m → m < length E → length F ≡ length E →
      (same_list K (take (m - 1) E) (take (m - 1) F) &&
      (same_tree K (member K E m) (member K F (m - 1)) &&
      (same_tree K (member K E (m - 1)) (member K F m) && same_list K (drop (m + 1) E) (drop (m + 1) F)))) ≡ same_list K (exchanged K m E) F
  exchange_parts E F m h l e =
      let rest : drop (m - 1) F ≡ member K F (m - 1) ∷ (member K F m ∷ drop (m + 1) F) =
      drop_more F (m - 1) none (omega (arith, h, l, e)) ∙
      ap (λ x. member K F (m - 1) ∷ x) (ap (λ i. drop i F) (omega (arith, h)) ∙ drop_more F m none (omega (arith, l, e))) in
      sym (front_parts E (member K E m ∷ member K E (m - 1) ∷ drop (m + 1) E) F m h (omega (arith, l)) ∙
      ap (λ z. same_list K (take (m - 1) E) (take (m - 1) F) && same_list K (member K E m ∷ member K E (m - 1) ∷ drop (m + 1) E) z) rest)

  exchanged_long : (E : List (Expression K)) (m : ℕ) → 1 ≤ m → m < length E → length (exchanged K m E) ≡ length E
  exchanged_long E m h l =
      let front = long_front E m h (omega (arith, l)) in
      let back = length-drop (m + 1) E in
      length-append (take (m - 1) E) (member K E m ∷ member K E (m - 1) ∷ drop (m + 1) E) ∙ ap₂ (λ a b. a + suc (suc b)) front back ∙
      omega (arith, h, l)

  -- member m, 0, left out
  drop_at : (E : List (Expression K)) (m : ℕ) (x f : Expression K) →
      checks_drop_at K m E x f ≡ (same_tree K none x && same_tree K (sum_all K (take (m - 1) E ++ drop m E)) f)
  unfolding same_tree
  drop_at E m (gen g) f = refl
  drop_at E m none f = refl
  drop_at E m (sum_of es) f = refl
  drop_at E m (multiple c e) f = refl
  drop_at E m (bracket_of a b) f = refl

  dropped_long : (E : List (Expression K)) (m : ℕ) → 1 ≤ m → m ≤ length E → suc (length (take (m - 1) E ++ drop m E)) ≡ length E
  dropped_long E m h l =
      let front = long_front E m h l in
      let back = length-drop m E in
      ap suc (length-append (take (m - 1) E) (drop m E) ∙ ap₂ (λ a b. a + b) front back) ∙ omega (arith, h, l)

  -- member m replaced by others
  flat_parts : (E G F : List (Expression K)) (m : ℕ) → 1 ≤ m → m ≤ length E →
      (same_list K (take (m - 1) E) (take (m - 1) F) &&
      (same_list K G (take (length G) (drop (m - 1) F)) && same_list K (drop m E) (drop (length G) (drop (m - 1) F)))) ≡
      same_list K (take (m - 1) E ++ (G ++ drop m E)) F
  flat_parts E G F m h l =
      sym (front_parts E (G ++ drop m E) F m h l ∙
      ap (λ b. same_list K (take (m - 1) E) (take (m - 1) F) && b) (same_parts K G (drop m E) (drop (m - 1) F)))

  flat_long : (E G : List (Expression K)) (m : ℕ) → 1 ≤ m → m ≤ length E → suc (length (take (m - 1) E ++ (G ++ drop m E))) ≡ length G + length E
  flat_long E G m h l =
      let front = long_front E m h l in
      let back = length-drop m E in
      ap suc (length-append (take (m - 1) E) (G ++ drop m E) ∙ ap₂ (λ a b. a + b) front (length-append G (drop m E) ∙ ap (λ b. length G + b) back)) ∙
      omega (arith, h, l)

  -- members m and m + 1 replaced by one
  collect_parts : (E F : List (Expression K)) (x : Expression K) (m : ℕ) → 1 ≤ m → m < length E → suc (length F) ≡ length E →
      (same_list K (take (m - 1) E) (take (m - 1) F) && (same_tree K x (member K F (m - 1)) && same_list K (drop (m + 1) E) (drop m F))) ≡
      same_list K (take (m - 1) E ++ (x ∷ drop (m + 1) E)) F
  collect_parts E F x m h l e =
      let rest : drop (m - 1) F ≡ member K F (m - 1) ∷ drop m F =
      drop_more F (m - 1) none (omega (arith, h, l, e)) ∙ ap (λ i. member K F (m - 1) ∷ drop i F) (omega (arith, h)) in
      sym (front_parts E (x ∷ drop (m + 1) E) F m h (omega (arith, l)) ∙
      ap (λ z. same_list K (take (m - 1) E) (take (m - 1) F) && same_list K (x ∷ drop (m + 1) E) z) rest)

  collect_long : (E : List (Expression K)) (x : Expression K) (m : ℕ) → 1 ≤ m → m < length E →
      suc (length (take (m - 1) E ++ (x ∷ drop (m + 1) E))) ≡ length E
  collect_long E x m h l =
      let front = long_front E m h (omega (arith, l)) in
      let back = length-drop (m + 1) E in
      ap suc (length-append (take (m - 1) E) (x ∷ drop (m + 1) E) ∙ ap₂ (λ a b. a + suc b) front back) ∙ omega (arith, h, l)

module _ (k : Kind) where
  pub not_empty : (es : List Expr) (t : Expression (field_of k)) → length es ≢ 0 → false ≡ checks_empty (field_of k) (list_of (trees_in k es)) t
  not_empty [] t d = absurd (d refl)
  not_empty (e ∷ es) t d = refl

  pub not_single : (es : List Expr) (t : Expression (field_of k)) → length es ≢ 1 → false ≡ checks_single (field_of k) (list_of (trees_in k es)) t
  not_single [] t d = refl
  not_single (e ∷ []) t d = absurd (d refl)
  not_single (e ∷ g ∷ es) t d = refl

  pub sums_differ : (X : List (Expression (field_of k))) (fs : List Expr) → (length X ≡ length fs → ⊥) →
      same_tree (field_of k) (sum_all (field_of k) X) (sum_of (trees_in k fs)) ≡ false
  sums_differ X fs d = sum_same k 0 X fs ∙ lengths_differ (field_of k) X (list_of (trees_in k fs)) (λ h. d (h ∙ list_long k 0 fs))

  module _ (m : ℕ) (es fs : List Expr) where
    long_at : m < length es → m < length (list_of (trees_in k es))
    long_at l = subst (λ n. m < n) (sym (list_long k 0 es)) l

    long_to : m ≤ length es → m ≤ length (list_of (trees_in k es))
    long_to l = subst (λ n. m ≤ n) (sym (list_long k 0 es)) l

    pub not_exchanged_below : m < 1 → false ≡ checks_exchange (field_of k) m (list_of (trees_in k es)) (sum_of (trees_in k fs))
    not_exchanged_below h = first_fails _ _ _ (le_false 1 m h)

    pub not_exchanged_past : length es ≤ m → false ≡ checks_exchange (field_of k) m (list_of (trees_in k es)) (sum_of (trees_in k fs))
    not_exchanged_past h = second_fails _ _ _ (lt_false m _ (subst (λ n. n ≤ m) (sym (list_long k 0 es)) h))

    pub not_exchanged_long : 1 ≤ m → m < length es → length fs ≢ length es →
        false ≡ checks_exchange (field_of k) m (list_of (trees_in k es)) (sum_of (trees_in k fs))
    not_exchanged_long h l d =
        third_fails (nat_le 1 m) (nat_lt m (length (list_of (trees_in k es)))) _ (sums_differ (exchanged (field_of k) m (list_of (trees_in k es))) fs
        (λ e. d (sym e ∙ exchanged_long (field_of k) (list_of (trees_in k es)) m h (long_at l) ∙ list_long k 0 es)))

    pub exchange_told : 1 ≤ m → m < length es → length fs ≡ length es →
        (same_list (field_of k) (take (m - 1) (list_of (trees_in k es))) (take (m - 1) (list_of (trees_in k fs))) &&
        (same_tree (field_of k) (member (field_of k) (list_of (trees_in k es)) m) (member (field_of k) (list_of (trees_in k fs)) (m - 1)) &&
        (same_tree (field_of k) (member (field_of k) (list_of (trees_in k es)) (m - 1)) (member (field_of k) (list_of (trees_in k fs)) m) &&
        same_list (field_of k) (drop (m + 1) (list_of (trees_in k es))) (drop (m + 1) (list_of (trees_in k fs)))))) ≡
        checks_exchange (field_of k) m (list_of (trees_in k es)) (sum_of (trees_in k fs))
    exchange_told h l e =
        both_hold _ _ _ _ (le_true 1 m h) (lt_true m _ (long_at l))
        (exchange_parts (field_of k) (list_of (trees_in k es)) (list_of (trees_in k fs)) m h (long_at l) (list_long k 0 fs ∙ e ∙ sym (list_long k 0 es)) ∙
        sym (sum_same k 0 _ fs))

    pub not_dropped_below : m < 1 → false ≡ checks_drop (field_of k) m (list_of (trees_in k es)) (sum_of (trees_in k fs))
    not_dropped_below h = first_fails _ _ _ (le_false 1 m h)

    pub not_dropped_past : length es < m → false ≡ checks_drop (field_of k) m (list_of (trees_in k es)) (sum_of (trees_in k fs))
    not_dropped_past h = second_fails _ _ _ (le_false m _ (subst (λ n. n < m) (sym (list_long k 0 es)) h))

    pub not_dropped_long : 1 ≤ m → m ≤ length es → length fs + 1 ≢ length es →
        false ≡ checks_drop (field_of k) m (list_of (trees_in k es)) (sum_of (trees_in k fs))
    not_dropped_long h l d =
        let X = take (m - 1) (list_of (trees_in k es)) ++ drop m (list_of (trees_in k es)) in
        third_fails (nat_le 1 m) (nat_le m (length (list_of (trees_in k es)))) _ (drop_at (field_of k) (list_of (trees_in k es)) m _ _ ∙
        ap (λ b. same_tree (field_of k) none (member (field_of k) (list_of (trees_in k es)) (m - 1)) && b) (sums_differ X fs
        (λ e. d (let g : suc (length X) ≡ length es = dropped_long (field_of k) (list_of (trees_in k es)) m h (long_to l)
        ∙ list_long k 0 es in omega (arith, e, g)))) ∙
        and_false _)

    pub drop_told : 1 ≤ m → m ≤ length es →
        (same_tree (field_of k) none (member (field_of k) (list_of (trees_in k es)) (m - 1)) &&
        (same_list (field_of k) (take (m - 1) (list_of (trees_in k es))) (take (m - 1) (list_of (trees_in k fs))) &&
        same_list (field_of k) (drop m (list_of (trees_in k es))) (drop (m - 1) (list_of (trees_in k fs))))) ≡
        checks_drop (field_of k) m (list_of (trees_in k es)) (sum_of (trees_in k fs))
    drop_told h l =
        both_hold _ _ _ _ (le_true 1 m h) (le_true m _ (long_to l))
        (ap (λ b. same_tree (field_of k) none (member (field_of k) (list_of (trees_in k es)) (m - 1)) && b)
        (sym (sum_same k 0 _ fs ∙ front_parts (field_of k) (list_of (trees_in k es)) (drop m (list_of (trees_in k es))) (list_of (trees_in k fs)) m h
        (long_to l))) ∙
        sym (drop_at (field_of k) (list_of (trees_in k es)) m _ _))

    pub not_flat_below : m < 1 → false ≡ checks_flat (field_of k) m (list_of (trees_in k es)) (sum_of (trees_in k fs))
    not_flat_below h = first_fails _ _ _ (le_false 1 m h)

    pub not_flat_past : length es < m → false ≡ checks_flat (field_of k) m (list_of (trees_in k es)) (sum_of (trees_in k fs))
    not_flat_past h = second_fails _ _ _ (le_false m _ (subst (λ n. n < m) (sym (list_long k 0 es)) h))

    pub flat_told : 1 ≤ m → m ≤ length es →
        checks_flat_at (field_of k) m (list_of (trees_in k es)) (member (field_of k) (list_of (trees_in k es)) (m - 1)) (sum_of (trees_in k fs)) ≡
        checks_flat (field_of k) m (list_of (trees_in k es)) (sum_of (trees_in k fs))
    flat_told h l = both_hold _ _ _ _ (le_true 1 m h) (le_true m _ (long_to l)) refl

    pub not_flat_long : (gs : List Expr) → 1 ≤ m → m ≤ length es → length fs + 1 ≢ length gs + length es →
        false ≡ same_tree (field_of k) (sum_all (field_of k) (take (m - 1) (list_of (trees_in k es)) ++ (list_of (trees_in k gs)
        ++ drop m (list_of (trees_in k es))))) (sum_of (trees_in k fs))
    not_flat_long gs h l d =
        let X = take (m - 1) (list_of (trees_in k es)) ++ (list_of (trees_in k gs) ++ drop m (list_of (trees_in k es))) in
        sym (sums_differ X fs
        (λ e. d (let g : suc (length X) ≡ length gs + length es =
        flat_long (field_of k) (list_of (trees_in k es)) (list_of (trees_in k gs)) m h (long_to l) ∙ ap₂ (λ a b. a + b) (list_long k 0 gs) (list_long k 0 es) in
        omega (arith, e, g))))

    pub flat_sum : (gs : List Expr) → 1 ≤ m → m ≤ length es →
        (same_list (field_of k) (take (m - 1) (list_of (trees_in k es))) (take (m - 1) (list_of (trees_in k fs))) &&
        (same_list (field_of k) (list_of (trees_in k gs)) (take (length gs) (drop (m - 1) (list_of (trees_in k fs)))) &&
        same_list (field_of k) (drop m (list_of (trees_in k es))) (drop (length gs) (drop (m - 1) (list_of (trees_in k fs)))))) ≡
        same_tree (field_of k) (sum_all (field_of k) (take (m - 1) (list_of (trees_in k es)) ++ (list_of (trees_in k gs)
        ++ drop m (list_of (trees_in k es))))) (sum_of (trees_in k fs))
    flat_sum gs h l =
        ap (λ n. same_list (field_of k) (take (m - 1) (list_of (trees_in k es))) (take (m - 1) (list_of (trees_in k fs))) &&
        (same_list (field_of k) (list_of (trees_in k gs)) (take n (drop (m - 1) (list_of (trees_in k fs)))) &&
        same_list (field_of k) (drop m (list_of (trees_in k es))) (drop n (drop (m - 1) (list_of (trees_in k fs)))))) (sym (list_long k 0 gs)) ∙
        flat_parts (field_of k) (list_of (trees_in k es)) (list_of (trees_in k gs)) (list_of (trees_in k fs)) m h (long_to l) ∙ sym (sum_same k 0 _ fs)

    pub not_collected_below : m < 1 → false ≡ checks_collect (field_of k) m (list_of (trees_in k es)) (sum_of (trees_in k fs))
    not_collected_below h = first_fails _ _ _ (le_false 1 m h)

    pub not_collected_past : length es ≤ m → false ≡ checks_collect (field_of k) m (list_of (trees_in k es)) (sum_of (trees_in k fs))
    not_collected_past h = second_fails _ _ _ (lt_false m _ (subst (λ n. n ≤ m) (sym (list_long k 0 es)) h))

    pub collect_told : 1 ≤ m → m < length es →
        checks_collect_at (field_of k) m (list_of (trees_in k es)) (member (field_of k) (list_of (trees_in k es)) (m - 1))
        (member (field_of k) (list_of (trees_in k es)) m) (sum_of (trees_in k fs)) ≡
        checks_collect (field_of k) m (list_of (trees_in k es)) (sum_of (trees_in k fs))
    collect_told h l = both_hold _ _ _ _ (le_true 1 m h) (lt_true m _ (long_at l)) refl

    pub not_collected_long : (x : Expression (field_of k)) → 1 ≤ m → m < length es → length fs + 1 ≢ length es →
        false ≡ same_tree (field_of k) (sum_all (field_of k) (take (m - 1) (list_of (trees_in k es)) ++ (x
        ∷ drop (m + 1) (list_of (trees_in k es))))) (sum_of (trees_in k fs))
    not_collected_long x h l d =
        let X = take (m - 1) (list_of (trees_in k es)) ++ (x ∷ drop (m + 1) (list_of (trees_in k es))) in
        sym (sums_differ X fs
        (λ e. d (let g : suc (length X) ≡ length es = collect_long (field_of k) (list_of (trees_in k es)) x m h (long_at l) ∙ list_long k 0 es in
        omega (arith, e, g))))

    pub collect_sum : (x : Expression (field_of k)) → 1 ≤ m → m < length es → length fs + 1 ≡ length es →
        (same_list (field_of k) (take (m - 1) (list_of (trees_in k es))) (take (m - 1) (list_of (trees_in k fs))) &&
        (same_tree (field_of k) x (member (field_of k) (list_of (trees_in k fs)) (m - 1)) &&
        same_list (field_of k) (drop (m + 1) (list_of (trees_in k es))) (drop m (list_of (trees_in k fs))))) ≡
        same_tree (field_of k) (sum_all (field_of k) (take (m - 1) (list_of (trees_in k es)) ++ (x
        ∷ drop (m + 1) (list_of (trees_in k es))))) (sum_of (trees_in k fs))
    collect_sum x h l e =
        let long_f = list_long k 0 fs in
        let long_e = list_long k 0 es in
        collect_parts (field_of k) (list_of (trees_in k es)) (list_of (trees_in k fs)) x m h (long_at l) (omega (arith, e, long_f, long_e)) ∙
        sym (sum_same k 0 _ fs)
