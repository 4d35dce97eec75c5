-- The text of an expression that is read is at most 16 times as long as the terminals that spelled it.
use Rattle.std.proofs.Common.{◌≡◌, ℕ, zero, suc, ◌+◌, ◌-◌, ◌*◌, ◌≤◌, List, [], ◌∷◌, ◌++◌, length, map, get_or, drop, Bool, true, false, ◌&&◌, ◌==◌, nat_le, if◌then◌else◌, refl, ap, sym, ◌∙◌, subst, arith, length-take}
use Rattle.std.specs.Prelude.{None, Some, slice_range}
use Rattle.std.specs.Str.{bytes_eq}
use Rattle.std.proofs.lemmas.Fmt.{decimal_digit}
use Rattle.std.proofs.lemmas.Slice.Eq.{bytes_eq-Decides}
use Rattle.fpl_numbers.specs.declared.number.Num.{Num}
use Rattle.fpl_numbers.specs.declared.number.Kind.{Kind}
use Rattle.fpl_numbers.specs.Numbers.{IsField}
use Rattle.math_algebra.specs.Tree.{Tree, multiple, trees}
use Rattle.fpl_model.specs.declared.expr.Expr.{Expr}
use Rattle.fpl_model.specs.declared.expr.Expr as expr
use Rattle.fpl_model.specs.declared.presentation.Generator.{Generator}
use Rattle.fpl_model.specs.Meaning.{plain}
use Rattle.fpl_model.proofs.Plain.{plain-Gen, plain-Zero, plain-Sum, plain-Times, plain-Br}
use Rattle.fpl_syntax.specs.declared.terminal.Terminal.{Terminal}
use Rattle.fpl_syntax.specs.declared.terminal.Terminal.TheVariants as mark
use Rattle.fpl_syntax.specs.declared.terminal.Word.{Word}
use Rattle.fpl_syntax.specs.declared.expression.Scale.{Scale}
use Rattle.fpl_syntax.specs.declared.expression.Scale.TheVariants.{One, Whole, Quotient}
use Rattle.fpl_syntax.specs.Grammar.{Scope, Sum, sum, Terms, end, further, term, Factor, name, zero as nought, bracket, group, spell_scale, sign_of, spell_lead, spell_sum, spell_terms, spell_factor, coefficient_of, term_of, total, expression_of, further_of, factor_of}
use Rattle.fpl_syntax.specs.Sight.{word_of, number_from}
use Rattle.fpl_reader.specs.declared.survey.Event.{Event}
use Rattle.fpl_reader.specs.declared.survey.Event.TheVariants.{Used}
use Rattle.fpl_reader.specs.Events.{events_scale, events_sum, events_terms, events_factor}
use Rattle.fpl_reader.specs.Reading.{or_else, first_place, unknown_in, scope_of}
use Rattle.fpl_reader.proofs.Terms.{first_place-append}
use Rattle.fpl_spelling.specs.Spelling.{magnitude_text, sign_text}
use Rattle.fpl_canonical.specs.Canonical.{begins_below, sum_text}
use Rattle.plain_texts.proofs.NameTerminals.{names}
use Rattle.plain_texts.proofs.SpelledParts.{zero_text, term_whole, term_quotient}
use Rattle.plain_texts.proofs.Sizes.{sizes}
use Rattle.plain_texts.proofs.Costs.{alone, member, behind, member_multiple, alone_multiple, alone_behind, behind_alone, member_behind, bracket_long, sum_long, more_long, sign_later, digits, coefficient_long}

-- names

-- a name that is known stands where its number says
named_there : (k : ℕ) (gs : List Generator) (w : List ℕ) → 1 ≤ k → 1 ≤ number_from k gs w →
    (k ≤ number_from k gs w) × (get_or (names gs) (number_from k gs w - k) [] ≡ w)
named_there k [] w l h = absurd (omega arith)
named_there k (g ∷ gs) w l h = go (bytes_eq g.name w) refl h (named_there (k + 1) gs w (omega arith))
  where
    go : (t : Bool) → bytes_eq g.name w ≡ t → 1 ≤ (if t then k else number_from (k + 1) gs w) →
        (1 ≤ number_from (k + 1) gs w → (k + 1 ≤ number_from (k + 1) gs w) × (get_or (names gs) (number_from (k + 1) gs w - (k + 1)) [] ≡ w))
        → (k ≤ (if t then k else number_from (k + 1) gs w)) × (get_or (names (g ∷ gs)) ((if t then k else number_from (k + 1) gs w) - k) [] ≡ w)
    go true e h rest = (omega arith, ap (λ i. get_or (names (g ∷ gs)) i []) (let z : k - k ≡ 0 = omega arith in z) ∙ (bytes_eq-Decides g.name w).0 e)
    go false e h rest =
        let r = rest h in
        let s : number_from (k + 1) gs w - k ≡ suc (number_from (k + 1) gs w - (k + 1)) = omega (arith, r.0) in
        (omega (arith, r.0), ap (λ i. get_or (names (g ∷ gs)) i []) s ∙ r.1)

word_short : (text : List ℕ) (start stop : ℕ) → length (word_of text start stop) ≤ stop - start
word_short text start stop = go (nat_le start stop && nat_le stop (length text))
  where
    go : (t : Bool) → length (if t then slice_range text start stop else []) ≤ stop - start
    go true = omega (arith, length-take (stop - start) (drop start text))
    go false = omega arith

-- the terminals of a number and of a sign

abbrev scale_size : Scale → ℕ
scale_size One = 0
scale_size (Whole n) = digits n.value + 1
scale_size (Quotient n d) = digits n.value + 1 + digits d.value + 1

scale_sizes : (scale : Scale) (after : List Terminal) → sizes (spell_scale scale after) ≡ scale_size scale + sizes after
scale_sizes One after = omega arith
scale_sizes (Whole n) after = omega arith
scale_sizes (Quotient n d) after = omega arith

abbrev lead_size : (plus negative : Bool) → ℕ
lead_size plus true = 1
lead_size true false = 1
lead_size false false = 0

lead_sizes : (plus negative : Bool) (after : List Terminal) → sizes (spell_lead plus negative after) ≡ lead_size plus negative + sizes after
lead_sizes plus true after = omega arith
lead_sizes true false after = omega arith
lead_sizes false false after = omega arith

one_long : digits 1 ≡ 1
one_long = ap length (decimal_digit 1 (omega arith))

zero_long : digits 0 ≡ 1
zero_long = ap length zero_text

module _ (text : List ℕ) (kind : Kind) (gs : List Generator) (field : IsField kind) where
  abbrev scope : Scope
  scope = scope_of text kind gs

  abbrev ns : List (List ℕ)
  ns = names gs

  abbrev pub IsKnown : List Event → Type 0
  IsKnown es = first_place (unknown_in scope) es ≡ None

  known_some : (t : Bool) (place : ℕ) → or_else (if t then Some place else None) None ≡ None → t ≡ false
  known_some true place e = cc
  known_some false place e = refl

  some_number : (n : ℕ) → (n == 0) ≡ false → 1 ≤ n
  some_number zero e = cc
  some_number (suc n) e = omega arith

  name_long : (w : Word) → IsKnown (Used w ∷ []) → behind ns (plain (expr.Gen (scope.number w))) ≤ w.end - w.start
  name_long w h =
      let there = named_there 1 gs (word_of text w.start w.end) (omega arith) (some_number (scope.number w) (known_some (scope.number w == 0) w.start h)) in
      let long : behind ns (plain (expr.Gen (scope.number w))) ≡ length (word_of text w.start w.end) =
      ap (behind ns) (plain-Gen (scope.number w)) ∙ ap length there.1 in
      omega (arith, long, word_short text w.start w.end)

  -- a term as a later member of a sum, as its first one, and alone
  sign_size : (negative : Bool) (after : List Terminal) → sizes (sign_of negative ∷ after) ≡ 1 + sizes after
  sign_size true after = refl
  sign_size false after = refl

  record TermCost (negative : Bool) (scale : Scale) (e : Expr) : Type 0 where
    later : 3 + member ns (plain (term_of scope negative scale e)) ≤ 16 * (1 + scale_size scale) + behind ns (plain e)
    first : (plus : Bool) → length (sign_text true (begins_below (plain (term_of scope negative scale e)))) +
        member ns (plain (term_of scope negative scale e)) ≤ 16 * (lead_size plus negative + scale_size scale) + behind ns (plain e)
    only : (plus : Bool) → alone ns (plain (term_of scope negative scale e)) ≤ 16 * (lead_size plus negative + scale_size scale) + behind ns (plain e)

  record TimesCost (c : Num) (e : Tree Num) (cost : ℕ) : Type 0 where
    later : 3 + member ns (multiple c e) ≤ cost + 4 + behind ns e
    first : length (sign_text true (begins_below (multiple c e))) + member ns (multiple c e) ≤ cost + 2 + behind ns e
    only : alone ns (multiple c e) ≤ cost + 2 + behind ns e

  first_sign : (b : Bool) → length (sign_text true b) ≤ 1
  first_sign true = omega arith
  first_sign false = omega arith

  times_cost : (c : Num) (e : Tree Num) (cost : ℕ) → length (magnitude_text c) ≤ cost → TimesCost c e cost
  times_cost c e cost h = record {
    later = omega (arith, member_multiple ns c e);
    first = omega (arith, member_multiple ns c e, first_sign (begins_below (multiple c e)));
    only = omega (arith, alone_multiple ns c e);
  }

  -- the cost of a multiple, from that of its number
  of_times : (negative : Bool) (scale : Scale) (e : Expr) (c : Num) (cost : ℕ) → plain (term_of scope negative scale e) ≡ multiple c (plain e) →
      length (magnitude_text c) ≤ cost
      → cost + 4 ≤ 16 * (1 + scale_size scale) → ((plus : Bool) → cost + 2 ≤ 16 * (lead_size plus negative + scale_size scale)) → TermCost negative scale e
  of_times negative scale e c cost is short after before =
      let t = times_cost c (plain e) cost short in
      record {
        later = subst (λ x. 3 + member ns x ≤ 16 * (1 + scale_size scale) + behind ns (plain e)) (sym is) (omega (arith, t.later));
        first = λ plus. subst (λ x. length (sign_text true (begins_below x)) + member ns x ≤ 16 * (lead_size plus negative + scale_size scale) +
            behind ns (plain e)) (sym is) (omega (arith, t.first, before plus));
        only = λ plus. subst (λ x. alone ns x ≤ 16 * (lead_size plus negative + scale_size scale) + behind ns (plain e)) (sym is)
            (omega (arith, t.only, before plus));
      }

  term_cost : (negative : Bool) (scale : Scale) (e : Expr) → TermCost negative scale e
  term_cost false One e = record {
    later = omega (arith, member_behind ns (plain e));
    first = λ plus. omega (arith, member_behind ns (plain e));
    only = λ plus. omega (arith, alone_behind ns (plain e));
  }
  term_cost true One e =
      of_times true One e (coefficient_of kind true 1 1) 11 (plain-Times _ e) (let l = coefficient_long kind true 1 1 field in
      omega (arith, one_long)) (omega arith) (λ plus. omega arith)
  term_cost negative (Whole n) e =
      of_times negative (Whole n) e (coefficient_of kind negative n.value 1) (5 * digits n.value + 6) (term_whole scope negative n.place n.value e)
      (let l = coefficient_long kind negative n.value 1 field in omega (arith, one_long)) (omega arith) (λ plus. omega arith)
  term_cost negative (Quotient n d) e =
      of_times negative (Quotient n d) e (coefficient_of kind negative n.value d.value) (5 * digits n.value + 1 + 5 * digits d.value)
      (term_quotient scope negative n.place d.place n.value d.value e)
      (coefficient_long kind negative n.value d.value field) (omega arith) (λ plus. omega arith)

  total_long : (x : Expr) (ys : List Expr) (n : ℕ) → alone ns (plain x) ≤ n → length (sign_text true (begins_below (plain x))) + member ns (plain x) ≤ n
      → alone ns (plain (total (x ∷ ys))) ≤ n + length (sum_text ns false (trees (map plain ys)))
  total_long x [] n h k = omega arith
  total_long x (y ∷ ys) n h k =
      subst (λ t. alone ns t ≤ n + length (sum_text ns false (trees (map plain (y ∷ ys))))) (sym (plain-Sum (x ∷ y ∷ ys)))
      (omega (arith, sum_long ns (trees (map plain (x ∷ y ∷ ys))) (omega arith), more_long ns true (plain x) (trees (map plain (y ∷ ys)))))

  mutual
    pub sum_cost : (s : Sum) → IsKnown (events_sum s) → (after : List Terminal) → alone ns (plain (expression_of scope s)) +
        16 * sizes after ≤ 16 * sizes (spell_sum s after)
    sum_cost (sum plus (term negative scale f) ts) h after =
        let k = first_place-append (unknown_in scope) (events_scale scale) (events_factor f ++ events_terms ts) h in
        let l = first_place-append (unknown_in scope) (events_factor f) (events_terms ts) k.1 in
        let t = term_cost negative scale (factor_of scope f) in
        let all = total_long (term_of scope negative scale (factor_of scope f)) (further_of scope ts)
        (16 * (lead_size plus negative + scale_size scale) + behind ns (plain (factor_of scope f))) (t.only plus) (t.first plus) in
        let a = factor_cost f l.0 (spell_terms ts after) in
        let b = terms_cost ts l.1 after in
        let c = scale_sizes scale (spell_factor f (spell_terms ts after)) in
        let d = lead_sizes plus negative (spell_scale scale (spell_factor f (spell_terms ts after))) in
        omega (arith, all, a, b, c, d)

    terms_cost : (ts : Terms) → IsKnown (events_terms ts) → (after : List Terminal) → length
        (sum_text ns false (trees (map plain (further_of scope ts)))) + 16 * sizes after ≤ 16 * sizes (spell_terms ts after)
    terms_cost end h after = omega arith
    terms_cost (further (term negative scale f) ts) h after =
        let k = first_place-append (unknown_in scope) (events_scale scale) (events_factor f ++ events_terms ts) h in
        let l = first_place-append (unknown_in scope) (events_factor f) (events_terms ts) k.1 in
        let x = plain (term_of scope negative scale (factor_of scope f)) in
        let t = term_cost negative scale (factor_of scope f) in
        let all = more_long ns false x (trees (map plain (further_of scope ts))) in
        let sign = sign_later (begins_below x) in
        let a = factor_cost f l.0 (spell_terms ts after) in
        let b = terms_cost ts l.1 after in
        let c = scale_sizes scale (spell_factor f (spell_terms ts after)) in
        let d = sign_size negative (spell_scale scale (spell_factor f (spell_terms ts after))) in
        omega (arith, all, sign, t.later, a, b, c, d)

    factor_cost : (f : Factor) → IsKnown (events_factor f) → (after : List Terminal) → behind ns (plain (factor_of scope f)) +
        16 * sizes after ≤ 16 * sizes (spell_factor f after)
    factor_cost (name w) h after = omega (arith, name_long w h)
    factor_cost (nought place) h after = omega (arith, zero_long, (let z : behind ns (plain expr.Zero) ≡ 1 = ap (behind ns) plain-Zero in z))
    factor_cost (bracket a b) h after =
        let k = first_place-append (unknown_in scope) (events_sum a) (events_sum b) h in
        let x = sum_cost a k.0 (mark.Comma ∷ spell_sum b (mark.CloseBracket ∷ after)) in
        let y = sum_cost b k.1 (mark.CloseBracket ∷ after) in
        let z = bracket_long ns (plain (expression_of scope a)) (plain (expression_of scope b)) in
        let all : behind ns (plain (expr.Br (expression_of scope a) (expression_of scope b))) ≡ alone ns (plain (expression_of scope a)) +
        alone ns (plain (expression_of scope b)) + 3 =
        ap (behind ns) (plain-Br (expression_of scope a) (expression_of scope b)) ∙ z in
        omega (arith, x, y, all)
    factor_cost (group a) h after =
        let x = sum_cost a h (mark.CloseGroup ∷ after) in
        omega (arith, x, behind_alone ns (plain (expression_of scope a)))
