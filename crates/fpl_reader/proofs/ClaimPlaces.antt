-- Claims take no more places than they have terminals.
use Rattle.std.proofs.Common.{◌≡◌, ℕ, ◌+◌, ◌≤◌, List, [], ◌∷◌, ◌++◌, length, map, sum, Bool, true, false, if◌then◌else◌, sym, subst, arith, length-append}
use Rattle.std.specs.List.{fold}
use Rattle.fpl_numbers.specs.declared.number.Kind.{Kind}
use Rattle.fpl_model.specs.declared.presentation.Generator.{Generator}
use Rattle.fpl_model.specs.declared.presentation.Equation.{Equation}
use Rattle.fpl_model.specs.Meaning.{plain}
use Rattle.fpl_model.specs.Sound.{count_tree, count_equation, places}
use Rattle.fpl_syntax.specs.declared.terminal.Terminal.{Terminal}
use Rattle.fpl_syntax.specs.declared.terminal.Terminal.TheVariants as mark
use Rattle.fpl_syntax.specs.declared.terminal.ClaimKind.{ClaimKind}
use Rattle.fpl_syntax.specs.declared.terminal.ClaimKind.TheVariants.{Relation, Ideal, Equal}
use Rattle.fpl_syntax.specs.declared.parser.Claim.{Claim}
use Rattle.fpl_syntax.specs.declared.expression.Scale.{Scale}
use Rattle.fpl_syntax.specs.declared.expression.Scale.TheVariants.{One, Whole, Quotient}
use Rattle.fpl_syntax.specs.Grammar.{Sum, sum as sum_tree, Terms, end, further, term, Factor, name, zero as nought, bracket, group, equation, Declaration, plainly, weighted, spell_scale, spell_lead, spell_sum, spell_terms, spell_factor, spell_declarations}
use Rattle.fpl_reader.specs.Events.{events_scale, events_sum, events_terms, events_factor}
use Rattle.fpl_reader.specs.Reading.{is_relation, is_ideal, is_equal, claimed_as, lefts, with_claims}

-- how long the terminals are

scale_long : (scale : Scale) (after : List Terminal) → length (events_scale scale) + length after ≤ length (spell_scale scale after)
scale_long One after = omega arith
scale_long (Whole n) after = omega arith
scale_long (Quotient n d) after = omega arith

lead_long : (plus negative : Bool) (after : List Terminal) → length after ≤ length (spell_lead plus negative after)
lead_long plus true after = omega arith
lead_long true false after = omega arith
lead_long false false after = omega arith

mutual
  pub sum_long : (s : Sum) (after : List Terminal) → length (events_sum s) + length after ≤ length (spell_sum s after)
  sum_long (sum_tree plus (term negative scale f) ts) after =
      let a = lead_long plus negative (spell_scale scale (spell_factor f (spell_terms ts after))) in
      let b = scale_long scale (spell_factor f (spell_terms ts after)) in
      let c = factor_long f (spell_terms ts after) in
      let d = terms_long ts after in
      let x = length-append (events_scale scale) (events_factor f ++ events_terms ts) in
      let y = length-append (events_factor f) (events_terms ts) in
      omega arith

  terms_long : (ts : Terms) (after : List Terminal) → length (events_terms ts) + length after ≤ length (spell_terms ts after)
  terms_long end after = omega arith
  terms_long (further (term negative scale f) ts) after =
      let b = scale_long scale (spell_factor f (spell_terms ts after)) in
      let c = factor_long f (spell_terms ts after) in
      let d = terms_long ts after in
      let x = length-append (events_scale scale) (events_factor f ++ events_terms ts) in
      let y = length-append (events_factor f) (events_terms ts) in
      omega arith

  factor_long : (f : Factor) (after : List Terminal) → length (events_factor f) + length after ≤ length (spell_factor f after)
  factor_long (name w) after = omega arith
  factor_long (nought place) after = omega arith
  factor_long (bracket a b) after =
      let c = sum_long a (mark.Comma ∷ spell_sum b (mark.CloseBracket ∷ after)) in
      let d = sum_long b (mark.CloseBracket ∷ after) in
      let x = length-append (events_sum a) (events_sum b) in
      omega arith
  factor_long (group a) after = let c = sum_long a (mark.CloseGroup ∷ after) in omega arith

pub declarations_long : (ds : List Declaration) (after : List Terminal) → length after ≤ length (spell_declarations ds after)
declarations_long [] after = omega arith
declarations_long (plainly w ∷ ds) after = let h = declarations_long ds after in omega arith
declarations_long (weighted w n ∷ ds) after = let h = declarations_long ds after in omega arith

-- how many places a claim takes
abbrev cost : Claim → ℕ
cost c = count_tree (plain c.equation.left) + count_tree (plain c.equation.right) + 1

abbrev pub costs : List Claim → ℕ
costs [] = 0
costs (c ∷ cs) = cost c + costs cs

pub costs-append : (xs ys : List Claim) → costs (xs ++ ys) ≡ costs xs + costs ys
costs-append [] ys = omega arith
costs-append (x ∷ xs) ys = let h = costs-append xs ys in omega arith

fold_from : (a : ℕ) (xs : List ℕ) → fold (λ a x. a + x) a xs ≡ a + fold (λ a x. a + x) 0 xs
fold_from a [] = omega arith
fold_from a (x ∷ xs) = let h = fold_from (a + x) xs in let k = fold_from (0 + x) xs in omega arith

sum-cons : (x : ℕ) (xs : List ℕ) → sum (x ∷ xs) ≡ x + sum xs
sum-cons x xs = let h = fold_from (0 + x) xs in omega arith

first_more : (a r i s n : ℕ) → r + i + s ≤ n → a + r + i + s ≤ a + n
first_more a r i s n h = omega arith

second_more : (l e r i s n : ℕ) → r + i + s ≤ n → r + (l + 1 + i) + s ≤ l + e + 1 + n
second_more l e r i s n h = omega arith

third_more : (a r i s n : ℕ) → r + i + s ≤ n → r + i + (a + s) ≤ a + n
third_more a r i s n h = omega arith

places_more : (kind : Kind) (gs : List Generator) (cs : List Claim) (k : ClaimKind) (q : Equation) (n : ℕ) → places (with_claims kind gs cs) ≤ n
    → sum (map count_equation (if is_relation k then q ∷ claimed_as is_relation cs else claimed_as is_relation cs))
    + sum (map (λ e. count_tree (plain e) + 1) (lefts (if is_ideal k then q ∷ claimed_as is_ideal cs else claimed_as is_ideal cs)))
    + sum (map count_equation (if is_equal k then q ∷ claimed_as is_equal cs else claimed_as is_equal cs)) ≤ count_equation q + n
places_more kind gs cs Relation q n h =
    let rs = map count_equation (claimed_as is_relation cs) in
    let is = sum (map (λ e. count_tree (plain e) + 1) (lefts (claimed_as is_ideal cs))) in
    let ss = sum (map count_equation (claimed_as is_equal cs)) in
    subst (λ w. w + is + ss ≤ count_equation q + n) (sym (sum-cons (count_equation q) rs)) (first_more (count_equation q) (sum rs) is ss n h)
places_more kind gs cs Ideal q n h =
    let rs = sum (map count_equation (claimed_as is_relation cs)) in
    let is = map (λ e. count_tree (plain e) + 1) (lefts (claimed_as is_ideal cs)) in
    let ss = sum (map count_equation (claimed_as is_equal cs)) in
    subst (λ w. rs + w + ss ≤ count_equation q + n) (sym (sum-cons (count_tree (plain q.left) + 1) is))
    (second_more (count_tree (plain q.left)) (count_tree (plain q.right)) rs (sum is) ss n h)
places_more kind gs cs Equal q n h =
    let rs = sum (map count_equation (claimed_as is_relation cs)) in
    let is = sum (map (λ e. count_tree (plain e) + 1) (lefts (claimed_as is_ideal cs))) in
    let ss = map count_equation (claimed_as is_equal cs) in
    subst (λ w. rs + is + w ≤ count_equation q + n) (sym (sum-cons (count_equation q) ss)) (third_more (count_equation q) rs is (sum ss) n h)

pub places_cost : (kind : Kind) (gs : List Generator) (cs : List Claim) → places (with_claims kind gs cs) ≤ costs cs
places_cost kind gs [] = omega arith
places_cost kind gs (c ∷ cs) = places_more kind gs cs c.kind c.equation (costs cs) (places_cost kind gs cs)
