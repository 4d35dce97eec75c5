-- Expressions of the weight after a table's, or without one, and their parts.
use Rattle.std.proofs.Common.{◌≡◌, ◌≢◌, ◌<◌, ◌≤◌, ◌+◌, ◌-◌, ◌^◌, ℕ, zero, suc, List, [], ◌∷◌, Bool, true, false, cond, nat_eq, nat_le, length, map, get_or, refl, ap, subst, ◌∙◌, arith, All}
use Rattle.std.proofs.lemmas.List.{length-map}
use Rattle.fpl_numbers.specs.declared.number.Num.{Num}
use Rattle.fpl_numbers.specs.Numbers.{IsElement}
use Rattle.math_algebra.specs.Tree.{Tree, Trees, gen, none, sum_of, multiple, bracket_of, end, more, trees, no_generator, generator}
use Rattle.math_algebra.specs.Degrees.{Degree, any, exact, mixed, of_both, of_bracket, weight_of, weights_of}
use Rattle.math_algebra.specs.Table.{of_generator}
use Rattle.math_algebra.specs.Symbols.{symbols, place_of}
use Rattle.fpl_table.specs.Plain.{PlainTable, symbols_in}
use Rattle.plain_tables.specs.Holds.{Holds}
use Rattle.fpl_table_facts.proofs.Listed.{generator_listed}
use Rattle.fpl_model.specs.declared.expr.Expr.{Expr}
use Rattle.fpl_model.specs.declared.expr.Expr.TheVariants.{Gen, Sum, Times, Br}
use Rattle.fpl_model.specs.declared.presentation.Presentation.{Presentation}
use Rattle.fpl_model.specs.Meaning.{plain, in_field, all_in_field, presentation_in}
use Rattle.fpl_model.specs.Sound.{IsSound, IsTerm, AreTerms, count_tree, count_trees}
use Rattle.fpl_model.proofs.Plain.{plain-Gen, plain-Sum, plain-Times, plain-Br}
use Rattle.plain_tables.proofs.Holding.{sound_is_sound}
use Rattle.fpl_forms.specs.Ledgers.{IsExpr}
use Rattle.fpl_table_facts.specs.Known.{is_reached, is_next, weight_in, IsReached}
use Rattle.fpl_table_facts.specs.Rows.{IsDue}

-- degrees that are due
module _ (d : ℕ) where
  pub first_of_both : (a b : Degree ℕ) → is_next d (of_both nat_eq a b) ≡ true → is_next d a ≡ true
  first_of_both any b h = refl
  first_of_both (exact a) any h = h
  first_of_both (exact a) (exact b) h = go (nat_eq a b) h
    where
      go : (t : Bool) → is_next d (cond t (exact a) mixed) ≡ true → nat_eq a (suc d) ≡ true
      go true h = h
      go false h = absurd (let k : ⊥ = cc in k)
  first_of_both (exact a) mixed h = absurd (let k : ⊥ = cc in k)
  first_of_both mixed b h = h

  pub second_of_both : (a b : Degree ℕ) → is_next d (of_both nat_eq a b) ≡ true → is_next d b ≡ true
  second_of_both any b h = h
  second_of_both (exact a) any h = refl
  second_of_both (exact a) (exact b) h = go (nat_eq a b) refl h
    where
      go : (t : Bool) → nat_eq a b ≡ t → is_next d (cond t (exact a) mixed) ≡ true → nat_eq b (suc d) ≡ true
      go true e h = let q : a ≡ b = grind (arith, e) in subst (λ n. nat_eq n (suc d) ≡ true) q h
      go false e h = absurd (let k : ⊥ = cc in k)
  second_of_both (exact a) mixed h = h
  second_of_both mixed b h = absurd (let k : ⊥ = cc in k)

  -- the weights of two members that have some
  pub record AreDueBoth (a b : Degree ℕ) : Type 0 where
    pub left : ℕ
    pub right : ℕ
    pub is_left : a ≡ exact left
    pub is_right : b ≡ exact right
    pub sum : left + right ≡ suc d

  bracket_both : (a b : Degree ℕ) → a ≢ any → b ≢ any → is_next d (of_bracket (λ a b. a + b) a b) ≡ true → AreDueBoth a b
  bracket_both any b n m h = absurd (n refl)
  bracket_both (exact a) any n m h = absurd (m refl)
  bracket_both (exact a) (exact b) n m h = record { left = a; right = b; is_left = refl; is_right = refl; sum = grind (arith, h) }
  bracket_both (exact a) mixed n m h = absurd (let k : ⊥ = cc in k)
  bracket_both mixed b n m h = absurd (let k : ⊥ = cc in k)

exact_reached : (d : ℕ) (a : Degree ℕ) (w : ℕ) → a ≡ exact w → w ≤ d → is_reached d a ≡ true
exact_reached d a w e l = let t : nat_le w d ≡ true = grind (arith, l) in ap (is_reached d) e ∙ t

abbrev IsPositive : Degree ℕ → Type 0
IsPositive any = Unit {0}
IsPositive (exact w) = 0 < w
IsPositive mixed = Unit {0}

positive_both : (a b : Degree ℕ) → IsPositive a → IsPositive b → IsPositive (of_both nat_eq a b)
positive_both any b h l = l
positive_both (exact a) any h l = h
positive_both (exact a) (exact b) h l = go (nat_eq a b)
  where
    go : (t : Bool) → IsPositive (cond t (exact a) mixed)
    go true = h
    go false = tt
positive_both (exact a) mixed h l = tt
positive_both mixed b h l = tt

positive_bracket : (a b : Degree ℕ) → IsPositive a → IsPositive b → IsPositive (of_bracket (λ a b. a + b) a b)
positive_bracket any any h l = tt
positive_bracket any (exact b) h l = tt
positive_bracket any mixed h l = tt
positive_bracket (exact a) any h l = tt
positive_bracket (exact a) (exact b) h l = omega (arith, h)
positive_bracket (exact a) mixed h l = tt
positive_bracket mixed b h l = tt

module _ (p : Presentation) where
  abbrev IsTermIn : Tree Num → Type 0
  IsTermIn t = IsTerm p.field (length p.generators) t

  abbrev plain_weight : Tree Num → Degree ℕ
  plain_weight t = weight_of (presentation_in p) (in_field p.field t)

  -- what has a weight has at least 1
  module _ (sound : IsSound p) where
    mutual
      unfolding weight_of

      positive_tree : (t : Tree Num) → IsTermIn t → IsPositive (plain_weight t)
      positive_tree (gen g) h =
          let long : length (presentation_in p).generators ≡ length p.generators = length-map p.generators _ in
          let from = h.0 in
          let to = h.1 in
          (sound_is_sound p sound).positive (g - 1) (omega (arith, from, to, long))
      positive_tree none h = tt
      positive_tree (sum_of es) h = positive_trees es h
      positive_tree (multiple c e) h = positive_tree e h.1
      positive_tree (bracket_of a b) h = positive_bracket (plain_weight a) (plain_weight b) (positive_tree a h.0) (positive_tree b h.1)

      positive_trees : (ts : Trees Num) → AreTerms p.field (length p.generators) ts →
          IsPositive (weights_of (presentation_in p) (all_in_field p.field ts))
      positive_trees end h = tt
      positive_trees (more e es) h =
          positive_both (plain_weight e) (weights_of (presentation_in p) (all_in_field p.field es)) (positive_tree e h.0) (positive_trees es h.1)

    pub weight_positive : (e : Expr) (w : ℕ) → IsExpr p e → weight_in p e ≡ exact w → 0 < w
    weight_positive e w over is = subst IsPositive is (positive_tree (plain e) over)

  module _ (d : ℕ) where
    members_due : (es : List Expr) → AreTerms p.field (length p.generators) (trees (map plain es)) → count_trees (trees (map plain es)) < 2 ^ 40 →
        is_next d (weights_of (presentation_in p) (all_in_field p.field (trees (map plain es)))) ≡ true → All (IsDue p d) es
    unfolding weight_of
    members_due [] over few weight i e lt = absurd (omega (arith, lt))
    members_due (x ∷ xs) over few weight zero e lt = record {
      over = over.0;
      few = omega (arith, few);
      weight = first_of_both d (weight_in p x) (weights_of (presentation_in p) (all_in_field p.field (trees (map plain xs)))) weight;
    }
    members_due (x ∷ xs) over few weight (suc i) e lt =
        members_due xs over.1 (omega (arith, few))
        (second_of_both d (weight_in p x) (weights_of (presentation_in p) (all_in_field p.field (trees (map plain xs)))) weight) i e (omega (arith, lt))

    pub due_members : (es : List Expr) → IsDue p d (Sum es) → All (IsDue p d) es
    unfolding weight_of
    due_members es h =
        members_due es (subst IsTermIn (plain-Sum es) h.over) (subst (λ t. count_tree t < 2 ^ 40) (plain-Sum es) h.few)
        (subst (λ t. is_next d (plain_weight t) ≡ true) (plain-Sum es) h.weight)

    pub due_factor : (c : Num) (e : Expr) → IsDue p d (Times c e) → IsElement p.field c × IsDue p d e
    unfolding weight_of
    due_factor c e h =
        let over = subst IsTermIn (plain-Times c e) h.over in (
          over.0,
          record {
            over = over.1;
            few = subst (λ t. count_tree t < 2 ^ 40) (plain-Times c e) h.few;
            weight = subst (λ t. is_next d (plain_weight t) ≡ true) (plain-Times c e) h.weight;
          },
        )

    pub record IsPairDue (a b : Expr) : Type 0 where
      pub left : IsExpr p a
      pub right : IsExpr p b
      pub few_left : count_tree (plain a) < 2 ^ 40
      pub few_right : count_tree (plain b) < 2 ^ 40
      pub both : weight_in p a ≢ any → weight_in p b ≢ any → AreDueBoth d (weight_in p a) (weight_in p b)

    pub due_pair : (a b : Expr) → IsDue p d (Br a b) → IsPairDue a b
    unfolding weight_of
    due_pair a b h =
        let over = subst IsTermIn (plain-Br a b) h.over in
        let few = subst (λ t. count_tree t < 2 ^ 40) (plain-Br a b) h.few in
        let weight = subst (λ t. is_next d (plain_weight t) ≡ true) (plain-Br a b) h.weight in
        record {
          left = over.0;
          right = over.1;
          few_left = omega (arith, few);
          few_right = omega (arith, few);
          both = λ n m. bracket_both d (weight_in p a) (weight_in p b) n m weight;
        }

    pub due_left : IsSound p → (a b : Expr) → IsDue p d (Br a b) → weight_in p a ≢ any → weight_in p b ≢ any → IsReached p d a
    due_left sound a b h n m =
        let r = due_pair a b h in
        let s = r.both n m in
        let sum = s.sum in
        let some = weight_positive sound b s.right r.right s.is_right in
        record { over = r.left; few = r.few_left; weight = exact_reached d (weight_in p a) s.left s.is_left (omega (arith, sum, some)) }

    pub due_right : IsSound p → (a b : Expr) → IsDue p d (Br a b) → weight_in p a ≢ any → weight_in p b ≢ any → IsReached p d b
    due_right sound a b h n m =
        let r = due_pair a b h in
        let s = r.both n m in
        let sum = s.sum in
        let some = weight_positive sound a s.left r.left s.is_left in
        record { over = r.right; few = r.few_right; weight = exact_reached d (weight_in p b) s.right s.is_right (omega (arith, sum, some)) }

    pub record IsGeneratorDue (g : ℕ) : Type 0 where
      pub from : 1 ≤ g
      pub to : g ≤ length p.generators
      pub weight : (generator (presentation_in p) (g - 1)).weight ≡ suc d

    pub due_gen : (g : ℕ) → IsDue p d (Gen g) → IsGeneratorDue g
    unfolding weight_of
    due_gen g h =
        let over = subst IsTermIn (plain-Gen g) h.over in
        let weight = subst (λ t. is_next d (plain_weight t) ≡ true) (plain-Gen g) h.weight in
        record { from = over.0; to = over.1; weight = grind (arith, weight) }

-- the place of a generator of the next weight among the symbols
pub generator_due : (p : Presentation) (T : PlainTable) → Holds p T → (g : ℕ) → IsGeneratorDue p T.weight g →
    place_of (of_generator (g - 1)) (symbols_in T) < length (symbols_in T)
unfolding symbols
generator_due p T h g r =
    let long : length T.generators ≡ length p.generators = ap length h.generators ∙ length-map p.generators _ in
    let from = r.from in
    let to = r.to in
    generator_listed T (g - 1) (suc T.weight) (omega (arith, long, from, to)) (ap (λ gs. (get_or gs (g - 1) no_generator).weight) h.generators ∙ r.weight)
    (omega arith)
