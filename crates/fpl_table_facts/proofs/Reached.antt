-- Expressions whose weight a table reaches, and their parts.
use Rattle.std.proofs.Common.{◌≡◌, ◌≢◌, ◌<◌, ◌≤◌, ◌+◌, ◌-◌, ◌^◌, ℕ, zero, suc, List, [], ◌∷◌, Bool, true, false, cond, nat_eq, nat_le, length, map, refl, ap, subst, ◌∙◌, arith, All}
use Rattle.fpl_numbers.specs.declared.number.Num.{Num}
use Rattle.fpl_numbers.specs.Numbers.{IsElement}
use Rattle.math_algebra.specs.Tree.{Tree, trees, generator}
use Rattle.math_algebra.specs.Degrees.{Degree, any, exact, mixed, of_both, of_bracket, weight_of, weights_of}
use Rattle.fpl_model.specs.declared.expr.Expr.{Expr}
use Rattle.fpl_model.specs.declared.expr.Expr.TheVariants.{Gen, Sum, Times, Br}
use Rattle.fpl_model.specs.declared.presentation.Presentation.{Presentation}
use Rattle.fpl_model.specs.Meaning.{plain, in_field, all_in_field, presentation_in}
use Rattle.fpl_model.specs.Sound.{IsTerm, AreTerms, count_tree, count_trees}
use Rattle.fpl_model.proofs.Plain.{plain-Gen, plain-Sum, plain-Times, plain-Br}
use Rattle.fpl_forms.specs.Ledgers.{IsExpr}
use Rattle.fpl_table_facts.specs.Known.{is_reached, weight_in, IsReached}

-- degrees that are reached
module _ (d : ℕ) where
  first_of_both : (a b : Degree ℕ) → is_reached d (of_both nat_eq a b) ≡ true → is_reached d a ≡ true
  first_of_both any b h = refl
  first_of_both (exact a) any h = h
  first_of_both (exact a) (exact b) h = go (nat_eq a b) h
    where
      go : (t : Bool) → is_reached d (cond t (exact a) mixed) ≡ true → nat_le a d ≡ true
      go true h = h
      go false h = absurd (let k : ⊥ = cc in k)
  first_of_both (exact a) mixed h = absurd (let k : ⊥ = cc in k)
  first_of_both mixed b h = h

  second_of_both : (a b : Degree ℕ) → is_reached d (of_both nat_eq a b) ≡ true → is_reached d b ≡ true
  second_of_both any b h = h
  second_of_both (exact a) any h = refl
  second_of_both (exact a) (exact b) h = go (nat_eq a b) refl h
    where
      go : (t : Bool) → nat_eq a b ≡ t → is_reached d (cond t (exact a) mixed) ≡ true → nat_le b d ≡ true
      go true e h = let q : a ≡ b = grind (arith, e) in subst (λ n. nat_le n d ≡ true) q h
      go false e h = absurd (let k : ⊥ = cc in k)
  second_of_both (exact a) mixed h = h
  second_of_both mixed b h = absurd (let k : ⊥ = cc in k)

  -- the weights of two members that have some
  pub record AreBoth (a b : Degree ℕ) : Type 0 where
    pub left : ℕ
    pub right : ℕ
    pub is_left : a ≡ exact left
    pub is_right : b ≡ exact right
    pub sum : left + right ≤ d

  bracket_both : (a b : Degree ℕ) → a ≢ any → b ≢ any → is_reached d (of_bracket (λ a b. a + b) a b) ≡ true → AreBoth a b
  bracket_both any b n m h = absurd (n refl)
  bracket_both (exact a) any n m h = absurd (m refl)
  bracket_both (exact a) (exact b) n m h = record { left = a; right = b; is_left = refl; is_right = refl; sum = grind (arith, h) }
  bracket_both (exact a) mixed n m h = absurd (let k : ⊥ = cc in k)
  bracket_both mixed b n m h = absurd (let k : ⊥ = cc in k)

  reached_any : (a : Degree ℕ) → a ≡ any → is_reached d a ≡ true
  reached_any a e = ap (is_reached d) e

  reached_exact : (a : Degree ℕ) (w : ℕ) → a ≡ exact w → w ≤ d → is_reached d a ≡ true
  reached_exact a w e l = let t : nat_le w d ≡ true = grind (arith, l) in ap (is_reached d) e ∙ t

module _ (p : Presentation) (d : ℕ) where
  abbrev IsTermIn : Tree Num → Type 0
  IsTermIn t = IsTerm p.field (length p.generators) t

  abbrev plain_weight : Tree Num → Degree ℕ
  plain_weight t = weight_of (presentation_in p) (in_field p.field t)

  members_reached : (es : List Expr) → AreTerms p.field (length p.generators) (trees (map plain es)) → count_trees (trees (map plain es)) < 2 ^ 40 →
      is_reached d (weights_of (presentation_in p) (all_in_field p.field (trees (map plain es)))) ≡ true → All (IsReached p d) es
  unfolding weight_of
  members_reached [] over few weight i e lt = absurd (omega (arith, lt))
  members_reached (x ∷ xs) over few weight zero e lt = record {
    over = over.0;
    few = omega (arith, few);
    weight = first_of_both d (weight_in p x) (weights_of (presentation_in p) (all_in_field p.field (trees (map plain xs)))) weight;
  }
  members_reached (x ∷ xs) over few weight (suc i) e lt =
      members_reached xs over.1 (omega (arith, few))
      (second_of_both d (weight_in p x) (weights_of (presentation_in p) (all_in_field p.field (trees (map plain xs)))) weight) i e (omega (arith, lt))

  pub reached_members : (es : List Expr) → IsReached p d (Sum es) → All (IsReached p d) es
  unfolding weight_of
  reached_members es h =
      members_reached es (subst IsTermIn (plain-Sum es) h.over) (subst (λ t. count_tree t < 2 ^ 40) (plain-Sum es) h.few)
      (subst (λ t. is_reached d (plain_weight t) ≡ true) (plain-Sum es) h.weight)

  pub reached_factor : (c : Num) (e : Expr) → IsReached p d (Times c e) → IsElement p.field c × IsReached p d e
  unfolding weight_of
  reached_factor c e h =
      let over = subst IsTermIn (plain-Times c e) h.over in (
        over.0,
        record {
          over = over.1;
          few = subst (λ t. count_tree t < 2 ^ 40) (plain-Times c e) h.few;
          weight = subst (λ t. is_reached d (plain_weight t) ≡ true) (plain-Times c e) h.weight;
        },
      )

  pub record IsPairReached (a b : Expr) : Type 0 where
    pub left : IsExpr p a
    pub right : IsExpr p b
    pub few_left : count_tree (plain a) < 2 ^ 40
    pub few_right : count_tree (plain b) < 2 ^ 40
    pub both : weight_in p a ≢ any → weight_in p b ≢ any → AreBoth d (weight_in p a) (weight_in p b)

  pub reached_pair : (a b : Expr) → IsReached p d (Br a b) → IsPairReached a b
  unfolding weight_of
  reached_pair a b h =
      let over = subst IsTermIn (plain-Br a b) h.over in
      let few = subst (λ t. count_tree t < 2 ^ 40) (plain-Br a b) h.few in
      let weight = subst (λ t. is_reached d (plain_weight t) ≡ true) (plain-Br a b) h.weight in
      record {
        left = over.0;
        right = over.1;
        few_left = omega (arith, few);
        few_right = omega (arith, few);
        both = λ n m. bracket_both d (weight_in p a) (weight_in p b) n m weight;
      }

  pub both_reached : (a b : Expr) → is_reached d (weight_in p (Br a b)) ≡ true → weight_in p a ≢ any → weight_in p b ≢ any →
      AreBoth d (weight_in p a) (weight_in p b)
  unfolding weight_of
  both_reached a b h n m =
      bracket_both d (weight_in p a) (weight_in p b) n m (subst (λ t. is_reached d (plain_weight t) ≡ true) (plain-Br a b) h)

  pub void_reached : (e : Expr) → IsExpr p e → count_tree (plain e) < 2 ^ 40 → weight_in p e ≡ any → IsReached p d e
  void_reached e over few is = record { over = over; few = few; weight = reached_any d (weight_in p e) is }

  pub left_reached : (a b : Expr) → (h : IsReached p d (Br a b)) → weight_in p a ≢ any → weight_in p b ≢ any → IsReached p d a
  left_reached a b h n m =
      let r = reached_pair a b h in
      let s = r.both n m in
      record { over = r.left; few = r.few_left; weight = reached_exact d (weight_in p a) s.left s.is_left (let l = s.sum in omega (arith, l)) }

  pub right_reached : (a b : Expr) → (h : IsReached p d (Br a b)) → weight_in p a ≢ any → weight_in p b ≢ any → IsReached p d b
  right_reached a b h n m =
      let r = reached_pair a b h in
      let s = r.both n m in
      record { over = r.right; few = r.few_right; weight = reached_exact d (weight_in p b) s.right s.is_right (let l = s.sum in omega (arith, l)) }

  pub record IsGeneratorReached (g : ℕ) : Type 0 where
    pub from : 1 ≤ g
    pub to : g ≤ length p.generators
    pub weight : (generator (presentation_in p) (g - 1)).weight ≤ d

  pub reached_gen : (g : ℕ) → IsReached p d (Gen g) → IsGeneratorReached g
  unfolding weight_of
  reached_gen g h =
      let over = subst IsTermIn (plain-Gen g) h.over in
      let weight = subst (λ t. is_reached d (plain_weight t) ≡ true) (plain-Gen g) h.weight in
      record { from = over.0; to = over.1; weight = grind (arith, weight) }
