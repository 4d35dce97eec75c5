-- Canonical numbers and expressions over a field are equal exactly where they stand for the same.
use Rattle.std.proofs.Common.{◌≡◌, ◌↔◌, ℕ, Bool, true, false, IsTrue, refl, ap, ap₂, sym, arith, ◌-◌}
use Rattle.fpl_numbers.specs.declared.number.Num.{Num}
use Rattle.fpl_numbers.specs.declared.number.Kind.{Kind}
use Rattle.fpl_numbers.specs.Numbers.{IsElement, IsField}
use Rattle.fpl_numbers.specs.Kinds.{field_of, number_of}
use Rattle.fpl_numbers.proofs.KindReads.{kind_reads}
use Rattle.math_algebra.specs.Tree.{Tree, Trees, gen, none, sum_of, multiple, bracket_of, end, more}
use Rattle.fpl_model.specs.Meaning.{in_field, all_in_field}
use Rattle.fpl_model.specs.Sound.{IsTerm, AreTerms}
use Rattle.plain_proofs.specs.Checks.{is_number, same_tree}
use Rattle.plain_proofs.proofs.Tests.{number_means, number_is, tree_means, tree_is}

pub equal_tests : (b c : Bool) → (b ≡ true → c ≡ true) → (c ≡ true → b ≡ true) → b ≡ c
equal_tests true c h k = sym (h refl)
equal_tests false true h k = k refl
equal_tests false false h k = refl

module _ (k : Kind) (is : IsField k) where
  pub number_told : (b : Bool) (c d : Num) → IsElement k c → IsElement k d → IsTrue b ↔ (c ≡ d) → b ≡ is_number (field_of k) (number_of k c) (number_of k d)
  number_told b c d is_c is_d h =
      equal_tests b _ (λ t. number_is (field_of k) (ap (number_of k) (h.0 t)))
      (λ t. h.1 ((kind_reads k is).apart c d is_c is_d (number_means (field_of k) _ _ t)))

  module _ (n : ℕ) where
    mutual
      pub apart : (t u : Tree Num) → IsTerm k n t → IsTerm k n u → in_field k t ≡ in_field k u → t ≡ u
      apart (gen g) (gen h) a b q = let f : g - 1 ≡ h - 1 = cc in let r : g ≡ h = omega (arith, a.0, b.0, f) in ap gen r
      apart (gen g) none a b q = cc
      apart (gen g) (sum_of fs) a b q = cc
      apart (gen g) (multiple d f) a b q = cc
      apart (gen g) (bracket_of f h) a b q = cc
      apart none (gen h) a b q = cc
      apart none none a b q = refl
      apart none (sum_of fs) a b q = cc
      apart none (multiple d f) a b q = cc
      apart none (bracket_of f h) a b q = cc
      apart (sum_of es) (gen h) a b q = cc
      apart (sum_of es) none a b q = cc
      apart (sum_of es) (sum_of fs) a b q = ap sum_of (all_apart es fs a b (cc))
      apart (sum_of es) (multiple d f) a b q = cc
      apart (sum_of es) (bracket_of f h) a b q = cc
      apart (multiple c e) (gen h) a b q = cc
      apart (multiple c e) none a b q = cc
      apart (multiple c e) (sum_of fs) a b q = cc
      apart (multiple c e) (multiple d f) a b q = ap₂ multiple ((kind_reads k is).apart c d a.0 b.0 (cc)) (apart e f a.1 b.1 (cc))
      apart (multiple c e) (bracket_of f h) a b q = cc
      apart (bracket_of c e) (gen h) a b q = cc
      apart (bracket_of c e) none a b q = cc
      apart (bracket_of c e) (sum_of fs) a b q = cc
      apart (bracket_of c e) (multiple d f) a b q = cc
      apart (bracket_of c e) (bracket_of d f) a b q = ap₂ bracket_of (apart c d a.0 b.0 (cc)) (apart e f a.1 b.1 (cc))

      all_apart : (es fs : Trees Num) → AreTerms k n es → AreTerms k n fs → all_in_field k es ≡ all_in_field k fs → es ≡ fs
      all_apart end end a b q = refl
      all_apart end (more f fs) a b q = cc
      all_apart (more e es) end a b q = cc
      all_apart (more e es) (more f fs) a b q = ap₂ more (apart e f a.0 b.0 (cc)) (all_apart es fs a.1 b.1 (cc))

    pub told : (b : Bool) (t u : Tree Num) → IsTerm k n t → IsTerm k n u → IsTrue b ↔ (t ≡ u) → b ≡ same_tree (field_of k) (in_field k t) (in_field k u)
    told b t u is_t is_u h =
        equal_tests b _ (λ s. tree_is (field_of k) (ap (in_field k) (h.0 s))) (λ s. h.1 (apart t u is_t is_u (tree_means (field_of k) _ _ s)))
