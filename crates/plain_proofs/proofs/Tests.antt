-- The tests of equal numbers and equal expressions tell equality.
use Rattle.std.specs.Prelude.{ℕ, List, [], ◌∷◌, ◌≡◌, Bool, true, false, ◌&&◌, nat_eq}
use mathlib.Core.Path.{refl, ap, ap₂, subst}
use native.Mathlib.Omega.{arith}
use Rattle.math_fields.specs.Field.{Field}
use Rattle.math_algebra.specs.Tree.{Tree, Trees, gen, none, sum_of, multiple, bracket_of, end, more, trees}
use Rattle.math_algebra.specs.Derives.{Expression, sum_all}
use Rattle.plain_proofs.specs.Checks.{decided, is_number, same_tree, same_trees, same_list, list_of}
use Rattle.std.proofs.lemmas.Bool.{and_parts}

pub never : {A : Type 0} → false ≡ true → A
never h = absurd (differ h)
  where
    differ : false ≡ true → ⊥
    differ e = cc

pub join : {b c : Bool} → b ≡ true → c ≡ true → (b && c) ≡ true
join h k = ap₂ (λ b c. b && c) h k

decided_means : {A : Type 0} (d : Dec A) → decided d ≡ true → A
decided_means (yes a) h = a
decided_means (no d) h = never h

decided_is : {A : Type 0} (d : Dec A) → A → decided d ≡ true
decided_is (yes a) h = refl
decided_is (no d) h = absurd (d h)

pub number_means : (K : Field) (c d : K.Carrier) → is_number K c d ≡ true → c ≡ d
number_means K c d h = decided_means (K.same c d) h

pub number_is : (K : Field) {c d : K.Carrier} → c ≡ d → is_number K c d ≡ true
number_is K {c} {d} h = decided_is (K.same c d) h

module _ (K : Field) where
  mutual
    unfolding same_tree

    pub tree_itself : (e : Expression K) → same_tree K e e ≡ true
    tree_itself (gen g) = grind arith
    tree_itself none = refl
    tree_itself (sum_of es) = trees_itself es
    tree_itself (multiple c e) = join (number_is K refl) (tree_itself e)
    tree_itself (bracket_of a b) = join (tree_itself a) (tree_itself b)

    trees_itself : (es : Trees K.Carrier) → same_trees K es es ≡ true
    trees_itself end = refl
    trees_itself (more e es) = join (tree_itself e) (trees_itself es)

  pub tree_is : {e f : Expression K} → e ≡ f → same_tree K e f ≡ true
  tree_is {e} h = subst (λ f. same_tree K e f ≡ true) h (tree_itself e)

  gens_mean : (g h : ℕ) → nat_eq g h ≡ true → g ≡ h
  gens_mean g h e = grind (arith, e)

  mutual
    unfolding same_tree

    pub tree_means : (e f : Expression K) → same_tree K e f ≡ true → e ≡ f
    tree_means (gen g) (gen h) q = ap gen (gens_mean g h q)
    tree_means none none q = refl
    tree_means (sum_of es) (sum_of fs) q = ap sum_of (trees_mean es fs q)
    tree_means (multiple c e) (multiple d f) q =
        ap₂ multiple (number_means K c d (and_parts _ _ q).0) (tree_means e f (and_parts _ _ q).1)
    tree_means (bracket_of a b) (bracket_of c d) q = ap₂ bracket_of (tree_means a c (and_parts _ _ q).0) (tree_means b d (and_parts _ _ q).1)
    tree_means e f q = never q

    trees_mean : (es fs : Trees K.Carrier) → same_trees K es fs ≡ true → es ≡ fs
    trees_mean end end q = refl
    trees_mean (more e es) (more f fs) q = ap₂ more (tree_means e f (and_parts _ _ q).0) (trees_mean es fs (and_parts _ _ q).1)
    trees_mean es fs q = never q

pub listed_trees : {N : Type 0} (es : Trees N) → trees (list_of es) ≡ es
listed_trees end = refl
listed_trees (more e es) = ap (more e) (listed_trees es)

pub list_listed : {N : Type 0} (es : List (Tree N)) → list_of (trees es) ≡ es
list_listed [] = refl
list_listed (e ∷ es) = ap (λ l. e ∷ l) (list_listed es)

-- the test of two sums is that of their lists
pub same_sums : (K : Field) (es fs : List (Expression K)) → same_tree K (sum_all K es) (sum_all K fs) ≡ same_list K es fs
unfolding same_tree
same_sums K [] [] = refl
same_sums K [] (f ∷ fs) = refl
same_sums K (e ∷ es) [] = refl
same_sums K (e ∷ es) (f ∷ fs) = ap (λ b. same_tree K e f && b) (same_sums K es fs)

pub all_three : {a b c : Bool} → (a && b && c) ≡ true → (a ≡ true) × (b ≡ true) × (c ≡ true)
all_three {a} {b} {c} h = let l = and_parts (a && b) c h in let m = and_parts a b l.0 in (m.0, m.1, l.1)

pub all_four : {a b c d : Bool} → (a && b && c && d) ≡ true → (a ≡ true) × (b ≡ true) × (c ≡ true) × (d ≡ true)
all_four {a} {b} {c} {d} h = let l = and_parts (a && b && c) d h in let m = all_three l.0 in (m.0, m.1, m.2, l.1)

pub all_five : {a b c d e : Bool} → (a && b && c && d && e) ≡ true → (a ≡ true) × (b ≡ true) × (c ≡ true) × (d ≡ true) × (e ≡ true)
all_five {a} {b} {c} {d} {e} h = let l = and_parts (a && b && c && d) e h in let m = all_four l.0 in (m.0, m.1, m.2, m.3, l.1)
