-- Lists of expressions: members over the presentation, and equal ones.
use Rattle.std.proofs.lemmas.List.{take-map, drop-map, get_or-map, drop_more, length-map}
use Rattle.std.proofs.lemmas.List.Elements.{All-take, All-drop}
use Rattle.std.proofs.Common.{◌≡◌, ◌↔◌, ◌<◌, ◌≤◌, ◌+◌, ℕ, zero, suc, Bool, true, false, ◌&&◌, IsTrue, List, [], ◌∷◌, ◌++◌, length, map, take, drop, get_or, refl, ap, ap₂, sym, ◌∙◌, subst, arith, All}
use Rattle.math_fields.specs.Field.{Field}
use Rattle.math_algebra.specs.Tree.{none, sum_of, more, trees}
use Rattle.math_algebra.specs.Derives.{Expression, sum_all}
use Rattle.fpl_numbers.specs.declared.number.Kind.{Kind}
use Rattle.fpl_numbers.specs.Numbers.{IsField}
use Rattle.fpl_numbers.specs.Kinds.{field_of}
use Rattle.fpl_model.specs.declared.expr.Expr.{Expr}
use Rattle.fpl_model.specs.Meaning.{plain, tree_in, trees_in, in_field}
use Rattle.fpl_model.specs.Sound.{IsTerm, AreTerms}
use Rattle.fpl_lines.proofs.Members.{trees_apart}
use Rattle.plain_proofs.specs.Checks.{same_tree, same_list, list_of, member}
use Rattle.plain_proofs.proofs.Tests.{tree_means, tree_is, same_sums, listed_trees as trees_list}
use Rattle.fpl_why.proofs.Apart.{equal_tests, apart}

pub list_means : (K : Field) (xs ys : List (Expression K)) → same_list K xs ys ≡ true → xs ≡ ys
list_means K xs ys h =
    trees_apart xs ys (let q : sum_all K xs ≡ sum_all K ys = tree_means K _ _ (same_sums K xs ys ∙ h) in cc)

pub list_is : (K : Field) (xs ys : List (Expression K)) → xs ≡ ys → same_list K xs ys ≡ true
list_is K xs ys e = sym (same_sums K xs ys) ∙ tree_is K (ap (sum_all K) e)

pub drop_all : {A : Type 0} (i : ℕ) (xs : List A) → length xs ≤ i → drop i xs ≡ []
drop_all zero [] l = refl
drop_all zero (x ∷ xs) l = absurd (omega (arith, l))
drop_all (suc i) [] l = refl
drop_all (suc i) (x ∷ xs) l = drop_all i xs (omega (arith, l))

module _ (k : Kind) (n : ℕ) where
  abbrev pub Term : Expr → Type 0
  Term e = IsTerm k n (plain e)

  pub rest_terms : (e : Expr) (es : List Expr) → All Term (e ∷ es) → All Term es
  rest_terms e es h i d l = h (suc i) d (omega (arith, l))

  pub first_term : (e : Expr) (es : List Expr) → All Term (e ∷ es) → Term e
  first_term e es h = h 0 e (omega arith)

  pub all_terms : (es : List Expr) → AreTerms k n (trees (map plain es)) → All Term es
  all_terms [] h i d l = absurd (omega (arith, l))
  all_terms (e ∷ es) h zero d l = h.0
  all_terms (e ∷ es) h (suc i) d l = all_terms es h.1 i d (omega (arith, l))

  maps_apart : IsField k → (es fs : List Expr) → All Term es → All Term fs → map (tree_in k) es ≡ map (tree_in k) fs → map plain es ≡ map plain fs
  maps_apart is [] [] a b q = refl
  maps_apart is [] (f ∷ fs) a b q = cc
  maps_apart is (e ∷ es) [] a b q = cc
  maps_apart is (e ∷ es) (f ∷ fs) a b q =
      let r : plain e ≡ plain f = apart k is n (plain e) (plain f) (first_term e es a) (first_term f fs b) (cc) in
      let s : map plain es ≡ map plain fs = maps_apart is es fs (rest_terms e es a) (rest_terms f fs b) (cc) in
      ap₂ (λ x xs. x ∷ xs) r s

  trees_map : (es : List Expr) → map (in_field k) (map plain es) ≡ map (tree_in k) es
  trees_map [] = refl
  trees_map (e ∷ es) = ap (λ l. tree_in k e ∷ l) (trees_map es)

  -- the members of a sum, as lists
  pub members_are : (es : List Expr) → list_of (trees_in k es) ≡ map (tree_in k) es
  members_are [] = refl
  members_are (e ∷ es) = ap (λ l. tree_in k e ∷ l) (members_are es)

  pub trees_are : (es : List Expr) → trees_in k es ≡ trees (map (tree_in k) es)
  trees_are [] = refl
  trees_are (e ∷ es) = ap (more (tree_in k e)) (trees_are es)

  pub all_told : IsField k → (b : Bool) (es fs : List Expr) → AreTerms k n (trees (map plain es)) → AreTerms k n (trees (map plain fs)) →
      IsTrue b ↔ (map plain es ≡ map plain fs) → b ≡ same_list (field_of k) (list_of (trees_in k es)) (list_of (trees_in k fs))
  all_told is b es fs a c h =
      equal_tests b _
      (λ t. list_is (field_of k) _ _ (members_are es ∙ sym (trees_map es) ∙ ap (map (in_field k)) (h.0 t) ∙ trees_map fs ∙ sym (members_are fs)))
      (λ t. h.1 (maps_apart is es fs (all_terms es a) (all_terms fs c) (sym (members_are es) ∙ list_means (field_of k) _ _ t ∙ members_are fs)))

  some_terms : (es : List Expr) → All Term es → AreTerms k n (trees (map plain es))
  some_terms [] h = tt
  some_terms (e ∷ es) h = (first_term e es h, some_terms es (rest_terms e es h))

  pub terms_take : (m : ℕ) (es : List Expr) → AreTerms k n (trees (map plain es)) → AreTerms k n (trees (map plain (take m es)))
  terms_take m es h = some_terms (take m es) (All-take Term m es (all_terms es h))

  pub terms_drop : (m : ℕ) (es : List Expr) → AreTerms k n (trees (map plain es)) → AreTerms k n (trees (map plain (drop m es)))
  terms_drop m es h = some_terms (drop m es) (All-drop Term m es (all_terms es h))

  pub terms_at : (es : List Expr) (i : ℕ) (x : Expr) → AreTerms k n (trees (map plain es)) → i < length es → x ≡ get_or es i x → IsTerm k n (plain x)
  terms_at es i x h l e = subst (λ y. IsTerm k n (plain y)) (sym e) (all_terms es h i x l)

  pub list_take : (m : ℕ) (es : List Expr) → take m (list_of (trees_in k es)) ≡ list_of (trees_in k (take m es))
  list_take m es = ap (take m) (members_are es) ∙ take-map (tree_in k) m es ∙ sym (members_are (take m es))

  pub list_drop : (m : ℕ) (es : List Expr) → drop m (list_of (trees_in k es)) ≡ list_of (trees_in k (drop m es))
  list_drop m es = ap (drop m) (members_are es) ∙ drop-map (tree_in k) m es ∙ sym (members_are (drop m es))

  pub list_long : (es : List Expr) → length (list_of (trees_in k es)) ≡ length es
  list_long es = ap length (members_are es) ∙ length-map es (tree_in k)

  pub list_at : (es : List Expr) (i : ℕ) (x : Expr) → i < length es → x ≡ get_or es i x → member (field_of k) (list_of (trees_in k es)) i ≡ tree_in k x
  list_at es i x l e = ap (λ l. get_or l i none) (members_are es) ∙ get_or-map (tree_in k) es i x none l ∙ ap (tree_in k) (sym e)

  pub sum_same : (xs : List (Expression (field_of k))) (fs : List Expr) →
      same_tree (field_of k) (sum_all (field_of k) xs) (sum_of (trees_in k fs)) ≡ same_list (field_of k) xs (list_of (trees_in k fs))
  sum_same xs fs =
      ap (λ ts. same_tree (field_of k) (sum_all (field_of k) xs) (sum_of ts)) (sym (trees_list (trees_in k fs))) ∙ same_sums (field_of k) xs _

  -- a loop over two lists, from place i on
  pub turn : (f : Expression (field_of k) → Expression (field_of k)) (es fs : List Expr) (i : ℕ) (x y : Expr) → i < length es → i < length fs →
      x ≡ get_or es i x → y ≡ get_or fs i y →
      same_list (field_of k) (map f (list_of (trees_in k (drop i es)))) (list_of (trees_in k (drop i fs))) ≡
      (same_tree (field_of k) (f (tree_in k x)) (tree_in k y) &&
      same_list (field_of k) (map f (list_of (trees_in k (drop (i + 1) es)))) (list_of (trees_in k (drop (i + 1) fs))))
  turn f es fs i x y l m e g =
      ap₂ (λ xs ys. same_list (field_of k) (map f (list_of (trees_in k xs))) (list_of (trees_in k ys)))
      (drop_more es i x l ∙ ap (λ z. z ∷ drop (i + 1) es) (sym e)) (drop_more fs i y m ∙ ap (λ z. z ∷ drop (i + 1) fs) (sym g))

  -- a loop that compares what f makes of each member, from place i on
  module _ (f : Expression (field_of k) → Expression (field_of k)) (es fs : List Expr) where
    abbrev pub Left : ℕ → Type 0
    Left i = same_list (field_of k) (map f (list_of (trees_in k es))) (list_of (trees_in k fs)) ≡
        same_list (field_of k) (map f (list_of (trees_in k (drop i es)))) (list_of (trees_in k (drop i fs)))

    pub spread_long : (length fs ≡ length es → ⊥) → false
        ≡ same_tree (field_of k) (sum_all (field_of k) (map f (list_of (trees_in k es)))) (sum_of (trees_in k fs))
    spread_long d =
        equal_tests false _ (λ h. absurd (let never : ⊥ = cc in never))
        (λ h. absurd (d (sym (list_long fs) ∙ sym (ap length (list_means (field_of k) _ _ (sym (sum_same _ fs) ∙ h))) ∙
        length-map (list_of (trees_in k es)) f ∙ list_long es)))

    pub spread_stop : (i : ℕ) (x y : Expr) → i < length es → i < length fs → x ≡ get_or es i x → y ≡ get_or fs i y → Left i →
        same_tree (field_of k) (f (tree_in k x)) (tree_in k y) ≡ false →
        false ≡ same_tree (field_of k) (sum_all (field_of k) (map f (list_of (trees_in k es)))) (sum_of (trees_in k fs))
    spread_stop i x y l m e g left h =
        sym (sum_same _ fs ∙ left ∙ turn f es fs i x y l m e g ∙
        ap (λ b. b && same_list (field_of k) (map f (list_of (trees_in k (drop (i + 1) es)))) (list_of (trees_in k (drop (i + 1) fs)))) h)

    pub spread_on : (i : ℕ) (x y : Expr) → i < length es → i < length fs → x ≡ get_or es i x → y ≡ get_or fs i y → Left i →
        same_tree (field_of k) (f (tree_in k x)) (tree_in k y) ≡ true → Left (i + 1)
    spread_on i x y l m e g left h =
        left ∙ turn f es fs i x y l m e g ∙
        ap (λ b. b && same_list (field_of k) (map f (list_of (trees_in k (drop (i + 1) es)))) (list_of (trees_in k (drop (i + 1) fs)))) h

    pub spread_end : (i : ℕ) → length es ≤ i → length fs ≤ i → Left i →
        true ≡ same_tree (field_of k) (sum_all (field_of k) (map f (list_of (trees_in k es)))) (sum_of (trees_in k fs))
    spread_end i l m left =
        sym (sum_same _ fs ∙ left ∙ ap₂ (λ xs ys. same_list (field_of k) (map f (list_of (trees_in k xs))) (list_of (trees_in k ys)))
        (drop_all i es l) (drop_all i fs m))

-- lists put together, compared part by part
pub same_parts : (K : Field) (xs ys zs : List (Expression K)) → same_list K (xs ++ ys) zs
    ≡ (same_list K xs (take (length xs) zs) && same_list K ys (drop (length xs) zs))
same_parts K [] ys zs = refl
same_parts K (x ∷ xs) ys [] = refl
same_parts K (x ∷ xs) ys (z ∷ zs) = ap (λ b. same_tree K x z && b) (same_parts K xs ys zs) ∙ and_assoc (same_tree K x z) _ _
  where
    and_assoc : (a b c : Bool) → (a && (b && c)) ≡ ((a && b) && c)
    and_assoc true b c = refl
    and_assoc false b c = refl

pub ruleset terms = (terms_take, terms_drop, terms_at)
