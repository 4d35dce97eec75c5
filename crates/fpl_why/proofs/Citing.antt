-- The lines that a line may cite.
use Rattle.std.proofs.Common.{◌≡◌, ◌<◌, ◌≤◌, ◌+◌, ℕ, zero, suc, true, false, ◌&&◌, List, [], ◌∷◌, length, drop, get_or, refl, ap, sym, ◌∙◌, subst, arith}
use Rattle.std.proofs.lemmas.List.{get_or-map, drop_more}
use Rattle.fpl_numbers.specs.declared.number.Kind.{Kind}
use Rattle.fpl_numbers.specs.Kinds.{field_of}
use Rattle.math_algebra.specs.Derives.{Expression}
use Rattle.math_proofs.specs.Rules.{Line as Line', line_at, no_line}
use Rattle.fpl_model.specs.declared.expr.Expr.{Expr}
use Rattle.fpl_model.specs.declared.presentation.Presentation.{Presentation}
use Rattle.fpl_model.specs.Meaning.{tree_in, trees_in}
use Rattle.plain_proofs.specs.Checks.{list_of, is_cited, are_cited}
use Rattle.std.proofs.lemmas.Bool.{and_parts}
use Rattle.fpl_lines.specs.declared.line.Line.{Line}
use Rattle.fpl_lines.specs.Meaning.{line_in, lines_in, IsLine, AreLines}
use Rattle.fpl_why.proofs.Apart.{equal_tests}
use Rattle.fpl_why.proofs.Lists.{list_long, drop_all}

module _ (k : Kind) (lines : List Line) (i : ℕ) (l : Line) (lt : i < length lines) (e : l ≡ get_or lines i l) where
  pub line_is : line_at (field_of k) (lines_in k lines) i ≡ line_in k l
  line_is = get_or-map (line_in k) lines i l (no_line (field_of k)) lt ∙ ap (line_in k) (sym e)

  pub left_is : (line_at (field_of k) (lines_in k lines) i).left_side ≡ tree_in k l.left
  left_is = ap (λ x. x.left_side) line_is

  pub right_is : (line_at (field_of k) (lines_in k lines) i).right_side ≡ tree_in k l.right
  right_is = ap (λ x. x.right_side) line_is

pub line_over : (p : Presentation) (lines : List Line) (i : ℕ) (l : Line) → AreLines p lines → i < length lines → l ≡ get_or lines i l → IsLine p l
line_over p lines i l h lt e = subst (IsLine p) (sym e) (h i l lt)

never : {A : Type 0} → false ≡ true → A
never h = absurd (let k : ⊥ = cc in k)

module _ (k : Kind) (lines : List (Line' (field_of k))) (before : ℕ) where
  cited_long : (cs : List ℕ) (xs ys : List (Expression (field_of k))) → are_cited (field_of k) lines before cs xs ys ≡ true →
      (length xs ≡ length cs) × (length ys ≡ length cs)
  cited_long [] [] [] h = (refl, refl)
  cited_long [] [] (y ∷ ys) h = never h
  cited_long [] (x ∷ xs) ys h = never h
  cited_long (c ∷ cs) [] ys h = never h
  cited_long (c ∷ cs) (x ∷ xs) [] h = never h
  cited_long (c ∷ cs) (x ∷ xs) (y ∷ ys) h =
      let r = cited_long cs xs ys (and_parts (is_cited (field_of k) lines before c x y) _ h).1 in (ap suc r.0, ap suc r.1)

  module _ (cs : List ℕ) (es fs : List Expr) where
    pub cited_differ : ((length es ≡ length cs) → (length fs ≡ length cs) → ⊥) →
        false ≡ are_cited (field_of k) lines before cs (list_of (trees_in k es)) (list_of (trees_in k fs))
    cited_differ d =
        equal_tests false _ (λ h. never h)
        (λ h. let r = cited_long cs _ _ h in absurd (d (sym (list_long k 0 es) ∙ r.0) (sym (list_long k 0 fs) ∙ r.1)))

    abbrev pub Left : ℕ → Type 0
    Left i = are_cited (field_of k) lines before cs (list_of (trees_in k es)) (list_of (trees_in k fs)) ≡
        are_cited (field_of k) lines before (drop i cs) (list_of (trees_in k (drop i es))) (list_of (trees_in k (drop i fs)))

    cited_turn : (i : ℕ) (x y : Expr) (c : ℕ) → i < length cs → i < length es → i < length fs → c ≡ get_or cs i c → x ≡ get_or es i x → y ≡ get_or fs i y →
        are_cited (field_of k) lines before (drop i cs) (list_of (trees_in k (drop i es))) (list_of (trees_in k (drop i fs))) ≡
        (is_cited (field_of k) lines before c (tree_in k x) (tree_in k y) &&
        are_cited (field_of k) lines before (drop (i + 1) cs) (list_of (trees_in k (drop (i + 1) es))) (list_of (trees_in k (drop (i + 1) fs))))
    cited_turn i x y c j l m q e g =
        (λ t. are_cited (field_of k) lines before ((drop_more cs i c j ∙ ap (λ z. z ∷ drop (i + 1) cs) (sym q)) t)
        (list_of (trees_in k ((drop_more es i x l ∙ ap (λ z. z ∷ drop (i + 1) es) (sym e)) t)))
        (list_of (trees_in k ((drop_more fs i y m ∙ ap (λ z. z ∷ drop (i + 1) fs) (sym g)) t))))

    module _ (i : ℕ) (x y : Expr) (c : ℕ) (j : i < length cs) (l : i < length es) (m : i < length fs)
        (q : c ≡ get_or cs i c) (e : x ≡ get_or es i x) (g : y ≡ get_or fs i y) (left : Left i) where
      cited_next : are_cited (field_of k) lines before cs (list_of (trees_in k es)) (list_of (trees_in k fs)) ≡
          (is_cited (field_of k) lines before c (tree_in k x) (tree_in k y) &&
          are_cited (field_of k) lines before (drop (i + 1) cs) (list_of (trees_in k (drop (i + 1) es))) (list_of (trees_in k (drop (i + 1) fs))))
      cited_next = left ∙ cited_turn i x y c j l m q e g

      pub cited_stop : is_cited (field_of k) lines before c (tree_in k x) (tree_in k y) ≡ false →
          false ≡ are_cited (field_of k) lines before cs (list_of (trees_in k es)) (list_of (trees_in k fs))
      cited_stop h =
          sym (cited_next ∙ ap (λ b. b && are_cited (field_of k) lines before (drop (i + 1) cs) (list_of (trees_in k (drop (i + 1) es))) (list_of
          (trees_in k (drop (i + 1) fs)))) h)

      pub cited_on : is_cited (field_of k) lines before c (tree_in k x) (tree_in k y) ≡ true → Left (i + 1)
      cited_on h =
          cited_next ∙ ap (λ b. b && are_cited (field_of k) lines before (drop (i + 1) cs) (list_of (trees_in k (drop (i + 1) es))) (list_of (trees_in k
          (drop (i + 1) fs)))) h

    pub cited_end : (i : ℕ) → length cs ≤ i → length es ≤ i → length fs ≤ i → Left i →
        true ≡ are_cited (field_of k) lines before cs (list_of (trees_in k es)) (list_of (trees_in k fs))
    cited_end i j l m left =
        sym (left ∙ (λ t. are_cited (field_of k) lines before (drop_all i cs j t) (list_of (trees_in k (drop_all i es l t))) (list_of (trees_in k
        (drop_all i fs m t)))))

pub get_or_self : {A : Type 0} (xs : List A) (i : ℕ) (d : A) → i < length xs → get_or xs i d ≡ get_or xs i (get_or xs i d)
get_or_self [] i d l = absurd (omega (arith, l))
get_or_self (x ∷ xs) zero d l = refl
get_or_self (x ∷ xs) (suc i) d l = get_or_self xs i d (omega (arith, l))
