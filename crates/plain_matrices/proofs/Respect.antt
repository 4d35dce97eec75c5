-- The laws of the plain run over any kind with a prime, and that the relations hold for numbers exactly where they hold for matrices.
use Rattle.std.specs.Prelude.{ℕ, zero, suc, ◌≡◌, ◌⊎◌, ◌<◌, ◌+◌, ◌*◌, ◌/◌, ◌%◌, List, [], ◌∷◌, length, get_or, map}
use mathlib.Core.Path.{sym, refl, ap, ap₂, ◌∙◌, subst}
use mathlib.Core.Logic.{inl, inr}
use native.Mathlib.Omega.{arith}
use native.Mathlib.Nat.{mod-lt}
use native.Mathlib.Decide.{dec_lt}
use Rattle.std.proofs.Math.Nat.{mod-add-div', div-lt_iff_lt-mul}
use Rattle.std.proofs.lemmas.List.{ext_get_or, length-map}
use Rattle.math_algebra.specs.Tree.{Tree, none, Parity, generator}
use Rattle.math_matrices.specs.Matrices.{block, HasBlock, mbracket, matrix_of, Respects}
use Rattle.math_matrices.proofs.Main.{matrices_respect}
use Rattle.fpl_numbers.specs.declared.number.Num.{Num}
use Rattle.fpl_numbers.specs.declared.number.Kind.{Kind}
use Rattle.fpl_numbers.specs.declared.number.Kind.TheVariants.{Prime}
use Rattle.fpl_numbers.specs.Numbers.{IsListed, residue}
use Rattle.fpl_numbers.specs.Kinds.{field_of, number_of}
use Rattle.fpl_model.specs.declared.presentation.Presentation.{Presentation}
use Rattle.fpl_model.specs.declared.presentation.Equation.{Equation}
use Rattle.fpl_model.specs.Meaning.{plain, in_field, equation_in, presentation_in, generator_in}
use Rattle.fpl_model.specs.Sound.{IsTerm, IsSound, IsSoundEquation}
use Rattle.fpl_model.proofs.Terms.{term_within}
use Rattle.plain_matrices.specs.Plain.{IsSquare, bracket_numbers, numbers_of, IsRespected}
use Rattle.plain_matrices.specs.Means.{matrix_in, image_in, BracketMeans, NumbersMean, MatricesAreOne}
use Rattle.plain_matrices.specs.Relations.{AreMatricesOf, AreRespected, RespectMeans, RespectedHolds}
use Rattle.plain_matrices.proofs.Residues.{ReadsResidues, reads_prime}
use Rattle.plain_matrices.proofs.Entries.{place_row, place_column}
use Rattle.plain_matrices.proofs.BracketNumbers.{within, below_rows, past_columns, place_below, number_below, bracket_good, bracket_means}
use Rattle.plain_matrices.proofs.Expressions.{tree_means}

pub brackets_mean : BracketMeans
brackets_mean k p m n e listed xs ys g h = subst Law (sym e) law
  where
    Law : Kind → Type 0
    Law k = IsSquare p n (bracket_numbers p m n xs ys) × (matrix_in k n (bracket_numbers p m n xs ys) ≡ mbracket (field_of k) m n (matrix_in k n xs)
        (matrix_in k n ys))

    law : Law (Prime p)
    law = (
      bracket_good p (field_of (Prime p)) (λ a. number_of (Prime p) (residue a)) (reads_prime p listed) n m xs ys g h,
      bracket_means p (field_of (Prime p)) (λ a. number_of (Prime p) (residue a)) (reads_prime p listed) n m xs ys g h,
    )

pub numbers_mean : NumbersMean
numbers_mean k p m n e listed images good t h = subst Law (sym e) law h
  where
    Law : Kind → Type 0
    Law k =
        IsTerm k (length images) t → IsSquare p n (numbers_of p m n images t)
        × (matrix_in k n (numbers_of p m n images t) ≡ matrix_of (field_of k) m n (image_in k n images) (in_field k t))

    law : Law (Prime p)
    law i = let r = tree_means p m n listed images good t i in (r.square, r.same)

-- a place by its row and column
pub place_at : (n s : ℕ) → s < n * n → (s / n < n) × (s % n < n) × (s / n * n + s % n ≡ s)
place_at n s l =
    let some : 0 < n = positive n l in
    ((div-lt_iff_lt-mul some).1 l, mod-lt s some, let e = mod-add-div' s n in omega arith)
  where
    positive : (n : ℕ) → s < n * n → 0 < n
    positive zero l = absurd (omega arith)
    positive (suc n) l = omega arith

pub matrices_are_one : MatricesAreOne
matrices_are_one k p n e listed xs ys g h = subst Law (sym e) law
  where
    Law : Kind → Type 0
    Law k = matrix_in k n xs ≡ matrix_in k n ys → xs ≡ ys

    value : ℕ → (field_of (Prime p)).Carrier
    value a = number_of (Prime p) (residue a)

    reads : ReadsResidues p (field_of (Prime p)) (λ a. number_of (Prime p) (residue a))
    reads = reads_prime p listed

    law : Law (Prime p)
    law same = ext_get_or 0 xs ys (g.places ∙ sym h.places) (λ s l. at s (let f = g.places in omega arith))
      where
        at : (s : ℕ) → s < n * n → get_or xs s 0 ≡ get_or ys s 0
        at s l =
            let q = place_at n s l in
            let r : get_or xs (s / n * n + s % n) 0 ≡ get_or ys (s / n * n + s % n) 0 =
            reads.apart _ _ (number_below p (field_of (Prime p)) value reads n xs g (s / n) (s % n) q.0 q.1)
            (number_below p (field_of (Prime p)) value reads n ys h (s / n) (s % n) q.0 q.1)
            (sym (within p (field_of (Prime p)) value reads n xs (s / n) (s % n) q.0 q.1) ∙ ap (λ x. x (s / n) (s % n)) same
            ∙ within p (field_of (Prime p)) value reads n ys (s / n) (s % n) q.0 q.1) in
            subst (λ t. get_or xs t 0 ≡ get_or ys t 0) q.2 r

-- ---- relations
-- what stands at a place of a list, and of the list of its images
record Stands {A B : Type 0} (f : A → B) (xs : List A) (i : ℕ) : Type 0 where
  what : A
  there : (d : A) → get_or xs i d ≡ what
  image : (d : B) → get_or (map f xs) i d ≡ f what

stands : {A B : Type 0} (f : A → B) (xs : List A) (i : ℕ) → i < length xs → Stands f xs i
stands f [] i l = absurd (omega arith)
stands f (x ∷ xs) zero l = record { what = x; there = λ d. refl; image = λ d. refl }
stands f (x ∷ xs) (suc i) l = let r = stands f xs i (omega arith) in record { what = r.what; there = r.there; image = r.image }

module _ (p : Presentation) (q m n : ℕ) (images : List (List ℕ)) (sound : IsSound p) (of : AreMatricesOf p q m n images) where
  abbrev Q : Equation → Type 0
  Q e = IsRespected q m n images (plain e.left) (plain e.right)

  term : (t : Tree Num) → IsTerm p.field (length p.generators) t → IsTerm p.field (length images) t
  term t h = subst (λ c. IsTerm p.field c t) (sym of.count) h

  tree_same : (t : Tree Num) → IsTerm p.field (length p.generators) t → IsSquare q n (numbers_of q m n images t)
      × (matrix_in p.field n (numbers_of q m n images t) ≡ matrix_of (field_of p.field) m n (image_in p.field n images) (in_field p.field t))
  tree_same t h = numbers_mean p.field q m n of.field of.listed images of.squares t (term t h)

  to : AreRespected q m n images p → Respects (field_of p.field) (presentation_in p) m n (image_in p.field n images)
  to all k l =
      let i : k < length p.relations = omega (arith, length-map p.relations (equation_in p.field)) in
      let r = stands (equation_in p.field) p.relations k i in
      let s = subst (IsSoundEquation p) (r.there r.what) (sound.relations k r.what i) in
      let same : Q r.what = subst Q (r.there r.what) (all k r.what i) in
      let a = tree_same (plain r.what.left) (term_within p.field (length p.generators) (plain r.what.left) s.0.0) in
      let b = tree_same (plain r.what.right) (term_within p.field (length p.generators) (plain r.what.right) s.1.0) in
      ap (λ e. matrix_of (field_of p.field) m n (image_in p.field n images) e.0) (r.image (none, none))
      ∙ sym a.1 ∙ ap (matrix_in p.field n) same ∙ b.1
      ∙ sym (ap (λ e. matrix_of (field_of p.field) m n (image_in p.field n images) e.1) (r.image (none, none)))

  back : Respects (field_of p.field) (presentation_in p) m n (image_in p.field n images) → AreRespected q m n images p
  back holds k d i =
      let r = stands (equation_in p.field) p.relations k i in
      let s = subst (IsSoundEquation p) (r.there r.what) (sound.relations k r.what i) in
      let a = tree_same (plain r.what.left) (term_within p.field (length p.generators) (plain r.what.left) s.0.0) in
      let b = tree_same (plain r.what.right) (term_within p.field (length p.generators) (plain r.what.right) s.1.0) in
      subst Q (sym (r.there d))
      (matrices_are_one p.field q n of.field of.listed _ _ a.0 b.0
      (a.1 ∙ sym (ap (λ e. matrix_of (field_of p.field) m n (image_in p.field n images) e.0) (r.image (none, none)))
      ∙ holds k (omega (arith, length-map p.relations (equation_in p.field)))
      ∙ ap (λ e. matrix_of (field_of p.field) m n (image_in p.field n images) e.1) (r.image (none, none)) ∙ sym b.1))

pub respect_means : RespectMeans
respect_means p q m n images sound of = (to p q m n images sound of, back p q m n images sound of)

-- a matrix whose numbers stand in the blocks of a parity
module _ (k : Kind) (q m n : ℕ) (kind : k ≡ Prime q) (listed : IsListed q) where
  pub reads_kind : ReadsResidues q (field_of k) (λ a. number_of k (residue a))
  reads_kind = subst (λ k. ReadsResidues q (field_of k) (λ a. number_of k (residue a))) (sym kind) (reads_prime q listed)

  pub has_block : (xs : List ℕ) (t : Parity) → IsSquare q n xs → ((s : ℕ) → s < n * n → (get_or xs s 0 ≡ 0) ⊎ (block m (s / n) (s % n) ≡ t)) →
      HasBlock (field_of k) m t (matrix_in k n xs)
  has_block xs t g h r c = go (dec_lt r n) (dec_lt c n)
    where
      inside : r < n → c < n → (get_or xs (r * n + c) 0 ≡ 0) ⊎ (block m ((r * n + c) / n) ((r * n + c) % n) ≡ t) →
          (matrix_in k n xs r c ≡ (field_of k).nought) ⊎ (block m r c ≡ t)
      inside l j (inl e) =
          inl (within q (field_of k) (λ a. number_of k (residue a)) reads_kind n xs r c l j ∙ ap (λ a. number_of k (residue a)) e ∙ reads_kind.zero_is)
      inside l j (inr e) = inr (sym (ap₂ (block m) (place_row n r c j) (place_column n r c j)) ∙ e)

      go : Dec (r < n) → Dec (c < n) → (matrix_in k n xs r c ≡ (field_of k).nought) ⊎ (block m r c ≡ t)
      go (yes l) (yes j) = inside l j (h (r * n + c) (place_below q (field_of k) (λ a. number_of k (residue a)) reads_kind n r c l j))
      go (yes l) (no j) = inl (past_columns q (field_of k) (λ a. number_of k (residue a)) reads_kind n xs r c (omega arith))
      go (no l) d = inl (below_rows q (field_of k) (λ a. number_of k (residue a)) reads_kind n xs r c (omega arith))

-- what is derivable holds for the numbers
module _ (p : Presentation) (q m n : ℕ) (images : List (List ℕ)) (of : AreMatricesOf p q m n images) where
  pub image_graded : (g : ℕ) → g < length (presentation_in p).generators →
      HasBlock (field_of p.field) m (generator (presentation_in p) g).parity (image_in p.field n images g)
  image_graded g l =
      let k : g < length p.generators = omega (arith, length-map p.generators generator_in) in
      has_block p.field q m n of.field of.listed (get_or images g []) (generator (presentation_in p) g).parity
      (of.squares g [] (let e = of.count in omega arith)) (λ s j. of.parities g s k j)

pub respected_holds : RespectedHolds
respected_holds p q m n images sound of respected t u is_t is_u d =
    let a = tree_same p q m n images sound of t is_t in
    let b = tree_same p q m n images sound of u is_u in
    matrices_are_one p.field q n of.field of.listed _ _ a.0 b.0
    (a.1
    ∙ matrices_respect (field_of p.field) (presentation_in p) m n (image_in p.field n images) (image_graded p q m n images of)
    ((respect_means p q m n images sound of).0 respected) (in_field p.field t) (in_field p.field u) d
    ∙ sym b.1)
