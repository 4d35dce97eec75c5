-- The numbers of an expression are those of its matrix.
use Rattle.std.specs.Prelude.{ℕ, ◌≡◌, ◌<◌, ◌≤◌, ◌+◌, ◌-◌, ◌*◌, ◌%◌, List, [], length, get_or, All}
use mathlib.Core.Path.{sym, refl, ap, ap₂, ◌∙◌, subst}
use native.Mathlib.Omega.{arith}
use native.Mathlib.Decide.{dec_lt}
use Rattle.std.proofs.lemmas.List.{length-replicate, get_or-replicate, length-map}
use Rattle.math_fields.specs.Field.{Field}
use Rattle.math_linear.proofs.Numbers.{times-nought, unit-times}
use Rattle.math_algebra.specs.Tree.{Tree, Trees, gen, none, sum_of, multiple, bracket_of, end, more}
use Rattle.math_matrices.specs.Matrices.{Matrix, mzero, mplus, mscale, mbracket, matrix_of, matrices_of}
use Rattle.math_matrices.proofs.Products.{matrix_ext, mplus_assoc, mplus_comm, mplus-mzero}
use Rattle.fpl_lanes.specs.Lanes.{added, multiplied}
use Rattle.fpl_numbers.specs.declared.number.Num.{Num}
use Rattle.fpl_numbers.specs.declared.number.Kind.TheVariants.{Prime}
use Rattle.fpl_numbers.specs.Numbers.{IsListed, residue, residue_of}
use Rattle.fpl_numbers.specs.Kinds.{field_of, number_of}
use Rattle.fpl_scalar.proofs.ResidueRows.{added_below, multiplied_below}
use Rattle.fpl_model.specs.Meaning.{in_field, all_in_field}
use Rattle.fpl_model.specs.Sound.{IsTerm, AreTerms}
use Rattle.plain_matrices.specs.Plain.{IsSquare, zeros, numbers_of, numbers_from}
use Rattle.plain_matrices.specs.Means.{matrix_by, matrix_in, image_in}
use Rattle.plain_matrices.proofs.Residues.{ReadsResidues, reads_prime}
use Rattle.plain_matrices.proofs.Entries.{length_added, get_added, get_multiplied, all_below}
use Rattle.plain_matrices.proofs.BracketNumbers.{within, below_rows, past_columns, place_below, number_below, bracket_good, bracket_means}

module _ (p : ℕ) (K : Field) (value : ℕ → K.Carrier) (reads : ReadsResidues p K value) (n : ℕ) where
  positive : 0 < p
  positive = let h = reads.past_one in omega arith

  abbrev X : List ℕ → Matrix K
  X xs = matrix_by K value n xs

  -- two matrices that agree inside are one
  inside_same : (xs : List ℕ) (y : Matrix K) → ((r c : ℕ) → r < n → c < n → value (get_or xs (r * n + c) 0) ≡ y r c) → ((r c : ℕ) → n ≤ r → y r c ≡ K.nought) →
      ((r c : ℕ) → n ≤ c → y r c ≡ K.nought) → X xs ≡ y
  inside_same xs y h k m = matrix_ext K _ _ (λ r c. go r c (dec_lt r n) (dec_lt c n))
    where
      go : (r c : ℕ) → Dec (r < n) → Dec (c < n) → X xs r c ≡ y r c
      go r c (yes a) (yes b) = within p K value reads n xs r c a b ∙ h r c a b
      go r c (yes a) (no b) = past_columns p K value reads n xs r c (omega arith) ∙ sym (m r c (omega arith))
      go r c (no a) d = below_rows p K value reads n xs r c (omega arith) ∙ sym (k r c (omega arith))

  pub zeros_good : IsSquare p n (zeros n)
  zeros_good = record {
    places = length-replicate {A = ℕ} (n * n) 0;
    below = all_below p (zeros n) (λ i l. subst (λ w. w < p) (sym (get_or-replicate (n * n) i 0 0
        (omega (arith, length-replicate {A = ℕ} (n * n) 0)))) positive);
  }

  pub zeros_mean : X (zeros n) ≡ mzero K
  unfolding mzero
  zeros_mean = inside_same (zeros n) (λ r c. K.nought)
      (λ r c a b. ap value (get_or-replicate (n * n) (r * n + c) 0 0 (place_below p K value reads n r c a b)) ∙ reads.zero_is) (λ r c l. refl) (λ r c l. refl)

  pub added_good : (xs ys : List ℕ) → IsSquare p n xs → IsSquare p n (added p xs 1 ys)
  added_good xs ys good = record { places = length_added p xs 1 ys ∙ good.places; below = added_below p xs 1 ys positive good.below }

  pub added_means : (xs ys : List ℕ) → IsSquare p n xs → IsSquare p n ys → X (added p xs 1 ys) ≡ mplus K (X xs) (X ys)
  unfolding mplus
  added_means xs ys good also = inside_same (added p xs 1 ys) (λ r c. K.plus (X xs r c) (X ys r c))
      (λ r c a b.
      ap value (get_added p xs 1 ys (r * n + c) (also.places ∙ sym good.places)
      (let l = place_below p K value reads n r c a b in let e = good.places in omega arith))
      ∙ reads.fused _ 1 _ (number_below p K value reads n xs good r c a b) reads.past_one (number_below p K value reads n ys also r c a b)
      ∙ ap₂ K.plus (sym (within p K value reads n xs r c a b))
      (ap (λ w. K.times w (value (get_or ys (r * n + c) 0))) reads.one_is ∙ unit-times K _ ∙ sym (within p K value reads n ys r c a b)))
      (λ r c l. ap₂ K.plus (below_rows p K value reads n xs r c l) (below_rows p K value reads n ys r c l) ∙ K.plus-nought K.nought)
      (λ r c l. ap₂ K.plus (past_columns p K value reads n xs r c l) (past_columns p K value reads n ys r c l) ∙ K.plus-nought K.nought)

  pub multiplied_good : (a : ℕ) (xs : List ℕ) → IsSquare p n xs → IsSquare p n (multiplied p a xs)
  multiplied_good a xs good = record { places = length-map xs (λ x. a * x % p) ∙ good.places; below = multiplied_below p a xs positive }

  pub multiplied_means : (a : ℕ) (xs : List ℕ) → a < p → IsSquare p n xs → X (multiplied p a xs) ≡ mscale K (value a) (X xs)
  unfolding mscale
  multiplied_means a xs l good = inside_same (multiplied p a xs) (λ r c. K.times (value a) (X xs r c))
      (λ r c h k.
      ap value (get_multiplied p a xs (r * n + c) (let l = place_below p K value reads n r c h k in let e = good.places in omega arith))
      ∙ reads.product a _ l (number_below p K value reads n xs good r c h k)
      ∙ ap (K.times (value a)) (sym (within p K value reads n xs r c h k)))
      (λ r c l. ap (K.times (value a)) (below_rows p K value reads n xs r c l) ∙ times-nought K _)
      (λ r c l. ap (K.times (value a)) (past_columns p K value reads n xs r c l) ∙ times-nought K _)

-- ---- expressions, over a prime
module _ (p m n : ℕ) (listed : IsListed p) (images : List (List ℕ)) (good : All (IsSquare p n) images) where
  abbrev K : Field
  K = field_of (Prime p)

  abbrev V : ℕ → K.Carrier
  V a = number_of (Prime p) (residue a)

  abbrev R : ReadsResidues p (field_of (Prime p)) (λ a. number_of (Prime p) (residue a))
  R = reads_prime p listed

  abbrev N : List ℕ → Matrix (field_of (Prime p))
  N xs = matrix_in (Prime p) n xs

  abbrev I : ℕ → Matrix (field_of (Prime p))
  I = image_in (Prime p) n images

  pub record Means (xs : List ℕ) (y : Matrix (field_of (Prime p))) : Type 0 where
    pub square : IsSquare p n xs
    pub same : matrix_in (Prime p) n xs ≡ y

  mutual
    unfolding matrix_of

    pub tree_means : (t : Tree Num) → IsTerm (Prime p) (length images) t →
        Means (numbers_of p m n images t) (matrix_of (field_of (Prime p)) m n I (in_field (Prime p) t))
    tree_means (gen g) h = record { square = good (g - 1) [] (omega (arith, h.0, h.1)); same = refl }
    tree_means none h = record { square = zeros_good p K V R n; same = zeros_mean p K V R n }
    tree_means (sum_of es) h =
        let r = trees_mean es (zeros n) h (zeros_good p K V R n) in
        record {
          square = r.square;
          same = r.same ∙ ap (λ w. mplus K w (matrices_of K m n I (all_in_field (Prime p) es))) (zeros_mean p K V R n) ∙
              mplus_comm K _ _ ∙ mplus-mzero K _;
        }
    tree_means (multiple c e) h =
        let r = tree_means e h.1 in
        record {
          square = multiplied_good p K V R n (residue_of c) _ r.square;
          same = multiplied_means p K V R n (residue_of c) _ h.0.0.0 r.square ∙ ap₂ (mscale K) (ap (number_of (Prime p)) (sym h.0.0.1)) r.same;
        }
    tree_means (bracket_of e f) h =
        let r = tree_means e h.0 in
        let s = tree_means f h.1 in
        record {
          square = bracket_good p K V R n m _ _ r.square s.square;
          same = bracket_means p K V R n m _ _ r.square s.square ∙ ap₂ (mbracket K m n) r.same s.same;
        }

    trees_mean : (es : Trees Num) (out : List ℕ) → AreTerms (Prime p) (length images) es → IsSquare p n out →
        Means (numbers_from p m n images es out) (mplus (field_of (Prime p)) (N out) (matrices_of (field_of (Prime p)) m n I (all_in_field (Prime p) es)))
    trees_mean end out h g = record { square = g; same = sym (mplus-mzero K _) }
    trees_mean (more e es) out h g =
        let r = tree_means e h.0 in
        let s = trees_mean es (added p out 1 (numbers_of p m n images e)) h.1 (added_good p K V R n out _ g) in
        record {
          square = s.square;
          same =
              s.same
              ∙ ap (λ w. mplus K w (matrices_of K m n I (all_in_field (Prime p) es))) (added_means p K V R n out _ g r.square ∙ ap (mplus K (N out)) r.same)
              ∙ mplus_assoc K _ _ _;
        }
