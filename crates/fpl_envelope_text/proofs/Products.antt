-- The lines of products, weight by weight and element by element.
use Rattle.std.proofs.Common.{ℕ, zero, suc, ◌+◌, ◌-◌, ◌<◌, ◌≤◌, ◌≡◌, List, [], ◌∷◌, ◌++◌, length, get_or, map, drop, refl, sym, ap, ◌∙◌, subst, arith, append_assoc, drop-cons, drop_of_length-le}
use Rattle.std.proofs.lemmas.List.{length-map, get_or-map, append-nil}
use native.Mathlib.Decide.{dec_lt}
use Rattle.math_linear.specs.Lists.{joined}
use Rattle.plain_envelope.specs.Products.{Product, acted_product, products_at, products_of, products_through}
use Rattle.plain_envelope.specs.ProductLaws.{no_product}
use Rattle.plain_envelope.proofs.Lists.{joined_more, joined_length}
use Rattle.plain_envelope.proofs.Products.{products_length, products_heavy, product_here}
use Rattle.fpl_table.specs.Plain.{PlainTable, plain_basis, through}
use Rattle.fpl_table.specs.Shape.{HasShape}
use Rattle.fpl_table.proofs.Weights.{through_within, through_above}
use Rattle.fpl_envelope.specs.Counts.{word_in, skipped_in}
use Rattle.fpl_envelope.specs.Action.{field_in, math_in}
use Rattle.fpl_envelope.proofs.CountRows.{weighted}
use Rattle.fpl_envelope_text.specs.Texts.{Line, product_line, product_lines}
use Rattle.fpl_envelope_text.specs.Plain.{written, lines_at, lines_of, lines_through}
use Rattle.fpl_envelope_text.proofs.Names.{map_joined}

abbrev pub no_line : Line
no_line = record { first = 0; word = []; form = [] }

module _ (T : PlainTable) (shape : HasShape T) where
  pub count_here : (w i : ℕ) → i < length T.basis → (plain_basis T i).weight ≤ w →
      length (products_at (field_in T) (math_in T) w i) ≡ skipped_in T (w - (plain_basis T i).weight) i
  count_here w i l m = products_length (field_in T) (math_in T) (weighted T shape) w i l m

  -- heavier elements have none
  pub by_elements : (w : ℕ) → joined (through T w) (products_at (field_in T) (math_in T) w) ≡ products_of (field_in T) (math_in T) w
  unfolding products_of
  by_elements w =
      let within : through T w ≤ length T.basis = through_within T shape w in
      sym (ap (λ n. joined n (products_at (field_in T) (math_in T) w)) (let e : length T.basis ≡ through T w + (length T.basis - through T w) = omega arith in e)
      ∙ stays (length T.basis - through T w) (omega arith))
    where
      heavy : (i : ℕ) → through T w ≤ i → i < length T.basis → products_at (field_in T) (math_in T) w i ≡ []
      heavy i l m = products_heavy (field_in T) (math_in T) (weighted T shape) w i (weight (dec_lt w (plain_basis T i).weight))
        where
          weight : Dec (w < (plain_basis T i).weight) → w < (plain_basis T i).weight
          weight (yes d) = d
          weight (no d) = absurd (let h : i < through T w = through_above T shape w i m (omega arith) in omega arith)

      stays : (k : ℕ) → through T w + k ≤ length T.basis → joined (through T w + k) (products_at (field_in T) (math_in T) w)
          ≡ joined (through T w) (products_at (field_in T) (math_in T) w)
      stays zero l = ap (λ n. joined n (products_at (field_in T) (math_in T) w)) (let e : through T w + 0 ≡ through T w = omega arith in e)
      stays (suc k) l =
          ap (λ n. joined n (products_at (field_in T) (math_in T) w)) (let e : through T w + suc k ≡ suc (through T w + k) = omega arith in e)
          ∙ joined_more (through T w + k) (products_at (field_in T) (math_in T) w)
          ∙ ap (λ xs. joined (through T w + k) (products_at (field_in T) (math_in T) w) ++ xs) (heavy (through T w + k) (omega arith) (omega arith))
          ∙ append-nil (joined (through T w + k) (products_at (field_in T) (math_in T) w)) ∙ stays k (omega arith)

  pub lines_by_elements : (w : ℕ) → joined (through T w) (lines_at T w) ≡ lines_of T w
  lines_by_elements w =
      sym (map_joined (written T.kind) (through T w) (products_at (field_in T) (math_in T) w)) ∙ ap (map (written T.kind)) (by_elements w)

  -- one element's products more
  pub count_step : (w i count skips : ℕ) → i < length T.basis → (plain_basis T i).weight ≤ w →
      count ≡ length (joined i (products_at (field_in T) (math_in T) w)) → skips ≡ skipped_in T (w - (plain_basis T i).weight) i →
      count + skips ≡ length (joined (i + 1) (products_at (field_in T) (math_in T) w))
  count_step w i count skips l m e s =
      let here = count_here w i l m in
      let more : length (joined (suc i) (products_at (field_in T) (math_in T) w))
      ≡ length (joined i (products_at (field_in T) (math_in T) w)) + length (products_at (field_in T) (math_in T) w i) =
      joined_length i (products_at (field_in T) (math_in T) w) in
      let next : length (joined (suc i) (products_at (field_in T) (math_in T) w)) ≡ length (joined (i + 1) (products_at (field_in T) (math_in T) w)) =
      ap (λ n. length (joined n (products_at (field_in T) (math_in T) w))) (let q : suc i ≡ i + 1 = omega arith in q) in
      omega (arith, here, more, next, e, s)

  pub count_end : (w count : ℕ) → count ≡ length (joined (through T w) (products_at (field_in T) (math_in T) w)) → count ≡ length (lines_of T w)
  count_end w count e = e ∙ ap length (by_elements w) ∙ sym (length-map (products_of (field_in T) (math_in T) w) (written T.kind))

  line_here : (w i k : ℕ) → i < length T.basis → (plain_basis T i).weight ≤ w → k < skipped_in T (w - (plain_basis T i).weight) i →
      get_or (lines_at T w i) k no_line
      ≡ written T.kind (acted_product (field_in T) (math_in T) w i (word_in T (w - (plain_basis T i).weight) k))
  line_here w i k l m n =
      get_or-map (written T.kind) (products_at (field_in T) (math_in T) w i) k (no_product (field_in T)) no_line
      (let e = count_here w i l m in omega (arith, e, n))
      ∙ ap (written T.kind) (product_here (field_in T) (math_in T) (weighted T shape) w i k l m n)

  -- one product's line more
  pub line_step : (start out next line : List ℕ) (w i k : ℕ) → i < length T.basis → (plain_basis T i).weight ≤ w →
      k < skipped_in T (w - (plain_basis T i).weight) i →
      line ≡ product_line (written T.kind (acted_product (field_in T) (math_in T) w i (word_in T (w - (plain_basis T i).weight) k))) →
      next ≡ out ++ line → out ++ product_lines (drop k (lines_at T w i)) ≡ start → next ++ product_lines (drop (k + 1) (lines_at T w i)) ≡ start
  line_step start out next line w i k l m n is more so_far =
      ap (λ o. o ++ product_lines (drop (k + 1) (lines_at T w i))) (more ∙ ap (λ t. out ++ t) (is ∙ ap product_line (sym (line_here w i k l m n))))
      ∙ append_assoc out (product_line (get_or (lines_at T w i) k no_line)) (product_lines (drop (k + 1) (lines_at T w i)))
      ∙ ap (λ j. out ++ (product_line (get_or (lines_at T w i) k no_line) ++ product_lines (drop j (lines_at T w i))))
      (let q : k + 1 ≡ suc k = omega arith in q)
      ∙ ap (λ ms. out ++ product_lines ms) (sym (drop-cons (lines_at T w i) k no_line
      (let e = count_here w i l m in let f = length-map (products_at (field_in T) (math_in T) w i) (written T.kind) in omega (arith, e, f, n))))
      ∙ so_far

  pub line_end : (start out : List ℕ) (w i k : ℕ) → i < length T.basis → (plain_basis T i).weight ≤ w →
      skipped_in T (w - (plain_basis T i).weight) i ≤ k → out ++ product_lines (drop k (lines_at T w i)) ≡ start → out ≡ start
  line_end start out w i k l m n so_far =
      sym (append-nil out)
      ∙ ap (λ ms. out ++ product_lines ms) (sym (drop_of_length-le (lines_at T w i)
      (let e = count_here w i l m in let f = length-map (products_at (field_in T) (math_in T) w i) (written T.kind) in omega (arith, e, f, n))))
      ∙ so_far

pub through_is : (T : PlainTable) (d : ℕ) → joined (suc d) (lines_of T) ≡ lines_through T d
unfolding products_through
through_is T d = sym (map_joined (written T.kind) (suc d) (products_of (field_in T) (math_in T)))

pub count_all : (T : PlainTable) (d count : ℕ) → count ≡ length (joined (suc d) (lines_of T)) → count ≡ length (lines_through T d)
count_all T d count e = e ∙ ap length (through_is T d)

-- no list yet
pub none_joined : {A : Type 0} (f : ℕ → List A) → 0 ≡ length (joined 0 f)
unfolding joined
none_joined f = refl
