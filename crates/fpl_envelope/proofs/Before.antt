-- The number of a word with a letter in front, and whether the letter may stand there.
use Rattle.std.proofs.Common.{ℕ, zero, suc, ◌+◌, ◌-◌, ◌<◌, ◌≤◌, ◌≡◌, ◌∷◌, length, true, false, sym, ap, ◌∙◌, subst, arith}
use Rattle.std.specs.Prelude.{nat_le}
use native.Mathlib.Decide.{dec_le}
use Rattle.math_fields.specs.Field.{Field}
use Rattle.math_algebra.specs.Table.{weight_at}
use Rattle.math_words.specs.Words.{may_stand}
use Rattle.fpl_table.specs.Plain.{PlainTable, plain_basis}
use Rattle.fpl_table.specs.Shape.{HasShape}
use Rattle.plain_envelope.specs.Listing.{IsWeighted, begun}
use Rattle.plain_envelope.proofs.Listing.{begun_length, word_begun, head_next, stands_from, stops_below}
use Rattle.fpl_envelope.specs.Counts.{words_in, word_in, heads_in, skipped_in}
use Rattle.fpl_envelope.specs.Action.{field_in, math_in}
use Rattle.fpl_envelope.proofs.CountRows.{weighted, heads_up, heads_total}

pub record IsBefore (T : PlainTable) (i w k v r : ℕ) : Type 0 where
  pub within : k < length (words_in T w)
  pub word : word_in T w k ≡ (i ∷ word_in T v r)

module _ (T : PlainTable) (shape : HasShape T) where
  abbrev K : Field
  K = field_in T

  abbrev W : IsWeighted (math_in T)
  W = weighted T shape

  placed : (i v r u : ℕ) → i < length T.basis → r < length (words_in T v) → skipped_in T v i ≤ r → suc u ≡ (plain_basis T i).weight + v →
      IsBefore T i (suc u) (heads_in T (suc u) i + (r - skipped_in T v i)) v r
  placed i v r u l m h e = subst (λ x. IsBefore T i (suc u) (heads_in T (suc u) i + (r - skipped_in T x i)) x r) left at_left
    where
      left : suc u - (plain_basis T i).weight ≡ v
      left = omega arith

      x : ℕ
      x = suc u - (plain_basis T i).weight

      light : weight_at (math_in T) i ≤ suc u
      light = let q : suc u ≡ (plain_basis T i).weight + v = e in omega arith

      in_left : r < length (words_in T (suc u - (plain_basis T i).weight))
      in_left = subst (λ x. r < length (words_in T x)) (sym left) m

      from_left : skipped_in T (suc u - (plain_basis T i).weight) i ≤ r
      from_left = subst (λ x. skipped_in T x i ≤ r) (sym left) h

      fits : r - skipped_in T (suc u - (plain_basis T i).weight) i < length (begun (math_in T) (suc u) i)
      fits = let q : length (begun (math_in T) (suc u) i) + skipped_in T (suc u - (plain_basis T i).weight) i
          ≡ length (words_in T (suc u - (plain_basis T i).weight)) = begun_length K (math_in T) W (suc u) i l light in omega (arith, q, in_left, from_left)

      at_left : IsBefore T i (suc u) (heads_in T (suc u) i + (r - skipped_in T (suc u - (plain_basis T i).weight) i)) (suc u - (plain_basis T i).weight) r
      at_left = record {
        within =
            let next : heads_in T (suc u) (suc i) ≡ heads_in T (suc u) i + length (begun (math_in T) (suc u) i) = head_next K (math_in T) W (suc u) i in
            let up : heads_in T (suc u) (suc i) ≤ heads_in T (suc u) (length T.basis) = heads_up T shape (suc u) (suc i) (length T.basis) (omega arith) in
            let all : heads_in T (suc u) (length T.basis) ≡ length (words_in T (suc u)) = heads_total T shape (suc u) (omega arith) in
            omega (arith, next, up, all, fits);
        word =
            word_begun K (math_in T) W u i (r - skipped_in T (suc u - (plain_basis T i).weight) i) l light fits
            ∙ ap (λ k. i ∷ word_in T (suc u - (plain_basis T i).weight) k)
            (let q : skipped_in T (suc u - (plain_basis T i).weight) i + (r - skipped_in T (suc u - (plain_basis T i).weight) i) ≡ r =
            omega (arith, from_left) in q);
      }

  pub before_is : (i v r w h s : ℕ) → i < length T.basis → r < length (words_in T v) → skipped_in T v i ≤ r → w ≡ (plain_basis T i).weight + v →
      h ≡ heads_in T w i → s ≡ skipped_in T v i → IsBefore T i w (h + (r - s)) v r
  before_is i v r zero h s l m k e d q = absurd (let some : 1 ≤ (plain_basis T i).weight = shape.heavy i l in omega (arith, some, e))
  before_is i v r (suc u) h s l m k e d q =
      subst (λ h. IsBefore T i (suc u) (h + (r - s)) v r) (sym d)
      (subst (λ s. IsBefore T i (suc u) (heads_in T (suc u) i + (r - s)) v r) (sym q) (placed i v r u l m k e))

  pub stands_is : (i v k : ℕ) → i < length T.basis → k < length (words_in T v) → nat_le (skipped_in T v i) k ≡ may_stand (math_in T) i (word_in T v k)
  stands_is i v k l m = by_order (dec_le (skipped_in T v i) k)
    where
      above : (a b : ℕ) → a ≤ b → nat_le a b ≡ true
      above a b h = grind arith

      below : (a b : ℕ) → (a ≤ b → ⊥) → nat_le a b ≡ false
      below a b h = grind arith

      by_order : Dec (skipped_in T v i ≤ k) → nat_le (skipped_in T v i) k ≡ may_stand (math_in T) i (word_in T v k)
      by_order (yes d) = above _ _ d ∙ sym (stands_from K (math_in T) W v i k l m d)
      by_order (no d) = below _ _ d ∙ sym (stops_below K (math_in T) W v i k l m (omega arith))

  -- where the letter may not stand, and where it may
  pub not_stands : (i v k : ℕ) → i < length T.basis → k < length (words_in T v) → k < skipped_in T v i → may_stand (math_in T) i (word_in T v k) ≡ false
  not_stands i v k l m h = stops_below K (math_in T) W v i k l m h

  pub stands_at : (i v k : ℕ) → i < length T.basis → k < length (words_in T v) → skipped_in T v i ≤ k → may_stand (math_in T) i (word_in T v k) ≡ true
  stands_at i v k l m h = stands_from K (math_in T) W v i k l m h

  -- the converse
  pub stands_after : (i v k : ℕ) → i < length T.basis → k < length (words_in T v) → may_stand (math_in T) i (word_in T v k) ≡ true → skipped_in T v i ≤ k
  stands_after i v k l m e = by_order (dec_le (skipped_in T v i) k)
    where
      true_false : true ≡ false → ⊥
      true_false e = cc

      by_order : Dec (skipped_in T v i ≤ k) → skipped_in T v i ≤ k
      by_order (yes d) = d
      by_order (no d) = absurd (true_false (sym e ∙ not_stands i v k l m (omega arith)))

  pub stops_before : (i v k : ℕ) → i < length T.basis → k < length (words_in T v) → may_stand (math_in T) i (word_in T v k) ≡ false → k < skipped_in T v i
  stops_before i v k l m e = by_order (dec_le (skipped_in T v i) k)
    where
      false_true : false ≡ true → ⊥
      false_true e = cc

      by_order : Dec (skipped_in T v i ≤ k) → k < skipped_in T v i
      by_order (yes d) = absurd (false_true (sym e ∙ stands_at i v k l m d))
      by_order (no d) = omega arith
