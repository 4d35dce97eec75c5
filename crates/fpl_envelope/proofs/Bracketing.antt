-- The bracket of two basis elements, as it is found: nothing, or the entry of a regular pair with a sign; and its terms.
use Rattle.std.proofs.Common.{ℕ, suc, ◌+◌, ◌<◌, ◌≤◌, ◌≡◌, List, length, get_or, false, refl, sym, ap, ◌∙◌, subst, inl, inr, arith}
use Rattle.std.specs.Prelude.{◌⊎◌}
use native.Mathlib.Decide.{dec_lt}
use Rattle.math_fields.specs.Field.{Field}
use Rattle.math_linear.specs.Vector.{Vector, vzero, scale}
use Rattle.math_linear.specs.Kernel.{product_sum}
use Rattle.math_linear.proofs.Numbers.{times-nought, minus-times, unit-times}
use Rattle.math_linear.proofs.Kernel.{product-scale, product-vzero}
use Rattle.fpl_numbers.specs.declared.number.Num.{Num}
use Rattle.fpl_numbers.specs.Numbers.{IsElement, is_nought, residue, negative_of}
use Rattle.fpl_numbers.specs.Kinds.{number_of}
use Rattle.fpl_numbers.proofs.KindReads.{kind_reads}
use Rattle.fpl_scalar.specs.Vectors.{AreElements}
use Rattle.fpl_rows.specs.Meaning.{vector_in}
use Rattle.math_algebra.specs.Tree.{odd}
use Rattle.math_algebra.specs.Table.{weight_at, product}
use Rattle.math_words.specs.Action.{Form, acts}
use Rattle.fpl_table.specs.Plain.{PlainTable, plain_basis, entry_row, through, Pairing, plus, itself, pairing}
use Rattle.fpl_table.specs.Shape.{HasShape}
use Rattle.fpl_table.proofs.Weights.{through_above}
use Rattle.plain_sources.proofs.Rows.{at_place}
use Rattle.plain_sources.proofs.Units.{kind_units}
use Rattle.plain_sources.proofs.Pairs.{paired, pairing_below, pairing_itself, pairing_is, IsPairOf, IsPaired}
use Rattle.plain_sources.proofs.Products.{product_within}
use Rattle.fpl_envelope.specs.Action.{IsEnveloped, field_in, math_in, number_in, multiple, acted, bracketed}
use Rattle.fpl_envelope.specs.Kept.{HasElement, IsLevelFrom}
use Rattle.fpl_envelope.proofs.Adding.{part}

module _ (T : PlainTable) (ready : IsEnveloped T) (shape : HasShape T) where
  abbrev K : Field
  K = field_in T

  abbrev weight : ℕ → ℕ
  weight i = (plain_basis T i).weight

  abbrev entry : ℕ → ℕ → Vector (field_in T)
  entry a b = vector_in T.kind (entry_row T a b)

  -- where the bracket of a pair is found
  pub found : (i j : ℕ) (at : Pairing) → at ≡ pairing T i j → weight i + weight j ≤ T.weight →
      product (field_in T) (math_in T) i j ≡ paired (field_in T) (λ a b. vector_in T.kind (entry_row T a b)) at
  found i j at e l = product_within T ready.residues.accepted i j l ∙ ap (paired K entry) (sym e)

  pub pair_at : (i j : ℕ) (at : Pairing) → at ≡ pairing T i j → i < length T.basis → j < length T.basis → IsPaired T i j at
  pair_at i j at e l m = subst (IsPaired T i j) (sym e) (pairing_is T i j l m)

  regular_product : (a b : ℕ) → ((a < b) ⊎ ((a ≡ b) × ((plain_basis T a).parity ≡ odd))) → weight a + weight b ≤ T.weight →
      product (field_in T) (math_in T) a b ≡ vector_in T.kind (entry_row T a b)
  regular_product a b (inl d) l = found a b (plus a b) (sym (pairing_below T a b d)) l
  regular_product a b (inr q) l = found a b (plus a b) (sym is) l
    where
      is : pairing T a b ≡ plus a b
      is = subst (λ b. pairing T a b ≡ plus a b) q.0 (pairing_itself T a ∙ ap (λ p. itself p a) q.1)

  -- the terms of an entry
  pub entry_term : (i j a b t : ℕ) → IsPairOf T i j a b → weight i + weight j ≤ T.weight → AreElements T.kind (entry_row T a b) → t < length (entry_row T a b) →
      is_nought (get_or (entry_row T a b) t (residue 0)) ≡ false → (t < length T.basis) × ((plain_basis T t).weight
      ≡ (plain_basis T i).weight + (plain_basis T j).weight)
  entry_term i j a b t p l h k z = by_term (ready.law.entry_of a b p.first p.second t)
    where
      light : weight a + weight b ≤ T.weight
      light = let q : weight a + weight b ≡ weight i + weight j = p.weights in omega arith

      by_term : (product K (math_in T) a b t ≡ K.nought) ⊎ ((t < length T.basis) × (weight_at (math_in T) t
          ≡ weight_at (math_in T) a + weight_at (math_in T) b)) →
          (t < length T.basis) × ((plain_basis T t).weight ≡ (plain_basis T i).weight + (plain_basis T j).weight)
      by_term (inl e) =
          absurd ((kind_reads T.kind ready.residues.accepted).nonzero (get_or (entry_row T a b) t (residue 0)) (h t (residue 0) k) z
          (sym (at_place T.kind K (number_of T.kind) (kind_reads T.kind ready.residues.accepted) (kind_units T.kind ready.residues.accepted)
          (entry_row T a b) t (residue 0) k)
          ∙ ap (λ v. v t) (sym (regular_product a b p.regular light)) ∙ e))
      by_term (inr q) = (q.0, q.1 ∙ p.weights)

  -- each has its rows in a level that goes down to the element after the first
  pub has_term : (w n i j v t : ℕ) (level : List (List (List Num))) → n ≡ suc i → IsLevelFrom T w n level → i < length T.basis → j < length T.basis →
      t < length T.basis → weight t ≡ weight i + weight j → weight i + weight j + v ≡ w → (weight t + v ≡ w) × HasElement T w t level
  has_term w n i j v t level next h l m k e s =
      let some : 1 ≤ weight j = shape.heavy j m in
      let later : i < t = by_order (dec_lt i t) in
      let inside : t < through T w = through_above T shape w t k (omega (arith, e, s)) in
      (omega (arith, e, s), h.has t (omega (arith, later, next)) inside)
    where
      by_order : Dec (i < t) → i < t
      by_order (yes d) = d
      by_order (no d) = absurd (let a : weight t ≤ weight i = shape.ascend t i (omega arith) l in let some : 1 ≤ weight j = shape.heavy j m in
          omega (arith, a, some, e))

  pub terms_at : (w n i j a b v : ℕ) (row : List Num) (level : List (List (List Num))) → row ≡ entry_row T a b → AreElements T.kind row → n ≡ suc i →
      IsLevelFrom T w n level → i < length T.basis → j < length T.basis → weight i + weight j ≤ T.weight → weight i + weight j + v ≡ w → IsPairOf T i j a b →
      (t : ℕ) → t < length row → is_nought (get_or row t (residue 0)) ≡ false → (weight t + v ≡ w) × HasElement T w t level
  terms_at w n i j a b v row level is h next down l m light s p t k z =
      let q = entry_term i j a b t p light (subst (AreElements T.kind) is h) (subst (λ r. t < length r) is k)
      (subst (λ r. is_nought (get_or r t (residue 0)) ≡ false) is z) in
      has_term w n i j v t level next down l m q.0 q.1 s

  abbrev sum_at : (v k : ℕ) → Form (field_in T) → Vector (field_in T) → (field_in T).Carrier
  sum_at v k f x = product_sum (field_in T) (length T.basis) (λ t. acted T t v k f) x

  bracket_is : (i j v k : ℕ) (f : Form (field_in T)) → bracketed T i j v k f ≡ sum_at v k f (product (field_in T) (math_in T) i j)
  unfolding acts
  bracket_is i j v k f = refl

  pub bracket_plus : (i j a b v k : ℕ) (c : Num) (f : Form (field_in T)) → product (field_in T) (math_in T) i j ≡ vector_in T.kind (entry_row T a b) →
      multiple T c (part T (λ t f. acted T t v k f) (entry_row T a b) (length T.basis)) f ≡ multiple T c (bracketed T i j v k) f
  bracket_plus i j a b v k c f e = ap (K.times (number_in T c)) (ap (sum_at v k f) (sym e) ∙ sym (bracket_is i j v k f))

  pub bracket_minus : (i j a b v k : ℕ) (c m : Num) (f : Form (field_in T)) → IsElement T.kind c → m ≡ negative_of T.kind c →
      product (field_in T) (math_in T) i j ≡ scale (field_in T) ((field_in T).minus (field_in T).unit) (vector_in T.kind (entry_row T a b)) →
      multiple T m (part T (λ t f. acted T t v k f) (entry_row T a b) (length T.basis)) f ≡ multiple T c (bracketed T i j v k) f
  bracket_minus i j a b v k c m f h d e =
      ap (λ x. K.times x (sum_at v k f (entry a b))) (ap (number_in T) d ∙ ((kind_reads T.kind ready.residues.accepted).negative c h).1)
      ∙ turned (number_in T c) (sum_at v k f (entry a b))
      ∙ ap (K.times (number_in T c)) (sym (product-scale K (length T.basis) (K.minus K.unit) (λ t. acted T t v k f) (entry a b)) ∙ ap (sum_at v k f) (sym e)
      ∙ sym (bracket_is i j v k f))
    where
      turned : (x y : (field_in T).Carrier) → (field_in T).times ((field_in T).minus x) y
          ≡ (field_in T).times x ((field_in T).times ((field_in T).minus (field_in T).unit) y)
      turned x y =
          ap (λ a. K.times a y) (ap K.minus (sym (unit-times K x)) ∙ sym (minus-times K K.unit x) ∙ K.times_comm _ _) ∙ K.times_assoc _ _ _

  pub bracket_none : (i j v k : ℕ) (c : Num) (f : Form (field_in T)) → product (field_in T) (math_in T) i j ≡ vzero (field_in T) →
      multiple T c (bracketed T i j v k) f ≡ (field_in T).nought
  bracket_none i j v k c f e =
      ap (K.times (number_in T c)) (bracket_is i j v k f ∙ ap (sum_at v k f) e ∙ product-vzero K (length T.basis) (λ t. acted T t v k f))
      ∙ times-nought K (number_in T c)
