-- The invariant holds of the part of a table through a lower weight.
use Rattle.std.specs.Prelude.{ℕ, ◌≡◌, ◌<◌, ◌≤◌, ◌+◌, ◌-◌, List, [], length, get_or, take}
use mathlib.Core.Path.{sym, refl, ap, ap₂, ◌∙◌, fun_ext}
use native.Mathlib.Omega.{arith}
use native.Mathlib.Decide.{dec_le}
use Rattle.std.proofs.lemmas.List.{length-take-le, get_or-take, get_or_past}
use Rattle.math_linear.specs.Vector.{vzero}
use Rattle.fpl_numbers.specs.declared.number.Num.{Num}
use Rattle.fpl_numbers.specs.declared.number.Kind.{Kind}
use Rattle.fpl_numbers.specs.Kinds.{Number, field_of}
use Rattle.fpl_rows.specs.Meaning.{vector_in}
use Rattle.math_algebra.specs.Tree.{Presentation as Algebra, generator, no_generator}
use Rattle.math_algebra.specs.Extending.{IsLower}
use Rattle.math_theorems.proofs.StandardLaws.{lower_is_built}
use Rattle.fpl_model.specs.Meaning.{presentation_in}
use Rattle.fpl_table.specs.Plain.{PlainTable, plain_basis, through, partner_from, generator_at, image_row, entry_row, table_in}
use Rattle.fpl_table.specs.Truncate.{truncate_of}
use Rattle.fpl_table.specs.Shape.{HasShape}
use Rattle.fpl_table.proofs.Truncated.{basis_long, basis_kept, partner_kept, truncate_shape}
use Rattle.fpl_table.proofs.Weights.{through_above, through_below, through_within}
use Rattle.plain_tables.specs.Holds.{TruncatesHold}
use Rattle.plain_tables.proofs.Holding.{sound_is_sound}

module _ (T : PlainTable) (shape : HasShape T) (d : ℕ) (within : d ≤ T.weight) where
  image_is : (g : ℕ) → g < length T.generators → (generator_at T g).weight ≤ d → image_row (truncate_of T d) g ≡ image_row T g
  image_is g l w = ap (λ r. get_or r g []) (get_or-take d T.images ((generator_at T g).weight - 1) [] (omega (arith, w, (shape.weights g l).0)))

  image_past : (g : ℕ) → d < (generator_at T g).weight → image_row (truncate_of T d) g ≡ []
  image_past g w =
      ap (λ r. get_or r g [])
      (get_or_past (take d T.images) ((generator_at T g).weight - 1) []
      (omega (arith, w, length-take-le d T.images (let h = shape.images_length in omega (arith, h, within)))))

  entry_is : (i j : ℕ) → i < through T d → j < through T d → (plain_basis T i).weight + (plain_basis T j).weight ≤ d →
      entry_row (truncate_of T d) i j ≡ entry_row T i j
  entry_is i j l k w =
      ap (at_level (truncate_of T d) i j) (ap₂ (λ a b. a.weight + b.weight) (basis_kept T shape d within i l) (basis_kept T shape d within j k))
      ∙ ap₂ (λ a b. get_or (get_or a i []) (j - b) []) (get_or-take d T.entries ((plain_basis T i).weight + (plain_basis T j).weight - 1) []
      (omega (arith, w, shape.heavy i here)))
      (partner_kept T shape d within i ((plain_basis T i).weight + (plain_basis T j).weight) l w)
    where
      here : i < length T.basis
      here = omega (arith, l, through_within T shape d)

      at_level : PlainTable → ℕ → ℕ → ℕ → List Num
      at_level S i j w = get_or (get_or (get_or S.entries (w - 1) []) i []) (j - partner_from S i w) []

  module _ (k : Kind) (P : Algebra (Number k)) (gens : P.generators ≡ T.generators) where
    weight_is : (g : ℕ) → (generator P g).weight ≡ (generator_at T g).weight
    weight_is g = ap (λ G. (get_or G g no_generator).weight) gens

    no_vector : vector_in k [] ≡ vzero (field_of k)
    unfolding vzero
    no_vector = fun_ext (λ s. refl)

    pub lower_is : IsLower (field_of k) P (table_in k T) (table_in k (truncate_of T d))
    lower_is = record {
      less = within;
      fewer = omega (arith, basis_long T shape d within, through_within T shape d);
      basis = λ i l. sym (basis_kept T shape d within i (omega (arith, l, basis_long T shape d within)));
      heavier = λ i l h. heavier i l h (dec_le (plain_basis T i).weight d);
      lighter = λ i l. let h : i < through T d = omega (arith, l, basis_long T shape d within) in
          omega (arith, ap (λ b. b.weight) (basis_kept T shape d within i h), through_below T shape d i h);
      images = λ g l w. sym (ap (vector_in k) (image_is g (omega (arith, l, ap length gens)) (omega (arith, w, weight_is g))));
      past = λ g l w. ap (vector_in k) (image_past g (omega (arith, w, weight_is g))) ∙ no_vector;
      entries = λ i j l h r w.
          let p : i < through T d = omega (arith, l, basis_long T shape d within) in
          let q : j < through T d = omega (arith, h, basis_long T shape d within) in
          sym (ap (vector_in k) (entry_is i j p q (omega (
            arith,
            w,
            ap (λ b. b.weight) (basis_kept T shape d within i p),
            ap (λ b. b.weight) (basis_kept T shape d within j q),
          ))));
    }
      where
        heavier : (i : ℕ) → length (truncate_of T d).basis ≤ i → i < length T.basis → Dec ((plain_basis T i).weight ≤ d) → d < (plain_basis T i).weight
        heavier i l h (yes w) = absurd (omega (arith, l, basis_long T shape d within, through_above T shape d i h w))
        heavier i l h (no w) = omega (arith, w)

pub truncates_hold : TruncatesHold
truncates_hold p T d h l = record {
  sound = h.sound;
  kind = h.kind;
  generators = h.generators;
  shape = truncate_shape T h.shape d l;
  built =
      (lower_is_built (field_of p.field) (presentation_in p) (sound_is_sound p h.sound) (table_in p.field T) (table_in p.field (truncate_of T d)) h.built
      (lower_is T h.shape d l p.field (presentation_in p) (sym h.generators))).0;
}
