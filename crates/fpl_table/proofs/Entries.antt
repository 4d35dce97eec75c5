-- Where the entry of a regular pair stands.
use Rattle.std.proofs.Common.{◌≡◌, ◌≤◌, ◌<◌, ◌+◌, ◌-◌, ℕ, suc, List, [], length, map, get_or, ap, sym, ◌∙◌, arith}
use Rattle.std.proofs.lemmas.List.{length-map}
use Rattle.fpl_numbers.specs.declared.number.Num.{Num}
use Rattle.fpl_table.specs.Plain.{PlainTable, through, first_partner, partner_from, plain_basis, entry_row, image_row, generator_at}
use Rattle.fpl_table.specs.Shape.{HasShape, IsRowUpTo, images_at, entries_at, partners}
use Rattle.fpl_table.proofs.Lists.{map_at, at_default}
use Rattle.fpl_table.proofs.Weights.{through_above, through_heavier, through_within}

abbrev pair_weight : PlainTable → ℕ → ℕ → ℕ
pair_weight T i j = (plain_basis T i).weight + (plain_basis T j).weight

module _ (T : PlainTable) (shape : HasShape T) (i j : ℕ) (lti : i < length T.basis) (ltj : j < length T.basis) (regular : first_partner T i ≤ j)
    (reached : pair_weight T i j ≤ T.weight) where
  pub weight_place : pair_weight T i j - 1 < T.weight
  weight_place = let h : 1 ≤ (plain_basis T i).weight = shape.heavy i lti in omega arith

  pub left_place : i < through T (pair_weight T i j - 1)
  left_place = let h : 1 ≤ (plain_basis T j).weight = shape.heavy j ltj in through_above T shape (pair_weight T i j - 1) i lti (omega arith)

  pub partner_starts : partner_from T i (pair_weight T i j) ≤ j
  partner_starts =
      let h : 1 ≤ (plain_basis T j).weight = shape.heavy j ltj in
      let k : through T (pair_weight T i j - (plain_basis T i).weight - 1) ≤ j = through_heavier T shape
      (pair_weight T i j - (plain_basis T i).weight - 1) j (omega arith) in
      omega arith

  pub partner_place : j - partner_from T i (pair_weight T i j) < partners T i (pair_weight T i j)
  partner_place =
      let h : j < through T (pair_weight T i j - (plain_basis T i).weight) = through_above T shape
      (pair_weight T i j - (plain_basis T i).weight) j ltj (omega arith) in
      let k : partner_from T i (pair_weight T i j) ≤ j = partner_starts in
      omega arith

  entries_here : length (entries_at T (pair_weight T i j - 1)) ≡ through T (pair_weight T i j - 1)
  entries_here = shape.entry_lengths (pair_weight T i j - 1) weight_place

  partners_here : length (get_or (entries_at T (pair_weight T i j - 1)) i []) ≡ partners T i (pair_weight T i j)
  partners_here =
      let same : suc (pair_weight T i j - 1) ≡ pair_weight T i j = let h : 1 ≤ (plain_basis T i).weight = shape.heavy i lti in omega arith in
      rw same at (shape.partner_lengths (pair_weight T i j - 1) i weight_place left_place)

  pub entry_row_within : IsRowUpTo T.kind (length T.basis) (entry_row T i j)
  entry_row_within =
      let same : suc (pair_weight T i j - 1) ≡ pair_weight T i j = let h : 1 ≤ (plain_basis T i).weight = shape.heavy i lti in omega arith in
      let place : j - partner_from T i (pair_weight T i j) < partners T i (suc (pair_weight T i j - 1)) = rw same partner_place in
      let row = shape.entry_rows (pair_weight T i j - 1) i (j - partner_from T i (pair_weight T i j)) weight_place left_place place in
      let all : through T (suc (pair_weight T i j - 1)) ≤ length T.basis = through_within T shape (suc (pair_weight T i j - 1)) in
      record { elements = row.elements; short = omega (arith, row.short, all) }

  module _ {L V : Type 0} (levels : List L) (entries : L → List V) (items : V → List (List Num)) (is : map (λ l. map items (entries l)) levels ≡ T.entries)
      (level : L) (at_level : level ≡ get_or levels (pair_weight T i j - 1) level) where
    level_place : pair_weight T i j - 1 < length levels
    level_place =
        let h : length levels ≡ T.weight = sym (length-map levels (λ l. map items (entries l))) ∙ ap length is ∙ shape.entries_length in
        let k : pair_weight T i j - 1 < T.weight = weight_place in
        omega arith

    level_is : entries_at T (pair_weight T i j - 1) ≡ map items (entries level)
    level_is = rw (← is) (map_at (λ l. map items (entries l)) levels (pair_weight T i j - 1) [] level level_place at_level)

    pub left_within : i < length (entries level)
    left_within =
        let h : length (entries level) ≡ through T (pair_weight T i j - 1) = sym (length-map (entries level) items) ∙ ap length (sym level_is) ∙ entries_here in
        let k : i < through T (pair_weight T i j - 1) = left_place in
        omega arith

    module _ (v : V) (at_left : v ≡ get_or (entries level) i v) where
      left_is : get_or (entries_at T (pair_weight T i j - 1)) i [] ≡ items v
      left_is = rw level_is (map_at items (entries level) i [] v left_within at_left)

      pub partner_within : j - partner_from T i (pair_weight T i j) < length (items v)
      partner_within =
          let h : length (items v) ≡ partners T i (pair_weight T i j) = ap length (sym left_is) ∙ partners_here in
          let k : j - partner_from T i (pair_weight T i j) < partners T i (pair_weight T i j) = partner_place in
          omega arith

      pub entry_found : (row : List Num) → row ≡ get_or (items v) (j - partner_from T i (pair_weight T i j)) row → row ≡ entry_row T i j
      entry_found row at_partner =
          sym (ap (λ rows. get_or rows (j - partner_from T i (pair_weight T i j)) []) left_is
          ∙ at_default (items v) (j - partner_from T i (pair_weight T i j)) [] row partner_within at_partner)

pub image_row_within : (T : PlainTable) → HasShape T → (g : ℕ) → g < length T.generators → (generator_at T g).weight ≤ T.weight →
    IsRowUpTo T.kind (length T.basis) (image_row T g)
image_row_within T shape g lt reached =
    let h : 1 ≤ (generator_at T g).weight = (shape.weights g lt).0 in
    let row = shape.image_rows ((generator_at T g).weight - 1) g (omega arith) lt in
    let all : through T (suc ((generator_at T g).weight - 1)) ≤ length T.basis = through_within T shape (suc ((generator_at T g).weight - 1)) in
    record { elements = row.elements; short = omega (arith, row.short, all) }

module _ (T : PlainTable) (shape : HasShape T) (g : ℕ) (lt : g < length T.generators) (reached : (generator_at T g).weight ≤ T.weight) where
  image_place : (generator_at T g).weight - 1 < T.weight
  image_place = let h : 1 ≤ (generator_at T g).weight = (shape.weights g lt).0 in omega arith

  module _ {L : Type 0} (levels : List L) (images : L → List (List Num)) (is : map images levels ≡ T.images) (level : L)
      (at_level : level ≡ get_or levels ((generator_at T g).weight - 1) level) where
    images_are : images_at T ((generator_at T g).weight - 1) ≡ images level
    images_are =
        let h : length levels ≡ T.weight = sym (length-map levels images) ∙ ap length is ∙ shape.images_length in
        let k : (generator_at T g).weight - 1 < T.weight = image_place in
        rw (← is) (map_at images levels ((generator_at T g).weight - 1) [] level (omega arith) at_level)

    pub image_within : g < length (images level)
    image_within =
        let h : length (images level) ≡ length T.generators = ap length (sym images_are) ∙ shape.image_lengths ((generator_at T g).weight - 1) image_place in
        omega arith

    pub image_found : (row : List Num) → row ≡ get_or (images level) g row → row ≡ image_row T g
    image_found row here = sym (ap (λ rows. get_or rows g []) images_are ∙ at_default (images level) g [] row image_within here)
