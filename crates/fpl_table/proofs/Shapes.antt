-- The shape of tables.
use Rattle.std.proofs.Common.{◌≤◌, ◌<◌, ℕ, zero, suc, List, [], ◌∷◌, length, map, get_or, refl, arith}
use Rattle.std.proofs.lemmas.List.{length-map}
use Rattle.fpl_numbers.specs.declared.number.Kind.{Kind}
use Rattle.fpl_numbers.specs.Numbers.{IsField}
use Rattle.math_algebra.specs.Tree.{no_generator}
use Rattle.fpl_model.specs.declared.presentation.Generator as declared
use Rattle.fpl_model.specs.Meaning.{generator_in}
use Rattle.fpl_model.specs.Sound.{HaveWeights}
use Rattle.fpl_table.specs.Plain.{leading}
use Rattle.fpl_table.specs.Shape.{grown}
use Rattle.fpl_table.specs.Whole.{IsWhole}

-- the bounds of a presentation's weights are those of its generators in a table
weights_within : (gs : List declared.Generator) → HaveWeights gs → (g : ℕ) → g < length (map generator_in gs) →
    (1 ≤ (get_or (map generator_in gs) g no_generator).weight) × ((get_or (map generator_in gs) g no_generator).weight ≤ 1000)
weights_within [] h g lt = absurd (omega (arith, lt))
weights_within (x ∷ xs) h zero lt = h zero x (omega arith)
weights_within (x ∷ xs) h (suc g) lt = weights_within xs (λ k d below. h (suc k) d (omega (arith, below))) g (omega (arith, lt))

-- the table through weight 0
pub start_whole : (kind : Kind) (gs : List declared.Generator) → IsField kind → length gs ≤ 64 → HaveWeights gs →
    IsWhole (record { kind = kind; generators = map generator_in gs; weight = 0; basis = []; images = []; entries = [] }) [] [] []
unfolding grown leading
start_whole kind gs is few h = record {
  shape = record {
    field = is;
    few = rw length-map few;
    weights = weights_within gs h;
    weight = omega arith;
    small = omega arith;
    small_parts = λ w le. omega arith;
    heavy = λ i lt. absurd (omega (arith, lt));
    light = λ i lt. absurd (omega (arith, lt));
    ascend = λ i j le lt. absurd (omega (arith, lt));
    symbols = λ i lt. absurd (omega (arith, lt));
    earlier = λ i lt. absurd (omega (arith, lt));
    images_length = refl;
    image_lengths = λ v lt. absurd (omega (arith, lt));
    image_rows = λ v g lt. absurd (omega (arith, lt));
    entries_length = refl;
    entry_lengths = λ v lt. absurd (omega (arith, lt));
    partner_lengths = λ v i lt. absurd (omega (arith, lt));
    entry_rows = λ v i q lt. absurd (omega (arith, lt));
  };
  counts_are = λ v lt. absurd (omega (arith, lt));
  trees_are = refl;
  numbered = λ i d lt. absurd (omega (arith, lt));
}
