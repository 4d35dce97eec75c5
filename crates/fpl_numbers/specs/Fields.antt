-- The two fields: the residues modulo a prime, and the fractions.
--
--   field_of_normal N    its numbers are the normal ones of N, and each operation is that on raw numbers, brought to the normal form
--   residue_normal p     raw numbers are the natural numbers, and the normal form of one is its remainder by p: so the residues are the numbers below p
--   fraction_normal      raw numbers are fractions (u - v) / (d + 1), and the normal form of one is in lowest terms
use Rattle.std.specs.Prelude.{ℕ, ◌<◌, ◌%◌, ◌+◌, ◌*◌, ◌-◌}
use mathlib.Core.Path.{sym, ap, ◌∙◌}
use mathlib.Core.HLevel.{hedberg, Σ_prop_discrete, ×_discrete}
use native.Mathlib.Decide.{ℕ_discrete}
use native.Mathlib.Nat.{mod-mod, mod-add-mod, add_assoc, add_comm, mul_assoc, mul_comm, mul-one, add-zero, mul-add}
use Rattle.std.proofs.lemmas.Nat.{mul-mod_first}
use Rattle.math_fields.specs.Field.{Field}
use Rattle.math_fields.specs.Normal.{Normal, Number, of_raw}
use Rattle.math_fields.specs.Primes.{IsPrime}
use Rattle.math_fields.specs.Ratios.{Ratio, lowest, ratio_plus, ratio_times, ratio_minus, ratio_inverse}
use Rattle.math_fields.proofs.FromNormal.{number_same, right-plus, right-times}
use Rattle.math_fields.proofs.Residues.{residue_inverse, residue_plus-minus, residue_is_inverse, one_not_zero, two_not_zero}
use Rattle.math_fields.proofs.LowestTerms.{lowest_alike, lowest_same_of}
use Rattle.math_fields.proofs.Fractions.{plus_alike, times_alike, minus_alike, plus_assoc as ratio-plus_assoc, plus_comm as ratio-plus_comm, plus-nought, plus-minus, times_assoc, times_comm, times-unit, times-plus, times-inverse, unit≢nought, two≢nought}

module _ (N : Normal) where
  unfoldable pub field_of_normal : Field
  field_of_normal = record {
    Carrier = Number N;
    nought = of_raw N N.nought;
    unit = of_raw N N.unit;
    plus = λ a b. of_raw N (N.plus a.0 b.0);
    times = λ a b. of_raw N (N.times a.0 b.0);
    minus = λ a. of_raw N (N.minus a.0);
    inverse = λ a. of_raw N (N.inverse a.0);
    plus_assoc = λ a b c. number_same N _ _ (N.norm-plus _ _ ∙ N.plus_assoc _ _ _ ∙ sym (right-plus N _ _));
    plus_comm = λ a b. number_same N _ _ (N.plus_comm _ _);
    plus-nought = λ a. number_same N _ _ (right-plus N _ _ ∙ N.plus-nought _ ∙ a.1);
    plus-minus = λ a. number_same N _ _ (right-plus N _ _ ∙ N.plus-minus _);
    times_assoc = λ a b c. number_same N _ _ (N.norm-times _ _ ∙ N.times_assoc _ _ _ ∙ sym (right-times N _ _));
    times_comm = λ a b. number_same N _ _ (N.times_comm _ _);
    times-unit = λ a. number_same N _ _ (right-times N _ _ ∙ N.times-unit _ ∙ a.1);
    times-plus = λ a b c. number_same N _ _ (right-times N _ _ ∙ N.times-plus _ _ _ ∙ sym (N.norm-plus _ _) ∙ sym (right-plus N _ _));
    times-inverse = λ a h. number_same N _ _ (right-times N _ _ ∙ N.times-inverse _ (λ e. h (number_same N _ _ (sym a.1 ∙ e))));
    unit≢nought = λ e. N.unit≢nought (ap (λ a. a.0) e);
    two≢nought = λ e. N.two≢nought (sym (right-plus N _ _ ∙ N.norm-plus _ _) ∙ ap (λ a. a.0) e);
    same = Σ_prop_discrete (λ x. hedberg N.same (N.norm x) x) N.same;
  }

unfoldable pub residue_normal : (p : ℕ) → IsPrime p → 2 < p → Normal
residue_normal p prime past_two = record {
  Raw = ℕ;
  same = ℕ_discrete;
  norm = λ x. x % p;
  nought = 0;
  unit = 1;
  plus = λ x y. x + y;
  times = λ x y. x * y;
  minus = λ x. p - x % p;
  inverse = λ x. (residue_inverse p prime x).0;
  norm_norm = λ x. mod-mod x p;
  norm-plus = λ x y. mod-add-mod x p y;
  norm-times = λ x y. mul-mod_first x y p;
  norm-minus = λ x. ap (λ w. (p - w) % p) (mod-mod x p);
  plus_assoc = λ x y z. ap (λ w. w % p) (add_assoc x y z);
  plus_comm = λ x y. ap (λ w. w % p) (add_comm x y);
  plus-nought = λ x. ap (λ w. w % p) (add-zero x);
  plus-minus = residue_plus-minus p prime;
  times_assoc = λ x y z. ap (λ w. w % p) (mul_assoc x y z);
  times_comm = λ x y. ap (λ w. w % p) (mul_comm x y);
  times-unit = λ x. ap (λ w. w % p) (mul-one x);
  times-plus = λ x y z. ap (λ w. w % p) (mul-add x y z);
  times-inverse = residue_is_inverse p prime;
  unit≢nought = one_not_zero p prime;
  two≢nought = two_not_zero p prime past_two;
}

unfoldable pub fraction_normal : Normal
fraction_normal = record {
  Raw = Ratio;
  same = ×_discrete ℕ_discrete (×_discrete ℕ_discrete ℕ_discrete);
  norm = lowest;
  nought = (0, (0, 0));
  unit = (1, (0, 0));
  plus = ratio_plus;
  times = ratio_times;
  minus = ratio_minus;
  inverse = ratio_inverse;
  norm_norm = λ x. lowest_same_of _ _ (lowest_alike x);
  norm-plus = λ x y. lowest_same_of _ _ (plus_alike _ _ y (lowest_alike x));
  norm-times = λ x y. lowest_same_of _ _ (times_alike _ _ y (lowest_alike x));
  norm-minus = λ x. lowest_same_of _ _ (minus_alike _ _ (lowest_alike x));
  plus_assoc = λ x y z. ap lowest (ratio-plus_assoc x y z);
  plus_comm = λ x y. ap lowest (ratio-plus_comm x y);
  plus-nought = λ x. ap lowest (plus-nought x);
  plus-minus = λ x. lowest_same_of _ _ (plus-minus x);
  times_assoc = λ x y z. ap lowest (times_assoc x y z);
  times_comm = λ x y. ap lowest (times_comm x y);
  times-unit = λ x. ap lowest (times-unit x);
  times-plus = λ x y z. lowest_same_of _ _ (times-plus x y z);
  times-inverse = λ x h. lowest_same_of _ _ (times-inverse x h);
  unit≢nought = unit≢nought;
  two≢nought = two≢nought;
}
