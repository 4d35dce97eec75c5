-- The inverse of a number that is not 0 is not 0.
use Rattle.std.proofs.Common.{◌≡◌, ◌-◌, true, false, Bool, refl, sym, ap, ◌∙◌}
use Rattle.math_linear.proofs.Numbers.{nought-times}
use Rattle.fpl_numbers.specs.declared.number.Num.{Num}
use Rattle.fpl_numbers.specs.declared.number.Kind.{Kind}
use Rattle.fpl_numbers.specs.Numbers.{IsElement, IsField, is_nought, inverse_of}
use Rattle.fpl_numbers.specs.Kinds.{field_of, number_of}
use Rattle.fpl_numbers.specs.Reads.{Reads}
use Rattle.fpl_numbers.proofs.KindReads.{kind_reads}

module _ (kind : Kind) (listed : IsField kind) where
  reads : Reads kind (field_of kind) (number_of kind)
  reads = kind_reads kind listed

  pub inverse_stays : (a : Num) → IsElement kind a → is_nought a ≡ false → is_nought (inverse_of kind a) ≡ false
  inverse_stays a is e = go (is_nought (inverse_of kind a)) refl
    where
      go : (b : Bool) → is_nought (inverse_of kind a) ≡ b → b ≡ false
      go false f = refl
      go true f =
          let i = reads.inverse a is e in
          absurd ((field_of kind).unit≢nought (sym i.1 ∙ ap (λ w. (field_of kind).times w (number_of kind a))
          (reads.zero_is (inverse_of kind a) i.0 f) ∙ nought-times (field_of kind) (number_of kind a)))
