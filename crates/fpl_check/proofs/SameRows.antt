-- One turn of the walk over a closed row and a conclusion: what stands at the next symbol of either.
use Rattle.std.specs.Prelude.{◌≡◌, ◌≢◌, ℕ, ◌+◌, ◌-◌, ◌<◌, ◌≤◌, List, length, get_or, drop, slice_get, Option, Some, None, Ok, true, false, eqb}
use mathlib.Core.Path.{sym, ap, ap₂, ◌∙◌}
use native.Mathlib.Omega.{arith}
use Rattle.std.specs.Option.{option_eq}
use Rattle.std.proofs.lemmas.Bool.{eqb-true, eq-eqb}
use Rattle.fpl_numbers.specs.declared.number.Num.{Num}
use Rattle.fpl_numbers.specs.declared.number.Kind.{Kind}
use Rattle.fpl_numbers.specs.Numbers.{IsField, IsElement, residue}
use Rattle.fpl_rows.specs.Meaning.{IsRowOf}
use Rattle.fpl_rows.specs.Positions.{next_of}
use Rattle.fpl_rows.proofs.Fits.{none_some, some_same}
use Rattle.fpl_log.specs.declared.closed.Coefficient.{Coefficient}
use Rattle.fpl_check.specs.Premises.{AreCoefficientsOf}
use Rattle.fpl_check.specs.ClosedRows.{stored_row, same_num, test_same}
use Rattle.fpl_check.specs.Filled.{least_of, symbol_of, number_if}
use Rattle.fpl_check.proofs.RowLoops.{differ, number_element}
use Rattle.fpl_check.proofs.Filled.{LeastIs, least_found, same_until, same_to_end, same_at_next, same_at_stop}
use Rattle.fpl_check.proofs.StoredRows.{IsRest, stored_is_row, symbol_next, number_is, rest_over, rest_on, least_most}

pub is_told : (o : Option ℕ) (s : ℕ) → option_eq eqb o (Some s) ≡ true → o ≡ Some s
is_told None s e = absurd (let k : ⊥ = cc in k)
is_told (Some a) s e = ap Some (eqb-true a s e)

pub not_told : (o : Option ℕ) (s : ℕ) → option_eq eqb o (Some s) ≡ false → o ≢ Some s
not_told None s e f = none_some f
not_told (Some a) s e f = let t = eq-eqb a s (some_same f) in absurd (let k : ⊥ = cc in k)

module _ (kind : Kind) (listed : IsField kind) (k n after i : ℕ) (row : List Coefficient) (ys : List Num) (coefficients : AreCoefficientsOf kind row)
    (concluded : IsRowOf kind n ys) (rest : IsRest n after i row) (next second : Option ℕ)
    (is_next : next ≡ symbol_of (slice_get row i)) (is_second : second ≡ next_of ys after) where
  abbrev xs : List Num
  xs = stored_row n row

  stored : IsRowOf kind n xs
  stored = stored_is_row kind listed n row coefficients

  long : length xs ≡ length ys
  long = stored.length_is ∙ sym concluded.length_is

  is_first : next ≡ next_of xs after
  is_first = is_next ∙ symbol_next n after i row rest

  pub turn_none : after ≤ n → None ≡ least_of next second → test_same k (after + 1) (drop after xs) (drop after ys) ≡ Ok tt
  turn_none within e =
      let l = stored.length_is in
      same_to_end kind listed k xs ys stored.elements concluded.elements long after (omega (arith, within, l)) (e ∙ ap₂ least_of is_first is_second)

  module _ (s : ℕ) (is_least : Some s ≡ least_of next second) where
    least : LeastIs xs ys after s
    least = least_found xs ys after s next second long is_first is_second is_least

    pub turn_past : after < s
    turn_past = least.above

    pub turn_one : 1 ≤ s
    turn_one = let a = least.above in omega (arith, a)

    pub turn_end : s ≤ n
    turn_end = let a = least.within in let l = stored.length_is in omega (arith, a, l)

    most : (c : Coefficient) → Some c ≡ slice_get row i → s ≤ c.symbol
    most c e = least_most (slice_get row i) second s (is_least ∙ ap (λ o. least_of o second) is_next) c e

    module _ (x y : Num) (is_x : x ≡ number_if s (slice_get row i)) (is_y : y ≡ get_or ys (s - 1) (residue 0)) where
      at_x : x ≡ get_or xs (s - 1) (residue 0)
      at_x = is_x ∙ number_is n after i row rest s turn_past turn_end most

      pub turn_left : IsElement kind x
      turn_left = number_element kind xs s x stored.elements turn_one least.within at_x

      pub turn_right : IsElement kind y
      turn_right = let e = turn_end in let l = concluded.length_is in number_element kind ys s y concluded.elements turn_one (omega (arith, e, l)) is_y

      pub turn_stop : same_num x y ≡ false → test_same k (after + 1) (drop after xs) (drop after ys) ≡ differ k s x y
      turn_stop e =
          same_until kind listed k xs ys stored.elements concluded.elements long after s least
          ∙ same_at_stop k s xs ys x y turn_one least.within long at_x is_y e

      pub turn_same : same_num x y ≡ true → test_same k (after + 1) (drop after xs) (drop after ys) ≡ test_same k (s + 1) (drop s xs) (drop s ys)
      turn_same e =
          same_until kind listed k xs ys stored.elements concluded.elements long after s least
          ∙ same_at_next k s xs ys x y turn_one least.within long at_x is_y e

    pub turn_over : next ≢ Some s → IsRest n s i row
    turn_over e = rest_over n after i row rest s turn_past most (λ f. e (is_next ∙ f))

    pub turn_on : next ≡ Some s → IsRest n s (i + 1) row
    turn_on e = rest_on n after i row rest s (sym is_next ∙ e)
