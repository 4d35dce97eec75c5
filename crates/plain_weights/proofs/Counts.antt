-- A weight more changes no number of symbols of the weights through the next.
use Rattle.std.specs.Prelude.{ℕ, zero, suc, ◌+◌, ◌-◌, ◌≡◌, ◌<◌, ◌≤◌, List, length, map}
use mathlib.Core.Path.{refl, sym, ap, ap₂, ◌∙◌}
use native.Mathlib.Omega.{arith}
use native.Mathlib.Decide.{dec_lt}
use Rattle.std.proofs.lemmas.List.{length-append, get_or-append-add}
use Rattle.math_fields.specs.Field.{Field}
use Rattle.math_linear.specs.Vector.{vzero}
use Rattle.fpl_numbers.specs.declared.number.Num.{Num}
use Rattle.fpl_numbers.specs.Kinds.{field_of}
use Rattle.math_algebra.specs.Table.{no_basis, Table}
use Rattle.math_algebra.specs.Symbols.{symbols_of}
use Rattle.math_algebra.specs.Extending.{IsLower}
use Rattle.math_standard.proofs.NextTables.{length_map, get_or_map}
use Rattle.math_standard.proofs.Standing.{symbols_lower}
use Rattle.fpl_table.specs.Plain.{PlainTable, plain_basis, table_in, shell_in}
use Rattle.fpl_table.specs.Push.{free_of, new_basis, push_of}
use Rattle.fpl_table.specs.Shape.{HasShape}
use Rattle.fpl_table.specs.Standard.{count_of, count_through}
use Rattle.plain_tables.proofs.Places.{basis_old}

module _ (T : PlainTable) (shape : HasShape T) (rows : List (List Num)) where
  abbrev K : Field
  K = field_of T.kind

  -- symbols depend on the basis alone, so images and entries are left out
  abbrev bare : PlainTable → Table K
  bare S = record { weight = S.weight; basis = S.basis; image = λ g. vzero K; entry = λ i j. vzero K }

  bare_symbols : (S : PlainTable) (w : ℕ) → symbols_of (shell_in T.kind T) (table_in T.kind S) w ≡ symbols_of (shell_in T.kind T) (bare S) w
  unfolding symbols_of
  bare_symbols S w = refl

  more_is : length (push_of T rows).basis ≡ length T.basis + length (free_of T rows)
  more_is = length-append T.basis (map (new_basis T) (free_of T rows)) ∙ ap (λ w. length T.basis + w) (length_map (new_basis T) (free_of T rows))

  weight_new : (i : ℕ) → length T.basis ≤ i → i < length (push_of T rows).basis → (plain_basis (push_of T rows) i).weight ≡ suc T.weight
  weight_new i l h =
      let e : length T.basis + (i - length T.basis) ≡ i = omega arith in
      ap (λ w. (plain_basis (push_of T rows) w).weight) (sym e)
      ∙ ap (λ b. b.weight) (get_or-append-add T.basis (map (new_basis T) (free_of T rows)) (i - length T.basis) no_basis)
      ∙ ap (λ b. b.weight) (get_or_map (new_basis T) (free_of T rows) (i - length T.basis) 0 no_basis (omega (arith, l, h, more_is)))

  lower : IsLower K (shell_in T.kind T) (bare (push_of T rows)) (bare T)
  lower = record {
    less = omega arith;
    fewer = omega (arith, more_is);
    basis = λ i l. basis_old T shape rows i l;
    heavier = λ i l h. omega (arith, weight_new i l h);
    lighter = shape.light;
    images = λ g l w. refl;
    past = λ g l w. refl;
    entries = λ i j l k r w. refl;
  }

  positive : (i : ℕ) → i < length (push_of T rows).basis → 0 < (plain_basis (push_of T rows) i).weight
  positive i l = go (dec_lt i (length T.basis))
    where
      go : Dec (i < length T.basis) → 0 < (plain_basis (push_of T rows) i).weight
      go (yes h) = omega (arith, ap (λ b. b.weight) (basis_old T shape rows i h), shape.heavy i h)
      go (no h) = omega (arith, weight_new i (omega (arith, h)) l)

  pub count_pushed : (w : ℕ) → w ≤ suc T.weight → count_of (push_of T rows) w ≡ count_of T w
  count_pushed w l =
      ap length (bare_symbols (push_of T rows) w ∙ symbols_lower K (shell_in T.kind T) (bare (push_of T rows)) (bare T) lower positive w l
      ∙ sym (bare_symbols T w))

  pub counts_pushed : (w : ℕ) → w ≤ suc T.weight → count_through (push_of T rows) w ≡ count_through T w
  counts_pushed zero l = refl
  counts_pushed (suc w) l = ap₂ (λ a b. a + b) (counts_pushed w (omega arith)) (count_pushed (suc w) l)
