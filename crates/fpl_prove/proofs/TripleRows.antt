-- The rows of the two sides of the Jacobi identity at basis elements, and of a cube.
use Rattle.std.proofs.Common.{◌≡◌, ◌<◌, ℕ, [], ◌∷◌, length, get_or, ap, ap₂, ◌∙◌}
use mathlib.Core.Path.{fun_ext}
use Rattle.math_fields.specs.Field.{Field}
use Rattle.math_linear.specs.Vector.{Vector, vplus, scale, place}
use Rattle.math_linear.proofs.Vectors.{vplus-vzero, scale-vzero}
use Rattle.fpl_numbers.specs.declared.number.Num.{Num}
use Rattle.fpl_numbers.specs.Numbers.{residue}
use Rattle.fpl_numbers.specs.Kinds.{field_of, number_of}
use Rattle.math_algebra.specs.Derives.{sign}
use Rattle.math_algebra.specs.Table.{Table, bracket, val}
use Rattle.math_algebra.specs.Symbols.{pair_number, generator_number}
use Rattle.math_algebra.specs.SourceRows.{outer, row_of, jacobi_row, cube_row}
use Rattle.fpl_model.specs.declared.expr.Expr.{Expr}
use Rattle.fpl_model.specs.declared.expr.Expr.TheVariants.{Zero, Sum, Times, Br}
use Rattle.fpl_model.specs.declared.presentation.Parity as code
use Rattle.fpl_model.specs.Meaning.{parity_in, presentation_in}
use Rattle.fpl_table.specs.Plain.{plain_basis, table_in}
use Rattle.fpl_forms.specs.Ledgers.{PlainLedger, IsSoundLedger}
use Rattle.fpl_forms.proofs.Trees.{tree-Sum, tree-Br}
use Rattle.fpl_facts.specs.Axioms.{jacobi_sum, sign_number}
use Rattle.fpl_facts.proofs.NextAxioms.{sign_is}
use Rattle.plain_facts.specs.Values.{value_in}
use Rattle.fpl_table_facts.specs.declared.known.Known.{Known}
use Rattle.fpl_table_facts.specs.Known.{IsKnown}
use Rattle.fpl_table_facts.specs.Rows.{expr_row}
use Rattle.fpl_prove.specs.Sides.{sides_row}
use Rattle.fpl_table_facts.proofs.RowValues.{row_Zero, row_Times, row_Br}
use Rattle.fpl_prove.proofs.Monomials.{value_at}

module _ (L : PlainLedger) (s : IsSoundLedger L) (k : Known) (h : IsKnown L k) where
  abbrev K : Field
  K = field_of L.presentation.field

  abbrev V : Table K
  V = table_in L.presentation.field k.table

  abbrev pairs : ℕ → ℕ → ℕ
  pairs = pair_number (presentation_in L.presentation) V

  abbrev at : ℕ → Expr
  at i = get_or k.basis.items i Zero

  abbrev row : Expr → Vector K
  row e = expr_row L.presentation k.table e

  abbrev value : Expr → Vector K
  value e = value_in L.presentation k.table e

  abbrev IsAtom : ℕ → Type 0
  IsAtom i = i < length k.basis.items

  at_is : (i : ℕ) → IsAtom i → value (at i) ≡ place K i
  at_is i lt = value_at L s k h i lt

  pair_is : (i j : ℕ) → IsAtom i → IsAtom j → value (Br (at i) (at j)) ≡ bracket K V (place K i) (place K j)
  unfolding val
  pair_is i j a b = ap (val K V) (tree-Br L.presentation.field (at i) (at j)) ∙ ap₂ (bracket K V) (at_is i a) (at_is j b)

  -- [b_i, [b_j, b_l]]
  nested : (i j l : ℕ) → IsAtom i → IsAtom j → IsAtom l →
      row (Br (at i) (Br (at j) (at l))) ≡ outer K V pairs (place K i) (bracket K V (place K j) (place K l))
  nested i j l a b c = row_Br L.presentation k.table (at i) (Br (at j) (at l)) ∙ ap₂ (outer K V pairs) (at_is i a) (pair_is j l b c)

  -- [[b_i, b_j], b_l]
  nested_left : (i j l : ℕ) → IsAtom i → IsAtom j → IsAtom l →
      row (Br (Br (at i) (at j)) (at l)) ≡ outer K V pairs (bracket K V (place K i) (place K j)) (place K l)
  nested_left i j l a b c = row_Br L.presentation k.table (Br (at i) (at j)) (at l) ∙ ap₂ (outer K V pairs) (pair_is i j a b) (at_is l c)

  times_row : (c : Num) (e : Expr) → row (Times c e) ≡ scale K (number_of L.presentation.field c) (row e)
  unfolding scale
  times_row c e = fun_ext (row_Times L.presentation k.table c e)

  two_row : (e f : Expr) → row (Sum (e ∷ f ∷ [])) ≡ vplus K (row e) (row f)
  unfolding row_of
  two_row e f =
      ap (row_of K V pairs (generator_number (presentation_in L.presentation) V)) (tree-Sum L.presentation.field (e ∷ f ∷ []))
      ∙ ap (vplus K (row e)) (vplus-vzero K (row f))

  pub jacobi_vector : (i j l : ℕ) → IsAtom i → IsAtom j → IsAtom l → (t u : code.Parity) → parity_in t ≡ (plain_basis k.table i).parity →
      parity_in u ≡ (plain_basis k.table j).parity →
      sides_row L.presentation k.table (Br (at i) (Br (at j) (at l))) (jacobi_sum (sign_number L.prime t u) (at i) (at j) (at l)) ≡
      jacobi_row K V pairs i j l
  unfolding jacobi_row
  jacobi_vector i j l a b c t u x y =
      let n = sign_number L.prime t u in
      let other = Br (at j) (Br (at i) (at l)) in
      ap₂ (λ v w. vplus K v (scale K (K.minus K.unit) w)) (nested i j l a b c)
      (two_row (Br (Br (at i) (at j)) (at l)) (Times (residue n) other)
      ∙ ap₂ (vplus K) (nested_left i j l a b c)
      (times_row (residue n) other ∙ ap₂ (scale K) (sign_is L s t u ∙ ap₂ (sign K) x y) (nested j i l b a c)))

  pub cube_vector : (i : ℕ) → IsAtom i →
      sides_row L.presentation k.table (Br (at i) (Br (at i) (at i))) Zero ≡ cube_row K (presentation_in L.presentation) V i
  cube_vector i a =
      ap₂ (λ v w. vplus K v (scale K (K.minus K.unit) w)) (nested i i i a a a) (row_Zero L.presentation k.table)
      ∙ ap (vplus K (outer K V pairs (place K i) (bracket K V (place K i) (place K i)))) (scale-vzero K (K.minus K.unit))
      ∙ vplus-vzero K (outer K V pairs (place K i) (bracket K V (place K i) (place K i)))
