-- The matrices of the basis elements, one after another.
use Rattle.std.proofs.Common.{◌≡◌, ℕ, ◌+◌, ◌-◌, ◌≤◌, ◌<◌, length, get_or, Some, sym, ap, ◌∙◌, subst, arith}
use Rattle.std.specs.Prelude.{slice_get}
use Rattle.std.proofs.lemmas.List.{length-map}
use Rattle.fpl_numbers.specs.declared.number.Num.{Num}
use Rattle.fpl_numbers.specs.declared.number.Kind.{Kind}
use Rattle.math_algebra.specs.Tree.{Tree, gen, none}
use Rattle.math_algebra.specs.Tree as tree
use Rattle.math_algebra.specs.Table.{of_generator, of_pair}
use Rattle.fpl_model.specs.Meaning.{generator_in}
use Rattle.fpl_model.specs.Sound.{IsTerm}
use Rattle.fpl_table.specs.Plain.{PlainTable, plain_basis}
use Rattle.fpl_table.specs.Shape.{HasShape, IsOfTable, IsBefore, symbol_tree_in, basis_trees}
use Rattle.fpl_table.proofs.GrownTrees.{tree_is}
use Rattle.plain_matrices.specs.Plain.{PlainMatrix, numbers_of}
use Rattle.plain_ranks.proofs.Dimensions.{basis_term}
use Rattle.fpl_matrices.specs.Matrices.{Assigned, numbers_in, prime_in, IsSound, bracket_of, matrix_at}
use Rattle.fpl_matrices.proofs.Sound.{matrix_sound, generator_is}
use Rattle.fpl_ranks.specs.Ranks.{IsFor, basis_matrix}

abbrev with_tree : Kind → Assigned → Tree Num → PlainMatrix
with_tree k a t = record {
  prime = prime_in k;
  even = a.even;
  odd = a.odd;
  numbers = numbers_of (prime_in k) a.even (a.even + a.odd) (numbers_in a) t;
}

module _ (T : PlainTable) (a : Assigned) (h : IsFor T a) (shape : HasShape T) where
  kind : T.kind ≡ h.presentation.field
  kind = h.agrees.0

  count : length T.generators ≡ length h.presentation.generators
  count = ap length h.agrees.1 ∙ length-map h.presentation.generators generator_in

  same_matrix : (i : ℕ) → matrix_at h.presentation a (get_or (basis_trees T) i none) ≡ basis_matrix a T i
  same_matrix i = ap (λ (k : Kind). with_tree k a (get_or (basis_trees T) i none)) (sym kind)

  pub basis_sound : (i : ℕ) → IsSound (basis_matrix a T i)
  basis_sound i =
      subst IsSound (same_matrix i)
      (matrix_sound h.presentation a (get_or (basis_trees T) i none) h.assignment
      (subst (λ c. IsTerm h.presentation.field c (get_or (basis_trees T) i none)) count (basis_term h.presentation.field T shape i)))

  pub generator_matrix : (i g : ℕ) (x : PlainMatrix) → i < length T.basis → (plain_basis T i).symbol ≡ of_generator (g - 1) → 1 ≤ g →
      slice_get a.matrices (g - 1) ≡ Some x → x ≡ basis_matrix a T i
  generator_matrix i g x l e one s =
      let in_table : g - 1 < length T.generators = subst (IsOfTable T) e (shape.symbols i l) in
      let last : g ≤ length h.presentation.generators = omega (arith, in_table, count, one) in
      let number : g - 1 + 1 ≡ g = omega (arith, one) in
      let symbol : get_or (basis_trees T) i none ≡ gen g = tree_is T shape i l ∙ ap (symbol_tree_in (basis_trees T)) e ∙ ap gen number in
      generator_is h.presentation a g x h.assignment one last s ∙ ap (matrix_at h.presentation a) (sym symbol) ∙ same_matrix i

  pub pair_before : (i j k : ℕ) → i < length T.basis → (plain_basis T i).symbol ≡ of_pair j k → (j < i) × (k < i)
  pair_before i j k l e = subst (IsBefore i) e (shape.earlier i l)

  pub pair_matrix : (i j k : ℕ) (x y z : PlainMatrix) → i < length T.basis → (plain_basis T i).symbol ≡ of_pair j k → x ≡ basis_matrix a T j →
      y ≡ basis_matrix a T k → z ≡ bracket_of x y → z ≡ basis_matrix a T i
  pair_matrix i j k x y z l e is_x is_y is_z =
      let symbol : get_or (basis_trees T) i none ≡ tree.bracket_of (get_or (basis_trees T) j none) (get_or (basis_trees T) k none) =
      tree_is T shape i l ∙ ap (symbol_tree_in (basis_trees T)) e in
      is_z ∙ ap (λ (w : PlainMatrix). bracket_of w y) is_x ∙ ap (λ (w : PlainMatrix). bracket_of (basis_matrix a T j) w) is_y
      ∙ ap (λ (t : Tree Num). with_tree T.kind a t) (sym symbol)
