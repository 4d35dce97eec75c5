-- The value of a sum of multiples of basis elements.
use Rattle.std.proofs.Common.{◌≡◌, ◌<◌, ◌+◌, ℕ, zero, suc, List, [], ◌∷◌, Bool, true, false, nat_eq, cond, if◌then◌else◌, length, map, get_or, refl, ap, ap₂, sym, subst, ◌∙◌, arith, All}
use Rattle.std.proofs.lemmas.List.{get_or-map, length-map}
use Rattle.math_fields.specs.Field.{Field}
use Rattle.math_linear.specs.Vector.{vzero, vplus, scale, place}
use Rattle.math_linear.proofs.Numbers.{times-nought}
use Rattle.fpl_numbers.specs.Numbers.{residue}
use Rattle.fpl_numbers.specs.Kinds.{field_of, number_of}
use Rattle.math_algebra.specs.Tree.{none, multiple}
use Rattle.math_algebra.specs.Derives.{Expression, sum_all}
use Rattle.math_algebra.specs.Table.{Table, val}
use Rattle.fpl_model.specs.declared.expr.Expr.{Expr}
use Rattle.fpl_model.specs.declared.expr.Expr.TheVariants.{Zero, Sum, Times}
use Rattle.fpl_model.specs.declared.presentation.Presentation.{Presentation}
use Rattle.fpl_model.specs.Meaning.{plain, tree_in, in_field}
use Rattle.fpl_model.specs.Sound.{IsSound}
use Rattle.fpl_model.proofs.Plain.{plain-Zero}
use Rattle.fpl_table.specs.Plain.{PlainTable, table_in}
use Rattle.fpl_table.specs.Shape.{basis_trees}
use Rattle.fpl_table.specs.Standard.{IsTableOf, printed_tree}
use Rattle.fpl_table.proofs.PushedTrees.{length-grown}
use Rattle.plain_tables.proofs.Printed.{printed_values}
use Rattle.fpl_forms.specs.declared.term.Term.{Term}
use Rattle.fpl_forms.specs.Forms.{term_expr, sum_expr}
use Rattle.fpl_forms.specs.Laws.{number_at, number_in}
use Rattle.fpl_forms.proofs.Trees.{tree-Sum, tree-Times}
use Rattle.plain_facts.specs.Values.{AreBasis, value_in}

-- a multiple of a place
at_place : (K : Field) (c : K.Carrier) (b : Bool) → K.times c (cond b K.unit K.nought) ≡ (if b then c else K.nought)
at_place K c true = K.times-unit c
at_place K c false = times-nought K c

times_place : (K : Field) (c : K.Carrier) (a i : ℕ) → scale K c (place K a) i ≡ (if nat_eq a i then c else K.nought)
unfolding scale place
times_place K c a i = at_place K c (nat_eq a i)

times_value : (K : Field) (T : Table K) (c : K.Carrier) (e : Expression K) (a i : ℕ) → val K T e ≡ place K a →
    val K T (multiple c e) i ≡ (if nat_eq a i then c else K.nought)
unfolding val
times_value K T c e a i h = ap (λ v. scale K c v i) h ∙ times_place K c a i

more_value : (K : Field) (T : Table K) (e : Expression K) (es : List (Expression K)) (i : ℕ) →
    val K T (sum_all K (e ∷ es)) i ≡ K.plus (val K T e i) (val K T (sum_all K es) i)
unfolding val vplus
more_value K T e es i = refl

end_value : (K : Field) (T : Table K) (i : ℕ) → val K T (sum_all K []) i ≡ K.nought
unfolding val vzero
end_value K T i = refl

module _ (p : Presentation) (T : PlainTable) (sound : IsSound p) (table : IsTableOf p T.weight T) (atoms : List Expr) (are : AreBasis T atoms) where
  atom_tree : (a : ℕ) → a < length atoms → tree_in p.field (get_or atoms a Zero) ≡ printed_tree p T a
  atom_tree a lt =
      ap (in_field p.field) (sym (get_or-map plain atoms a Zero none lt) ∙ ap (λ ts. get_or ts a none) are)

  atom_within : (a : ℕ) → a < length atoms → a < length T.basis
  atom_within a lt =
      let long : length (map plain atoms) ≡ length atoms = length-map atoms plain in
      let same : length (map plain atoms) ≡ length (basis_trees T) = ap length are in
      let size : length (basis_trees T) ≡ 0 + length T.basis = length-grown [] T.basis in
      omega (arith, lt, long, same, size)

  term_value : (t : Term) → t.atom < length atoms → (i : ℕ) → value_in p T (term_expr atoms t) i ≡ number_at p.field i t
  term_value t lt i =
      let K = field_of p.field in
      let V = table_in p.field T in
      let e = get_or atoms t.atom Zero in
      ap (λ x. val K V x i) (tree-Times p.field (residue t.number) e) ∙
      times_value K V (number_of p.field (residue t.number)) (tree_in p.field e) t.atom i
      (ap (val K V) (atom_tree t.atom lt) ∙ printed_values p T.weight T sound table t.atom (atom_within t.atom lt))

  list_value : (ts : List Term) → All (λ t. t.atom < length atoms) ts → (i : ℕ) →
      val (field_of p.field) (table_in p.field T) (sum_all (field_of p.field) (map (tree_in p.field) (map (term_expr atoms) ts))) i ≡ number_in p.field ts i
  list_value [] h i = end_value (field_of p.field) (table_in p.field T) i
  list_value (t ∷ ts) h i =
      let K = field_of p.field in
      more_value K (table_in p.field T) (tree_in p.field (term_expr atoms t)) (map (tree_in p.field) (map (term_expr atoms) ts)) i ∙
      ap₂ K.plus (term_value t (h zero t (omega arith)) i) (list_value ts (λ j d lt. h (suc j) d (omega (arith, lt))) i)

  pub sum_value : (ts : List Term) → All (λ t. t.atom < length atoms) ts → (i : ℕ) → value_in p T (sum_expr atoms ts) i ≡ number_in p.field ts i
  sum_value ts h i =
      ap (λ e. val (field_of p.field) (table_in p.field T) e i) (tree-Sum p.field (map (term_expr atoms) ts)) ∙ list_value ts h i
