-- The atoms over a known basis: how many there are, their trees and their parities.
use Rattle.std.proofs.Common.{◌≡◌, ◌<◌, ◌≤◌, ◌+◌, ◌-◌, ℕ, suc, List, [], length, map, get_or, refl, ap, sym, subst, ◌∙◌, arith}
use Rattle.std.proofs.lemmas.Option.{slice_get_read}
use Rattle.std.proofs.lemmas.List.{get_or-map, length-map}
use Rattle.std.proofs.lemmas.List.Elements.{All-get_or}
use Rattle.fpl_numbers.specs.Kinds.{field_of}
use Rattle.math_algebra.specs.Tree.{none}
use Rattle.math_algebra.specs.Degrees.{HasParity}
use Rattle.math_algebra.proofs.Equations.{sound_homogeneous}
use Rattle.math_standard.proofs.BuiltFacts.{Whole, built_whole}
use Rattle.fpl_model.specs.declared.expr.Expr.{Expr}
use Rattle.fpl_model.specs.declared.expr.Expr.TheVariants.{Zero}
use Rattle.fpl_model.specs.Meaning.{plain, tree_in, in_field, presentation_in}
use Rattle.fpl_table.specs.declared.symbol.Basis as code
use Rattle.fpl_table.specs.Plain.{basis_in, plain_basis, table_in}
use Rattle.fpl_table.specs.Shape.{basis_trees}
use Rattle.fpl_table.specs.Standard.{printed_tree}
use Rattle.fpl_table.proofs.PushedTrees.{length-grown}
use Rattle.plain_tables.proofs.Holding.{sound_is_sound}
use Rattle.plain_tables.proofs.Trees.{tree_printed}
use Rattle.fpl_numbers.specs.Numbers.{IsListed}
use Rattle.fpl_forms.specs.declared.term.Term.{Term}
use Rattle.fpl_forms.specs.declared.term.Fact.{Fact}
use Rattle.fpl_forms.specs.Ledgers.{PlainLedger, IsExpr, left_of}
use Rattle.fpl_forms.specs.Combining.{multiplied}
use Rattle.fpl_forms.specs.Laws.{IsForm}
use Rattle.fpl_forms.proofs.Values.{multiplied_is_form}
use Rattle.fpl_facts.proofs.Copies.{same_work}
use Rattle.fpl_facts.specs.Axioms.{HasParityIn}
use Rattle.fpl_table_facts.specs.declared.known.Level.{Level}
use Rattle.fpl_table_facts.specs.declared.known.Known.{Known}
use Rattle.fpl_table_facts.specs.Known.{IsKnown, IsLevel, IsFormOf}

module _ {L : PlainLedger} {k : Known} (h : IsKnown L k) where
  pub basis_length : length k.basis.items ≡ length k.table.basis
  basis_length =
      let long : length (map plain k.basis.items) ≡ length k.basis.items = length-map k.basis.items plain in
      let same : length (map plain k.basis.items) ≡ length (basis_trees k.table) = ap length h.basis in
      let size : length (basis_trees k.table) ≡ 0 + length k.table.basis = length-grown [] k.table.basis in
      omega (arith, long, same, size)

  pub atom_over : (i : ℕ) → i < length k.basis.items → IsExpr L.presentation (get_or k.basis.items i Zero)
  atom_over i lt = All-get_or (IsExpr L.presentation) k.basis.items i Zero lt h.over

  pub atom_tree : (i : ℕ) → i < length k.basis.items → tree_in L.presentation.field (get_or k.basis.items i Zero) ≡ printed_tree L.presentation k.table i
  atom_tree i lt =
      ap (in_field L.presentation.field) (sym (get_or-map plain k.basis.items i Zero none lt) ∙ ap (λ ts. get_or ts i none) h.basis)

  -- what is so of a built table
  pub whole : Whole (field_of L.presentation.field) (presentation_in L.presentation) (table_in L.presentation.field k.table)
  whole = built_whole (field_of L.presentation.field) (presentation_in L.presentation)
      (sound_homogeneous (presentation_in L.presentation) (sound_is_sound L.presentation h.holds.sound))
      (table_in L.presentation.field k.table) h.holds.built

  pub atom_parity : (i : ℕ) → i < length k.basis.items → (b : code.Basis) → basis_in b ≡ plain_basis k.table i →
      HasParityIn L.presentation (get_or k.basis.items i Zero) b.parity
  atom_parity i lt b is =
      let p = L.presentation in
      let within : i < length k.table.basis = (let e = basis_length in omega (arith, lt, e)) in
      let tree : whole.tree i ≡ tree_in p.field (get_or k.basis.items i Zero) =
      tree_printed p.field (presentation_in p) (table_in p.field k.table) whole.tree whole.standard i within ∙ sym (atom_tree i lt) in
      subst (HasParity (presentation_in p) (tree_in p.field (get_or k.basis.items i Zero))) (sym (ap (λ b. b.parity) is))
      (subst (λ e. HasParity (presentation_in p) e (plain_basis k.table i).parity) tree (whole.facts.tree_parity i within))

  pub basis_small : length k.basis.items ≤ 2000000000
  basis_small = let e = basis_length in let s = h.holds.shape.small in let w = h.holds.shape.weight in omega (arith, e, s, w)

  pub level_at : (w : ℕ) (l : Level) → 1 ≤ w → w ≤ k.table.weight → l ≡ get_or k.levels.items (w - 1) l → IsLevel L k.table k.basis.items w l
  level_at w l from to is =
      let count = h.count in
      let lt : w - 1 < length k.levels.items = omega (arith, from, to, count) in
      let here : suc (w - 1) ≡ w = omega (arith, from) in
      subst (λ v. IsLevel L k.table k.basis.items v l) here
      (h.levels (w - 1) l (slice_get_read k.levels.items (length k.levels.items) (w - 1) l refl lt is))

  pub weight_positive : (i : ℕ) → i < length k.basis.items → 1 ≤ (plain_basis k.table i).weight
  weight_positive i lt = h.holds.shape.heavy i (let e = basis_length in omega (arith, lt, e))

-- one form in two places
pub same_form : {L : PlainLedger} {atoms : List Expr} {e : Expr} {f g : Fact} → f.line ≡ g.line → f.terms.items ≡ g.terms.items →
    IsFormOf L atoms e g → IsFormOf L atoms e f
same_form {L} {atoms} {e} line terms a = record {
  fact = record { work = same_work line terms a.fact.work; left = ap (left_of L) line ∙ a.fact.left };
  form = subst (IsForm L.prime (length atoms)) (sym terms) a.form;
}

-- no terms, and those of a form times a number
pub none_form : (q n : ℕ) → IsForm q n []
none_form q n = record { terms = λ i d lt. absurd (omega (arith, lt)); ascending = tt; not_nought = λ i d lt. absurd (omega (arith, lt)) }

pub multiplied_form : (q n c : ℕ) (ts : List Term) → IsListed q → c < q → IsForm q n ts → IsForm q n (multiplied q c ts)
multiplied_form q n c ts listed lt form =
    let m = multiplied_is_form q n c ts listed lt form.terms in
    record { terms = m.0; ascending = m.1 form.ascending; not_nought = m.2 }
