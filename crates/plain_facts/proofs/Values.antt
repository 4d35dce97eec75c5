-- The terms of a fact over the basis are the value of the left side of its line, and forms tell whether two values are the same.
use Rattle.std.proofs.Common.{◌≡◌, ◌<◌, ℕ, List, length, map, get_or, refl, ap, sym, subst, ◌∙◌, arith, All}
use Rattle.std.specs.Prelude.{◌↔◌}
use Rattle.std.proofs.Math.Path.{fun_ext}
use Rattle.std.proofs.lemmas.List.{get_or-map, length-map}
use Rattle.std.proofs.lemmas.List.Elements.{All-get_or}
use Rattle.fpl_numbers.specs.declared.number.Kind.{Kind}
use Rattle.fpl_numbers.specs.declared.number.Kind.TheVariants.{Prime}
use Rattle.fpl_numbers.specs.Numbers.{IsListed}
use Rattle.fpl_numbers.specs.Kinds.{field_of}
use Rattle.math_algebra.specs.Tree.{IsOver}
use Rattle.math_algebra.specs.Derives.{Derives}
use Rattle.math_proofs.specs.Rules.{AreLinesOver, line_at, no_line as no_line_at}
use Rattle.math_proofs.proofs.Sound.{lines_derive}
use Rattle.math_theorems.proofs.ValueLaws.{values_respect}
use Rattle.math_theorems.proofs.StandardLaws.{standard_is_built, built_obeys_law}
use Rattle.fpl_model.specs.Meaning.{plain, tree_in, presentation_in}
use Rattle.fpl_model.specs.Sound.{IsSound}
use Rattle.fpl_lines.specs.Meaning.{line_in, IsLine}
use Rattle.fpl_table.specs.Plain.{PlainTable, table_in}
use Rattle.fpl_table.specs.Standard.{IsTableOf, printed_tree}
use Rattle.plain_tables.proofs.Holding.{sound_is_sound}
use Rattle.fpl_why.proofs.Axioms.{term_over}
use Rattle.fpl_forms.specs.Ledgers.{PlainLedger, IsSoundLedger, IsWithin, proof_in, no_line, left_of, right_of}
use Rattle.fpl_forms.specs.declared.term.Term.{Term}
use Rattle.fpl_forms.specs.Laws.{number_in, IsForm}
use Rattle.fpl_forms.proofs.Ledgers.{cited}
use Rattle.fpl_forms.proofs.OneForm.{one_form}
use Rattle.plain_facts.specs.Values.{FactsAreValues, FormsAreValues, value_in}
use Rattle.plain_facts.proofs.Sums.{sum_value}

module _ (L : PlainLedger) (s : IsSoundLedger L) where
  sides_over : AreLinesOver (field_of L.presentation.field) (presentation_in L.presentation) (proof_in L)
  sides_over n lt =
      let k = L.presentation.field in
      let within : n < length L.lines = subst (λ m. n < m) (length-map L.lines (line_in k)) lt in
      let at = get_or-map (line_in k) L.lines n no_line (no_line_at (field_of k)) within in
      let over = All-get_or (IsLine L.presentation) L.lines n no_line within s.over in
      let l = get_or L.lines n no_line in (
        subst (IsOver (presentation_in L.presentation)) (sym (ap (λ l. l.left_side) at)) (term_over L.presentation (plain l.left) over.0),
        subst (IsOver (presentation_in L.presentation)) (sym (ap (λ l. l.right_side) at)) (term_over L.presentation (plain l.right) over.1),
      )

  line_derives : IsSound L.presentation → (n : ℕ) → IsWithin L n →
      Derives (field_of L.presentation.field) (presentation_in L.presentation) (tree_in L.presentation.field (left_of L n))
      (tree_in L.presentation.field (right_of L n))
  line_derives sound n w =
      let k = L.presentation.field in
      let c = cited L n w in
      let lt : c.which < length (proof_in L) = subst (λ m. c.which < m) (sym (length-map L.lines (line_in k))) c.before in
      subst (Derives (field_of k) (presentation_in L.presentation) (tree_in k (left_of L n))) c.its_right
      (subst (λ e. Derives (field_of k) (presentation_in L.presentation) e (line_at (field_of k) (proof_in L) c.which).right_side) c.its_left
      (lines_derive (field_of k) (presentation_in L.presentation) (sound_is_sound L.presentation sound) (proof_in L) sides_over s.proof c.which lt))

pub facts_are_values : FactsAreValues
facts_are_values L T atoms f s sound table are w i =
    let p = L.presentation in
    let K = field_of p.field in
    let P = presentation_in p in
    let V = table_in p.field T in
    let built = standard_is_built K P (sound_is_sound p sound) V (printed_tree p T) table.standard in
    let equal : value_in p T (left_of L f.line) ≡ value_in p T (right_of L f.line) =
    values_respect K P V (built_obeys_law K P (sound_is_sound p sound) V built) (tree_in p.field (left_of L f.line)) (tree_in p.field (right_of L f.line))
    (line_derives L s sound f.line w.within) in
    sym (ap (λ v. v i) equal ∙ ap (λ e. value_in p T e i) w.right ∙
    sum_value p T sound table atoms are f.terms.items (λ j d lt. (w.terms j d lt).0) i)

-- forms with equal numbers of the field of a prime are equal
one_form_in : (k : Kind) (q n : ℕ) (ts us : List Term) → k ≡ Prime q → IsListed q → IsForm q n ts → IsForm q n us →
    ((i : ℕ) → number_in k ts i ≡ number_in k us i) → ts ≡ us
one_form_in k q n ts us e listed f g =
    subst (λ (x : Kind). ((i : ℕ) → number_in x ts i ≡ number_in x us i) → ts ≡ us) (sym e) (one_form q n ts us listed f g)

pub forms_are_values : FormsAreValues
forms_are_values L T atoms f g s sound table are v w form also =
    let k = L.presentation.field in
    let left = facts_are_values L T atoms f s sound table are v in
    let right = facts_are_values L T atoms g s sound table are w in (
      λ e. fun_ext (λ i. sym (left i) ∙ ap (λ ts. number_in k ts i) e ∙ right i),
      λ e. one_form_in k L.prime (length atoms) f.terms.items g.terms.items s.field s.listed form also
          (λ i. left i ∙ ap (λ h. h i) e ∙ sym (right i)),
    )
