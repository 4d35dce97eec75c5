-- The weights of the atoms in the form of an expression.
use Rattle.std.proofs.Common.{◌≡◌, ◌≢◌, ◌<◌, ◌≤◌, ◌+◌, inl, inr, ℕ, zero, suc, List, [], ◌∷◌, Bool, true, false, nat_eq, if◌then◌else◌, length, get_or, refl, ap, ap₂, sym, subst, ◌∙◌, arith, All}
use Rattle.math_fields.specs.Field.{Field}
use Rattle.math_linear.specs.Vector.{Vector, vzero}
use Rattle.math_linear.proofs.Numbers.{nought-plus}
use Rattle.fpl_numbers.specs.declared.number.Kind.{Kind}
use Rattle.fpl_numbers.specs.declared.number.Kind.TheVariants.{Prime}
use Rattle.fpl_numbers.specs.Numbers.{IsListed, residue, residue_of}
use Rattle.fpl_numbers.specs.Kinds.{Number, field_of, number_of}
use Rattle.fpl_numbers.proofs.KindReads.{kind_reads}
use Rattle.math_algebra.specs.Degrees.{Degree, any, exact}
use Rattle.math_algebra.specs.Table.{IsOf}
use Rattle.math_algebra.proofs.Degrees.{WeightMeans, weight_means}
use Rattle.math_values.proofs.Parts.{void_val}
use Rattle.math_values.proofs.Relations.{val_of}
use Rattle.fpl_model.specs.declared.expr.Expr.{Expr}
use Rattle.fpl_model.specs.declared.presentation.Presentation.{Presentation}
use Rattle.fpl_model.specs.Meaning.{plain, tree_in, presentation_in}
use Rattle.fpl_table.specs.Plain.{plain_basis, table_in}
use Rattle.plain_tables.proofs.Holding.{held_is_table}
use Rattle.fpl_why.proofs.Axioms.{term_over}
use Rattle.fpl_forms.specs.declared.term.Term.{Term}
use Rattle.fpl_forms.specs.declared.term.Fact.{Fact}
use Rattle.fpl_forms.specs.Ledgers.{PlainLedger, IsSoundLedger, IsExpr}
use Rattle.fpl_forms.specs.Laws.{number_at, number_in, IsAscending, IsForm}
use Rattle.fpl_forms.proofs.Next.{element, nought_is}
use Rattle.fpl_forms.proofs.Gathering.{first_of, others_of}
use Rattle.fpl_facts.specs.Facts.{IsFact}
use Rattle.plain_facts.specs.Values.{value_in}
use Rattle.plain_facts.proofs.Values.{facts_are_values}
use Rattle.fpl_table_facts.specs.declared.known.Known.{Known}
use Rattle.fpl_table_facts.specs.Known.{IsKnown, IsFormOf, weight_in}
use Rattle.fpl_table_facts.proofs.Levels.{whole}
use Rattle.fpl_table_facts.proofs.Reached.{AreBoth}

module _ (q : ℕ) (listed : IsListed q) where
  abbrev K : Field
  K = field_of (Prime q)

  abbrev as_number : ℕ → Number (Prime q)
  as_number c = number_of (Prime q) (residue c)

  none : (a : ℕ) → a < q → as_number a ≡ K.nought → a ≡ 0
  none a h e =
      ap residue_of
      ((kind_reads (Prime q) listed).apart (residue a) (residue 0) (element (Prime q) q refl listed a h)
      (element (Prime q) q refl listed 0 (omega (arith, h))) (e ∙ sym (nought_is (Prime q) q refl listed)))

  own : (t : Term) → number_at (Prime q) t.atom t ≡ as_number t.number
  own t = let e : nat_eq t.atom t.atom ≡ true = grind arith in ap (λ (b : Bool). if b then as_number t.number else K.nought) e

  before : (t : Term) (i : ℕ) → i < t.atom → number_at (Prime q) i t ≡ K.nought
  before t i lt = let e : nat_eq t.atom i ≡ false = grind (arith, lt) in ap (λ (b : Bool). if b then as_number t.number else K.nought) e

  after : (t : Term) (i : ℕ) → t.atom < i → number_at (Prime q) i t ≡ K.nought
  after t i lt = let e : nat_eq t.atom i ≡ false = grind (arith, lt) in ap (λ (b : Bool). if b then as_number t.number else K.nought) e

  past : (ts : List Term) (i : ℕ) → All (λ s. i < s.atom) ts → number_in (Prime q) ts i ≡ K.nought
  past [] i h = refl
  past (t ∷ ts) i h =
      ap₂ K.plus (before t i (first_of (λ s. i < s.atom) t ts h)) (past ts i (others_of (λ s. i < s.atom) t ts h)) ∙ K.plus-nought K.nought

  -- each atom of a form has the number of its term
  own_numbers : (ts : List Term) → IsAscending ts → All (λ t. number_in (Prime q) ts t.atom ≡ as_number t.number) ts
  own_numbers [] h i d lt = absurd (omega (arith, lt))
  own_numbers (t ∷ ts) h zero d lt = ap₂ K.plus (own t) (past ts t.atom h.0) ∙ K.plus-nought (as_number t.number)
  own_numbers (t ∷ ts) h (suc i) d lt =
      let l : i < length ts = omega (arith, lt) in
      let s = get_or ts i d in
      ap₂ K.plus (after t s.atom (h.0 i d l)) (own_numbers ts h.1 i d l) ∙ nought-plus K (as_number s.number)

  some_numbers : (n : ℕ) (ts : List Term) → IsForm q n ts → All (λ t. number_in (Prime q) ts t.atom ≢ K.nought) ts
  some_numbers n ts h i d lt e =
      h.not_nought i d lt (none (get_or ts i d).number (h.terms i d lt).1 (sym (own_numbers ts h.ascending i d lt) ∙ e))

some_numbers_in : (k : Kind) (q : ℕ) → k ≡ Prime q → IsListed q → (n : ℕ) (ts : List Term) → IsForm q n ts →
    All (λ t. number_in k ts t.atom ≢ (field_of k).nought) ts
some_numbers_in k q is listed n ts h =
    subst (λ k. All (λ t. number_in k ts t.atom ≢ (field_of k).nought) ts) (sym is) (some_numbers q listed n ts h)

module _ (L : PlainLedger) (s : IsSoundLedger L) (k : Known) (h : IsKnown L k) where
  abbrev p : Presentation
  p = L.presentation

  -- the numbers of a fact are the value
  pub fact_numbers : (e : Expr) (f : Fact) → IsFact L k.basis.items e f → (i : ℕ) → number_in p.field f.terms.items i ≡ value_in p k.table e i
  fact_numbers e f a i =
      facts_are_values L k.table k.basis.items f s h.holds.sound (held_is_table p k.table h.holds) h.basis a.work i ∙
      ap (λ e. value_in p k.table e i) a.left

  means : (e : Expr) → IsExpr p e → (d : Degree ℕ) → weight_in p e ≡ d → WeightMeans (presentation_in p) d (tree_in p.field e)
  means e over d is =
      subst (λ d. WeightMeans (presentation_in p) d (tree_in p.field e)) is (weight_means (presentation_in p) (term_over p (plain e) over))

  value_of_weight : (e : Expr) → IsExpr p e → (w : ℕ) → weight_in p e ≡ exact w → IsOf (field_of p.field) (table_in p.field k.table) w (value_in p k.table e)
  value_of_weight e over w is =
      let facts = (whole h).facts in
      val_of (field_of p.field) (table_in p.field k.table) (presentation_in p) facts.image_of facts.entry_of (means e over (exact w) is)

  weights_by : (w n : ℕ) (v : Vector (field_of p.field)) → IsOf (field_of p.field) (table_in p.field k.table) w v → (ts : List Term) → IsForm L.prime n ts →
      ((i : ℕ) → number_in p.field ts i ≡ v i) → All (λ t. (plain_basis k.table t.atom).weight ≡ w) ts
  weights_by w n v of ts form is i d lt =
      let t = get_or ts i d in
      elim (of t.atom) [
        | inl e ↦ absurd (some_numbers_in p.field L.prime s.field s.listed n ts form i d lt (is t.atom ∙ e))
        | inr f ↦ f.1
      ]

  -- the atoms in the form of an expression of weight w are of weight w
  pub form_weights : (e : Expr) (f : Fact) (w : ℕ) → IsExpr p e → IsFormOf L k.basis.items e f → weight_in p e ≡ exact w →
      All (λ t. (plain_basis k.table t.atom).weight ≡ w) f.terms.items
  form_weights e f w over a is =
      weights_by w (length k.basis.items) (value_in p k.table e) (value_of_weight e over w is) f.terms.items a.form (fact_numbers e f a.fact)

  none_by : (n : ℕ) (ts : List Term) → IsForm L.prime n ts → ((i : ℕ) → number_in p.field ts i ≡ (field_of p.field).nought) → ts ≡ []
  none_by n [] form is = refl
  none_by n (t ∷ ts) form is = absurd (some_numbers_in p.field L.prime s.field s.listed n (t ∷ ts) form zero t (omega arith) (is t.atom))

  value_void : (e : Expr) → IsExpr p e → weight_in p e ≡ any → (i : ℕ) → value_in p k.table e i ≡ (field_of p.field).nought
  unfolding vzero
  value_void e over is i = ap (λ v. v i) (void_val (field_of p.field) (table_in p.field k.table) (means e over any is))

  -- an expression with no weight has no terms
  pub void_terms : (e : Expr) (f : Fact) → IsExpr p e → IsFormOf L k.basis.items e f → weight_in p e ≡ any → f.terms.items ≡ []
  void_terms e f over a is =
      none_by (length k.basis.items) f.terms.items a.form (λ i. fact_numbers e f a.fact i ∙ value_void e over is i)

  pub pair_weights : (a b : Expr) (x y : Fact) → IsExpr p a → IsExpr p b → IsFormOf L k.basis.items a x → IsFormOf L k.basis.items b y →
      AreBoth k.table.weight (weight_in p a) (weight_in p b) →
      All (λ s. All (λ t. (plain_basis k.table s.atom).weight + (plain_basis k.table t.atom).weight ≤ k.table.weight) y.terms.items) x.terms.items
  pair_weights a b x y first second u v both i d lt j e l =
      let left = form_weights a x both.left first u both.is_left i d lt in
      let right = form_weights b y both.right second v both.is_right j e l in
      let sum = both.sum in
      omega (arith, left, right, sum)
