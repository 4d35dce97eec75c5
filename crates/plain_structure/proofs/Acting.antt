-- The brackets with the basis elements that act are enough: for the centre, for the next term, and for rounds that find an ideal.
use Rattle.std.specs.Prelude.{◌≡◌, ℕ, suc, ◌<◌, ◌↔◌, true}
use mathlib.Core.Path.{sym, refl, ap, ◌∙◌, subst}
use Rattle.math_fields.specs.Field.{Field}
use Rattle.math_linear.specs.Vector.{Vector, place}
use Rattle.math_linear.specs.Span.{Spanned, InSpan, IsRowOf}
use Rattle.math_linear.specs.Span.Spanned.{span_kind}
use Rattle.math_linear.specs.Kernel.{IsSolution}
use Rattle.math_linear.proofs.Kernel.{same_solutions}
use Rattle.math_linear.proofs.Span.{spanned_more}
use Rattle.math_algebra.specs.Tree.{Presentation as Abstract}
use Rattle.math_algebra.specs.Degrees.{IsSoundPresentation}
use Rattle.math_algebra.specs.Table.{Table, Symbol, of_generator, of_pair, bracket, ObeysLaw}
use Rattle.math_theorems.proofs.StandardLaws.{built_obeys_law}
use Rattle.math_structure.specs.Structure.{IsCentral, term, InIdeal}
use Rattle.math_structure.specs.Laws.{centre_row, IsCentreRow, IsUnitBracket}
use Rattle.math_structure.proofs.Centre.{the_centre_is_kernel}
use Rattle.math_structure.proofs.Series.{term_by_rows}
use Rattle.math_structure.proofs.Rounds.{ideal_by_rounds}
use Rattle.math_generators.specs.Generated.{IsGenerator, IsGenerated, IsGeneratorUnit, IsGeneratorRow}
use Rattle.math_generators.proofs.Built.{built_is_generated}
use Rattle.math_generators.proofs.Suffice.{stays, term_by_generator_rows}
use Rattle.math_generators.proofs.Rows.{centre_is_kernel_of, ideal_by_generator_rounds}
use Rattle.fpl_numbers.specs.declared.number.Kind.{Kind}
use Rattle.fpl_numbers.specs.declared.number.Kind.TheVariants.{Rational, Prime}
use Rattle.fpl_numbers.specs.Kinds.{Number, field_of}
use Rattle.fpl_model.specs.declared.presentation.Presentation.{Presentation}
use Rattle.fpl_model.specs.Meaning.{presentation_in}
use Rattle.fpl_table.specs.Plain.{PlainTable, plain_basis, table_in}
use Rattle.plain_tables.specs.Holds.{Holds}
use Rattle.plain_tables.proofs.Holding.{sound_is_sound}
use Rattle.plain_structure.specs.Plain.{size, is_generator, acts_in, acts}

-- the bracket of a basis element that acts and one of n rows
abbrev pub IsActing : (k : Kind) → PlainTable → ℕ → (ℕ → Vector (field_of k)) → Vector (field_of k) → Type 0
IsActing k T n row v =
    (i j : ℕ) × (i < size T) × (acts T i ≡ true) × (j < n) × (v ≡ bracket (field_of k) (table_in k T) (place (field_of k) i) (row j))

-- the rows of the centre for those that act
abbrev pub IsActingRow : (k : Kind) → PlainTable → Vector (field_of k) → Type 0
IsActingRow k T u = (j t : ℕ) × (j < size T) × (acts T j ≡ true) × (t < size T) × (u ≡ centre_row (field_of k) (table_in k T) j t)

pub record IsEnough (k : Kind) (T : PlainTable) : Type 0 where
  pub centre : (z : Vector (field_of k)) → IsCentral (field_of k) (table_in k T) z ↔ IsSolution (field_of k) (size T) (IsActingRow k T) z
  pub terms : (i n : ℕ) (row : ℕ → Vector (field_of k)) →
      ((v : Vector (field_of k)) → InSpan (field_of k) n row v ↔ term (field_of k) (table_in k T) i v) →
      (v : Vector (field_of k)) → Spanned (field_of k) (IsActing k T n row) v ↔ term (field_of k) (table_in k T) (suc i) v
  pub rounds : (m : ℕ) (start : ℕ → Vector (field_of k)) (n : ℕ) (row : ℕ → Vector (field_of k)) →
      ((i : ℕ) → i < m → InSpan (field_of k) n row (start i)) →
      ((i : ℕ) → i < n → InIdeal (field_of k) (table_in k T) (IsRowOf (field_of k) m start) (row i)) →
      ((v : Vector (field_of k)) → IsActing k T n row v → InSpan (field_of k) n row v) →
      (v : Vector (field_of k)) → InSpan (field_of k) n row v ↔ InIdeal (field_of k) (table_in k T) (IsRowOf (field_of k) m start) v

-- two kinds of rows that span each other have the same solutions, and span the same
solved_by : (K : Field) (n : ℕ) (C : Vector K → Type 0) (S S' : Vector K → Type 0) → ((u : Vector K) → S u → S' u) → ((u : Vector K) → S' u → S u) →
    (z : Vector K) → C z ↔ IsSolution K n S z → C z ↔ IsSolution K n S' z
solved_by K n C S S' to from z h = (
  (λ c. same_solutions K n S S' (λ u s. span_kind u (from u s)) z (h.0 c)),
  (λ s. h.1 (same_solutions K n S' S (λ u r. span_kind u (to u r)) z s)),
)

spanned_by : (K : Field) (C : Vector K → Type 0) (S S' : Vector K → Type 0) → ((u : Vector K) → S u → S' u) → ((u : Vector K) → S' u → S u) →
    (v : Vector K) → Spanned K S v ↔ C v → Spanned K S' v ↔ C v
spanned_by K C S S' to from v h = ((λ s. h.0 (spanned_more K S' S from v s)), (λ c. spanned_more K S S' to v (h.1 c)))

module _ (T : PlainTable) where
  all_act : T.kind ≡ Rational → (i : ℕ) → acts T i ≡ true
  all_act e i = ap (λ k. acts_in k (plain_basis T i).symbol) e

  generator_of : (x : Symbol) → is_generator x ≡ true → (g : ℕ) × (x ≡ of_generator g)
  generator_of (of_generator g) e = (g, refl)
  generator_of (of_pair i j) e = absurd (let k : ⊥ = cc in k)

  module _ (n : ℕ) (e : T.kind ≡ Prime n) where
    acting_is : (k : Kind) (i : ℕ) → acts T i ≡ true → IsGenerator {K = field_of k} (table_in k T) i
    acting_is k i h = generator_of (plain_basis T i).symbol (sym (ap (λ k. acts_in k (plain_basis T i).symbol) e) ∙ h)

    generators_act : (k : Kind) (i : ℕ) → IsGenerator {K = field_of k} (table_in k T) i → acts T i ≡ true
    generators_act k i g = ap (λ k. acts_in k (plain_basis T i).symbol) e ∙ ap is_generator g.1

module _ (p : Presentation) (T : PlainTable) (holds : Holds p T) where
  abbrev F : Field
  F = field_of p.field

  abbrev P : Abstract (Number p.field)
  P = presentation_in p

  abbrev over : Table (field_of p.field)
  over = table_in p.field T

  sound : IsSoundPresentation (presentation_in p)
  sound = sound_is_sound p holds.sound

  law : ObeysLaw (field_of p.field) (presentation_in p) (table_in p.field T)
  law = built_obeys_law (field_of p.field) (presentation_in p) sound (table_in p.field T) holds.built

  generated : IsGenerated (field_of p.field) (table_in p.field T)
  generated = built_is_generated (field_of p.field) (presentation_in p) sound (table_in p.field T) holds.built

  enough_by : (kind : Kind) → T.kind ≡ kind → IsEnough p.field T
  enough_by Rational e = record {
    centre = λ z.
        solved_by F (size T) (IsCentral F over) (IsCentreRow F over) (IsActingRow p.field T) (λ u r. (r.0, r.1, r.2, all_act T e r.0, r.3, r.4))
        (λ u r. (r.0, r.1, r.2, r.4, r.5)) z (the_centre_is_kernel F over (stays F P over law generated) z);
    terms = λ i n row h v.
        spanned_by F (term F over (suc i)) (IsUnitBracket F over n row) (IsActing p.field T n row) (λ u r. (r.0, r.1, r.2, all_act T e r.0, r.3, r.4))
        (λ u r. (r.0, r.1, r.2, r.4, r.5)) v (term_by_rows F over i n row h v);
    rounds = λ m start n row holding inside stay v.
        ideal_by_rounds F over m start n row holding inside (λ u r. stay u (r.0, r.1, r.2, all_act T e r.0, r.3, r.4)) v;
  }
  enough_by (Prime n) e = record {
    centre = λ z.
        solved_by F (size T) (IsCentral F over) (IsGeneratorRow F over) (IsActingRow p.field T)
        (λ u r. (r.0, r.1, r.2, generators_act T n e p.field r.0 r.3, r.4, r.5)) (λ u r. (r.0, r.1, r.2, acting_is T n e p.field r.0 r.3, r.4, r.5)) z
        (centre_is_kernel_of F P over law generated z);
    terms = λ i m row h v.
        spanned_by F (term F over (suc i)) (IsGeneratorUnit F over m row) (IsActing p.field T m row)
        (λ u r. (r.0, r.1, r.2, generators_act T n e p.field r.0 r.3, r.4, r.5)) (λ u r. (r.0, r.1, r.2, acting_is T n e p.field r.0 r.3, r.4, r.5)) v
        (term_by_generator_rows F P over law generated i m row h v);
    rounds = λ m start q row holding inside stay v.
        ideal_by_generator_rounds F P over law generated m start q row holding inside
        (λ u r. stay u (r.0, r.1, r.2, generators_act T n e p.field r.0 r.3, r.4, r.5)) v;
  }

  pub is_enough : IsEnough T.kind T
  is_enough = subst (λ k. IsEnough k T) (sym holds.kind) (enough_by T.kind refl)
