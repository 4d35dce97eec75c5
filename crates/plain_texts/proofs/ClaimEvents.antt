-- Expressions declare nothing, and lists of claims take one more.
use Rattle.std.proofs.Common.{◌≡◌, ◌≢◌, ℕ, ◌+◌, List, [], ◌∷◌, ◌++◌, Bool, true, false, if◌then◌else◌, refl, ap, ap₂, sym, ◌∙◌, append_assoc}
use Rattle.std.specs.Prelude.{None, Some}
use Rattle.std.specs.declared.option.Option.{Option}
use Rattle.math_algebra.specs.Degrees.{Degree, any, exact, mixed}
use Rattle.fpl_model.specs.declared.expr.Expr.{Expr}
use Rattle.fpl_model.specs.declared.presentation.Equation.{Equation}
use Rattle.fpl_model.specs.Meaning.{plain}
use Rattle.fpl_syntax.specs.declared.expression.Scale.{Scale}
use Rattle.fpl_syntax.specs.declared.expression.Scale.TheVariants.{One, Whole, Quotient}
use Rattle.fpl_syntax.specs.Grammar.{Sum, sum, Terms, end, further, term, Factor, name, zero as nought, bracket, group}
use Rattle.fpl_reader.specs.declared.survey.Event.{Event}
use Rattle.fpl_reader.specs.Events.{events_scale, events_sum, events_terms, events_factor, fields_in, field_in, declared_in}
use Rattle.fpl_reader.specs.Reading.{lefts, is_mixed}
use Rattle.plain_texts.proofs.Trees.{expression_of_tree, back}
use Rattle.plain_texts.proofs.Spelled.{place}
use Rattle.fpl_reader.proofs.DeclaredNames.{declared_in-append}

-- nothing is declared in an expression

pub fields_in-append : (es fs : List Event) → fields_in (es ++ fs) ≡ fields_in es ++ fields_in fs
fields_in-append [] fs = refl
fields_in-append (e ∷ es) fs = ap (λ x. field_in e ++ x) (fields_in-append es fs) ∙ sym (append_assoc (field_in e) (fields_in es) (fields_in fs))

abbrev pub IsQuiet : List Event → Type 0
IsQuiet es = (fields_in es ≡ []) × (declared_in es ≡ [])

pub quiet_both : (es fs : List Event) → IsQuiet es → IsQuiet fs → IsQuiet (es ++ fs)
quiet_both es fs h k = (fields_in-append es fs ∙ ap₂ (λ x y. x ++ y) h.0 k.0, declared_in-append es fs ∙ ap₂ (λ x y. x ++ y) h.1 k.1)

quiet_scale : (scale : Scale) → IsQuiet (events_scale scale)
quiet_scale One = (refl, refl)
quiet_scale (Whole n) = (refl, refl)
quiet_scale (Quotient n d) = (refl, refl)

mutual
  pub quiet_sum : (s : Sum) → IsQuiet (events_sum s)
  quiet_sum (sum plus (term negative scale f) ts) = quiet_both (events_scale scale) _ (quiet_scale scale)
      (quiet_both (events_factor f) (events_terms ts) (quiet_factor f) (quiet_terms ts))

  quiet_terms : (ts : Terms) → IsQuiet (events_terms ts)
  quiet_terms end = (refl, refl)
  quiet_terms (further (term negative scale f) ts) = quiet_both (events_scale scale) _ (quiet_scale scale)
      (quiet_both (events_factor f) (events_terms ts) (quiet_factor f) (quiet_terms ts))

  quiet_factor : (f : Factor) → IsQuiet (events_factor f)
  quiet_factor (name w) = (refl, refl)
  quiet_factor (nought place) = (refl, refl)
  quiet_factor (bracket a b) = quiet_both (events_sum a) (events_sum b) (quiet_sum a) (quiet_sum b)
  quiet_factor (group a) = quiet_sum a

-- an expression is determined by its tree
pub same_tree : (x y : Expr) → plain x ≡ plain y → x ≡ y
same_tree x y h = sym (back x) ∙ ap expression_of_tree h ∙ back y

pub unmixed : {A : Type 0} (d : Degree A) → d ≢ mixed → is_mixed d ≡ false
unmixed any h = refl
unmixed (exact a) h = refl
unmixed mixed h = absurd (h refl)

pub no_place : (t : Bool) (place : ℕ) → t ≡ false → (◌≡◌ {A = Option ℕ} (if t then Some place else None) None)
no_place true place e = cc
no_place false place e = refl

abbrev pub cons_if : {A : Type 0} → Bool → A → List A → List A
cons_if b x xs = if b then x ∷ xs else xs

pub lefts_cons : (b : Bool) (q : Equation) (qs : List Equation) → lefts (cons_if b q qs) ≡ cons_if b q.left (lefts qs)
lefts_cons true q qs = refl
lefts_cons false q qs = refl
