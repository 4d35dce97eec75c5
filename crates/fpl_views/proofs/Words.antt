-- The text of the view `envelope` shows the words and products of the enveloping superalgebra.
use Rattle.std.specs.Prelude.{◌≡◌, ℕ, List, Option, Some, None, Ok, Err}
use mathlib.Core.Path.{refl, sym, ◌∙◌, subst}
use Rattle.fpl_numbers.specs.declared.number.Kind.{Kind}
use Rattle.fpl_numbers.specs.declared.number.Kind.TheVariants.{Rational, Prime}
use Rattle.fpl_numbers.specs.declared.number.Unfit.{Unfit}
use Rattle.fpl_log.specs.declared.section.Section.{Section}
use Rattle.fpl_model.specs.declared.presentation.Presentation.{Presentation}
use Rattle.fpl_model.specs.Sound.{IsSound}
use Rattle.fpl_table.specs.Plain.{PlainTable, table_in}
use Rattle.fpl_table.specs.Shape.{HasShape}
use Rattle.fpl_table.specs.Standard.{IsTableOf}
use Rattle.plain_envelope.specs.Listing.{word_limit}
use Rattle.fpl_envelope.specs.Action.{IsEnveloped}
use Rattle.fpl_envelope_text.specs.Plain.{envelope_text}
use Rattle.fpl_envelope_text.specs.Shows.{ShowsEnvelope}
use Rattle.fpl_envelope_text.proofs.Enveloped.{enveloped}
use Rattle.fpl_envelope_text.proofs.Shown.{envelope_shows}
use Rattle.fpl_reply.specs.declared.view_fault.ViewFault.TheVariants.{Overflow}
use Rattle.fpl_views.specs.Envelope.{or_limit, text_of_envelope}
use Rattle.fpl_views.specs.Laws.{IsMadeOf}

-- a kind that isn't that of the fractions has a prime
pub prime_of : (k : Kind) → (k ≡ Rational → ⊥) → (n : ℕ) × (k ≡ Prime n)
prime_of Rational h = absurd (h refl)
prime_of (Prime n) h = (n, refl)

pub over_prime : (p : Presentation) (T : PlainTable) → IsSound p → IsTableOf p T.weight T → HasShape T → (T.kind ≡ Rational → ⊥) → IsEnveloped T
over_prime p T sound standard shape h = let n = prime_of T.kind h in enveloped p T.weight T n.0 sound standard shape n.1

given : (found : Option (ℕ × ℕ)) (whole text : List ℕ) → or_limit found whole ≡ Ok text → whole ≡ text
given None whole text e = cc
given (Some found) whole text e = absurd cc

pub shows_envelope : (entries : ℕ) (p : Presentation) (T : PlainTable) (sections : List Section) (text : List ℕ) → IsSound p → IsMadeOf p T sections →
    (p.field ≡ Rational → ⊥) → text_of_envelope entries T ≡ Ok text → ShowsEnvelope T text
shows_envelope entries p T sections text sound made h e =
    subst (ShowsEnvelope T) (given (word_limit (table_in T.kind T) entries T.weight) (envelope_text T) text e)
    (envelope_shows T (over_prime p T sound made.standard made.shape (λ r. h (sym made.standard.kind ∙ r))) made.shape)

no_overflow : (found : Option (ℕ × ℕ)) (whole : List ℕ) (u : Unfit) → or_limit found whole ≡ Err (Overflow u) → ⊥
no_overflow None whole u e = cc
no_overflow (Some found) whole u e = cc

pub envelope_fits : (entries : ℕ) (T : PlainTable) (u : Unfit) → text_of_envelope entries T ≡ Err (Overflow u) → ⊥
envelope_fits entries T u e = no_overflow (word_limit (table_in T.kind T) entries T.weight) (envelope_text T) u e
