-- What a text of the view `why` shows.
use Rattle.std.proofs.Common.{ℕ, suc, ◌<◌, List, [], ◌∷◌, arith}
use Rattle.std.specs.Prelude.{All}
use Rattle.fpl_model.specs.declared.presentation.Presentation.{Presentation}
use Rattle.fpl_model.specs.declared.presentation.Equation.{Equation}
use Rattle.fpl_model.specs.Sound.{IsSound, IsSoundEquation}
use Rattle.fpl_table.specs.Plain.{PlainTable}
use Rattle.fpl_table.specs.Standard.{IsTableOf}
use Rattle.plain_derivations.proofs.Derived.{accepted_lines_derive}
use Rattle.fpl_reasons.specs.declared.why.Reason.{Reason}
use Rattle.fpl_reasons.specs.Why.{IsReason, AreReasons, ShowsReason, ShowReasons, WhyTextsShow}
use Rattle.fpl_reasons.specs.Why.IsReason.{is_beyond_limit, is_different, is_proved}
use Rattle.fpl_reasons.specs.Why.ShowsReason.{shows_beyond, shows_different, shows_proof}
use Rattle.fpl_queries.proofs.Within.{one_value}

module _ (p : Presentation) (T : PlainTable) (sound : IsSound p) (table : IsTableOf p T.weight T) where
  shown : (q : Equation) → IsSoundEquation p q → (r : Reason) → IsReason p T q r → ShowsReason p T q r
  shown q s _ (is_beyond_limit b) = shows_beyond b
  shown q s _ (is_different near differ) = shows_different near (λ e. differ ((one_value p T q s table near).1 e))
  shown q s _ (is_proved near one ls proof) =
      shows_proof near ((one_value p T q s table near).0 one) ls proof (accepted_lines_derive p ls sound proof.over proof.accepted)

  all_shown : (qs : List Equation) → All (IsSoundEquation p) qs → (rs : List Reason) → AreReasons p T qs rs → ShowReasons p T qs rs
  all_shown [] s [] h = h
  all_shown [] s (r ∷ rs) h = h
  all_shown (q ∷ qs) s [] h = h
  all_shown (q ∷ qs) s (r ∷ rs) h = (shown q (s 0 q (omega arith)) r h.0, all_shown qs (λ j d l. s (suc j) d (omega (arith, l))) rs h.1)

pub why_texts_show : WhyTextsShow
why_texts_show p T text sound table h = (h.0, all_shown p T sound table p.queries sound.queries h.0 h.1, h.2)
