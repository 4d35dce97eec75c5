-- Reasons, one after another.
use Rattle.std.proofs.Common.{◌≡◌, ℕ, suc, ◌<◌, ◌+◌, List, [], ◌∷◌, ◌++◌, length, take, get_or, sym, subst, ap, ◌∙◌, arith}
use Rattle.std.proofs.Math.Seq.{take-suc}
use Rattle.fpl_model.specs.declared.presentation.Presentation.{Presentation}
use Rattle.fpl_model.specs.declared.presentation.Equation.{Equation}
use Rattle.fpl_table.specs.Plain.{PlainTable}
use Rattle.fpl_reasons.specs.declared.why.Reason.{Reason}
use Rattle.fpl_reasons.specs.Why.{IsReason, AreReasons}

module _ (p : Presentation) (T : PlainTable) where
  reasons_more : (qs : List Equation) (rs : List Reason) (q : Equation) (r : Reason) → AreReasons p T qs rs → IsReason p T q r →
      AreReasons p T (qs ++ q ∷ []) (rs ++ r ∷ [])
  reasons_more [] [] q r h k = (k, tt)
  reasons_more [] (s ∷ rs) q r h k = absurd h
  reasons_more (x ∷ qs) [] q r h k = absurd h
  reasons_more (x ∷ qs) (s ∷ rs) q r h k = (h.0, reasons_more qs rs q r h.1 k)

  pub reasons_step : (qs : List Equation) (n : ℕ) (q d : Equation) (rs more : List Reason) (r : Reason) → AreReasons p T (take n qs) rs → n < length qs →
      q ≡ get_or qs n d → IsReason p T q r → more ≡ rs ++ r ∷ [] → AreReasons p T (take (n + 1) qs) more
  reasons_step qs n q d rs more r h l is k e =
      let one : suc n ≡ n + 1 = omega arith in
      subst (AreReasons p T (take (n + 1) qs)) (sym e)
      (subst (λ m. AreReasons p T (take m qs) (rs ++ r ∷ [])) one
      (subst (λ xs. AreReasons p T xs (rs ++ r ∷ [])) (ap (λ x. take n qs ++ x ∷ []) is ∙ sym (take-suc qs n d l)) (reasons_more (take n qs) rs q r h k)))
