-- One answer more.
use Rattle.std.proofs.Common.{◌≡◌, ◌∙◌, ℕ, ◌+◌, ◌<◌, List, [], ◌∷◌, ◌++◌, Ok, Err, refl, ap, sym, append_assoc, length, drop, get_or, add-one, drop-cons}
use Rattle.std.specs.declared.result.Result.{Result}
use Rattle.fpl_numbers.specs.declared.number.Unfit.{Unfit}
use Rattle.fpl_numbers.specs.Results.{and_then, map_ok}
use Rattle.fpl_model.specs.declared.presentation.Presentation.{Presentation}
use Rattle.fpl_model.specs.declared.presentation.Equation.{Equation}
use Rattle.fpl_table.specs.Plain.{PlainTable}
use Rattle.fpl_print.specs.EqualText.{Answer}
use Rattle.fpl_views.specs.Equal.{answer_of, answers_of}

-- what is left to answer, after the answers xs
abbrev pub after : Presentation → PlainTable → List Answer → List Equation → Result (List Answer) Unfit
after p T xs qs = map_ok (λ rest. xs ++ rest) (answers_of p T qs)

module _ (p : Presentation) (T : PlainTable) where
  pub from_none : (qs : List Equation) → after p T [] qs ≡ answers_of p T qs
  from_none qs = go (answers_of p T qs)
    where
      go : (r : Result (List Answer) Unfit) → map_ok (λ rest. [] ++ rest) r ≡ r
      go (Ok rest) = refl
      go (Err u) = refl

  pub one_answer : (xs : List Answer) (q : Equation) (qs : List Equation) (a : Answer) → answer_of p T q ≡ Ok a →
      after p T xs (q ∷ qs) ≡ after p T (xs ++ a ∷ []) qs
  one_answer xs q qs a e = ap (λ r. map_ok (λ rest. xs ++ rest) (and_then (λ a. map_ok (λ rest. a ∷ rest) (answers_of p T qs)) r)) e ∙ go (answers_of p T qs)
    where
      go : (r : Result (List Answer) Unfit) → map_ok (λ rest. xs ++ rest) (map_ok (λ rest. a ∷ rest) r) ≡ map_ok (λ rest. (xs ++ a ∷ []) ++ rest) r
      go (Ok rest) = ap Ok (sym (append_assoc xs (a ∷ []) rest))
      go (Err u) = refl

  pub answer_step : (xs next : List Answer) (items : List Equation) (i : ℕ) (q d : Equation) (a : Answer) → i < length items → q ≡ get_or items i d →
      answer_of p T q ≡ Ok a → next ≡ xs ++ a ∷ [] → after p T xs (drop i items) ≡ after p T next (drop (i + 1) items)
  answer_step xs next items i q d a l is e more =
      let here : drop i items ≡ q ∷ drop (i + 1) items = rw (is, add-one) (drop-cons items i d l) in
      ap (after p T xs) here ∙ one_answer xs q (drop (i + 1) items) a e ∙ ap (λ ys. after p T ys (drop (i + 1) items)) (sym more)
