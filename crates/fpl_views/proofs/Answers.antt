-- Queries: an answer says whether the two sides are derivably equal; over a prime there is one.
use Rattle.std.proofs.Common.{◌≡◌, ◌∙◌, ℕ, suc, List, [], ◌∷◌, Ok, Err, Bool, true, false, cond, refl, sym, ap, subst, arith}
use Rattle.std.specs.Prelude.{All, ◌↔◌, length}
use Rattle.std.specs.declared.result.Result.{Result}
use Rattle.fpl_numbers.specs.declared.number.Num.{Num}
use Rattle.fpl_numbers.specs.declared.number.Unfit.{Unfit}
use Rattle.fpl_numbers.specs.Results.{map_ok}
use Rattle.fpl_numbers.specs.Kinds.{field_of, number_of}
use Rattle.fpl_numbers.proofs.KindReads.{kind_reads}
use Rattle.fpl_rows.specs.Meaning.{vector_in}
use Rattle.fpl_rows.proofs.Fits.{ok_same, first_fits, part_fits}
use Rattle.fpl_rows.proofs.Readings.{vectors_same}
use Rattle.math_linear.specs.Vector.{Vector}
use Rattle.math_algebra.specs.Table.{val}
use Rattle.fpl_model.specs.declared.presentation.Presentation.{Presentation}
use Rattle.fpl_model.specs.declared.presentation.Equation.{Equation}
use Rattle.fpl_model.specs.declared.expr.Expr.{Expr}
use Rattle.fpl_model.specs.Meaning.{plain, tree_in}
use Rattle.fpl_model.specs.Sound.{IsSound, IsWithin, IsSoundEquation}
use Rattle.fpl_table.specs.Plain.{PlainTable, table_in}
use Rattle.fpl_table.specs.Value.{value_of}
use Rattle.fpl_log.specs.declared.section.Section.{Section}
use Rattle.plain_sources.specs.Premises.{IsTableFor, IsFor}
use Rattle.plain_sources.specs.PrimeLaws.{DoesFit}
use Rattle.plain_sources.proofs.Laws.{value_stands}
use Rattle.plain_sources.proofs.Fits.{then_fits, map_fits}
use Rattle.plain_sources.proofs.Fitting.{Always, if_fits, value_fits}
use Rattle.fpl_print.specs.EqualText.{Answer, same, different, beyond, equal_text}
use Rattle.fpl_reply.specs.declared.view_fault.ViewFault.{ViewFault}
use Rattle.fpl_reply.specs.declared.view_fault.ViewFault.TheVariants.{Overflow}
use Rattle.fpl_views.specs.Overflows.{in_view}
use Rattle.fpl_queries.specs.Queries.{is_beyond, IsBeyond, AreEqual}
use Rattle.fpl_queries.proofs.Within.{not_beyond, beyond_if, one_value}
use Rattle.fpl_views.specs.Equal.{same_row, compared, answer_by, answer_of, answers_of, text_of_equal, IsAnswer, AreAnswers, ShowsEqual}
use Rattle.fpl_views.specs.Equal.IsAnswer.{is_beyond_limit, is_same, is_different}
use Rattle.fpl_views.specs.Laws.{IsMadeOf}
use Rattle.fpl_views.proofs.Made.{made_table_for}
use Rattle.fpl_views.proofs.SameRows.{row_is, row_itself}

bool_no : false ≡ true → ⊥
bool_no e = cc

module _ (p : Presentation) (T : PlainTable) (sections : List Section) (sound : IsSound p) (made : IsMadeOf p T sections) where
  abbrev value : Expr → Vector (field_of p.field)
  value e = val (field_of p.field) (table_in p.field T) (tree_in p.field e)

  is_table : IsTableFor p T
  is_table = made_table_for p T sections sound made

  stands : (e : Expr) → IsWithin p.field (length p.generators) (plain e) → (v : List Num) → value_of T (plain e) ≡ Ok v →
      IsFor p.field (field_of p.field) (number_of p.field) (length T.basis) (value e) v
  stands e h v f = value_stands p T is_table.kind is_table.generators sound is_table.rows is_table.weights (plain e) h v f

  module _ (q : Equation) (s : IsSoundEquation p q) where
    module _ (f : is_beyond p T q ≡ false) (l r : List Num) (el : value_of T (plain q.left) ≡ Ok l) (er : value_of T (plain q.right) ≡ Ok r) where
      left : IsFor p.field (field_of p.field) (number_of p.field) (length T.basis) (value q.left) l
      left = stands q.left s.0.0 l el

      right : IsFor p.field (field_of p.field) (number_of p.field) (length T.basis) (value q.right) r
      right = stands q.right s.1.0 r er

      near : IsBeyond p T q → ⊥
      near = not_beyond p T q f

      same_values : (value q.left ≡ value q.right) ↔ AreEqual p q
      same_values = one_value p T q s made.standard near

      one_row : AreEqual p q → l ≡ r
      one_row d =
          vectors_same p.field (field_of p.field) (number_of p.field) (kind_reads p.field sound.field) l r left.elements right.elements
          (left.long ∙ sym right.long) (left.vector ∙ same_values.1 d ∙ sym right.vector)

      compared_is : IsAnswer p T q (compared l r)
      compared_is = go (same_row l r) refl
        where
          go : (b : Bool) → same_row l r ≡ b → IsAnswer p T q (cond b same (different l r))
          go true e = is_same near (same_values.0 (sym left.vector ∙ ap (vector_in p.field) (row_is l r e) ∙ right.vector))
          go false e =
              is_different l r near (λ d. bool_no (sym e ∙ ap (same_row l) (sym (one_row d)) ∙ row_itself l)) left.vector right.vector

    answer_is : (a : Answer) → answer_of p T q ≡ Ok a → IsAnswer p T q a
    answer_is a e = go (is_beyond p T q) refl e
      where
        go : (b : Bool) → is_beyond p T q ≡ b → cond b (Ok beyond) (answer_by T q) ≡ Ok a → IsAnswer p T q a
        go true f e = subst (IsAnswer p T q) (ok_same e) (is_beyond_limit (beyond_if p T q s f))
        go false f e =
            let x = first_fits (λ left. map_ok (compared left) (value_of T (plain q.right))) (value_of T (plain q.left)) a e in
            let y = part_fits (compared x.0) (value_of T (plain q.right)) a x.1.1 in
            subst (IsAnswer p T q) (sym y.1.1) (compared_is f x.0 y.0 x.1.0 y.1.0)

  answers_are : (qs : List Equation) → All (IsSoundEquation p) qs → (rest : List Answer) → answers_of p T qs ≡ Ok rest → AreAnswers p T qs rest
  answers_are [] s rest e = subst (AreAnswers p T []) (ok_same e) tt
  answers_are (q ∷ qs) s rest e =
      let x = first_fits (λ a. map_ok (λ rest. a ∷ rest) (answers_of p T qs)) (answer_of p T q) rest e in
      let y = part_fits (λ rest. x.0 ∷ rest) (answers_of p T qs) rest x.1.1 in
      subst (AreAnswers p T (q ∷ qs)) (sym y.1.1)
      (answer_is q (s 0 q (omega arith)) x.0 x.1.0, answers_are qs (λ j d l. s (suc j) d (omega (arith, l))) y.0 y.1.0)

  pub shows_equal : (text : List ℕ) → text_of_equal p T ≡ Ok text → ShowsEqual p T text
  shows_equal text e = go (answers_of p T p.queries) refl e
    where
      go : (r : Result (List Answer) Unfit) → answers_of p T p.queries ≡ r → in_view (map_ok (equal_text T) r) ≡ Ok text → ShowsEqual p T text
      go (Ok answers) f e = (answers, answers_are p.queries sound.queries answers f, sym (ok_same e))
      go (Err u) f e = absurd (let no : ◌≡◌ {A = Result (List ℕ) ViewFault} (Err (Overflow u)) (Ok text) = e in cc)

-- where every operation fits, so does each of the view's
module _ (p : Presentation) (T : PlainTable) (always : Always T.kind) where
  answer_fits : (q : Equation) → DoesFit (answer_of p T q)
  answer_fits q =
      if_fits (is_beyond p T q) (Ok beyond) (answer_by T q) (beyond, refl)
      (then_fits (λ left. map_ok (compared left) (value_of T (plain q.right))) (value_of T (plain q.left)) (value_fits T always (plain q.left))
      (λ left. map_fits (compared left) (value_of T (plain q.right)) (value_fits T always (plain q.right))))

  answers_fit : (qs : List Equation) → DoesFit (answers_of p T qs)
  answers_fit [] = ([], refl)
  answers_fit (q ∷ qs) =
      then_fits (λ a. map_ok (λ rest. a ∷ rest) (answers_of p T qs)) (answer_of p T q) (answer_fits q)
      (λ a. map_fits (λ rest. a ∷ rest) (answers_of p T qs) (answers_fit qs))

  pub equal_fits : (u : Unfit) → text_of_equal p T ≡ Err (Overflow u) → ⊥
  equal_fits u e = go (answers_of p T p.queries) (answers_fit p.queries) e
    where
      go : (r : Result (List Answer) Unfit) → DoesFit r → in_view (map_ok (equal_text T) r) ≡ Err (Overflow u) → ⊥
      go (Ok answers) f e = (let no : ◌≡◌ {A = Result (List ℕ) ViewFault} (Ok (equal_text T answers)) (Err (Overflow u)) = e in cc)
      go (Err v) f e = (let no : ◌≡◌ {A = Result (List Answer) Unfit} (Err v) (Ok f.0) = f.1 in cc)
