-- What the machine holds of what is read: it accepts only what goes on, and a side may end only where it is a sum.
use Rattle.std.proofs.Common.{◌≡◌, List, [], ◌∷◌, ◌++◌, Bool, true, false, ◌==◌, if◌then◌else◌, refl, ap, ap₂, sym, ◌∙◌}
use Rattle.std.specs.Prelude.{None, Some, map}
use Rattle.std.specs.declared.option.Option.{Option}
use Rattle.std.proofs.lemmas.Bool.{eqb-true}
use Rattle.std.proofs.lemmas.List.{map-append}
use Rattle.fpl_model.specs.declared.expr.Expr.{Expr}
use Rattle.fpl_model.specs.declared.expr.Expr as expr
use Rattle.fpl_syntax.specs.declared.terminal.Terminal.{Terminal}
use Rattle.fpl_syntax.specs.declared.terminal.Terminal.TheVariants as mark
use Rattle.fpl_syntax.specs.declared.terminal.Numeral.{Numeral}
use Rattle.fpl_syntax.specs.declared.expression.Scale.{Scale}
use Rattle.fpl_syntax.specs.declared.expression.Scale.TheVariants.{One, Whole, Quotient}
use Rattle.fpl_syntax.specs.declared.expression.Wait.{Wait}
use Rattle.fpl_syntax.specs.declared.expression.Wait.TheVariants as wait
use Rattle.fpl_syntax.specs.declared.expression.Opener.{Opener}
use Rattle.fpl_syntax.specs.declared.expression.Opener.TheVariants.{Left, Right, Group}
use Rattle.fpl_syntax.specs.declared.expression.Frame.{Frame}
use Rattle.fpl_syntax.specs.declared.expression.Partial.{Partial}
use Rattle.fpl_syntax.specs.Grammar.{Scope, Sum, Terms, end, further, Term, term, Factor, name, zero, bracket, group, spell_scale, sign_of, spell_sum, term_of, total, expression_of, further_of, factor_of}
use Rattle.fpl_syntax.specs.Machine.{split_last, summed, begin_factor, begin_term, begin_sum, after_term, after_number, step_wait, at_top, finished_sum, finished, settled, signed, enclosed, inside}
use Rattle.fpl_syntax.proofs.Running.{split_last-append, summed-total}
use Rattle.fpl_syntax.proofs.Stages.{Front, Stage, Inner, Mouth, Held, spell_front, spell_inner, spell_held, rest_terms, sum_with, sum_with-spelled, more_front, more_front-spelled}
use Rattle.fpl_syntax.proofs.Stages.Front.{front}
use Rattle.fpl_syntax.proofs.Stages.Stage.{nothing, number, slash, whole, quotient, scaled}
use Rattle.fpl_syntax.proofs.Stages.Inner.{start, within}
use Rattle.fpl_syntax.proofs.Stages.Mouth.{grouping, second, first}

-- what the machine holds of them
module _ (scope : Scope) where
  abbrev pub term_expression : Term → Expr
  term_expression (term n scale f) = term_of scope n scale (factor_of scope f)

  abbrev pub terms_of : Front → List Expr
  terms_of (front plus ts negative) = map term_expression ts

  abbrev pub negative_of : Front → Bool
  negative_of (front plus ts negative) = negative

  abbrev pub view_mouth : Mouth → Opener
  view_mouth first = Left
  view_mouth (second a) = Right (expression_of scope a)
  view_mouth grouping = Group

  abbrev pub view_frame : Held → Frame
  view_frame h = record { opener = view_mouth h.mouth; terms = terms_of h.sign_and_terms; negative = negative_of h.sign_and_terms; scale = h.scale }

  abbrev pub view_held : List Held → List Frame
  view_held [] = []
  view_held (h ∷ hs) = view_held hs ++ view_frame h ∷ []

  abbrev pub view_stage : Bool → Stage → Wait
  view_stage negative nothing = wait.Term
  view_stage negative (number n) = wait.AfterNumber n
  view_stage negative (slash n) = wait.Denominator n
  view_stage negative (quotient n d) = wait.AfterDenominator n d
  view_stage negative (scaled scale) = wait.Factor scale
  view_stage negative (whole scale f) = wait.AfterTerm (term_of scope negative scale (factor_of scope f))

  abbrev pub view_inner : List Frame → Inner → Partial × Wait
  view_inner frames start = (record { enclosing = frames; terms = []; negative = false }, wait.Sum)
  view_inner frames (within f s) = (record { enclosing = frames; terms = terms_of f; negative = negative_of f }, view_stage (negative_of f) s)

  abbrev pub view : List Held → Inner → Partial × Wait
  view held inner = view_inner (view_held held) inner

  more_front-terms : (f : Front) (scale : Scale) (g : Factor) (n : Bool) → terms_of (more_front f scale g n) ≡ terms_of f ++
      term_of scope (negative_of f) scale (factor_of scope g) ∷ []
  more_front-terms (front plus [] negative) scale g n = refl
  more_front-terms (front plus (t ∷ ts) negative) scale g n = map-append term_expression (t ∷ ts) (term negative scale g ∷ [])

  more_front-negative : (f : Front) (scale : Scale) (g : Factor) (n : Bool) → negative_of (more_front f scale g n) ≡ n
  more_front-negative (front plus [] negative) scale g n = refl
  more_front-negative (front plus (t ∷ ts) negative) scale g n = refl

  further_of-rest : (ts : List Term) (more : Terms) → further_of scope (rest_terms ts more) ≡ map term_expression ts ++ further_of scope more
  further_of-rest [] more = refl
  further_of-rest (term n scale f ∷ ts) more = ap (λ es. term_of scope n scale (factor_of scope f) ∷ es) (further_of-rest ts more)

  sum_with-expression : (f : Front) (scale : Scale) (g : Factor) → expression_of scope (sum_with f scale g) ≡
      summed (terms_of f) (term_of scope (negative_of f) scale (factor_of scope g))
  sum_with-expression (front plus [] negative) scale g = refl
  sum_with-expression (front plus (term n s f ∷ ts) negative) scale g =
      ap (λ es. total (term_of scope n s (factor_of scope f) ∷ es)) (further_of-rest ts (further (term negative scale g) end))
      ∙ sym (summed-total (map term_expression (term n s f ∷ ts)) (term_of scope negative scale (factor_of scope g)))

  -- what is read is spelled by what was read and the terminal
  abbrev pub Next : List Held → Inner → Terminal → Partial × Wait → Type 0
  Next held inner terminal s =
      (held' : List Held) × (inner' : Inner) × (view held' inner' ≡ s) × ((after : List Terminal) →
      spell_held held' (spell_inner inner' after) ≡ spell_held held (spell_inner inner (terminal ∷ after)))

  abbrev pub Accepts : List Held → Inner → Terminal → Option (Partial × Wait) → Type 0
  Accepts held inner terminal None = Unit {0}
  Accepts held inner terminal (Some s) = Next held inner terminal s

  Accepts-same : (held : List Held) (inner other : Inner) (terminal : Terminal) (answer : Option (Partial × Wait))
      → ((after : List Terminal) → spell_inner other after ≡ spell_inner inner after) → Accepts held other terminal answer → Accepts held inner terminal answer
  Accepts-same held inner other terminal None same a = tt
  Accepts-same held inner other terminal (Some s) same (held', inner', v, e) = (
    held',
    inner',
    v,
    λ after. e after ∙ ap (spell_held held) (same (terminal ∷ after)),
  )

  zero_numeral : (n : Numeral) → (n.value == 0) ≡ true → ◌≡◌ {A = Numeral} (record { place = n.place; value = 0 }) n
  zero_numeral n e = ap (λ v. record n { value = v }) (sym (eqb-true n.value 0 e))

  accepts_zero : (held : List Held) (f : Front) (scale : Scale) (n : Numeral) (t : Bool) → (n.value == 0) ≡ t
      → Accepts held (within f (scaled scale)) (mark.Number n) (if t then settled scope (view held (within f (scaled scale))).0 scale expr.Zero else None)
  accepts_zero held f scale n false e = tt
  accepts_zero held f scale n true e = (
    held,
    within f (whole scale (zero n.place)),
    refl,
    λ after. ap (λ m. spell_held held (spell_front f (spell_scale scale (mark.Number m ∷ after)))) (zero_numeral n e),
  )

  accepts_factor : (held : List Held) (f : Front) (scale : Scale) (terminal : Terminal) → Accepts held (within f (scaled scale)) terminal
      (begin_factor scope (view held (within f (scaled scale))).0 scale terminal)
  accepts_factor held f scale (mark.Name w) = (held, within f (whole scale (name w)), refl, λ after. refl)
  accepts_factor held f scale (mark.Number n) = accepts_zero held f scale n (n.value == 0) refl
  accepts_factor held f scale mark.OpenBracket = (record { sign_and_terms = f; scale = scale; mouth = first } ∷ held, start, refl, λ after. refl)
  accepts_factor held f scale mark.OpenGroup = (record { sign_and_terms = f; scale = scale; mouth = grouping } ∷ held, start, refl, λ after. refl)
  accepts_factor held f scale _ = tt

  accepts_term : (held : List Held) (f : Front) (terminal : Terminal) → Accepts held (within f nothing) terminal
      (begin_term scope (view held (within f nothing)).0 terminal)
  accepts_term held f (mark.Number n) = (held, within f (number n), refl, λ after. refl)
  accepts_term held f (mark.Name w) = accepts_factor held f One (mark.Name w)
  accepts_term held f mark.OpenBracket = accepts_factor held f One mark.OpenBracket
  accepts_term held f mark.OpenGroup = accepts_factor held f One mark.OpenGroup
  accepts_term held f _ = tt

  accepts_sum : (held : List Held) (terminal : Terminal) → Accepts held start terminal (begin_sum scope (view held start).0 terminal)
  accepts_sum held mark.Plus = (held, within (front true [] false) nothing, refl, λ after. refl)
  accepts_sum held mark.Minus = (held, within (front false [] true) nothing, refl, λ after. refl)
  accepts_sum held (mark.Number n) = accepts_term held (front false [] false) (mark.Number n)
  accepts_sum held (mark.Name w) = accepts_term held (front false [] false) (mark.Name w)
  accepts_sum held mark.OpenBracket = accepts_term held (front false [] false) mark.OpenBracket
  accepts_sum held mark.OpenGroup = accepts_term held (front false [] false) mark.OpenGroup
  accepts_sum held _ = tt

  accepts_sign : (held : List Held) (f : Front) (scale : Scale) (g : Factor) (n : Bool)
      → Accepts held (within f (whole scale g)) (sign_of n)
      (signed (record {
        enclosing = view_held held;
        terms = terms_of f ++ term_of scope (negative_of f) scale (factor_of scope g) ∷ [];
        negative =
            negative_of f;
      }) n)
  accepts_sign held f scale g n = (
    held,
    within (more_front f scale g n) nothing,
    ap₂ (λ (ts : List Expr) (m : Bool). (record { enclosing = view_held held; terms = ts; negative = m }, wait.Term)) (more_front-terms f scale g n)
        (more_front-negative f scale g n),
    λ after. ap (spell_held held) (more_front-spelled f scale g n after),
  )

  accepts_enclosed : (f' : Front) (scale' : Scale) (mouth : Mouth) (held : List Held) (f : Front) (scale : Scale) (g : Factor) (terminal : Terminal)
      → let h : Held = record { sign_and_terms = f'; scale = scale'; mouth = mouth } in
      Accepts (h ∷ held) (within f (whole scale g)) terminal (enclosed scope terminal (view_held held) (view_frame h)
      (summed (terms_of f) (term_of scope (negative_of f) scale (factor_of scope g))) (view_mouth mouth))
  accepts_enclosed f' scale' first held f scale g mark.Comma = (
    record { sign_and_terms = f'; scale = scale'; mouth = second (sum_with f scale g) } ∷ held,
    start,
    ap (λ e. (
      record {
        enclosing = view_held held ++ record { opener = Right e; terms = terms_of f'; negative = negative_of f'; scale = scale' } ∷ [];
        terms = [];
        negative = false;
      },
      wait.Sum,
    )) (sum_with-expression f scale g),
    λ after. ap (λ xs. spell_held held (spell_front f' (spell_scale scale' (mark.OpenBracket ∷ xs)))) (sum_with-spelled f scale g (mark.Comma ∷ after)),
  )
  accepts_enclosed f' scale' (second a) held f scale g mark.CloseBracket = (
    held,
    within f' (whole scale' (bracket a (sum_with f scale g))),
    ap (λ e. (
      record { enclosing = view_held held; terms = terms_of f'; negative = negative_of f' },
      wait.AfterTerm (term_of scope (negative_of f') scale' (expr.Br (expression_of scope a) e)),
    )) (sum_with-expression f scale g),
    λ after. ap (λ xs. spell_held held (spell_front f' (spell_scale scale' (mark.OpenBracket ∷ spell_sum a (mark.Comma ∷ xs)))))
        (sum_with-spelled f scale g (mark.CloseBracket ∷ after)),
  )
  accepts_enclosed f' scale' grouping held f scale g mark.CloseGroup = (
    held,
    within f' (whole scale' (group (sum_with f scale g))),
    ap (λ e. (
      record { enclosing = view_held held; terms = terms_of f'; negative = negative_of f' },
      wait.AfterTerm (term_of scope (negative_of f') scale' e),
    )) (sum_with-expression f scale g),
    λ after. ap (λ xs. spell_held held (spell_front f' (spell_scale scale' (mark.OpenGroup ∷ xs)))) (sum_with-spelled f scale g (mark.CloseGroup ∷ after)),
  )
  accepts_enclosed f' scale' mouth held f scale g terminal = tt

  accepts_inside : (held : List Held) (f : Front) (scale : Scale) (g : Factor) (terminal : Terminal)
      → Accepts held (within f (whole scale g)) terminal
      (inside scope terminal (summed (terms_of f) (term_of scope (negative_of f) scale (factor_of scope g))) (split_last (view_held held)))
  accepts_inside [] f scale g terminal = tt
  accepts_inside (h ∷ held) f scale g terminal = rw (split_last-append (view_held held) (view_frame h))
      (accepts_enclosed h.sign_and_terms h.scale h.mouth held f scale g terminal)

  accepts_whole : (held : List Held) (f : Front) (scale : Scale) (g : Factor) (terminal : Terminal)
      → Accepts held (within f (whole scale g)) terminal (after_term scope (view held (within f (whole scale g))).0
      (term_of scope (negative_of f) scale (factor_of scope g)) terminal)
  accepts_whole held f scale g mark.Plus = accepts_sign held f scale g false
  accepts_whole held f scale g mark.Minus = accepts_sign held f scale g true
  accepts_whole held f scale g terminal = accepts_inside held f scale g terminal

  accepts_after_zero : (held : List Held) (f : Front) (n : Numeral) (terminal : Terminal) (t : Bool) → (n.value == 0) ≡ t
      → Accepts held (within f (number n)) terminal (if t then after_term scope (view held (within f (number n))).0
      (term_of scope (negative_of f) One expr.Zero) terminal else None)
  accepts_after_zero held f n terminal false e = tt
  accepts_after_zero held f n terminal true e =
      Accepts-same held (within f (number n)) (within f (whole One (zero n.place))) terminal _
      (λ after. ap (λ m. spell_front f (mark.Number m ∷ after)) (zero_numeral n e)) (accepts_whole held f One (zero n.place) terminal)

  accepts_number : (held : List Held) (f : Front) (n : Numeral) (terminal : Terminal) → Accepts held (within f (number n)) terminal
      (after_number scope (view held (within f (number n))).0 n terminal)
  accepts_number held f n mark.Star = (held, within f (scaled (Whole n)), refl, λ after. refl)
  accepts_number held f n mark.Slash = (held, within f (slash n), refl, λ after. refl)
  accepts_number held f n terminal = accepts_after_zero held f n terminal (n.value == 0) refl

  -- the machine accepts only what goes on
  pub accepts : (held : List Held) (inner : Inner) (terminal : Terminal) → Accepts held inner terminal
      (step_wait scope (view held inner).0 (view held inner).1 terminal)
  accepts held start terminal = accepts_sum held terminal
  accepts held (within f nothing) terminal = accepts_term held f terminal
  accepts held (within f (number n)) terminal = accepts_number held f n terminal
  accepts held (within f (slash n)) (mark.Number d) = (held, within f (quotient n d), refl, λ after. refl)
  accepts held (within f (slash n)) terminal = tt
  accepts held (within f (quotient n d)) mark.Star = (held, within f (scaled (Quotient n d)), refl, λ after. refl)
  accepts held (within f (quotient n d)) terminal = tt
  accepts held (within f (scaled scale)) terminal = accepts_factor held f scale terminal
  accepts held (within f (whole scale g)) terminal = accepts_whole held f scale g terminal

  -- where a side may end, it is a sum
  abbrev pub Finishes : List Held → Inner → Option Expr → Type 0
  Finishes held inner None = Unit {0}
  Finishes held inner (Some e) = (s : Sum) × (expression_of scope s ≡ e) × ((after : List Terminal) →
      spell_sum s after ≡ spell_held held (spell_inner inner after))

  at_top-append : (frames : List Frame) (frame : Frame) (e : Expr) → at_top (frames ++ frame ∷ []) e ≡ None
  at_top-append [] frame e = refl
  at_top-append (f ∷ fs) frame e = refl

  finishes_whole : (held : List Held) (f : Front) (scale : Scale) (g : Factor)
      → Finishes held (within f (whole scale g)) (at_top (view_held held) (summed (terms_of f) (term_of scope (negative_of f) scale (factor_of scope g))))
  finishes_whole [] f scale g = (sum_with f scale g, sum_with-expression f scale g, sum_with-spelled f scale g)
  finishes_whole (h ∷ held) f scale g = rw
      (at_top-append (view_held held) (view_frame h) (summed (terms_of f) (term_of scope (negative_of f) scale (factor_of scope g)))) tt

  Finishes-same : (held : List Held) (inner other : Inner) (answer : Option Expr)
      → ((after : List Terminal) → spell_inner other after ≡ spell_inner inner after) → Finishes held other answer → Finishes held inner answer
  Finishes-same held inner other None same h = tt
  Finishes-same held inner other (Some e) same (s, v, spelled) = (s, v, λ after. spelled after ∙ ap (spell_held held) (same after))

  finishes_zero : (held : List Held) (f : Front) (n : Numeral) (t : Bool) → (n.value == 0) ≡ t
      → Finishes held (within f (number n)) (finished_sum (view held (within f (number n))).0
      (if t then Some (term_of scope (negative_of f) One expr.Zero) else None))
  finishes_zero held f n false e = tt
  finishes_zero held f n true e =
      Finishes-same held (within f (number n)) (within f (whole One (zero n.place))) _ (λ after. ap (λ m. spell_front f (mark.Number m ∷ after))
      (zero_numeral n e)) (finishes_whole held f One (zero n.place))

  pub finishes : (held : List Held) (inner : Inner) → Finishes held inner (finished scope (view held inner).0 (view held inner).1)
  finishes held start = tt
  finishes held (within f nothing) = tt
  finishes held (within f (number n)) = finishes_zero held f n (n.value == 0) refl
  finishes held (within f (slash n)) = tt
  finishes held (within f (quotient n d)) = tt
  finishes held (within f (scaled scale)) = tt
  finishes held (within f (whole scale g)) = finishes_whole held f scale g
