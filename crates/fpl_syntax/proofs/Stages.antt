-- How far a sentence has been read: parse trees with a part that isn't read yet.
--
--   Front          the front of a sum: whether a + leads it, the terms before the one that is being read, and that one's sign
--   Stage          what is read of a term
--   Inner          what is read of the innermost sum
--   Held           a factor that is being read, with the sum in which it stands
--   spell_..       their terminals, before those that follow
--   rest_..        how they may be completed
use Rattle.std.proofs.Common.{◌≡◌, List, [], ◌∷◌, ◌++◌, Bool, false, refl, ap, sym, ◌∙◌, append_assoc}
use Rattle.fpl_syntax.specs.declared.terminal.Terminal.{Terminal}
use Rattle.fpl_syntax.specs.declared.terminal.Terminal.TheVariants as mark
use Rattle.fpl_syntax.specs.declared.terminal.Numeral.{Numeral}
use Rattle.fpl_syntax.specs.declared.expression.Scale.{Scale}
use Rattle.fpl_syntax.specs.declared.expression.Scale.TheVariants.{One, Whole, Quotient}
use Rattle.fpl_syntax.specs.Grammar.{Sum, sum, Terms, end, further, Term, term, Factor, zero, bracket, group, spell_scale, sign_of, spell_lead, spell_sum, spell_terms, spell_factor}

pub data Front : Type 0 where
  front : Bool → List Term → Bool → Front

pub data Stage : Type 0 where
  nothing : Stage
  number : Numeral → Stage
  slash : Numeral → Stage
  quotient : Numeral → Numeral → Stage
  scaled : Scale → Stage
  whole : Scale → Factor → Stage

pub data Inner : Type 0 where
  start : Inner
  within : Front → Stage → Inner

pub data Mouth : Type 0 where
  first : Mouth
  second : Sum → Mouth
  grouping : Mouth

pub record Held : Type 0 where
  pub sign_and_terms : Front
  pub scale : Scale
  pub mouth : Mouth

-- their terminals

abbrev pub spell_term : Term → List Terminal → List Terminal
spell_term (term negative scale f) after = sign_of negative ∷ spell_scale scale (spell_factor f after)

abbrev pub spell_rest : List Term → List Terminal → List Terminal
spell_rest [] after = after
spell_rest (t ∷ ts) after = spell_term t (spell_rest ts after)

abbrev pub spell_front : Front → List Terminal → List Terminal
spell_front (front plus [] negative) after = spell_lead plus negative after
spell_front (front plus (term n scale f ∷ ts) negative) after =
    spell_lead plus n (spell_scale scale (spell_factor f (spell_rest ts (sign_of negative ∷ after))))

abbrev pub spell_stage : Stage → List Terminal → List Terminal
spell_stage nothing after = after
spell_stage (number n) after = mark.Number n ∷ after
spell_stage (slash n) after = mark.Number n ∷ mark.Slash ∷ after
spell_stage (quotient n d) after = mark.Number n ∷ mark.Slash ∷ mark.Number d ∷ after
spell_stage (scaled scale) after = spell_scale scale after
spell_stage (whole scale f) after = spell_scale scale (spell_factor f after)

abbrev pub spell_inner : Inner → List Terminal → List Terminal
spell_inner start after = after
spell_inner (within f s) after = spell_front f (spell_stage s after)

abbrev pub spell_mouth : Mouth → List Terminal → List Terminal
spell_mouth first after = mark.OpenBracket ∷ after
spell_mouth (second a) after = mark.OpenBracket ∷ spell_sum a (mark.Comma ∷ after)
spell_mouth grouping after = mark.OpenGroup ∷ after

abbrev pub spell_held : List Held → List Terminal → List Terminal
spell_held [] after = after
spell_held (h ∷ hs) after = spell_held hs (spell_front h.sign_and_terms (spell_scale h.scale (spell_mouth h.mouth after)))

-- a sum, once its term is whole and others follow

abbrev pub rest_terms : List Term → Terms → Terms
rest_terms [] more = more
rest_terms (t ∷ ts) more = further t (rest_terms ts more)

abbrev pub sum_with : Front → Scale → Factor → Sum
sum_with (front plus [] negative) scale f = sum plus (term negative scale f) end
sum_with (front plus (t ∷ ts) negative) scale f = sum plus t (rest_terms ts (further (term negative scale f) end))

spell_rest-terms : (ts : List Term) (more : Terms) (after : List Terminal) → spell_terms (rest_terms ts more) after ≡ spell_rest ts (spell_terms more after)
spell_rest-terms [] more after = refl
spell_rest-terms (term n scale f ∷ ts) more after = ap (λ xs. sign_of n ∷ spell_scale scale (spell_factor f xs)) (spell_rest-terms ts more after)

pub sum_with-spelled : (f : Front) (scale : Scale) (g : Factor) (after : List Terminal) → spell_sum (sum_with f scale g) after ≡
    spell_front f (spell_scale scale (spell_factor g after))
sum_with-spelled (front plus [] negative) scale g after = refl
sum_with-spelled (front plus (term n s f ∷ ts) negative) scale g after =
    ap (λ xs. spell_lead plus n (spell_scale s (spell_factor f xs))) (spell_rest-terms ts (further (term negative scale g) end) after)

-- one more term

abbrev pub more_front : Front → Scale → Factor → Bool → Front
more_front (front plus [] negative) scale f n = front plus (term negative scale f ∷ []) n
more_front (front plus (t ∷ ts) negative) scale f n = front plus (t ∷ ts ++ term negative scale f ∷ []) n

spell_rest-append : (ts : List Term) (t : Term) (after : List Terminal) → spell_rest (ts ++ t ∷ []) after ≡ spell_rest ts (spell_term t after)
spell_rest-append [] t after = refl
spell_rest-append (term n scale f ∷ ts) t after = ap (λ xs. sign_of n ∷ spell_scale scale (spell_factor f xs)) (spell_rest-append ts t after)

pub more_front-spelled : (f : Front) (scale : Scale) (g : Factor) (n : Bool) (after : List Terminal) →
    spell_front (more_front f scale g n) after ≡ spell_front f (spell_scale scale (spell_factor g (sign_of n ∷ after)))
more_front-spelled (front plus [] negative) scale g n after = refl
more_front-spelled (front plus (term m s f ∷ ts) negative) scale g n after =
    ap (λ xs. spell_lead plus m (spell_scale s (spell_factor f xs))) (spell_rest-append ts (term negative scale g) (sign_of n ∷ after))

-- how it may be completed

abbrev pub nought_terminal : Terminal
nought_terminal = mark.Number (record { place = 0; value = 0 })

abbrev pub nought_sum : Sum
nought_sum = sum false (term false One (zero 0)) end

-- a sum that completes what is read of the innermost one
complete_inner : (inner : Inner) → (s : Sum) × (more : List Terminal) × ((after : List Terminal) → spell_sum s after ≡ spell_inner inner (more ++ after))
complete_inner start = (nought_sum, nought_terminal ∷ [], λ after. refl)
complete_inner (within f nothing) = (sum_with f One (zero 0), nought_terminal ∷ [], sum_with-spelled f One (zero 0))
complete_inner (within f (number n)) = (sum_with f (Whole n) (zero 0), mark.Star ∷ nought_terminal ∷ [], sum_with-spelled f (Whole n) (zero 0))
complete_inner (within f (slash n)) = (
  sum_with f (Quotient n n) (zero 0),
  mark.Number n ∷ mark.Star ∷ nought_terminal ∷ [],
  sum_with-spelled f (Quotient n n) (zero 0),
)
complete_inner (within f (quotient n d)) = (sum_with f (Quotient n d) (zero 0), mark.Star ∷ nought_terminal ∷ [], sum_with-spelled f (Quotient n d) (zero 0))
complete_inner (within f (scaled scale)) = (sum_with f scale (zero 0), nought_terminal ∷ [], sum_with-spelled f scale (zero 0))
complete_inner (within f (whole scale g)) = (sum_with f scale g, [], sum_with-spelled f scale g)

-- the sum that it is once what encloses a sum is closed
mouth_factor : (mouth : Mouth) (s : Sum) → (g : Factor) × (more : List Terminal) × ((after : List Terminal) →
    spell_factor g after ≡ spell_mouth mouth (spell_sum s (more ++ after)))
mouth_factor first s = (bracket s nought_sum, mark.Comma ∷ nought_terminal ∷ mark.CloseBracket ∷ [], λ after. refl)
mouth_factor (second a) s = (bracket a s, mark.CloseBracket ∷ [], λ after. refl)
mouth_factor grouping s = (group s, mark.CloseGroup ∷ [], λ after. refl)

close_held : (held : List Held) (s : Sum) → (s' : Sum) × (more : List Terminal) × ((after : List Terminal) →
    spell_sum s' after ≡ spell_held held (spell_sum s (more ++ after)))
close_held [] s = (s, [], λ after. refl)
close_held (h ∷ held) s =
    let g = mouth_factor h.mouth s in
    let r = close_held held (sum_with h.sign_and_terms h.scale g.0) in (
      r.0,
      g.1 ++ r.1,
      λ after.
          r.2 after ∙ ap (spell_held held)
          (sum_with-spelled h.sign_and_terms h.scale g.0 (r.1 ++ after)
          ∙ ap (λ xs. spell_front h.sign_and_terms (spell_scale h.scale xs)) (g.2 (r.1 ++ after) ∙
          ap (λ xs. spell_mouth h.mouth (spell_sum s xs)) (sym (append_assoc g.1 r.1 after)))),
    )

-- a side that completes what is read of one
pub complete : (held : List Held) (inner : Inner) → (s : Sum) × (more : List Terminal) × ((after : List Terminal) →
    spell_sum s after ≡ spell_held held (spell_inner inner (more ++ after)))
complete held inner =
    let i = complete_inner inner in
    let r = close_held held i.0 in
    (r.0, i.1 ++ r.1, λ after. r.2 after ∙ ap (spell_held held) (i.2 (r.1 ++ after) ∙ ap (spell_inner inner) (sym (append_assoc i.1 r.1 after))))
