-- Forms with equal numbers are equal.
use Rattle.std.proofs.Common.{◌≡◌, ◌≢◌, ◌<◌, ℕ, List, [], ◌∷◌, Bool, true, false, nat_eq, if◌then◌else◌, refl, ap, ap₂, sym, ◌∙◌, arith, All}
use native.Mathlib.Decide.{dec_lt}
use Rattle.math_fields.specs.Field.{Field}
use Rattle.math_linear.proofs.Numbers.{plus_cancel}
use Rattle.fpl_numbers.specs.declared.number.Kind.TheVariants.{Prime}
use Rattle.fpl_numbers.specs.Numbers.{IsListed, residue, residue_of}
use Rattle.fpl_numbers.specs.Kinds.{Number, field_of, number_of}
use Rattle.fpl_numbers.proofs.KindReads.{kind_reads, listed_prime}
use Rattle.fpl_forms.specs.declared.term.Term.{Term}
use Rattle.fpl_forms.specs.Forms.{IsTermOf, AreTermsOf}
use Rattle.fpl_forms.specs.Laws.{number_at, number_in, IsAscending, AreNotNought, IsForm, OneForm}
use Rattle.fpl_forms.proofs.Next.{element, nought_is}
use Rattle.fpl_forms.proofs.Tidied.{cons_all, head_of, tail_of}
use Rattle.fpl_forms.proofs.Gathering.{all_as}

module _ (q : ℕ) (listed : IsListed q) where
  abbrev K : Field
  K = field_of (Prime q)

  abbrev at : List Term → ℕ → Number (Prime q)
  at ts i = number_in (Prime q) ts i

  abbrev as_number : ℕ → Number (Prime q)
  as_number c = number_of (Prime q) (residue c)

  apart : (a b : ℕ) → a < q → b < q → as_number a ≡ as_number b → a ≡ b
  apart a b h l e =
      ap residue_of
      ((kind_reads (Prime q) listed).apart (residue a) (residue b) (element (Prime q) q refl listed a h) (element (Prime q) q refl listed b l) e)

  none : (a : ℕ) → a < q → as_number a ≡ K.nought → a ≡ 0
  none a h e = apart a 0 h (omega (arith, h)) (e ∙ sym (nought_is (Prime q) q refl listed))

  own : (t : Term) → number_at (Prime q) t.atom t ≡ as_number t.number
  own t = let e : nat_eq t.atom t.atom ≡ true = grind arith in ap (λ (b : Bool). if b then as_number t.number else K.nought) e

  other : (t : Term) (i : ℕ) → i < t.atom → number_at (Prime q) i t ≡ K.nought
  other t i lt = let e : nat_eq t.atom i ≡ false = grind (arith, lt) in ap (λ (b : Bool). if b then as_number t.number else K.nought) e

  past : (ts : List Term) (i : ℕ) → All (λ s. i < s.atom) ts → at ts i ≡ K.nought
  past [] i h = refl
  past (t ∷ ts) i h =
      ap₂ K.plus (other t i (head_of (λ s. i < s.atom) t ts h)) (past ts i (tail_of (λ s. i < s.atom) t ts h)) ∙ K.plus-nought K.nought

  first : (t : Term) (ts : List Term) → All (λ s. t.atom < s.atom) ts → at (t ∷ ts) t.atom ≡ as_number t.number
  first t ts h = ap₂ K.plus (own t) (past ts t.atom h) ∙ K.plus-nought (as_number t.number)

  -- the first atom of one form is none of the other
  clash : (t : Term) (ts us : List Term) → t.number < q → t.number ≢ 0 → All (λ s. t.atom < s.atom) ts → All (λ s. t.atom < s.atom) us →
      at (t ∷ ts) t.atom ≡ at us t.atom → ⊥
  clash t ts us lt some h l e = some (none t.number lt (sym (first t ts h) ∙ e ∙ past us t.atom l))

  above : (t u : Term) (us : List Term) → t.atom < u.atom → All (λ s. u.atom < s.atom) us → All (λ s. t.atom < s.atom) (u ∷ us)
  above t u us lt h =
      cons_all (λ s. t.atom < s.atom) u us lt (all_as (λ s. u.atom < s.atom) (λ s. t.atom < s.atom) (λ s l. omega (arith, l, lt)) us h)

  same_term : (t u : Term) → t.atom ≡ u.atom → t.number ≡ u.number → t ≡ u
  same_term t u is n = ap₂ (λ (a m : ℕ). record { atom = a; number = m }) is n

  module _ (n : ℕ) where
    abbrev Good : List Term → Type 0
    Good ts = AreTermsOf q n ts × IsAscending ts × AreNotNought ts

    rest : (t : Term) (ts : List Term) → Good (t ∷ ts) → Good ts
    rest t ts g = (tail_of (IsTermOf q n) t ts g.0, g.1.1, tail_of (λ s. s.number ≢ 0) t ts g.2)

    one : (ts us : List Term) → Good ts → Good us → ((i : ℕ) → at ts i ≡ at us i) → ts ≡ us
    one [] [] g h e = refl
    one [] (u ∷ us) g h e =
        absurd (clash u us [] (head_of (IsTermOf q n) u us h.0).1 (head_of (λ s. s.number ≢ 0) u us h.2) h.1.0
        (λ i d lt. absurd (omega (arith, lt))) (sym (e u.atom)))
    one (t ∷ ts) [] g h e =
        absurd (clash t ts [] (head_of (IsTermOf q n) t ts g.0).1 (head_of (λ s. s.number ≢ 0) t ts g.2) g.1.0
        (λ i d lt. absurd (omega (arith, lt))) (e t.atom))
    one (t ∷ ts) (u ∷ us) g h e = go (dec_lt t.atom u.atom) (dec_lt u.atom t.atom) (one ts us (rest t ts g) (rest u us h))
      where
        small_t : t.number < q
        small_t = (head_of (IsTermOf q n) t ts g.0).1

        small_u : u.number < q
        small_u = (head_of (IsTermOf q n) u us h.0).1

        go : Dec (t.atom < u.atom) → Dec (u.atom < t.atom) → (((i : ℕ) → at ts i ≡ at us i) → ts ≡ us) → t ∷ ts ≡ u ∷ us
        go (yes lt) more r =
            absurd (clash t ts (u ∷ us) small_t (head_of (λ s. s.number ≢ 0) t ts g.2) g.1.0 (above t u us lt h.1.0) (e t.atom))
        go (no le) (yes lt) r =
            absurd (clash u us (t ∷ ts) small_u (head_of (λ s. s.number ≢ 0) u us h.2) h.1.0 (above u t ts lt g.1.0) (sym (e u.atom)))
        go (no le) (no ge) r =
            let is : t.atom ≡ u.atom = omega (arith, le, ge) in
            let numbers : t.number ≡ u.number =
            apart t.number u.number small_t small_u (sym (first t ts g.1.0) ∙ e t.atom ∙ ap (at (u ∷ us)) is ∙ first u us h.1.0) in
            let same : t ≡ u = same_term t u is numbers in
            ap₂ (λ x xs. x ∷ xs) same
            (r (λ i. plus_cancel K (at ts i) (at us i) (number_at (Prime q) i u)
            (K.plus_comm (at ts i) (number_at (Prime q) i u) ∙ ap (λ x. K.plus (number_at (Prime q) i x) (at ts i)) (sym same) ∙ e i ∙
            K.plus_comm (number_at (Prime q) i u) (at us i))))

pub one_form : OneForm
one_form q n ts us listed g h e = one q listed n ts us (g.terms, g.ascending, g.not_nought) (h.terms, h.ascending, h.not_nought) e
