-- A symbol that is a lead, from what is 0: only symbols before it are left.
use Rattle.std.proofs.Common.{◌≡◌, ◌≢◌, ◌≤◌, ◌<◌, ◌+◌, ◌-◌, ◌++◌, ℕ, zero, suc, List, [], ◌∷◌, length, get_or, refl, ap, ap₂, sym, subst, ◌∙◌, arith, All, Bool, true, false, nat_eq, if◌then◌else◌}
use Rattle.std.specs.Prelude.{slice_get, Some}
use native.Mathlib.Decide.{dec_lt}
use native.Mathlib.Nat.{mod-eq_of_lt}
use Rattle.std.proofs.lemmas.Bool.Decides.{nat_tests}
use Rattle.math_fields.specs.Field.{Field}
use Rattle.math_linear.proofs.Numbers.{nought-plus, times-nought}
use Rattle.fpl_numbers.specs.declared.number.Kind.TheVariants.{Prime}
use Rattle.fpl_numbers.specs.Numbers.{IsListed, residue}
use Rattle.fpl_numbers.specs.Kinds.{Number, field_of, number_of}
use Rattle.fpl_numbers.specs.Reads.{Reads}
use Rattle.fpl_numbers.proofs.KindReads.{kind_reads, listed_prime}
use Rattle.fpl_rows.proofs.Fits.{some_same, none_some}
use Rattle.fpl_rows.proofs.Ones.{one_element, one_is}
use Rattle.fpl_model.specs.declared.expr.Expr.{Expr}
use Rattle.fpl_model.specs.declared.expr.Expr.TheVariants.{Zero}
use Rattle.fpl_forms.specs.declared.term.Term.{Term}
use Rattle.fpl_forms.specs.declared.term.Fact.{Fact}
use Rattle.fpl_forms.specs.Ledgers.{PlainLedger, Grows}
use Rattle.fpl_forms.specs.Forms.{IsTermOf, AreTermsOf, tidied}
use Rattle.fpl_forms.specs.Combining.{multiplied}
use Rattle.fpl_forms.specs.Laws.{number_at, number_in, IsAscending, AreNotNought, IsForm}
use Rattle.fpl_forms.proofs.Next.{element}
use Rattle.fpl_forms.proofs.Tidied.{cons_all, head_of, tail_of, tidied_is_form}
use Rattle.fpl_forms.proofs.Values.{tidied_form, multiplied_is_form}
use Rattle.fpl_table_facts.specs.Known.{IsFormOf}
use Rattle.fpl_prove.specs.Learning.{IsSolvedAt, AreValues}
use Rattle.fpl_table_facts.proofs.Grown.{grows_form_of}

pub grows_values : {L M : PlainLedger} (g : Grows L M) (basis es : List Expr) (fs : List Fact) → AreValues L basis es fs → AreValues M basis es fs
grows_values g basis es fs h s f e = grows_form_of g (h s f e)

-- one more value
pub values_more : (L : PlainLedger) (basis es : List Expr) (fs us : List Fact) (f : Fact) (s : ℕ) → us ≡ fs ++ f ∷ [] → length fs ≡ s →
    AreValues L basis es fs →
    IsFormOf L basis (get_or es s Zero) f → AreValues L basis es us
values_more L basis es fs us f s more count h is k z e =
    let at : (j : ℕ) → 0 + j ≡ j = λ j. omega arith in
    subst (λ (i : ℕ). IsFormOf L basis (get_or es i Zero) z) (at k)
    (go fs 0 (λ j g d. subst (λ (i : ℕ). IsFormOf L basis (get_or es i Zero) g) (sym (at j)) (h j g d)) k z (ap (λ gs. slice_get gs k) (sym more) ∙ e)
    (omega (arith, count)))
  where
    go : (gs : List Fact) (from : ℕ) → ((j : ℕ) (g : Fact) → slice_get gs j ≡ Some g → IsFormOf L basis (get_or es (from + j) Zero) g) →
        (k : ℕ) (z : Fact) → slice_get (gs ++ f ∷ []) k ≡ Some z → from + length gs ≡ s → IsFormOf L basis (get_or es (from + k) Zero) z
    go [] from h zero z e l =
        let at : s ≡ from + 0 = omega (arith, l) in
        subst (λ (z : Fact). IsFormOf L basis (get_or es (from + 0) Zero) z) (some_same e)
        (subst (λ (i : ℕ). IsFormOf L basis (get_or es i Zero) f) at is)
    go [] from h (suc k) z e l = absurd (none_some e)
    go (g ∷ gs) from h zero z e l = h zero z e
    go (g ∷ gs) from h (suc k) z e l =
        let at : (j : ℕ) → from + suc j ≡ suc from + j = λ j. omega arith in
        subst (λ (i : ℕ). IsFormOf L basis (get_or es i Zero) z) (sym (at k))
        (go gs (suc from) (λ j g d. subst (λ (i : ℕ). IsFormOf L basis (get_or es i Zero) g) (at j) (h (suc j) g d)) k z e (omega (arith, l)))

pub one_term : (q n i : ℕ) (ts : List Term) → ts ≡ (record { atom = i; number = 1 }) ∷ [] → AreTermsOf q n ts → IsForm q n ts
one_term q n i ts e h = record {
  terms = h;
  ascending = subst IsAscending (sym e) ((λ k d l. absurd (omega (arith, l))), tt);
  not_nought = subst AreNotNought (sym e) (cons_all (λ (t : Term). t.number ≢ 0) (record { atom = i; number = 1 }) [] (λ e. absurd (omega (arith, e)))
      (λ k d l. absurd (omega (arith, l))));
}

module _ (q : ℕ) (listed : IsListed q) where
  abbrev K : Field
  K = field_of (Prime q)

  abbrev at : List Term → ℕ → Number (Prime q)
  at ts i = number_in (Prime q) ts i

  reads : Reads (Prime q) K (number_of (Prime q))
  reads = kind_reads (Prime q) listed

  other : (t : Term) (i : ℕ) → t.atom ≢ i → number_at (Prime q) i t ≡ K.nought
  other t i e = let b : nat_eq t.atom i ≡ false = grind (arith, nat_tests, e) in
      ap (λ (b : Bool). if b then number_of (Prime q) (residue t.number) else K.nought) b

  own : (t : Term) (i : ℕ) → t.atom ≡ i → number_at (Prime q) i t ≡ number_of (Prime q) (residue t.number)
  own t i e = let b : nat_eq t.atom i ≡ true = grind (arith, nat_tests, e) in
      ap (λ (b : Bool). if b then number_of (Prime q) (residue t.number) else K.nought) b

  past : (ts : List Term) (i : ℕ) → All (λ t. i < t.atom) ts → at ts i ≡ K.nought
  past [] i h = refl
  past (t ∷ ts) i h =
      let lt = head_of (λ t. i < t.atom) t ts h in
      ap₂ K.plus (other t i (λ e. absurd (omega (arith, lt, e)))) (past ts i (tail_of (λ t. i < t.atom) t ts h)) ∙ K.plus-nought K.nought

  module _ (n s : ℕ) where
    -- terms without numbers from s on name atoms below s
    pub below : (ts : List Term) → AreTermsOf q n ts → IsAscending ts → AreNotNought ts → ((i : ℕ) → s ≤ i → at ts i ≡ K.nought) → All (λ t. t.atom < s) ts
    below [] g a z e = λ i d l. absurd (omega (arith, l))
    below (t ∷ ts) g a z e = go (dec_lt t.atom s) (λ h. below ts (tail_of (IsTermOf q n) t ts g) a.1 (tail_of (λ (t : Term). t.number ≢ 0) t ts z) h)
      where
        small : t.number < q
        small = (head_of (IsTermOf q n) t ts g).1

        some : t.number ≢ 0
        some = head_of (λ (t : Term). t.number ≢ 0) t ts z

        rest : (i : ℕ) → t.atom < s → s ≤ i → at ts i ≡ K.nought
        rest i lt l =
            sym (nought-plus K (at ts i)) ∙ ap (λ x. K.plus x (at ts i)) (sym (other t i (λ e. absurd (omega (arith, lt, l, e))))) ∙ e i l

        go : Dec (t.atom < s) → (((i : ℕ) → s ≤ i → at ts i ≡ K.nought) → All (λ t. t.atom < s) ts) → All (λ t. t.atom < s) (t ∷ ts)
        go (yes lt) more = cons_all (λ (t : Term). t.atom < s) t ts lt (more (λ i l. rest i lt l))
        go (no ge) more =
            let f : nat_eq t.number 0 ≡ false = grind (arith, nat_tests, some) in
            absurd (reads.nonzero (residue t.number) (element (Prime q) q refl listed t.number small) f
            (sym (K.plus-nought (number_of (Prime q) (residue t.number)))
            ∙ ap₂ K.plus (sym (own t t.atom refl)) (sym (past ts t.atom a.0)) ∙ e t.atom (omega (arith, ge))))

    minus_one : number_of (Prime q) (residue (q - 1)) ≡ K.minus K.unit
    minus_one =
        let two = (listed_prime q listed).1 in
        let l : q - 1 < q = omega (arith, two) in
        ap (λ (m : ℕ). number_of (Prime q) (residue m)) (sym (mod-eq_of_lt l))
        ∙ (reads.negative (residue 1) (one_element (Prime q) listed)).1
        ∙ ap K.minus (one_is (Prime q) K (number_of (Prime q)) reads listed)

    abbrev unit : Term
    unit = record { atom = s; number = 1 }

    abbrev left_over : List Term → List Term
    left_over zs = tidied q (unit ∷ [] ++ multiplied q (q - 1) zs)

    module _ (zs : List Term) (lt : s < n) (good : AreTermsOf q n zs) where
      off_good : AreTermsOf q n (unit ∷ [] ++ multiplied q (q - 1) zs)
      off_good =
          let two = (listed_prime q listed).1 in
          cons_all (IsTermOf q n) unit (multiplied q (q - 1) zs) (lt, omega (arith, two)) (multiplied_is_form q n (q - 1) zs listed (omega (arith, two)) good).0

      left_number : (i : ℕ) → at (left_over zs) i ≡ K.plus (number_at (Prime q) i unit) (K.times (K.minus K.unit) (at zs i))
      left_number i =
          let two = (listed_prime q listed).1 in
          (tidied_is_form q n (unit ∷ [] ++ multiplied q (q - 1) zs) listed off_good).2 i
          ∙ ap (K.plus (number_at (Prime q) i unit)) ((multiplied_is_form q n (q - 1) zs listed (omega (arith, two)) good).3 i
          ∙ ap (λ x. K.times x (at zs i)) minus_one)

      pub left_below : IsSolvedAt q s zs → All (λ t. t.atom < s) (left_over zs)
      left_below h =
          let form = tidied_form q listed n (unit ∷ [] ++ multiplied q (q - 1) zs) off_good in
          below (left_over zs) form.terms form.ascending form.not_nought (λ i l. go i l (dec_lt s i))
        where
          go : (i : ℕ) → s ≤ i → Dec (s < i) → at (left_over zs) i ≡ K.nought
          go i l (yes above) =
              left_number i ∙ ap₂ K.plus (other unit i (λ e. absurd (omega (arith, above, e))))
              (ap (K.times (K.minus K.unit)) (h.above i above) ∙ times-nought K (K.minus K.unit)) ∙ K.plus-nought K.nought
          go i l (no same) =
              let is : s ≡ i = omega (arith, l, same) in
              left_number i ∙ ap₂ K.plus (own unit i is ∙ one_is (Prime q) K (number_of (Prime q)) reads listed)
              (ap (K.times (K.minus K.unit)) (ap (at zs) (sym is) ∙ h.one) ∙ K.times-unit (K.minus K.unit)) ∙ K.plus-minus K.unit
