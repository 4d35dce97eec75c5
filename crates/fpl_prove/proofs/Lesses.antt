-- The numbers of one form less another.
use Rattle.std.proofs.Common.{◌≡◌, ◌<◌, ◌-◌, ◌++◌, ℕ, List, ap, ap₂, sym, subst, ◌∙◌, arith}
use Rattle.std.proofs.lemmas.List.Elements.{All-append}
use Rattle.math_fields.specs.Field.{Field}
use Rattle.fpl_numbers.specs.declared.number.Kind.{Kind}
use Rattle.fpl_numbers.specs.declared.number.Kind.TheVariants.{Prime}
use Rattle.fpl_numbers.specs.Numbers.{IsListed, residue}
use Rattle.fpl_numbers.specs.Kinds.{Number, field_of, number_of}
use Rattle.fpl_numbers.proofs.KindReads.{listed_prime}
use Rattle.fpl_forms.specs.declared.term.Term.{Term}
use Rattle.fpl_forms.specs.Forms.{IsTermOf, AreTermsOf}
use Rattle.fpl_forms.specs.Combining.{multiplied}
use Rattle.fpl_forms.specs.Laws.{number_in}
use Rattle.fpl_forms.specs.Ledgers.{PlainLedger, IsSoundLedger}
use Rattle.fpl_forms.proofs.Next.{unit_is}
use Rattle.fpl_forms.proofs.Tidied.{tidied_is_form}
use Rattle.fpl_forms.proofs.Values.{number-append, multiplied_good, multiplied_number}
use Rattle.fpl_facts.specs.Facts.{less}
use Rattle.fpl_facts.proofs.NextAxioms.{less_is}

module _ (q : ℕ) (listed : IsListed q) (n : ℕ) (ss ts : List Term) (first : AreTermsOf q n ss) (second : AreTermsOf q n ts) (i : ℕ) where
  abbrev K : Field
  K = field_of (Prime q)

  abbrev as_number : ℕ → Number (Prime q)
  as_number c = number_of (Prime q) (residue c)

  lesses : number_in (Prime q) (less q ss ts) i ≡
      K.plus (K.times (as_number 1) (number_in (Prime q) ss i)) (K.times (as_number (q - 1)) (number_in (Prime q) ts i))
  lesses =
      let past = (listed_prime q listed).1 in
      let one : 1 < q = omega (arith, past) in
      let off : q - 1 < q = omega (arith, past) in
      (tidied_is_form q n (multiplied q 1 ss ++ multiplied q (q - 1) ts) listed
      (All-append (IsTermOf q n) (multiplied q 1 ss) (multiplied q (q - 1) ts) (multiplied_good q listed n 1 one ss first)
      (multiplied_good q listed n (q - 1) off ts second))).2 i ∙
      number-append q listed (multiplied q 1 ss) (multiplied q (q - 1) ts) i ∙
      ap₂ K.plus (multiplied_number q listed n 1 one ss i first) (multiplied_number q listed n (q - 1) off ts i second)

lesses_in : (k : Kind) (q : ℕ) → k ≡ Prime q → IsListed q → (n : ℕ) (ss ts : List Term) → AreTermsOf q n ss → AreTermsOf q n ts → (i : ℕ) →
    number_in k (less q ss ts) i ≡ (field_of k).plus ((field_of k).times (number_of k (residue 1)) (number_in k ss i))
    ((field_of k).times (number_of k (residue (q - 1))) (number_in k ts i))
lesses_in k q is listed n ss ts first second i =
    subst (λ k. number_in k (less q ss ts) i ≡ (field_of k).plus ((field_of k).times (number_of k (residue 1)) (number_in k ss i))
    ((field_of k).times (number_of k (residue (q - 1))) (number_in k ts i))) (sym is) (lesses q listed n ss ts first second i)

pub less_numbers : (L : PlainLedger) (s : IsSoundLedger L) (n : ℕ) (ss ts : List Term) → AreTermsOf L.prime n ss → AreTermsOf L.prime n ts → (i : ℕ) →
    number_in L.presentation.field (less L.prime ss ts) i ≡ (field_of L.presentation.field).plus (number_in L.presentation.field ss i)
    ((field_of L.presentation.field).times ((field_of L.presentation.field).minus (field_of L.presentation.field).unit) (number_in L.presentation.field ts i))
less_numbers L s n ss ts first second i =
    let k = L.presentation.field in
    let K = field_of k in
    let x = number_in k ss i in
    let y = number_in k ts i in
    lesses_in k L.prime s.field s.listed n ss ts first second i ∙
    ap₂ (λ a b. K.plus (K.times a x) (K.times b y)) (unit_is k L.prime s.field s.listed) (less_is L s) ∙
    ap (λ a. K.plus a (K.times (K.minus K.unit) y)) (K.times_comm K.unit x ∙ K.times-unit x)
