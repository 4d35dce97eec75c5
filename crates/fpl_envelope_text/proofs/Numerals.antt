-- A number of a field of residues, and how it is written.
use Rattle.std.proofs.Common.{ℕ, zero, suc, ◌<◌, ◌≤◌, ◌≡◌, List, [], ◌∷◌, map, refl, sym, ap, ap₂, ◌∙◌, subst, arith}
use native.Mathlib.Decide.{dec_lt}
use Rattle.fpl_numbers.specs.declared.number.Num.{Num}
use Rattle.fpl_numbers.specs.declared.number.Kind.{Kind}
use Rattle.fpl_numbers.specs.declared.number.Kind.TheVariants.{Rational, Prime}
use Rattle.fpl_numbers.specs.Numbers.{IsField, IsElement, residue, residue_of}
use Rattle.fpl_numbers.specs.Kinds.{Number, field_of, number_of}
use Rattle.fpl_numbers.proofs.KindReads.{kind_reads}
use Rattle.fpl_numbers.proofs.Onto.{kind_reads_all}
use Rattle.math_words.specs.Words.{Word}
use Rattle.fpl_envelope.specs.Action.{IsOfResidues}
use Rattle.fpl_envelope_text.specs.Numerals.{if_same, residue_below, numeral}

module _ (p : ℕ) (accepted : IsField (Prime p)) where
  element : (r : ℕ) → r < p → IsElement (Prime p) (residue r)
  element r l = ((l, refl), tt)

  -- the residues below n that stand for what r stands for are r alone
  found_below : (r n : ℕ) → r < p → r < n → n ≤ p → residue_below (Prime p) n (number_of (Prime p) (residue r)) ≡ r
  unfolding residue_below
  found_below r zero l m h = absurd (omega arith)
  found_below r (suc n) l m h =
      by_test ((field_of (Prime p)).same (number_of (Prime p) (residue n)) (number_of (Prime p) (residue r)))
      (λ k. found_below r n l k (omega arith))
    where
      by_test : (d : Dec (number_of (Prime p) (residue n) ≡ number_of (Prime p) (residue r))) →
          (r < n → residue_below (Prime p) n (number_of (Prime p) (residue r)) ≡ r) →
          if_same d n (residue_below (Prime p) n (number_of (Prime p) (residue r))) ≡ r
      by_test (yes e) rest =
          ap residue_of ((kind_reads (Prime p) accepted).apart (residue n) (residue r) (element n (omega arith)) (element r l) e)
      by_test (no d) rest = rest (less (dec_lt r n))
        where
          less : Dec (r < n) → r < n
          less (yes k) = k
          less (no k) = let same : n ≡ r = omega arith in absurd (d (ap (λ m. number_of (Prime p) (residue m)) same))

  prime_numeral : (a : Num) → IsElement (Prime p) a → numeral (Prime p) (number_of (Prime p) a) ≡ a
  unfolding numeral
  prime_numeral a is =
      let canonical : a ≡ residue (residue_of a) = is.0.1 in
      ap (λ (x : Num). residue (residue_below (Prime p) p (number_of (Prime p) x))) canonical
      ∙ ap residue (found_below (residue_of a) p is.0.0 is.0.0 (omega arith)) ∙ sym canonical

pub numeral_is : (k : Kind) → IsOfResidues k → (a : Num) → IsElement k a → numeral k (number_of k a) ≡ a
numeral_is k h = subst (λ k. (a : Num) → IsElement k a → numeral k (number_of k a) ≡ a) (sym h.is) (prime_numeral h.prime (subst IsField h.is h.accepted))

-- what is written is canonical, and stands for the number
pub record IsWritten (k : Kind) (c : Number k) : Type 0 where
  pub element : IsElement k (numeral k c)
  pub value : number_of k (numeral k c) ≡ c

prime_written : (p : ℕ) → IsField (Prime p) → (c : Number (Prime p)) → IsWritten (Prime p) c
prime_written p accepted c = go (kind_reads_all (Prime p) accepted c)
  where
    go : (a : Num) × ((residue_of a < p) × (a ≡ residue (residue_of a))) × (number_of (Prime p) a ≡ c) → IsWritten (Prime p) c
    go h =
        let is : IsElement (Prime p) h.0 = (h.1, tt) in
        let back : numeral (Prime p) c ≡ h.0 = ap (numeral (Prime p)) (sym h.2) ∙ prime_numeral p accepted h.0 is in
        record { element = subst (IsElement (Prime p)) (sym back) is; value = ap (number_of (Prime p)) back ∙ h.2 }

pub written_is : (k : Kind) → IsOfResidues k → (c : Number k) → IsWritten k c
written_is k h = subst (λ k. (c : Number k) → IsWritten k c) (sym h.is) (prime_written h.prime (subst IsField h.is h.accepted))
