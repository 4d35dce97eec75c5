-- What numbers the terms have that multiples, sums, replaced atoms and brackets give.
use Rattle.std.proofs.Common.{◌≡◌, ◌≢◌, ◌<◌, ◌+◌, ◌*◌, ◌%◌, ◌++◌, ℕ, zero, suc, List, [], ◌∷◌, Bool, true, false, nat_eq, if◌then◌else◌, map, flat_map, refl, ap, ap₂, sym, subst, ◌∙◌, arith, All}
use Rattle.std.specs.Simd.Lanes.{zip2}
use Rattle.std.proofs.lemmas.Nat.{mod_below}
use Rattle.std.proofs.lemmas.List.Elements.{All-append}
use Rattle.math_fields.specs.Field.{Field}
use Rattle.math_linear.proofs.Numbers.{nought-plus, times-nought}
use Rattle.fpl_numbers.specs.declared.number.Kind.TheVariants.{Prime}
use Rattle.fpl_numbers.specs.Numbers.{IsListed, residue}
use Rattle.fpl_numbers.specs.Kinds.{Number, field_of, number_of}
use Rattle.fpl_numbers.proofs.KindReads.{listed_prime}
use Rattle.fpl_forms.specs.declared.term.Term.{Term}
use Rattle.fpl_forms.specs.declared.term.Fact.{Fact}
use Rattle.fpl_forms.specs.Forms.{IsTermOf, AreTermsOf, nonzero, tidied}
use Rattle.fpl_forms.specs.Combining.{scaled, multiplied, terms_of, joined, times_term, combined, row_terms, times_row, bracketed}
use Rattle.fpl_forms.specs.Laws.{number_at, number_in, IsAscending, AreNotNought, IsForm, AreFactsOf, facts_sum, weighted, weighted_rows, MultipliedIsForm, JoinedAddUp, CombinedAddUp, BracketedAddUp}
use Rattle.fpl_forms.proofs.Next.{times_is}
use Rattle.fpl_forms.proofs.Tidied.{cons_all, head_of, tail_of, sorted_good, nonzero_all, nonzero_ascends, none_nought, nonzero_number, tidied_is_form}
use Rattle.fpl_forms.proofs.Gathering.{first_of, others_of, all_as, all_mapped}

module _ (q : ℕ) (listed : IsListed q) where
  abbrev K : Field
  K = field_of (Prime q)

  abbrev at : List Term → ℕ → Number (Prime q)
  at ts i = number_in (Prime q) ts i

  abbrev as_number : ℕ → Number (Prime q)
  as_number c = number_of (Prime q) (residue c)

  pub number-append : (ts us : List Term) (i : ℕ) → at (ts ++ us) i ≡ K.plus (at ts i) (at us i)
  number-append [] us i = sym (nought-plus K (at us i))
  number-append (t ∷ ts) us i =
      ap (K.plus (number_at (Prime q) i t)) (number-append ts us i) ∙ sym (K.plus_assoc (number_at (Prime q) i t) (at ts i) (at us i))

  module _ (n : ℕ) where
    tidied_good : (ts : List Term) → AreTermsOf q n ts → AreTermsOf q n (tidied q ts)
    tidied_good ts h = nonzero_all (IsTermOf q n) _ (sorted_good q listed n ts h)

    pub tidied_form : (ts : List Term) → AreTermsOf q n ts → IsForm q n (tidied q ts)
    tidied_form ts h = let f = tidied_is_form q n ts listed h in record { terms = tidied_good ts h; ascending = f.0; not_nought = f.1 }

    tidied_number : (ts : List Term) → AreTermsOf q n ts → (i : ℕ) → at (tidied q ts) i ≡ at ts i
    tidied_number ts h = (tidied_is_form q n ts listed h).2

    module _ (c : ℕ) (lt : c < q) where
      one_good : (t : Term) → IsTermOf q n t → IsTermOf q n (scaled q c t)
      one_good t h = (h.0, mod_below (c * t.number) q (omega (arith, (listed_prime q listed).1)))

      scaled_good : (ts : List Term) → AreTermsOf q n ts → AreTermsOf q n (map (scaled q c) ts)
      scaled_good ts h = all_mapped (IsTermOf q n) (scaled q c) ts (all_as (IsTermOf q n) (λ t. IsTermOf q n (scaled q c t)) one_good ts h)

      pub multiplied_good : (ts : List Term) → AreTermsOf q n ts → AreTermsOf q n (multiplied q c ts)
      multiplied_good ts h = nonzero_all (IsTermOf q n) (map (scaled q c) ts) (scaled_good ts h)

      scaled_at : (t : Term) (i : ℕ) → IsTermOf q n t → number_at (Prime q) i (scaled q c t) ≡ K.times (as_number c) (number_at (Prime q) i t)
      scaled_at t i h = go (nat_eq t.atom i)
        where
          go : (b : Bool) → ◌≡◌ {A = K.Carrier} (if b then as_number ((c * t.number) % q) else K.nought)
              (K.times (as_number c) (if b then as_number t.number else K.nought))
          go true = times_is (Prime q) q refl listed c t.number lt h.1
          go false = sym (times-nought K (as_number c))

      scaled_number : (ts : List Term) (i : ℕ) → AreTermsOf q n ts → at (map (scaled q c) ts) i ≡ K.times (as_number c) (at ts i)
      scaled_number [] i h = sym (times-nought K (as_number c))
      scaled_number (t ∷ ts) i h =
          ap₂ K.plus (scaled_at t i (head_of (IsTermOf q n) t ts h)) (scaled_number ts i (tail_of (IsTermOf q n) t ts h)) ∙
          sym (K.times-plus (as_number c) (number_at (Prime q) i t) (at ts i))

      pub multiplied_number : (ts : List Term) (i : ℕ) → AreTermsOf q n ts → at (multiplied q c ts) i ≡ K.times (as_number c) (at ts i)
      multiplied_number ts i h = nonzero_number q listed n i (map (scaled q c) ts) ∙ scaled_number ts i h

      scaled_ascends : (ts : List Term) → IsAscending ts → IsAscending (map (scaled q c) ts)
      scaled_ascends [] h = h
      scaled_ascends (t ∷ ts) h = (all_mapped (λ s. t.atom < s.atom) (scaled q c) ts h.0, scaled_ascends ts h.1)

    -- facts
    good_parts : {A : Type 0} (terms : A → List Term) (xs : List A) → All (λ x. AreTermsOf q n (terms x)) xs → AreTermsOf q n (flat_map (λ ts. ts) (map terms xs))
    good_parts terms [] h = λ i d lt. absurd (omega (arith, lt))
    good_parts terms (x ∷ xs) h =
        All-append (IsTermOf q n) (terms x) _ (first_of (λ x. AreTermsOf q n (terms x)) x xs h)
        (good_parts terms xs (others_of (λ x. AreTermsOf q n (terms x)) x xs h))

    joined_number : (fs : List Fact) (i : ℕ) → at (joined fs) i ≡ facts_sum (Prime q) fs i
    joined_number [] i = refl
    joined_number (f ∷ fs) i = number-append (terms_of f) (joined fs) i ∙ ap (K.plus (at (terms_of f) i)) (joined_number fs i)

    module _ (m : ℕ) where
      combined_good : (ts : List Term) (fs : List Fact) → AreTermsOf q m ts → AreFactsOf q n fs → AreTermsOf q n (combined q ts fs)
      combined_good [] fs g h = λ i d lt. absurd (omega (arith, lt))
      combined_good (t ∷ ts) [] g h = λ i d lt. absurd (omega (arith, lt))
      combined_good (t ∷ ts) (f ∷ fs) g h =
          All-append (IsTermOf q n) (times_term q t f) (combined q ts fs)
          (multiplied_good t.number (head_of (IsTermOf q m) t ts g).1 (terms_of f) (first_of (λ f. AreTermsOf q n (terms_of f)) f fs h))
          (combined_good ts fs (tail_of (IsTermOf q m) t ts g) (others_of (λ f. AreTermsOf q n (terms_of f)) f fs h))

      combined_number : (ts : List Term) (fs : List Fact) (i : ℕ) → AreTermsOf q m ts → AreFactsOf q n fs →
          at (combined q ts fs) i ≡ weighted (Prime q) ts fs i
      combined_number [] fs i g h = refl
      combined_number (t ∷ ts) [] i g h = refl
      combined_number (t ∷ ts) (f ∷ fs) i g h =
          number-append (times_term q t f) (combined q ts fs) i ∙
          ap₂ K.plus
          (multiplied_number t.number (head_of (IsTermOf q m) t ts g).1 (terms_of f) i (first_of (λ f. AreTermsOf q n (terms_of f)) f fs h))
          (combined_number ts fs i (tail_of (IsTermOf q m) t ts g) (others_of (λ f. AreTermsOf q n (terms_of f)) f fs h))

      module _ (ts : List Term) (good : AreTermsOf q m ts) where
        row_good : (r : List Fact) → AreFactsOf q n r → AreTermsOf q n (row_terms q ts r)
        row_good r h = tidied_good (combined q ts r) (combined_good ts r good h)

        row_number : (r : List Fact) (i : ℕ) → AreFactsOf q n r → at (row_terms q ts r) i ≡ weighted (Prime q) ts r i
        row_number r i h = tidied_number (combined q ts r) (combined_good ts r good h) i ∙ combined_number ts r i good h

        abbrev all_rows : List Term → List (List Fact) → List Term
        all_rows ss rows = flat_map (λ ts. ts) (zip2 (times_row q ts) ss rows)

        rows_good : (ss : List Term) (rows : List (List Fact)) → AreTermsOf q m ss → All (AreFactsOf q n) rows → AreTermsOf q n (all_rows ss rows)
        rows_good [] rows g h = λ i d lt. absurd (omega (arith, lt))
        rows_good (s ∷ ss) [] g h = λ i d lt. absurd (omega (arith, lt))
        rows_good (s ∷ ss) (r ∷ rows) g h =
            All-append (IsTermOf q n) (times_row q ts s r) (all_rows ss rows)
            (multiplied_good s.number (head_of (IsTermOf q m) s ss g).1 (row_terms q ts r) (row_good r (first_of (AreFactsOf q n) r rows h)))
            (rows_good ss rows (tail_of (IsTermOf q m) s ss g) (others_of (AreFactsOf q n) r rows h))

        rows_number : (ss : List Term) (rows : List (List Fact)) (i : ℕ) → AreTermsOf q m ss → All (AreFactsOf q n) rows →
            at (all_rows ss rows) i ≡ weighted_rows (Prime q) ss ts rows i
        rows_number [] rows i g h = refl
        rows_number (s ∷ ss) [] i g h = refl
        rows_number (s ∷ ss) (r ∷ rows) i g h =
            let first = first_of (AreFactsOf q n) r rows h in
            number-append (times_row q ts s r) (all_rows ss rows) i ∙
            ap₂ K.plus
            (multiplied_number s.number (head_of (IsTermOf q m) s ss g).1 (row_terms q ts r) i (row_good r first) ∙
            ap (K.times (as_number s.number)) (row_number r i first))
            (rows_number ss rows i (tail_of (IsTermOf q m) s ss g) (others_of (AreFactsOf q n) r rows h))

pub multiplied_is_form : MultipliedIsForm
multiplied_is_form q n c ts listed lt h = (
  multiplied_good q listed n c lt ts h,
  (λ a. nonzero_ascends (map (scaled q c) ts) (scaled_ascends q listed n c lt ts a)),
  none_nought (map (scaled q c) ts),
  λ i. multiplied_number q listed n c lt ts i h,
)

pub joined_add_up : JoinedAddUp
joined_add_up q n fs listed h =
    let good = good_parts q listed n terms_of fs h in
    (tidied_form q listed n (joined fs) good, λ i. tidied_number q listed n (joined fs) good i ∙ joined_number q listed n fs i)

pub combined_add_up : CombinedAddUp
combined_add_up q m n ts fs listed g h =
    let good = combined_good q listed n m ts fs g h in (
      tidied_form q listed n (combined q ts fs) good,
      λ i. tidied_number q listed n (combined q ts fs) good i ∙ combined_number q listed n m ts fs i g h,
    )

pub bracketed_add_up : BracketedAddUp
bracketed_add_up q m n ss ts rows listed g k h =
    let good = rows_good q listed n m ts k ss rows g h in (
      tidied_form q listed n _ good,
      λ i. tidied_number q listed n _ good i ∙ rows_number q listed n m ts k ss rows i g h,
    )
