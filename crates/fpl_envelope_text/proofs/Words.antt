-- The words of a weight, spelled: they are over the basis, and their parities are those of the words.
use Rattle.std.proofs.Common.{ℕ, zero, suc, ◌+◌, ◌-◌, ◌<◌, ◌≤◌, ◌≡◌, List, [], ◌∷◌, ◌++◌, length, get_or, map, drop, Bool, cond, refl, sym, ap, ap₂, ◌∙◌, subst, arith, drop-cons}
use Rattle.std.specs.Prelude.{All, pred, count_by, not}
use Rattle.std.proofs.lemmas.List.Elements.{All-nil, All-cons}
use Rattle.std.proofs.lemmas.List.Sums.{sum_by-cons}
use Rattle.std.proofs.lemmas.List.{length-map}
use Rattle.std.proofs.Math.ListN as seqs
use Rattle.math_algebra.specs.Tree.{Parity, even, parity_sum}
use Rattle.math_algebra.specs.Symbols.{is_odd}
use Rattle.math_words.specs.Words.{Word, IsOrdered}
use Rattle.math_words.specs.Words.IsOrdered.{ordered_none, ordered_more}
use Rattle.plain_envelope.specs.Products.{word_parity, even_words, odd_words}
use Rattle.plain_envelope.proofs.Words.{words_are_listed}
use Rattle.fpl_table.specs.Plain.{PlainTable, plain_basis, table_in}
use Rattle.fpl_table.specs.Shape.{HasShape}
use Rattle.fpl_table.proofs.Lists.{at_default}
use Rattle.fpl_envelope.specs.Counts.{words_in, word_in}
use Rattle.fpl_envelope.specs.Action.{field_in, math_in}
use Rattle.fpl_envelope.specs.Polys.{word_of, IsWordIn}
use Rattle.fpl_envelope.proofs.CountRows.{weighted}
use Rattle.fpl_envelope.proofs.Lettered.{before_is}
use Rattle.fpl_envelope.proofs.Terms.{back_again}
use Rattle.fpl_envelope_text.specs.Lists.{spelled_words, AreLists}

module _ (T : PlainTable) where
  abbrev InBasis : ℕ → Type 0
  InBasis i = (1 ≤ i) × (i ≤ length T.basis)

  word_in_basis : (u : Word) → IsOrdered (math_in T) u → IsWordIn T (map suc u)
  word_in_basis [] o = All-nil InBasis
  word_in_basis (i ∷ u) (ordered_more _ _ l h o) = All-cons InBasis (suc i) (map suc u) (omega arith, omega arith) (word_in_basis u o)

  words_in_basis : (us : List Word) → ((k : ℕ) → k < length us → IsOrdered (math_in T) (get_or us k [])) → All (IsWordIn T) (map (λ u. map suc u) us)
  words_in_basis [] h = All-nil (IsWordIn T)
  words_in_basis (u ∷ us) h =
      All-cons (IsWordIn T) (map suc u) (map (λ u. map suc u) us) (word_in_basis u (h 0 (omega arith))) (words_in_basis us (λ k l. h (suc k) (omega arith)))

  pub spelled_in_basis : HasShape T → (w : ℕ) → (words : List (List ℕ)) → words ≡ spelled_words T w → All (IsWordIn T) words
  spelled_in_basis shape w words e =
      subst (All (IsWordIn T)) (sym e)
      (words_in_basis (words_in T w) (λ k l. ((words_are_listed (field_in T) (math_in T) (weighted T shape) w).ordered k l).0))

  -- a word's parity, letter by letter from the last
  pub parity_step : (letters : List ℕ) (k i : ℕ) (s : Parity) → k < length letters → i ≡ get_or letters k 0 →
      s ≡ word_parity (math_in T) (word_of (drop (suc k) letters)) →
      parity_sum (plain_basis T (i - 1)).parity s ≡ word_parity (math_in T) (word_of (drop k letters))
  unfolding word_parity
  parity_step letters k i s l is e =
      ap₂ (λ j (t : Parity). parity_sum (plain_basis T j).parity t) (ap (λ j. j - 1) is ∙ sym (before_is (get_or letters k 0))) e
      ∙ ap (λ u. word_parity (math_in T) (word_of u)) (sym (drop-cons letters k 0 l))

  pub parity_none : even ≡ word_parity (math_in T) (word_of [])
  unfolding word_parity
  parity_none = refl

counted_spelled : (p : Word → Bool) (us : List Word) → count_by (λ u. p (word_of u)) (map (λ u. map suc u) us) ≡ count_by p us
counted_spelled p [] = refl
counted_spelled p (u ∷ us) =
    sum_by-cons (λ (x : List ℕ). cond {A = ℕ} (p (word_of x)) 1 0) (map suc u) (map (λ u. map suc u) us)
    ∙ ap₂ (λ (v : Word) n. cond {A = ℕ} (p v) 1 0 + n) (back_again u) (counted_spelled p us)
    ∙ sym (sum_by-cons (λ (x : Word). cond {A = ℕ} (p x) 1 0) u us)

pub spelled_length : (T : PlainTable) (w : ℕ) (words : List (List ℕ)) → words ≡ spelled_words T w → length words ≡ length (words_in T w)
spelled_length T w words e = ap length e ∙ length-map (words_in T w) (λ (u : Word). map suc u)

module _ (T : PlainTable) (w : ℕ) (words : List (List ℕ)) (e : words ≡ spelled_words T w) where
  pub evens_are : count_by (λ u. not (is_odd (word_parity (math_in T) (word_of u)))) words ≡ even_words (math_in T) (words_in T w)
  evens_are =
      ap (λ us. count_by (λ u. not (is_odd (word_parity (math_in T) (word_of u)))) us) e
      ∙ counted_spelled (λ u. not (is_odd (word_parity (math_in T) u))) (words_in T w)

  pub odds_are : count_by (λ u. is_odd (word_parity (math_in T) (word_of u))) words ≡ odd_words (math_in T) (words_in T w)
  odds_are =
      ap (λ us. count_by (λ u. is_odd (word_parity (math_in T) (word_of u))) us) e
      ∙ counted_spelled (λ u. is_odd (word_parity (math_in T) u)) (words_in T w)

-- a word that stands in a list of spelled words
pub word_at : (T : PlainTable) (weight v k : ℕ) (words : List (List ℕ)) (word : List ℕ) → words ≡ spelled_words T weight → weight ≡ v →
    k < length (words_in T weight) → word ≡ get_or words k word → word ≡ map suc (word_in T v k)
word_at T weight v k words word e same l is =
    sym (at_default words k [] word (let n : length words ≡ length (words_in T weight) = spelled_length T weight words e in omega (arith, n, l)) is)
    ∙ ap (λ us. get_or us k []) e ∙ seqs.get_or-map (λ (u : Word). map suc u) (words_in T weight) k [] ∙ ap (λ v. map suc (word_in T v k)) same
