-- Polys of code, put together from terms: they stay within the table's weight.
use Rattle.std.proofs.Common.{ℕ, suc, ◌+◌, ◌<◌, ◌≤◌, ◌≡◌, List, [], ◌∷◌, ◌++◌, length, get_or, map, true, false, refl, sym, ap, ap₂, ◌∙◌, subst, arith, drop, drop-cons}
use Rattle.std.specs.Prelude.{Bool, if◌then◌else◌}
use Rattle.std.proofs.lemmas.List.{map-append}
use Rattle.std.proofs.lemmas.List.Elements.{All-nil, All-cons, All-append}
use Rattle.math_linear.specs.Lists.{joined}
use Rattle.fpl_numbers.specs.declared.number.Num.{Num}
use Rattle.fpl_numbers.specs.declared.number.Kind.{Kind}
use Rattle.fpl_numbers.specs.Numbers.{IsElement, is_nought, residue}
use Rattle.fpl_numbers.specs.Kinds.{field_of, number_of}
use Rattle.fpl_scalar.specs.Vectors.{AreElements}
use Rattle.math_words.specs.Words.{Word, IsOrdered, word_weight}
use Rattle.math_words.specs.Words.IsOrdered.{ordered_more}
use Rattle.fpl_table.specs.Plain.{PlainTable}
use Rattle.fpl_table.proofs.Lists.{at_default}
use Rattle.plain_envelope.specs.Straight.{times_word, poly_product}
use Rattle.fpl_envelope.proofs.Parts.{no_term}
use Rattle.fpl_table.specs.Shape.{HasShape}
use Rattle.fpl_envelope.specs.Counts.{words_in, word_in}
use Rattle.fpl_envelope.specs.Action.{field_in, math_in}
use Rattle.fpl_envelope.specs.Polys.{word_of, poly_of, spelled, weight_in, IsWordIn, IsTermIn, IsPolyIn, term_if, row_terms}
use Rattle.plain_envelope.proofs.Words.{words_are_listed}
use Rattle.fpl_envelope.proofs.CountRows.{weighted}
use Rattle.fpl_envelope.proofs.Terms.{back_again}
use Rattle.fpl_envelope.proofs.Lettered.{weight_joined, word_joined}

pub poly_joined : (kind : Kind) (u v : List (List ℕ × Num)) → poly_of kind (u ++ v) ≡ poly_of kind u ++ poly_of kind v
poly_joined kind u v = map-append (λ m. (word_of m.0, number_of kind m.1)) u v

-- what is left of the products of a term with those of a poly, with one more
pub times_left : (kind : Kind) (k : ℕ) (v : List (List ℕ × Num)) (l n : List ℕ × Num) (word lw rw : List ℕ) (c lc rc : Num) → (lw, lc) ≡ l → (rw, rc) ≡ n →
    k < length v → n ≡ get_or v k n → word ≡ lw ++ rw → number_of kind c ≡ (field_of kind).times (number_of kind lc) (number_of kind rc) →
    ((word_of word, number_of kind c) ∷ times_word (field_of kind) (word_of l.0) (number_of kind l.1) (poly_of kind (drop (suc k) v)))
    ≡ times_word (field_of kind) (word_of l.0) (number_of kind l.1) (poly_of kind (drop k v))
times_left kind k v l n word lw rw c lc rc el en in_v at e q =
    ap₂ (λ (a : Word) (b : (field_of kind).Carrier). (a, b) ∷ times_word (field_of kind) (word_of l.0) (number_of kind l.1) (poly_of kind (drop (suc k) v)))
    (ap word_of e ∙ word_joined lw rw ∙ ap₂ (λ (a b : List ℕ × Num). word_of a.0 ++ word_of b.0) el en)
    (q ∙ ap₂ (λ (a b : List ℕ × Num). (field_of kind).times (number_of kind a.1) (number_of kind b.1)) el en)
    ∙ ap (λ x. times_word (field_of kind) (word_of l.0) (number_of kind l.1) (poly_of kind (x ∷ drop (suc k) v))) (sym (at_default v k no_term n in_v at))
    ∙ ap (λ x. times_word (field_of kind) (word_of l.0) (number_of kind l.1) (poly_of kind x)) (sym (drop-cons v k no_term in_v))

pub product_left : (kind : Kind) (k : ℕ) (u v : List (List ℕ × Num)) (m : List ℕ × Num) → k < length u → m ≡ get_or u k m →
    times_word (field_of kind) (word_of m.0) (number_of kind m.1) (poly_of kind v)
    ++ poly_product (field_of kind) (poly_of kind (drop (suc k) u)) (poly_of kind v)
    ≡ poly_product (field_of kind) (poly_of kind (drop k u)) (poly_of kind v)
unfolding poly_product
product_left kind k u v m l at =
    ap (λ x. poly_product (field_of kind) (poly_of kind (x ∷ drop (suc k) u)) (poly_of kind v)) (sym (at_default u k no_term m l at))
    ∙ ap (λ x. poly_product (field_of kind) (poly_of kind x) (poly_of kind v)) (sym (drop-cons u k no_term l))

pub product_none : (kind : Kind) (v : List (List ℕ × Num)) → [] ≡ poly_product (field_of kind) (poly_of kind []) (poly_of kind v)
unfolding poly_product
product_none kind v = refl

-- no weight yet
pub no_levels : {A : Type 0} (f : ℕ → List A) → [] ≡ joined 0 f
unfolding joined
no_levels f = refl

module _ (T : PlainTable) where
  pub terms_joined : (u v : List (List ℕ × Num)) → IsPolyIn T u → IsPolyIn T v → IsPolyIn T (u ++ v)
  terms_joined u v h k = All-append (IsTermIn T) u v h k

  pub one_term : (m : List ℕ × Num) → IsTermIn T m → IsPolyIn T (m ∷ [])
  one_term m h = All-cons (IsTermIn T) m [] h (All-nil (IsTermIn T))

  pub term_joined : (m n : List ℕ × Num) (word : List ℕ) (c : Num) → IsTermIn T m → IsTermIn T n → weight_in T m.0 + weight_in T n.0 ≤ T.weight →
      word ≡ m.0 ++ n.0 → IsElement T.kind c → IsTermIn T (word, c)
  term_joined m n word c h k l e is = record {
    word = subst (IsWordIn T) (sym e) (All-append (λ i. (1 ≤ i) × (i ≤ length T.basis)) m.0 n.0 h.word k.word);
    light = subst (λ u. weight_in T u ≤ T.weight) (sym e) (let q : weight_in T (m.0 ++ n.0) ≡ weight_in T m.0 + weight_in T n.0 = weight_joined T m.0 n.0 in
        omega (arith, q, l));
    number = is;
  }

  ordered_in : (u : Word) → IsOrdered (math_in T) u → IsWordIn T (map suc u)
  ordered_in [] o = All-nil (λ i. (1 ≤ i) × (i ≤ length T.basis))
  ordered_in (i ∷ u) (ordered_more _ _ l h o) = All-cons (λ i. (1 ≤ i) × (i ≤ length T.basis)) (suc i) (map suc u) (omega arith, omega arith) (ordered_in u o)

  module _ (shape : HasShape T) where
    spelled_in : (w k : ℕ) (c : Num) → w ≤ T.weight → k < length (words_in T w) → IsElement T.kind c → IsTermIn T (spelled T w k, c)
    spelled_in w k c l m is = record {
      word = ordered_in (word_in T w k) ((words_are_listed (field_in T) (math_in T) (weighted T shape) w).ordered k m).0;
      light = let q : weight_in T (spelled T w k) ≡ w = ap (word_weight (math_in T)) (back_again (word_in T w k))
          ∙ ((words_are_listed (field_in T) (math_in T) (weighted T shape) w).ordered k m).1 in
          omega (arith, q, l);
      number = is;
    }

    -- the terms of a row
    pub row_in : (w s : ℕ) (row : List Num) → w ≤ T.weight → s + length row ≤ length (words_in T w) → AreElements T.kind row →
        IsPolyIn T (row_terms (spelled T w) s row)
    row_in w s [] l m h = All-nil (IsTermIn T)
    row_in w s (c ∷ row) l m h =
        terms_joined (term_if (spelled T w s) c) (row_terms (spelled T w) (s + 1) row) (by_test (is_nought c))
        (row_in w (s + 1) row l (omega arith) (λ k d n. h (suc k) d (omega arith)))
      where
        by_test : (b : Bool) → IsPolyIn T (if b then [] else ((spelled T w s, c) ∷ []))
        by_test true = All-nil (IsTermIn T)
        by_test false = one_term (spelled T w s, c) (spelled_in w s c l (omega arith) (h 0 (residue 0) (omega arith)))
