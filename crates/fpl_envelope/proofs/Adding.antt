-- What is added to a row over the words of a weight: at a place, or a multiple of a row; one amount after the other; and a sum over the numbers of a row.
use Rattle.std.proofs.Common.{ℕ, suc, ◌-◌, ◌<◌, ◌≤◌, ◌≡◌, List, length, get_or, replicate, true, sym, ap, ◌∙◌, subst, inl, arith}
use Rattle.std.specs.Prelude.{Some, None}
use native.Mathlib.Decide.{dec_lt}
use Rattle.math_fields.specs.Field.{Field}
use Rattle.math_linear.specs.Vector.{vplus, scale, place}
use Rattle.math_linear.specs.Kernel.{product_sum}
use Rattle.math_linear.proofs.Numbers.{times-nought, nought-plus, unit-times}
use Rattle.math_linear.proofs.Kernel.{product-vplus, product-scale, product-vzero}
use Rattle.fpl_numbers.specs.declared.number.Num.{Num}
use Rattle.fpl_numbers.specs.Numbers.{IsField, is_nought, residue}
use Rattle.fpl_numbers.specs.Reads.{Reads}
use Rattle.fpl_numbers.specs.declared.number.Kind.{Kind}
use Rattle.fpl_numbers.specs.Kinds.{field_of, number_of}
use Rattle.fpl_numbers.proofs.KindReads.{kind_reads}
use Rattle.fpl_scalar.specs.Vectors.{AreElements}
use Rattle.fpl_rows.specs.Meaning.{vector_in, IsRowOf}
use Rattle.fpl_rows.specs.Working.{Working}
use Rattle.fpl_rows.specs.Positions.{next_of}
use Rattle.fpl_rows.proofs.Firsts.{next_is_at, next_is_none}
use Rattle.fpl_rows.proofs.Readings.{vector_past}
use Rattle.math_words.specs.Action.{Form}
use Rattle.math_words.specs.Envelope.{Value}
use Rattle.fpl_table.specs.Plain.{PlainTable}
use Rattle.plain_sources.proofs.Rows.{HasUnits, zero_row_reads, at_place}
use Rattle.plain_sources.proofs.Units.{kind_units}
use Rattle.plain_envelope.proofs.Sums.{IsSkipped, product_place, product_skip, product_step}
use Rattle.fpl_envelope.specs.Counts.{words_in, word_in}
use Rattle.fpl_envelope.specs.Action.{field_in, number_in, row_value, multiple, StandsFor, IsSum, Adds}

module _ (T : PlainTable) (w : ℕ) where
  abbrev K : Field
  K = field_in T

  abbrev n : ℕ
  n = length (words_in T w)

  abbrev at : Form (field_in T) → ℕ → (field_in T).Carrier
  at f k = f (word_in T w k)

  pub adds_place : (kind : Kind) (s : ℕ) (c : Num) (before after : List Num) → kind ≡ T.kind → s < length (words_in T w) →
      vector_in kind after ≡ vplus (field_of kind) (vector_in kind before) (scale (field_of kind) (number_of kind c) (place (field_of kind) s)) →
      Adds T w (multiple T c (λ f. f (word_in T w s))) before after
  adds_place kind s c before after same l e f =
      ap (product_sum K n (at f))
      (subst (λ k. vector_in k after ≡ vplus (field_of k) (vector_in k before) (scale (field_of k) (number_of k c) (place (field_of k) s))) same e)
      ∙ product-vplus K n (at f) _ _
      ∙ ap (K.plus (row_value T w before f)) (product-scale K n _ (at f) _ ∙ ap (K.times (number_in T c)) (product_place K n (at f) s l))

  pub adds_row : (kind : Kind) (c : Num) (other before after : List Num) → kind ≡ T.kind →
      vector_in kind after ≡ vplus (field_of kind) (vector_in kind before) (scale (field_of kind) (number_of kind c) (vector_in kind other)) →
      Adds T w (multiple T c (row_value T w other)) before after
  adds_row kind c other before after same e f =
      ap (product_sum K n (at f))
      (subst (λ k. vector_in k after ≡ vplus (field_of k) (vector_in k before) (scale (field_of k) (number_of k c) (vector_in k other))) same e)
      ∙ product-vplus K n (at f) _ _ ∙ ap (K.plus (row_value T w before f)) (product-scale K n _ (at f) _)

  pub sum_kept : (old new : Working) → IsSum T w old → new.kind ≡ old.kind → IsRowOf old.kind (length old.row) new.row → IsSum T w new
  sum_kept old new h e r = record {
    kind = e
        ∙ h.kind;
    row_of = subst (λ k. IsRowOf k n new.row) h.kind (subst (λ m. IsRowOf old.kind m new.row) h.row_of.length_is r);
  }

  pub adds_same : (x y : Value (field_in T)) (before after : List Num) → Adds T w x before after → ((f : Form (field_in T)) → x f ≡ y f) →
      Adds T w y before after
  adds_same x y before after h e f = h f ∙ ap (K.plus (row_value T w before f)) (e f)

  pub adds_none : (x : Value (field_in T)) (row : List Num) → ((f : Form (field_in T)) → x f ≡ (field_in T).nought) → Adds T w x row row
  adds_none x row e f = sym (ap (K.plus (row_value T w row f)) (e f) ∙ K.plus-nought _)

  pub adds_then : (x y z : Value (field_in T)) (before between after : List Num) → Adds T w x before between → Adds T w y between after →
      ((f : Form (field_in T)) → (field_in T).plus (x f) (y f) ≡ z f) → Adds T w z before after
  adds_then x y z before between after h k e f =
      k f ∙ ap (λ a. K.plus a (y f)) (h f) ∙ K.plus_assoc _ _ _ ∙ ap (K.plus (row_value T w before f)) (e f)

-- a sum over the numbers of a row, up to a place
abbrev pub part : (T : PlainTable) → (ℕ → Value (field_in T)) → List Num → ℕ → Value (field_in T)
part T u row m f = product_sum (field_in T) m (λ t. u t f) (vector_in T.kind row)

module _ (T : PlainTable) (accepted : IsField T.kind) where
  reads : Reads T.kind (field_in T) (number_of T.kind)
  reads = kind_reads T.kind accepted

  units : HasUnits T.kind (field_in T) (number_of T.kind)
  units = kind_units T.kind accepted

  -- nothing
  pub zeros_give : (w m : ℕ) (f : Form (field_in T)) → row_value T w (replicate m (residue 0)) f ≡ (field_in T).nought
  zeros_give w m f =
      ap (product_sum (field_in T) (length (words_in T w)) (λ k. f (word_in T w k)))
      (zero_row_reads T.kind (field_in T) (number_of T.kind) reads units m).vector
      ∙ product-vzero (field_in T) (length (words_in T w)) (λ k. f (word_in T w k))

  pub part_start : (w : ℕ) (u : ℕ → Value (field_in T)) (row sum : List Num) (c : Num) → Adds T w (multiple T c (part T u row 0)) sum sum
  unfolding product_sum
  part_start w u row sum c = adds_none T w _ sum (λ f. times-nought (field_in T) (number_in T c))

  none_at : (row : List Num) (t : ℕ) → AreElements T.kind row → t < length row → is_nought (get_or row t (residue 0)) ≡ true →
      vector_in T.kind row t ≡ (field_in T).nought
  none_at row t h l e =
      at_place T.kind (field_in T) (number_of T.kind) reads units row t (residue 0) l ∙ reads.zero_is (get_or row t (residue 0)) (h t (residue 0) l) e

  pub part_next : (u : ℕ → Value (field_in T)) (row : List Num) (after s : ℕ) (f : Form (field_in T)) → AreElements T.kind row → Some s ≡ next_of row after →
      part T u row s f ≡ (field_in T).plus (part T u row after f) ((field_in T).times (u (s - 1) f) (number_in T (get_or row (s - 1) (residue 0))))
  part_next u row after s f h e =
      let next = next_is_at row after s e in
      let from = next.from_one in
      let past = next.past in
      let end = next.to_end in
      let back : suc (s - 1) ≡ s = omega arith in
      ap (λ m. part T u row m f) (sym back)
      ∙ product_step (field_in T) after (s - 1) (λ t. u t f) (vector_in T.kind row) (omega arith)
      (λ t a b. inl (none_at row t h (omega arith) (next.before t a b)))
      ∙ ap (λ x. (field_in T).plus (part T u row after f) ((field_in T).times (u (s - 1) f) x))
      (at_place T.kind (field_in T) (number_of T.kind) reads units row (s - 1) (residue 0) (omega arith))

  pub part_whole : (u : ℕ → Value (field_in T)) (row : List Num) (after m : ℕ) (f : Form (field_in T)) → AreElements T.kind row → None ≡ next_of row after →
      after ≤ length row → length row ≤ m → part T u row after f ≡ part T u row m f
  part_whole u row after m f h e l k = sym (product_skip (field_in T) after m (λ t. u t f) (vector_in T.kind row) (omega arith) (λ t a b. by_end t a
      (dec_lt t (length row))))
    where
      by_end : (t : ℕ) → after ≤ t → Dec (t < length row) → IsSkipped (field_in T) (λ t. u t f) (vector_in T.kind row) t
      by_end t a (yes d) = inl (none_at row t h d (next_is_none row after e t a d))
      by_end t a (no d) = inl (vector_past (field_in T) (number_of T.kind) row t (omega arith))

  -- one number more, times c
  pub adds_next : (w : ℕ) (u : ℕ → Value (field_in T)) (row : List Num) (after s : ℕ) (c m : Num) (first before next : List Num) → AreElements T.kind row →
      Some s ≡ next_of row after → number_in T m ≡ (field_in T).times (number_in T c) (number_in T (get_or row (s - 1) (residue 0))) →
      Adds T w (multiple T c (part T u row after)) first before → Adds T w (multiple T m (u (s - 1))) before next →
      Adds T w (multiple T c (part T u row s)) first next
  adds_next w u row after s c m first before next h e is x y = adds_then T w _ _ _ first before next x y (λ f. sym (whole f))
    where
      L : Field
      L = field_in T

      whole : (f : Form (field_in T)) → multiple T c (part T u row s) f ≡ (field_in T).plus (multiple T c (part T u row after) f) (multiple T m (u (s - 1)) f)
      whole f =
          ap (L.times (number_in T c)) (part_next u row after s f h e) ∙ L.times-plus _ _ _
          ∙ ap (L.plus (multiple T c (part T u row after) f))
          (ap (L.times (number_in T c)) (L.times_comm _ _) ∙ sym (L.times_assoc _ _ _) ∙ ap (λ a. L.times a (u (s - 1) f)) (sym is))

  pub adds_whole : (w : ℕ) (u : ℕ → Value (field_in T)) (row : List Num) (after m : ℕ) (c : Num) (first before : List Num) → AreElements T.kind row →
      None ≡ next_of row after → after ≤ length row → length row ≤ m → Adds T w (multiple T c (part T u row after)) first before →
      Adds T w (multiple T c (part T u row m)) first before
  adds_whole w u row after m c first before h e l k x =
      adds_same T w _ _ first before x (λ f. ap ((field_in T).times (number_in T c)) (part_whole u row after m f h e l k))

  -- once a value is the value
  pub multiple_one : (x : Value (field_in T)) (f : Form (field_in T)) → multiple T (residue 1) x f ≡ x f
  multiple_one x f = ap (λ a. (field_in T).times a (x f)) units.unit_is ∙ unit-times (field_in T) (x f)

  pub sum_start : (w m : ℕ) (kind : Kind) (sum : Working) → sum ≡ record { kind = kind; row = replicate m (residue 0) } → kind ≡ T.kind →
      m ≡ length (words_in T w) → IsSum T w sum
  sum_start w m kind sum e same l = record {
    kind = ap (λ s. s.kind) e ∙ same;
    row_of = record {
      elements = subst (AreElements T.kind) (sym (ap (λ s. s.row) e)) (zero_row_reads T.kind (field_in T) (number_of T.kind) reads units m).elements;
      length_is = ap (λ s. length s.row) e ∙ (zero_row_reads T.kind (field_in T) (number_of T.kind) reads units m).long ∙ l;
    };
  }

  -- what was added to nothing
  pub stands_sum : (w : ℕ) (x : Value (field_in T)) (m : ℕ) (row : List Num) → IsRowOf T.kind (length (words_in T w)) row →
      Adds T w x (replicate m (residue 0)) row → StandsFor T w x row
  stands_sum w x m row h a = record {
    row_of = h;
    value = λ f. a f ∙ ap (λ b. (field_in T).plus b (x f)) (zeros_give w m f) ∙ nought-plus (field_in T) (x f);
  }
