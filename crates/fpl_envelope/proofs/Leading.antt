-- A form at words with a letter in front: where it may stand there, it is at the word with the letter; else it is 0.
use Rattle.std.proofs.Common.{ℕ, ◌<◌, ◌≤◌, ◌≡◌, ◌∷◌, List, length, sym, ap, ◌∙◌, inr, arith}
use Rattle.std.specs.Prelude.{cond}
use Rattle.math_linear.specs.Kernel.{product_sum}
use Rattle.math_linear.proofs.Numbers.{times-nought}
use Rattle.fpl_numbers.specs.declared.number.Num.{Num}
use Rattle.fpl_rows.specs.Meaning.{vector_in}
use Rattle.math_words.specs.Action.{Form}
use Rattle.fpl_table.specs.Plain.{PlainTable}
use Rattle.fpl_table.specs.Shape.{HasShape}
use Rattle.plain_envelope.specs.Straight.{led}
use Rattle.plain_envelope.proofs.Sums.{product_skip}
use Rattle.fpl_envelope.specs.Counts.{words_in, word_in, skipped_in}
use Rattle.fpl_envelope.specs.Action.{field_in, math_in, number_in, multiple, Adds}
use Rattle.fpl_envelope.proofs.Before.{not_stands, stands_at}
use Rattle.fpl_envelope.proofs.Adding.{part, adds_none}

module _ (T : PlainTable) (shape : HasShape T) where
  lead_none : (j w after : ℕ) (row : List Num) (f : Form (field_in T)) → j < length T.basis → after ≤ length (words_in T w) → after ≤ skipped_in T w j →
      part T (λ t f. led (field_in T) (math_in T) j f (word_in T w t)) row after f ≡ (field_in T).nought
  unfolding product_sum
  lead_none j w after row f l within h =
      product_skip (field_in T) 0 after (λ t. led (field_in T) (math_in T) j f (word_in T w t)) (vector_in T.kind row) (omega arith)
      (λ t a b. inr (ap (λ b. cond b (f (j ∷ word_in T w t)) (field_in T).nought) (not_stands T shape j w t l (omega arith) (omega arith))))

  pub leads_start : (W j w after : ℕ) (row sum : List Num) (c : Num) → j < length T.basis → after ≤ length (words_in T w) → after ≤ skipped_in T w j →
      Adds T W (multiple T c (part T (λ t f. led (field_in T) (math_in T) j f (word_in T w t)) row after)) sum sum
  leads_start W j w after row sum c l within h =
      adds_none T W _ sum (λ f. ap ((field_in T).times (number_in T c)) (lead_none j w after row f l within h) ∙ times-nought (field_in T) (number_in T c))

  pub lead_at : (j w k r W : ℕ) (f : Form (field_in T)) → j < length T.basis → k < length (words_in T w) → skipped_in T w j ≤ k →
      word_in T W r ≡ (j ∷ word_in T w k) → f (word_in T W r) ≡ led (field_in T) (math_in T) j f (word_in T w k)
  lead_at j w k r W f l m h e =
      ap f e ∙ sym (ap (λ b. cond b (f (j ∷ word_in T w k)) (field_in T).nought) (stands_at T shape j w k l m h))
