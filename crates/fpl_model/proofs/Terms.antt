-- An expression that a text can say is a term: its generators are in range, and its numbers fit.
use Rattle.fpl_numbers.specs.declared.number.Num.{Num}
use Rattle.fpl_numbers.specs.declared.number.Kind.{Kind}
use Rattle.std.proofs.Common.{ℕ}
use Rattle.math_algebra.specs.Tree.{Tree, Trees, gen, none, sum_of, multiple, bracket_of, end, more}
use Rattle.fpl_model.specs.Sound.{IsTerm, AreTerms, IsWithin, AreWithin}

mutual
  pub term_within : (k : Kind) (n : ℕ) (t : Tree Num) → IsWithin k n t → IsTerm k n t
  term_within k n (gen g) h = h
  term_within k n none h = tt
  term_within k n (sum_of es) h = terms_within k n es h.1
  term_within k n (multiple c e) h = (h.0, term_within k n e h.1)
  term_within k n (bracket_of a b) h = (term_within k n a h.0, term_within k n b h.1)

  pub terms_within : (k : Kind) (n : ℕ) (es : Trees Num) → AreWithin k n es → AreTerms k n es
  terms_within k n end h = tt
  terms_within k n (more e es) h = (term_within k n e h.0, terms_within k n es h.1)
