-- Over a prime no operation of the cohomology of a weight is refused.
use Rattle.std.specs.Prelude.{◌≡◌, ℕ, zero, suc, ◌+◌, ◌++◌, List, [], ◌∷◌, length, map, Bool, false, Result, Ok, Err}
use mathlib.Core.Path.{refl, sym, subst}
use Rattle.math_algebra.specs.Table.{Symbol, of_pair}
use Rattle.math_algebra.specs.Symbols.{place_of}
use Rattle.fpl_numbers.specs.declared.number.Num.{Num}
use Rattle.fpl_numbers.specs.declared.number.Kind.TheVariants.{Prime}
use Rattle.fpl_numbers.specs.declared.number.Unfit.{Unfit}
use Rattle.fpl_numbers.specs.Numbers.{negative_of}
use Rattle.fpl_numbers.specs.Results.{and_then, map_ok}
use Rattle.fpl_table.specs.Plain.{PlainTable, Pairing, nothing, plus, minus, pairing}
use Rattle.fpl_table.specs.Value.{zero_row}
use Rattle.fpl_rewrite.specs.Rows.{entry_if}
use Rattle.fpl_rewrite.specs.Terms.{signed}
use Rattle.plain_sources.specs.PrimeLaws.{DoesFit}
use Rattle.plain_sources.proofs.Fits.{then_fits, map_fits}
use Rattle.plain_sources.proofs.Fitting.{Always, prime_always, add_at_fits, each_fits}
use Rattle.plain_spans.specs.Plain.{kernel_of, span_of}
use Rattle.plain_spans.specs.Means.{AreAllFormed}
use Rattle.plain_spans.proofs.Fitting.{all_formed_map, kernels_fit, spans_fit}
use Rattle.plain_cohomology.specs.Plain.{Triple, singles, pairs, triples, bracket_row, coboundary_row, add_pair, add_term, add_terms, second_negated, third_negated, triple_row, all_of, h1_of, cocycles_of, coboundaries_of, low_with, low_of, lows_of}
use Rattle.plain_cohomology.specs.Means.{LowsFit}

-- rows that can be formed are formed all
pub all_of_formed : (rs : List (Result (List Num) Unfit)) → AreAllFormed rs → DoesFit (all_of rs)
all_of_formed [] h = ([], refl)
all_of_formed (Ok row ∷ rs) h = map_fits (λ rows. row ∷ rows) (all_of rs) (all_of_formed rs h)
all_of_formed (Err u ∷ rs) h = absurd h

module _ (p : ℕ) (T : PlainTable) (prime : T.kind ≡ Prime p) where
  pair_fits : (ps : List Symbol) (q : Pairing) (c : Num) (v : List Num) → DoesFit (add_pair T ps q c v)
  pair_fits ps nothing c v = (v, refl)
  pair_fits ps (plus i j) c v = add_at_fits T.kind (subst Always (sym prime) (prime_always p)) v (place_of (of_pair i j) ps) c
  pair_fits ps (minus i j) c v = add_at_fits T.kind (subst Always (sym prime) (prime_always p)) v (place_of (of_pair i j) ps) (negative_of T.kind c)

  terms_fit : (ps : List Symbol) (negated : Bool) (i j k : ℕ) (v : List Num) → DoesFit (add_terms T ps negated i j k v)
  terms_fit ps negated i j k v =
      each_fits (add_term T ps negated k) (λ t c v. pair_fits ps (pairing T t k) (signed T negated c) v) 0 (entry_if T i j) v

  pub triple_fits : (w : ℕ) (x : Triple) → DoesFit (triple_row T w x)
  triple_fits w x =
      then_fits (λ v. add_terms T (pairs T w) (third_negated T x) x.second x.third x.first v)
      (and_then (λ v. add_terms T (pairs T w) (second_negated T x) x.first x.third x.second v)
      (add_terms T (pairs T w) false x.first x.second x.third (zero_row (length (pairs T w)))))
      (then_fits (λ v. add_terms T (pairs T w) (second_negated T x) x.first x.third x.second v)
      (add_terms T (pairs T w) false x.first x.second x.third (zero_row (length (pairs T w))))
      (terms_fit (pairs T w) false x.first x.second x.third (zero_row (length (pairs T w))))
      (λ v. terms_fit (pairs T w) (second_negated T x) x.first x.third x.second v))
      (λ v. terms_fit (pairs T w) (third_negated T x) x.second x.third x.first v)

  pub triples_formed : (w : ℕ) → AreAllFormed (map (triple_row T w) (triples T w))
  triples_formed w = all_formed_map (triple_row T w) (triples T w) (triple_fits w)

  kernel_fits : (n : ℕ) (rows : List (Result (List Num) Unfit)) → AreAllFormed rows → DoesFit (kernel_of T.kind n rows)
  kernel_fits n rows h = subst (λ k. DoesFit (kernel_of k n rows)) (sym prime) (kernels_fit p n rows h)

  span_fits : (n : ℕ) (rows : List (Result (List Num) Unfit)) → AreAllFormed rows → DoesFit (span_of T.kind n rows)
  span_fits n rows h = subst (λ k. DoesFit (span_of k n rows)) (sym prime) (spans_fit p n rows h)

  h1_fits : (w : ℕ) → DoesFit (h1_of T w)
  h1_fits w =
      kernel_fits (length (singles T w)) (map (λ x. Ok (bracket_row T w x)) (pairs T w))
      (all_formed_map (λ x. Ok (bracket_row T w x)) (pairs T w) (λ x. (bracket_row T w x, refl)))

  cocycles_fit : (w : ℕ) → DoesFit (cocycles_of T w)
  cocycles_fit w =
      then_fits (λ rows. kernel_of T.kind (length (pairs T w)) (map Ok rows)) (all_of (map (triple_row T w) (triples T w)))
      (all_of_formed (map (triple_row T w) (triples T w)) (triples_formed w))
      (λ rows. kernel_fits (length (pairs T w)) (map Ok rows) (all_formed_map Ok rows (λ row. (row, refl))))

  coboundaries_fit : (w : ℕ) → DoesFit (coboundaries_of T w)
  coboundaries_fit w =
      span_fits (length (pairs T w)) (map (λ e. Ok (coboundary_row T w e)) (singles T w))
      (all_formed_map (λ e. Ok (coboundary_row T w e)) (singles T w) (λ e. (coboundary_row T w e, refl)))

  low_does_fit : (w : ℕ) → DoesFit (low_of T w)
  low_does_fit w =
      then_fits (λ h1. and_then (λ cocycles. map_ok (low_with h1 cocycles) (coboundaries_of T w)) (cocycles_of T w)) (h1_of T w) (h1_fits w)
      (λ h1. then_fits (λ cocycles. map_ok (low_with h1 cocycles) (coboundaries_of T w)) (cocycles_of T w) (cocycles_fit w)
      (λ cocycles. map_fits (low_with h1 cocycles) (coboundaries_of T w) (coboundaries_fit w)))

  lows_do_fit : (w : ℕ) → DoesFit (lows_of T w)
  lows_do_fit zero = ([], refl)
  lows_do_fit (suc w) =
      then_fits (λ lows. map_ok (λ low. lows ++ low ∷ []) (low_of T (suc w))) (lows_of T w) (lows_do_fit w)
      (λ lows. map_fits (λ low. lows ++ low ∷ []) (low_of T (suc w)) (low_does_fit (suc w)))

pub lows_fit : LowsFit
lows_fit p T prime w = lows_do_fit p T prime w
