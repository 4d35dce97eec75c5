-- Forms that are made of others.
--
--   scaled q c t              a term, times c
--   multiplied q c ts         terms times c, without those that are 0
--   spread_expr c atoms ts    the sum of terms, each times c
--   terms_of f                the terms of a fact
--   joined fs                 the terms of facts, in one list
--   half_expr atoms fs ts     the sum of forms as they are, and then of terms
--   IsHalf L atoms fs f       the right side of the fact's line is the sum of the forms fs, and then of its terms
--   lefts L fs                the left sides of facts
--   atom_of atoms t           the atom of a term
--   times_term q t f          the terms of a fact, times the number of t
--   combined q ts fs          the terms of each fact, times the number of the term at the same place, in one list
--   AreFacts L values es tss fs   facts over values that have these left sides and these terms
--   pair_of atoms e t         the bracket of e with the atom of t
--   times_row q ts s fs       the terms of a row, times the number of s
--   row_terms q ts fs         ts with each atom replaced by the terms of a fact, in order
--   bracketed q ss ts rows    for each of ss its number times its row's terms, in order
--   AreRows                   facts for the brackets of the atoms of some terms with those of others, row by row
use Rattle.std.specs.Prelude.{ℕ, ◌≡◌, ◌<◌, ◌*◌, ◌%◌, ◌++◌, List, [], ◌∷◌, length, map, flat_map, get_or, All}
use Rattle.std.specs.Simd.Lanes.{zip2}
use Rattle.fpl_numbers.specs.Numbers.{residue}
use Rattle.fpl_model.specs.declared.expr.Expr.{Expr}
use Rattle.fpl_model.specs.declared.expr.Expr.TheVariants.{Zero, Sum, Times, Br}
use Rattle.fpl_forms.specs.declared.term.Term.{Term}
use Rattle.fpl_forms.specs.declared.term.Fact.{Fact}
use Rattle.fpl_forms.specs.Ledgers.{PlainLedger, IsWithin, left_of, right_of}
use Rattle.fpl_forms.specs.Forms.{IsWork, AreTermsOf, term_expr, sum_expr, nonzero, tidied}

abbrev pub scaled : ℕ → ℕ → Term → Term
scaled q c t = record { atom = t.atom; number = (c * t.number) % q }

abbrev pub multiplied : ℕ → ℕ → List Term → List Term
multiplied q c ts = nonzero (map (scaled q c) ts)

abbrev pub spread_expr : ℕ → List Expr → List Term → Expr
spread_expr c atoms ts = Sum (map (λ t. Times (residue c) (term_expr atoms t)) ts)

abbrev pub terms_of : Fact → List Term
terms_of f = f.terms.items

abbrev pub joined : List Fact → List Term
joined fs = flat_map (λ ts. ts) (map terms_of fs)

abbrev pub half_expr : List Expr → List Fact → List Term → Expr
half_expr atoms fs ts = Sum (map (λ f. sum_expr atoms (terms_of f)) fs ++ map (term_expr atoms) ts)

pub record IsHalf (L : PlainLedger) (atoms : List Expr) (fs : List Fact) (f : Fact) : Type 0 where
  pub within : IsWithin L f.line
  pub right : right_of L f.line ≡ half_expr atoms fs f.terms.items
  pub terms : AreTermsOf L.prime (length atoms) f.terms.items

abbrev pub lefts : PlainLedger → List Fact → List Expr
lefts L fs = map (λ f. left_of L f.line) fs

abbrev pub atom_of : List Expr → Term → Expr
atom_of atoms t = get_or atoms t.atom Zero

abbrev pub times_term : ℕ → Term → Fact → List Term
times_term q t f = multiplied q t.number (terms_of f)

abbrev pub combined : ℕ → List Term → List Fact → List Term
combined q ts fs = flat_map (λ ts. ts) (zip2 (times_term q) ts fs)

pub record AreFacts (L : PlainLedger) (values es : List Expr) (tss : List (List Term)) (fs : List Fact) : Type 0 where
  pub works : All (IsWork L values) fs
  pub lefts_are : lefts L fs ≡ es
  pub terms_are : map terms_of fs ≡ tss

abbrev pub pair_of : List Expr → Expr → Term → Expr
pair_of atoms e t = Br e (atom_of atoms t)

abbrev pub row_terms : ℕ → List Term → List Fact → List Term
row_terms q ts fs = tidied q (combined q ts fs)

abbrev pub times_row : ℕ → List Term → Term → List Fact → List Term
times_row q ts s fs = multiplied q s.number (row_terms q ts fs)

abbrev pub bracketed : ℕ → List Term → List Term → List (List Fact) → List Term
bracketed q ss ts rows = tidied q (flat_map (λ ts. ts) (zip2 (times_row q ts) ss rows))

pub record AreRows (L : PlainLedger) (atoms values : List Expr) (ss ts : List Term) (rows : List (List Fact)) : Type 0 where
  pub works : All (All (IsWork L values)) rows
  pub lefts_are : map (lefts L) rows ≡ map (λ s. map (pair_of atoms (atom_of atoms s)) ts) ss
