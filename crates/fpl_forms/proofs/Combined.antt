-- The lines by which forms are multiplied and added.
use Rattle.std.proofs.Common.{◌≡◌, ◌<◌, ◌+◌, ◌*◌, ◌%◌, ◌++◌, ℕ, zero, suc, List, [], ◌∷◌, length, map, take, drop, flat_map, get_or, refl, ap, ap₂, sym, subst, ◌∙◌, arith, All}
use Rattle.std.proofs.lemmas.Nat.{mod_below}
use Rattle.std.proofs.lemmas.List.{length-map, map-append, append_assoc, drop_more}
use Rattle.std.proofs.lemmas.List.Elements.{All-append, All-get_or}
use Rattle.fpl_numbers.specs.Numbers.{residue}
use Rattle.fpl_numbers.proofs.KindReads.{listed_prime}
use Rattle.fpl_model.specs.declared.expr.Expr.{Expr}
use Rattle.fpl_model.specs.declared.expr.Expr.TheVariants.{Zero, Sum, Times}
use Rattle.fpl_lines.specs.declared.line.Rule.TheVariants as rule
use Rattle.fpl_forms.specs.declared.term.Term.{Term}
use Rattle.fpl_forms.specs.declared.term.Fact.{Fact}
use Rattle.fpl_forms.specs.Ledgers.{PlainLedger, IsExpr, IsSoundLedger, IsWithin, right_of}
use Rattle.fpl_forms.specs.Forms.{IsWork, term_expr, sum_expr, IsTermOf, AreTermsOf}
use Rattle.fpl_forms.specs.Combining.{scaled, spread_expr, terms_of, joined, half_expr}
use Rattle.fpl_forms.proofs.Trees.{over-Sum}
use Rattle.fpl_forms.proofs.Next.{Next, next_as, next_multiply, next_spread, next_flat, residue_over}
use Rattle.fpl_forms.proofs.NextBrackets.{over_each}
use Rattle.fpl_forms.proofs.Ledgers.{all_one}
use Rattle.fpl_forms.proofs.Moves.{term_over, terms_over, sum_over}
use Rattle.fpl_forms.proofs.Gathering.{all_as, all_mapped}

module _ (L : PlainLedger) (s : IsSoundLedger L) (atoms : List Expr) where
  abbrev AreGoodTerms : List Term → Type 0
  AreGoodTerms ts = AreTermsOf L.prime (length atoms) ts

  pub scaled_good : (c : ℕ) (t : Term) → IsTermOf L.prime (length atoms) t → IsTermOf L.prime (length atoms) (scaled L.prime c t)
  scaled_good c t h = (h.0, mod_below (c * t.number) L.prime (omega (arith, (listed_prime L.prime s.listed).1)))

  pub all_scaled_good : (c : ℕ) (ts : List Term) → AreGoodTerms ts → AreGoodTerms (map (scaled L.prime c) ts)
  all_scaled_good c ts h =
      all_mapped (IsTermOf L.prime (length atoms)) (scaled L.prime c) ts
      (all_as (IsTermOf L.prime (length atoms)) (λ t. IsTermOf L.prime (length atoms) (scaled L.prime c t)) (scaled_good c) ts h)

  scaled_map : (p c : ℕ) (ts : List Term) → map (λ t. term_expr atoms (scaled p c t)) ts ≡ map (term_expr atoms) (map (scaled p c) ts)
  scaled_map p c [] = refl
  scaled_map p c (t ∷ ts) = ap (λ es. term_expr atoms (scaled p c t) ∷ es) (scaled_map p c ts)

module _ (L : PlainLedger) (s : IsSoundLedger L) (atoms : List Expr) (over : All (IsExpr L.presentation) atoms) where
  abbrev AreGood : List Term → Type 0
  AreGood ts = AreTermsOf L.prime (length atoms) ts

  pub multiply_next : (c : ℕ) (t : Term) → c < L.prime → IsTermOf L.prime (length atoms) t →
      Next L s (Times (residue c) (term_expr atoms t)) (term_expr atoms (scaled L.prime c t)) rule.Multiply
  multiply_next c t lt h =
      next_multiply L s c t.number (get_or atoms t.atom Zero) lt h.1 (residue_over L s c (term_expr atoms t) lt (term_over L s atoms over t h))
      (term_over L s atoms over (scaled L.prime c t) (scaled_good L s atoms c t h))

  spread_map : (c : ℕ) (ts : List Term) → map (Times (residue c)) (map (term_expr atoms) ts) ≡ map (λ t. Times (residue c) (term_expr atoms t)) ts
  spread_map c [] = refl
  spread_map c (t ∷ ts) = ap (λ r. Times (residue c) (term_expr atoms t) ∷ r) (spread_map c ts)

  pub spread_next : (c : ℕ) (ts : List Term) → c < L.prime → AreGood ts →
      Next L s (Times (residue c) (sum_expr atoms ts)) (spread_expr c atoms ts) rule.Spread
  spread_next c ts lt h =
      next_as L s refl (sym (ap (λ es. Sum es) (spread_map c ts)))
      (next_spread L s (residue c) (map (term_expr atoms) ts) (residue_over L s c (sum_expr atoms ts) lt (sum_over L s atoms over ts h))
      (over-Sum L.presentation _
      (over_each (IsExpr L.presentation) (IsExpr L.presentation) (Times (residue c)) (λ x o. residue_over L s c x lt o) (map (term_expr atoms) ts)
      (terms_over L s atoms over ts h))))

  -- a sum in which forms stand before terms
  abbrev forms : List Fact → List Expr
  forms fs = map (λ f. sum_expr atoms (terms_of f)) fs

  abbrev AreGoodFacts : List Fact → Type 0
  AreGoodFacts fs = All (λ f. AreGood (terms_of f)) fs

  forms_over : (fs : List Fact) → AreGoodFacts fs → All (IsExpr L.presentation) (forms fs)
  forms_over fs h =
      all_mapped (IsExpr L.presentation) (λ f. sum_expr atoms (terms_of f)) fs
      (all_as (λ f. AreGood (terms_of f)) (λ f. IsExpr L.presentation (sum_expr atoms (terms_of f))) (λ f w. sum_over L s atoms over (terms_of f) w) fs h)

  half_over : (fs : List Fact) (ts : List Term) → AreGoodFacts fs → AreGood ts → IsExpr L.presentation (half_expr atoms fs ts)
  half_over fs ts h l =
      over-Sum L.presentation _ (All-append (IsExpr L.presentation) (forms fs) (map (term_expr atoms) ts) (forms_over fs h) (terms_over L s atoms over ts l))

  last_half : (fs : List Fact) (f : Fact) (ts : List Term) →
      half_expr atoms (fs ++ f ∷ []) ts ≡ Sum (forms fs ++ sum_expr atoms (terms_of f) ∷ map (term_expr atoms) ts)
  last_half fs f ts =
      ap (λ es. Sum (es ++ map (term_expr atoms) ts)) (map-append (λ (f : Fact). sum_expr atoms (terms_of f)) fs (f ∷ [])) ∙
      ap (λ es. Sum es) (append_assoc (forms fs) (sum_expr atoms (terms_of f) ∷ []) (map (term_expr atoms) ts))

  flat_half : (fs : List Fact) (ts us : List Term) →
      half_expr atoms fs (ts ++ us) ≡ Sum (forms fs ++ (map (term_expr atoms) ts ++ map (term_expr atoms) us))
  flat_half fs ts us = ap (λ es. Sum (forms fs ++ es)) (map-append (term_expr atoms) ts us)

  pub flat_next : (fs : List Fact) (f : Fact) (ts : List Term) (m : ℕ) → m ≡ length fs + 1 → AreGoodFacts fs → AreGood (terms_of f) → AreGood ts →
      Next L s (half_expr atoms (fs ++ f ∷ []) ts) (half_expr atoms fs (terms_of f ++ ts)) (rule.Flat m)
  flat_next fs f ts m is h l o =
      let same : length (forms fs) ≡ length fs = length-map fs (λ (f : Fact). sum_expr atoms (terms_of f)) in
      next_as L s (last_half fs f ts) (flat_half fs (terms_of f) ts)
      (next_flat L s (forms fs) (map (term_expr atoms) ts) (map (term_expr atoms) (terms_of f)) m (omega (arith, is, same))
      (subst (IsExpr L.presentation) (last_half fs f ts)
      (half_over (fs ++ f ∷ []) ts
      (All-append (λ f. AreGood (terms_of f)) fs (f ∷ []) h (all_one (λ (f : Fact). AreGood (terms_of f)) f l)) o))
      (subst (IsExpr L.presentation) (flat_half fs (terms_of f) ts)
      (half_over fs (terms_of f ++ ts) h (All-append (IsTermOf L.prime (length atoms)) (terms_of f) ts l o))))

-- the sum of scaled terms, where their primes are that of the ledger
pub scaled_work : (L : PlainLedger) → IsSoundLedger L → (atoms : List Expr) (c : ℕ) (ts : List Term) (f : Fact) (p q : ℕ) → L.prime ≡ p → q ≡ L.prime →
    IsWithin L f.line → right_of L f.line ≡ Sum (map (λ t. term_expr atoms (scaled p c t)) ts) → terms_of f ≡ map (scaled q c) ts →
    AreTermsOf L.prime (length atoms) ts → IsWork L atoms f
scaled_work L s atoms c ts f p q same prime w right terms good =
    let is : terms_of f ≡ map (scaled L.prime c) ts = terms ∙ ap (λ q. map (scaled q c) ts) prime in
    record {
      within = w;
      right = right ∙ ap (λ p. Sum (map (λ t. term_expr atoms (scaled p c t)) ts)) (sym same) ∙ ap (λ es. Sum es) (scaled_map L s atoms L.prime c ts) ∙
          ap (sum_expr atoms) (sym is);
      terms = subst (AreTermsOf L.prime (length atoms)) (sym is) (all_scaled_good L s atoms c ts good);
    }

pub joined_more : (fs : List Fact) (i : ℕ) (d : Fact) → i < length fs → joined (drop i fs) ≡ terms_of (get_or fs i d) ++ joined (drop (i + 1) fs)
joined_more fs i d lt = ap joined (drop_more fs i d lt)
