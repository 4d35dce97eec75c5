-- Words of one letter as factors.
use Rattle.std.proofs.Common.{ℕ, ◌+◌, ◌-◌, ◌<◌, ◌≤◌, ◌≡◌, List, [], ◌∷◌, length, sym, ◌∙◌, subst, arith}
use Rattle.std.specs.Prelude.{All}
use Rattle.std.proofs.lemmas.List.Elements.{All-nil, All-cons}
use Rattle.fpl_numbers.specs.declared.number.Num.{Num}
use Rattle.fpl_numbers.specs.Numbers.{IsElement}
use Rattle.fpl_table.specs.Plain.{PlainTable, plain_basis}
use Rattle.fpl_envelope.specs.Polys.{weight_in, IsTermIn, IsPolyIn, AreFactors}
use Rattle.fpl_envelope.proofs.Lettered.{weight_left, weight_none}

module _ (T : PlainTable) where
  abbrev Letter : ℕ → List (List ℕ × Num) → Type 0
  Letter i u = (c : Num) × IsElement T.kind c × (u ≡ ((i ∷ []), c) ∷ [])

  letter_weight : (i : ℕ) → weight_in T (i ∷ []) ≡ (plain_basis T (i - 1)).weight
  letter_weight i = let e = weight_left T (i ∷ []) 0 (omega arith) in let z = weight_none T in omega (arith, e, z)

  letter_poly : (i : ℕ) (c : Num) → 1 ≤ i → i ≤ length T.basis → (plain_basis T (i - 1)).weight ≤ T.weight → IsElement T.kind c →
      IsPolyIn T (((i ∷ []), c) ∷ [])
  letter_poly i c l m n is =
      All-cons (IsTermIn T) ((i ∷ []), c) [] (record {
        word = All-cons (λ i. (1 ≤ i) × (i ≤ length T.basis)) i [] (l, m) (All-nil (λ i. (1 ≤ i) × (i ≤ length T.basis)));
        light = let e = letter_weight i in omega (arith, e, n);
        number = is;
      }) (All-nil (IsTermIn T))

  pub letter_factors : (i j : ℕ) (u v : List (List ℕ × Num)) → 1 ≤ i → i ≤ length T.basis → 1 ≤ j → j ≤ length T.basis →
      (plain_basis T (i - 1)).weight + (plain_basis T (j - 1)).weight ≤ T.weight →
      (c : Num) × IsElement T.kind c × (u ≡ ((i ∷ []), c) ∷ []) → (c : Num) × IsElement T.kind c × (v ≡ ((j ∷ []), c) ∷ []) → AreFactors T u v
  letter_factors i j u v a b c d light p q =
      subst (λ (u : List (List ℕ × Num)). AreFactors T u v) (sym p.2)
      (subst (λ (v : List (List ℕ × Num)). AreFactors T (((i ∷ []), p.0) ∷ []) v) (sym q.2) (record {
        left = letter_poly i p.0 a b (omega (arith, light)) p.1;
        right = letter_poly j q.0 c d (omega (arith, light)) q.1;
        light = All-cons (λ (m : List ℕ × Num). All (λ (n : List ℕ × Num). weight_in T m.0 + weight_in T n.0 ≤ T.weight) (((j ∷ []), q.0) ∷ [])) ((i ∷ []), p.0) []
            (All-cons (λ (n : List ℕ × Num). weight_in T (i ∷ []) + weight_in T n.0 ≤ T.weight) ((j ∷ []), q.0) []
            (let x = letter_weight i in let y = letter_weight j in omega (arith, x, y, light))
            (All-nil (λ (n : List ℕ × Num). weight_in T (i ∷ []) + weight_in T n.0 ≤ T.weight)))
            (All-nil (λ (m : List ℕ × Num). All (λ (n : List ℕ × Num). weight_in T m.0 + weight_in T n.0 ≤ T.weight) (((j ∷ []), q.0) ∷ [])));
      }))
