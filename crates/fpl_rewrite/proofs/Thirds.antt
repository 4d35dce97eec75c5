-- Triples whose weights do not sum to the weight after a table's, and those with given first and second elements.
use Rattle.std.proofs.Common.{◌≡◌, ◌<◌, ◌≤◌, ◌+◌, ◌-◌, ℕ, suc, [], ◌∷◌, ◌++◌, length, max, sym, ap, ◌∙◌, arith}
use Rattle.std.proofs.lemmas.Bool.Decides.{nat_tests}
use Rattle.fpl_log.specs.declared.step.Origin.TheVariants.{Jacobi}
use Rattle.fpl_table.specs.Plain.{PlainTable, plain_basis, through}
use Rattle.fpl_table.specs.Shape.{HasShape}
use Rattle.fpl_table.proofs.Weights.{leading_within, leading_below, through_above}
use Rattle.fpl_rewrite.specs.Triples.{from_to, triple_at, thirds_from}
use Rattle.fpl_rewrite.proofs.Onward.{from_to_step, from_to_skip, from_to_none}

pub weight_of : PlainTable → ℕ → ℕ
weight_of T i = (plain_basis T i).weight

pub triple_none : (T : PlainTable) (i j k : ℕ) →
    (i ≤ j → j ≤ k → (plain_basis T i).weight + (plain_basis T j).weight + (plain_basis T k).weight ≡ suc T.weight → ⊥) → triple_at T i j k ≡ []
triple_none T i j k not = grind (arith, nat_tests)

pub triple_here : (T : PlainTable) (i j k : ℕ) → i ≤ j → j ≤ k → (plain_basis T i).weight + (plain_basis T j).weight + (plain_basis T k).weight ≡
    suc T.weight → triple_at T i j k ≡ Jacobi (i + 1) (j + 1) (k + 1) ∷ []
triple_here T i j k l m e = grind (arith, nat_tests)

pub light_through : (T : PlainTable) (w i : ℕ) → i < through T w → (plain_basis T i).weight ≤ w
light_through T w i lt = leading_below T.basis w i lt

pub heavy_past : (T : PlainTable) (w i : ℕ) → HasShape T → through T w ≤ i → i < length T.basis → w < (plain_basis T i).weight
heavy_past T w i shape le lt = (let h : (plain_basis T i).weight ≤ w → i < through T w = through_above T shape w i lt in grind arith)

-- where the first two are as heavy as the table's weight allows for, there is no third
pub thirds_none : (T : PlainTable) (i j k : ℕ) →
    ((x : ℕ) → k ≤ x → x < length T.basis → suc T.weight < (plain_basis T i).weight + (plain_basis T j).weight + (plain_basis T x).weight) →
    thirds_from T i j k ≡ []
unfolding thirds_from
thirds_none T i j k heavy = from_to_none (triple_at T i j) k (length T.basis) (λ x l m. triple_none T i j x
    (λ _ _ e. let h = heavy x l m in omega (arith, h, e)))

pub thirds_end : (T : PlainTable) (i j k : ℕ) → HasShape T → T.weight < (plain_basis T i).weight + (plain_basis T j).weight → thirds_from T i j k ≡ []
thirds_end T i j k shape heavy = thirds_none T i j k (λ x l m. let h = shape.heavy x m in omega arith)

-- the thirds of weight v stand together
pub thirds_start : (T : PlainTable) (i j k v : ℕ) → HasShape T → (plain_basis T i).weight + (plain_basis T j).weight + v ≡ suc T.weight → 1 ≤ v →
    thirds_from T i j k ≡ thirds_from T i j (max k (through T (v - 1)))
unfolding thirds_from
thirds_start T i j k v shape e l =
    from_to_skip (triple_at T i j) k (max k (through T (v - 1))) (length T.basis) (omega arith)
    (λ x m lt within. triple_none T i j x (λ _ _ sum. let h = light_through T (v - 1) x (omega arith) in omega arith))

pub thirds_past : (T : PlainTable) (i j k v : ℕ) → HasShape T → (plain_basis T i).weight + (plain_basis T j).weight + v ≡ suc T.weight →
    through T v ≤ k → thirds_from T i j k ≡ []
thirds_past T i j k v shape e l = thirds_none T i j k (λ x m lt. let h = heavy_past T v x shape (omega arith) lt in omega arith)

pub thirds_here : (T : PlainTable) (i j k v : ℕ) → HasShape T → (plain_basis T i).weight + (plain_basis T j).weight + v ≡ suc T.weight → i ≤ j →
    j ≤ k → through T (v - 1) ≤ k → k < through T v → k < length T.basis →
    thirds_from T i j k ≡ Jacobi (i + 1) (j + 1) (k + 1) ∷ thirds_from T i j (k + 1)
unfolding thirds_from
thirds_here T i j k v shape e l m least lt within =
    let light = light_through T v k lt in
    let heavy = heavy_past T (v - 1) k shape least within in
    from_to_step (triple_at T i j) k (length T.basis) within
    ∙ ap (λ u. u ++ from_to (triple_at T i j) (k + 1) (length T.basis)) (triple_here T i j k l m (omega arith))

pub thirds_found : (T : PlainTable) (i j k v low high least : ℕ) → HasShape T → (plain_basis T i).weight + (plain_basis T j).weight + v ≡
    suc T.weight → 1 ≤ v → i ≤ j → j ≤ k →
    low ≡ through T (v - 1) → high ≡ through T v → least ≡ max k low → least < high →
    (thirds_from T i j k ≡ Jacobi (i + 1) (j + 1) (least + 1) ∷ thirds_from T i j (least + 1)) × (k ≤ least) × (least < length T.basis)
thirds_found T i j k v low high least shape e from_one l m is_low is_high is lt =
    let bound = leading_within T.basis v in
    let same : max k (through T (v - 1)) ≡ least = rw (← is_low) (sym is) in (
      thirds_start T i j k v shape e from_one
          ∙ ap (thirds_from T i j) same
          ∙ thirds_here T i j least v shape e l (omega arith) (omega arith) (omega arith) (omega arith),
      omega arith,
      omega arith,
    )

pub thirds_missed : (T : PlainTable) (i j k v low high least : ℕ) → HasShape T → (plain_basis T i).weight + (plain_basis T j).weight + v ≡
    suc T.weight → 1 ≤ v →
    low ≡ through T (v - 1) → high ≡ through T v → least ≡ max k low → high ≤ least → thirds_from T i j k ≡ []
thirds_missed T i j k v low high least shape e from_one is_low is_high is le =
    thirds_start T i j k v shape e from_one ∙ thirds_past T i j (max k (through T (v - 1))) v shape e (omega arith)
