-- What holds of the weights added so far, when one more is added: their sections, and the steps that they took.
use Rattle.std.specs.Prelude.{ℕ, zero, suc, ◌+◌, ◌-◌, ◌≡◌, ◌≤◌, ◌<◌, List, [], ◌∷◌, ◌++◌, length, take, Ok}
use mathlib.Core.Path.{refl, sym, subst, ap, ◌∙◌}
use native.Mathlib.Omega.{arith}
use native.Mathlib.Decide.{dec_le}
use Rattle.std.proofs.lemmas.List.{take-append-le, length-take}
use Rattle.fpl_log.specs.declared.section.Section.{Section}
use Rattle.fpl_model.specs.declared.presentation.Presentation.{Presentation}
use Rattle.fpl_table.specs.Plain.{PlainTable}
use Rattle.fpl_table.specs.Standard.{count_through}
use Rattle.fpl_rewrite.specs.Origins.{origins_of}
use Rattle.plain_tables.specs.Raised.{IsRaised}
use Rattle.plain_weights.specs.Section.{Computes}
use Rattle.fpl_complete.specs.State.{section_at, AreOfWeights, sum_after, BoundsOrigins}
use Rattle.fpl_complete.proofs.Raising.{section_old}

-- sections from the first on stay
pub front_stays : (before sections after : List Section) (x : Section) → after ≡ sections ++ x ∷ [] → take (length before) sections ≡ before →
    take (length before) after ≡ before
front_stays before sections after x e h =
    let long = ap length h in
    let least = length-take (length before) sections in
    ap (take (length before)) e ∙ take-append-le (length before) sections (x ∷ []) (omega arith) ∙ h

-- each weight above `from` and through w has the section that computing it gives
abbrev pub AreComputed : Presentation → ℕ → ℕ → List Section → Type 0
AreComputed p from w sections = (v : ℕ) → from < v → v ≤ w → Computes p v (Ok (section_at sections v))

pub computed_more : (p : Presentation) (from d w : ℕ) (sections after : List Section) (x : Section) → w ≡ d + 1 → AreOfWeights d sections →
    after ≡ sections ++ x ∷ [] → AreComputed p from d sections → Computes p w (Ok (section_at after w)) → AreComputed p from w after
computed_more p from d w sections after x next are e h new v l m = go (dec_le v d)
  where
    go : Dec (v ≤ d) → Computes p v (Ok (section_at after v))
    go (yes k) =
        subst (λ (s : Section). Computes p v (Ok s))
        (sym (ap (λ (xs : List Section). section_at xs v) e ∙ section_old sections x v (omega arith) (let c = are.count in omega arith))) (h v l k)
    go (no k) = subst (λ (v : ℕ). Computes p v (Ok (section_at after v))) (let q : w ≡ v = omega arith in q) new

-- the symbols through each weight are within the limit
pub within_more : (from d w entries : ℕ) (before after : PlainTable) → w ≡ d + 1 →
    ((v : ℕ) → v ≤ d + 1 → count_through after v ≡ count_through before v) → count_through after w ≤ entries →
    ((v : ℕ) → from < v → v ≤ d → count_through before v ≤ entries) → (v : ℕ) → from < v → v ≤ w → count_through after v ≤ entries
within_more from d w entries before after next same few h v l m = go (dec_le v d)
  where
    go : Dec (v ≤ d) → count_through after v ≤ entries
    go (yes k) = let a = same v (omega arith) in let b = h v l k in omega arith
    go (no k) = subst (λ (v : ℕ). count_through after v ≤ entries) (let q : w ≡ v = omega arith in q) few

-- sums
sum_more : (count : ℕ → ℕ) (from m n : ℕ) → m ≤ n → sum_after count from m ≤ sum_after count from n
sum_more count from m zero l = let q : m ≡ zero = omega arith in subst (λ (m : ℕ). sum_after count from m ≤ 0) (sym q) (omega arith)
sum_more count from m (suc n) l = go (dec_le m n) (λ k. sum_more count from m n k)
  where
    go : Dec (m ≤ n) → (m ≤ n → sum_after count from m ≤ sum_after count from n) → sum_after count from m ≤ sum_after count from (suc n)
    go (yes k) h = let a = h k in omega arith
    go (no k) h = let q : m ≡ suc n = omega arith in subst (λ (m : ℕ). sum_after count from m ≤ sum_after count from (suc n)) (sym q) (omega arith)

-- the steps taken from `before` on, for the weights above `from` and through w
abbrev pub Costs : Presentation → ℕ → ℕ → ℕ → ℕ → ℕ → Type 0
Costs p from d w before steps = (count : ℕ → ℕ) → BoundsOrigins p from d count → steps ≤ before + sum_after count from (w - from)

module _ (p : Presentation) (from d before steps : ℕ) (T : PlainTable) (raised : IsRaised p T) (above : from ≤ T.weight) (more : T.weight < d)
    (so_far : Costs p from d T.weight before steps) where
  -- a weight more
  pub cost_next : (after w : ℕ) → w ≡ T.weight + 1 → after ≤ steps + length (origins_of T p) → Costs p from d w before after
  cost_next after w next most count bounds =
      let here : length (origins_of T p) ≤ count (suc T.weight) = bounds (suc T.weight) (omega arith) (omega arith) T raised refl in
      let at : suc (from + (T.weight - from)) ≡ suc T.weight = omega arith in
      let same : count (suc (from + (T.weight - from))) ≡ count (suc T.weight) = ap count at in
      let old = so_far count bounds in
      let last : w - from ≡ suc (T.weight - from) = omega arith in
      subst (λ (n : ℕ). after ≤ before + sum_after count from n) (sym last) (omega arith)

-- what was taken by then is no more than is allowed for all
pub cost_whole : (p : Presentation) (from d w before steps : ℕ) → w - from ≤ d - from → Costs p from d w before steps → Costs p from d d before steps
cost_whole p from d w before steps l h count bounds =
    let a = h count bounds in
    let b = sum_more count from (w - from) (d - from) l in omega arith
