-- Weights and parities as written, against the relations that the proofs speak of.
use Rattle.std.specs.Prelude.{ℕ, ◌≡◌, ◌≢◌, ◌⊎◌, ◌≤◌, ◌+◌, Bool, true, false, cond, nat_eq, ◌&&◌, ◌||◌}
use mathlib.Core.Path.{sym, refl, ap, ap₂, ◌∙◌, subst}
use mathlib.Core.Logic.{inl, inr}
use native.Mathlib.Omega.{arith}
use Rattle.math_algebra.specs.Tree.{Tree, Trees, gen, none, sum_of, multiple, bracket_of, end, more, Parity, even, odd, parity_sum, Presentation, IsOver, AreOver}
use Rattle.math_algebra.specs.Degrees.{IsVoid, AreVoid, HasParity, HaveParity, Degree, any, exact, mixed, of_both, of_bracket, same_parity, weight_of, weights_of, parity_of, parities_of, weight_of_both, parity_of_both, is_void, are_void, top, tops}
use Rattle.math_algebra.specs.Degrees.IsVoid.{void_none, void_sum, void_multiple, void_left, void_right}
use Rattle.math_algebra.specs.Degrees.AreVoid.{void_end, void_more}
use Rattle.math_algebra.specs.Degrees.HasParity.{parity_void, parity_gen, parity_all, parity_multiple, parity_bracket}
use Rattle.math_algebra.specs.Degrees.HaveParity.{parity_end, parity_more}
use Rattle.math_algebra.proofs.Homogeneous.{WeightIs, WeightsAre, TopIs, TopsAre}
use Rattle.math_algebra.proofs.Homogeneous.WeightIs.{weight_void, weight_gen, weight_sum, weight_multiple, weight_bracket}
use Rattle.math_algebra.proofs.Homogeneous.WeightsAre.{weight_end, weight_more}
use Rattle.math_algebra.proofs.Homogeneous.TopIs.{top_void, top_gen, top_sum, top_multiple, top_bracket}
use Rattle.math_algebra.proofs.Homogeneous.TopsAre.{top_end, top_more}
use Rattle.math_algebra.specs.Tree.IsOver.{over_gen, over_none, over_sum, over_multiple, over_bracket}
use Rattle.math_algebra.specs.Tree.AreOver.{over_end, over_more}

module _ {N : Type 0} (P : Presentation N) where
  abbrev pub WeightMeans : Degree ℕ → Tree N → Type 0
  WeightMeans any e = IsVoid e
  WeightMeans (exact d) e = WeightIs P e d
  WeightMeans mixed e = Unit {0}

  abbrev WeightsMean : Degree ℕ → Trees N → Type 0
  WeightsMean any es = AreVoid es
  WeightsMean (exact d) es = WeightsAre P es d
  WeightsMean mixed es = Unit {0}

  voids_weights : {es : Trees N} (d : ℕ) → AreVoid es → WeightsAre P es d
  voids_weights d void_end = weight_end
  voids_weights d (void_more h k) = weight_more (weight_void d h) (voids_weights d k)

  more_weights : (a b : Degree ℕ) (e : Tree N) (es : Trees N) → WeightMeans a e → WeightsMean b es → WeightsMean (of_both nat_eq a b) (more e es)
  more_weights any any e es h k = void_more h k
  more_weights any (exact d) e es h k = weight_more (weight_void d h) k
  more_weights any mixed e es h k = tt
  more_weights (exact d) any e es h k = weight_more h (voids_weights d k)
  more_weights (exact d) (exact c) e es h k = go (nat_eq d c) refl
    where
      go : (b : Bool) → nat_eq d c ≡ b → WeightsMean (cond b (exact d) mixed) (more e es)
      go true p = weight_more h (subst (WeightsAre P es) (let q : d ≡ c = grind (arith, p) in sym q) k)
      go false p = tt
  more_weights (exact d) mixed e es h k = tt
  more_weights mixed b e es h k = tt

  bracket_weights : (a b : Degree ℕ) (e f : Tree N) → WeightMeans a e → WeightMeans b f → WeightMeans (of_bracket (λ a b. a + b) a b) (bracket_of e f)
  bracket_weights any any e f h k = void_left h
  bracket_weights any (exact d) e f h k = void_left h
  bracket_weights any mixed e f h k = tt
  bracket_weights (exact d) any e f h k = void_right k
  bracket_weights (exact d) (exact c) e f h k = weight_bracket h k
  bracket_weights (exact d) mixed e f h k = tt
  bracket_weights mixed b e f h k = tt

  multiple_weights : (a : Degree ℕ) (c : N) (e : Tree N) → WeightMeans a e → WeightMeans a (multiple c e)
  multiple_weights any c e h = void_multiple h
  multiple_weights (exact d) c e h = weight_multiple h
  multiple_weights mixed c e h = tt

  sum_weights : (a : Degree ℕ) (es : Trees N) → WeightsMean a es → WeightMeans a (sum_of es)
  sum_weights any es h = void_sum h
  sum_weights (exact d) es h = weight_sum h
  sum_weights mixed es h = tt

  -- what the weight as written says
  mutual
    unfolding weight_of

    pub weight_means : {e : Tree N} → IsOver P e → WeightMeans (weight_of P e) e
    weight_means (over_gen g l) = weight_gen g l
    weight_means over_none = void_none
    weight_means (over_sum {es = es} h) = sum_weights (weights_of P es) es (weights_mean h)
    weight_means (over_multiple {c = c} {e = e} h) = multiple_weights (weight_of P e) c e (weight_means h)
    weight_means (over_bracket {e = e} {f = f} h k) = bracket_weights (weight_of P e) (weight_of P f) e f (weight_means h) (weight_means k)

    pub weights_mean : {es : Trees N} → AreOver P es → WeightsMean (weights_of P es) es
    weights_mean over_end = void_end
    weights_mean (over_more {e = e} {es = es} h k) = more_weights (weight_of P e) (weights_of P es) e es (weight_means h) (weights_mean k)

  -- both sides of an equation that isn't mixed have one weight
  both_weights : (a b : Degree ℕ) (e f : Tree N) → WeightMeans a e → WeightMeans b f → of_both nat_eq a b ≢ mixed → (d : ℕ) × WeightIs P e d × WeightIs P f d
  both_weights any any e f h k n = (0, weight_void 0 h, weight_void 0 k)
  both_weights any (exact d) e f h k n = (d, weight_void d h, k)
  both_weights any mixed e f h k n = absurd (n refl)
  both_weights (exact d) any e f h k n = (d, h, weight_void d k)
  both_weights (exact d) (exact c) e f h k n = go (nat_eq d c) refl
    where
      go : (b : Bool) → nat_eq d c ≡ b → (d : ℕ) × WeightIs P e d × WeightIs P f d
      go true p = (d, h, subst (WeightIs P f) (let q : d ≡ c = grind (arith, p) in sym q) k)
      go false p = absurd (n (ap (λ b. cond b (exact d) mixed) p))
  both_weights (exact d) mixed e f h k n = absurd (n refl)
  both_weights mixed b e f h k n = absurd (n refl)

  pub equation_weight : (e f : Tree N) → IsOver P e → IsOver P f → weight_of_both P e f ≢ mixed → (d : ℕ) × WeightIs P e d × WeightIs P f d
  equation_weight e f h k n = both_weights (weight_of P e) (weight_of P f) e f (weight_means h) (weight_means k) n

  -- parities
  abbrev pub ParityMeans : Degree Parity → Tree N → Type 0
  ParityMeans any e = IsVoid e
  ParityMeans (exact s) e = HasParity P e s
  ParityMeans mixed e = Unit {0}

  abbrev ParitiesMean : Degree Parity → Trees N → Type 0
  ParitiesMean any es = AreVoid es
  ParitiesMean (exact s) es = HaveParity P es s
  ParitiesMean mixed es = Unit {0}

  voids_parities : {es : Trees N} (s : Parity) → AreVoid es → HaveParity P es s
  voids_parities s void_end = parity_end
  voids_parities s (void_more h k) = parity_more (parity_void s h) (voids_parities s k)

  more_parities : (a b : Degree Parity) (e : Tree N) (es : Trees N) → ParityMeans a e → ParitiesMean b es → ParitiesMean (of_both same_parity a b) (more e es)
  more_parities any any e es h k = void_more h k
  more_parities any (exact s) e es h k = parity_more (parity_void s h) k
  more_parities any mixed e es h k = tt
  more_parities (exact s) any e es h k = parity_more h (voids_parities s k)
  more_parities (exact even) (exact even) e es h k = parity_more h k
  more_parities (exact even) (exact odd) e es h k = tt
  more_parities (exact odd) (exact even) e es h k = tt
  more_parities (exact odd) (exact odd) e es h k = parity_more h k
  more_parities (exact s) mixed e es h k = tt
  more_parities mixed b e es h k = tt

  bracket_parities : (a b : Degree Parity) (e f : Tree N) → ParityMeans a e → ParityMeans b f → ParityMeans (of_bracket parity_sum a b) (bracket_of e f)
  bracket_parities any any e f h k = void_left h
  bracket_parities any (exact d) e f h k = void_left h
  bracket_parities any mixed e f h k = tt
  bracket_parities (exact d) any e f h k = void_right k
  bracket_parities (exact d) (exact c) e f h k = parity_bracket h k
  bracket_parities (exact d) mixed e f h k = tt
  bracket_parities mixed b e f h k = tt

  multiple_parities : (a : Degree Parity) (c : N) (e : Tree N) → ParityMeans a e → ParityMeans a (multiple c e)
  multiple_parities any c e h = void_multiple h
  multiple_parities (exact d) c e h = parity_multiple h
  multiple_parities mixed c e h = tt

  sum_parities : (a : Degree Parity) (es : Trees N) → ParitiesMean a es → ParityMeans a (sum_of es)
  sum_parities any es h = void_sum h
  sum_parities (exact d) es h = parity_all h
  sum_parities mixed es h = tt

  mutual
    unfolding parity_of

    pub parity_means : {e : Tree N} → IsOver P e → ParityMeans (parity_of P e) e
    parity_means (over_gen g l) = parity_gen g l
    parity_means over_none = void_none
    parity_means (over_sum {es = es} h) = sum_parities (parities_of P es) es (parities_mean h)
    parity_means (over_multiple {c = c} {e = e} h) = multiple_parities (parity_of P e) c e (parity_means h)
    parity_means (over_bracket {e = e} {f = f} h k) = bracket_parities (parity_of P e) (parity_of P f) e f (parity_means h) (parity_means k)

    pub parities_mean : {es : Trees N} → AreOver P es → ParitiesMean (parities_of P es) es
    parities_mean over_end = void_end
    parities_mean (over_more {e = e} {es = es} h k) = more_parities (parity_of P e) (parities_of P es) e es (parity_means h) (parities_mean k)

  both_parities : (a b : Degree Parity) (e f : Tree N) → ParityMeans a e → ParityMeans b f → of_both same_parity a b ≢ mixed →
      (s : Parity) × HasParity P e s × HasParity P f s
  both_parities any any e f h k n = (even, parity_void even h, parity_void even k)
  both_parities any (exact s) e f h k n = (s, parity_void s h, k)
  both_parities any mixed e f h k n = absurd (n refl)
  both_parities (exact s) any e f h k n = (s, h, parity_void s k)
  both_parities (exact even) (exact even) e f h k n = (even, h, k)
  both_parities (exact even) (exact odd) e f h k n = absurd (n refl)
  both_parities (exact odd) (exact even) e f h k n = absurd (n refl)
  both_parities (exact odd) (exact odd) e f h k n = (odd, h, k)
  both_parities (exact s) mixed e f h k n = absurd (n refl)
  both_parities mixed b e f h k n = absurd (n refl)

  pub equation_parity : (e f : Tree N) → IsOver P e → IsOver P f → parity_of_both P e f ≢ mixed → (s : Parity) × HasParity P e s × HasParity P f s
  equation_parity e f h k n = both_parities (parity_of P e) (parity_of P f) e f (parity_means h) (parity_means k) n

-- void expressions, by a test
pub either_true : (a b : Bool) → (a || b) ≡ true → (a ≡ true) ⊎ (b ≡ true)
either_true true b e = inl refl
either_true false b e = inr e

mutual
  unfolding is_void

  pub void_test : {N : Type 0} {e : Tree N} → IsVoid e → is_void e ≡ true
  void_test void_none = refl
  void_test (void_sum h) = voids_test h
  void_test (void_multiple h) = void_test h
  void_test (void_left {f = f} h) = ap (λ b. b || is_void f) (void_test h)
  void_test (void_right {e = e} h) = ap (λ b. is_void e || b) (void_test h) ∙ or_true (is_void e)
    where
      or_true : (b : Bool) → (b || true) ≡ true
      or_true true = refl
      or_true false = refl

  pub voids_test : {N : Type 0} {es : Trees N} → AreVoid es → are_void es ≡ true
  voids_test void_end = refl
  voids_test (void_more h k) = ap₂ (λ a b. a && b) (void_test h) (voids_test k)

pub both_true : (a b : Bool) → (a && b) ≡ true → (a ≡ true) × (b ≡ true)
both_true true b e = (refl, e)
both_true false b e = absurd (grind arith)

mutual
  unfolding is_void

  pub test_void : {N : Type 0} (e : Tree N) → is_void e ≡ true → IsVoid e
  test_void (gen g) h = absurd (grind arith)
  test_void none h = void_none
  test_void (sum_of es) h = void_sum (test_voids es h)
  test_void (multiple c e) h = void_multiple (test_void e h)
  test_void (bracket_of e f) h = pick (either_true (is_void e) (is_void f) h) (test_void e) (test_void f)
    where
      pick : (is_void e ≡ true) ⊎ (is_void f ≡ true) → (is_void e ≡ true → IsVoid e) → (is_void f ≡ true → IsVoid f) → IsVoid (bracket_of e f)
      pick (inl a) p q = void_left (p a)
      pick (inr a) p q = void_right (q a)

  pub test_voids : {N : Type 0} (es : Trees N) → are_void es ≡ true → AreVoid es
  test_voids end h = void_end
  test_voids (more e es) h = let t = both_true (is_void e) (are_void es) h in void_more (test_void e t.0) (test_voids es t.1)

module _ {N : Type 0} (P : Presentation N) where
  -- the greatest written weight is at most d
  mutual
    unfolding top is_void

    pub top_is : {e : Tree N} → IsOver P e → (d : ℕ) → top P e ≤ d → TopIs P e d
    top_is (over_gen g l) d h = top_gen g d l h
    top_is over_none d h = top_void d void_none
    top_is (over_sum k) d h = top_sum (tops_are k d h)
    top_is (over_multiple k) d h = top_multiple (top_is k d h)
    top_is (over_bracket {e = e} {f = f} k l) d h = go (is_void e || is_void f) refl (λ c m. top_is k c m) (λ c m. top_is l c m)
      where
        go : (b : Bool) → (is_void e || is_void f) ≡ b → ((c : ℕ) → top P e ≤ c → TopIs P e c) → ((c : ℕ) → top P f ≤ c → TopIs P f c) →
            TopIs P (bracket_of e f) d
        go true p q r = top_void d (test_void (bracket_of e f) p)
        go false p q r = top_bracket (q (top P e) (omega arith)) (r (top P f) (omega arith)) (subst (λ b. cond b 0 (top P e + top P f) ≤ d) p h)

    pub tops_are : {es : Trees N} → AreOver P es → (d : ℕ) → tops P es ≤ d → TopsAre P es d
    tops_are over_end d h = top_end
    tops_are (over_more k l) d h = top_more (top_is k d (omega arith)) (tops_are l d (omega arith))

  mutual
    unfolding top is_void

    pub void_top : {e : Tree N} → IsVoid e → top P e ≡ 0
    void_top void_none = refl
    void_top (void_sum h) = voids_top h
    void_top (void_multiple h) = void_top h
    void_top (void_left {e = e} {f = f} h) = ap (λ b. cond b 0 (top P e + top P f)) (void_test (void_left {f = f} h))
    void_top (void_right {e = e} {f = f} h) = ap (λ b. cond b 0 (top P e + top P f)) (void_test (void_right {e = e} h))

    pub voids_top : {es : Trees N} → AreVoid es → tops P es ≡ 0
    voids_top void_end = refl
    voids_top (void_more h k) = omega (arith, void_top h, voids_top k)

  mutual
    unfolding top is_void

    pub is_top : {e : Tree N} {d : ℕ} → TopIs P e d → top P e ≤ d
    is_top (top_void d h) = omega (arith, void_top h)
    is_top (top_gen g d l h) = h
    is_top (top_sum h) = are_tops h
    is_top (top_multiple h) = is_top h
    is_top (top_bracket {e = e} {f = f} {b = b} {c = c} {d = d} h k l) = go (is_void e || is_void f) (is_top h) (is_top k)
      where
        go : (t : Bool) → top P e ≤ b → top P f ≤ c → cond t 0 (top P e + top P f) ≤ d
        go true p q = omega arith
        go false p q = omega arith

    pub are_tops : {es : Trees N} {d : ℕ} → TopsAre P es d → tops P es ≤ d
    are_tops top_end = omega arith
    are_tops (top_more h k) = omega (arith, is_top h, are_tops k)
