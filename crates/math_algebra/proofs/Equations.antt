-- The weight of an equation as written, against the relations that the proofs match on; and sound presentations are homogeneous.
use Rattle.std.specs.Prelude.{ℕ, ◌≡◌, ◌≢◌, ◌⊎◌, ◌+◌, Bool, true, false, cond, nat_eq}
use mathlib.Core.Path.{sym, refl, ap, ap₂, ◌∙◌, subst}
use mathlib.Core.Logic.{inl, inr}
use native.Mathlib.Omega.{arith}
use Rattle.math_algebra.specs.Tree.{Tree, Trees, Presentation, left, right, IsOver}
use Rattle.math_algebra.specs.Degrees.{IsVoid, AreVoid, Degree, any, exact, mixed, of_both, of_bracket, weight_of, weights_of, weight_of_both, IsSoundPresentation}
use Rattle.math_algebra.specs.Degrees.IsVoid.{void_none, void_sum, void_multiple, void_left, void_right}
use Rattle.math_algebra.specs.Degrees.AreVoid.{void_end, void_more}
use Rattle.math_algebra.proofs.Homogeneous.{WeightIs, WeightsAre}
use Rattle.math_algebra.proofs.Homogeneous.WeightIs.{weight_void, weight_gen, weight_sum, weight_multiple, weight_bracket}
use Rattle.math_algebra.proofs.Homogeneous.WeightsAre.{weight_end, weight_more}
use Rattle.math_algebra.proofs.Degrees.{weight_means, WeightMeans, equation_weight, equation_parity}
use Rattle.math_algebra.proofs.Homogeneous.{IsHomogeneous}

-- void expressions have no weight as written, or are mixed
abbrev Nowhere : Degree ℕ → Type 0
Nowhere any = Unit {0}
Nowhere (exact d) = ⊥
Nowhere mixed = Unit {0}

-- an expression of weight d has none, or d, or is mixed
abbrev Fits : ℕ → Degree ℕ → Type 0
Fits d any = Unit {0}
Fits d (exact c) = c ≡ d
Fits d mixed = Unit {0}

abbrev Mixed : Degree ℕ → Type 0
Mixed any = ⊥
Mixed (exact d) = ⊥
Mixed mixed = Unit {0}

nowhere_fits : (d : ℕ) (a : Degree ℕ) → Nowhere a → Fits d a
nowhere_fits d any h = tt
nowhere_fits d (exact c) h = absurd h
nowhere_fits d mixed h = tt

nowhere_both : (a b : Degree ℕ) → Nowhere a → Nowhere b → Nowhere (of_both nat_eq a b)
nowhere_both any b h k = k
nowhere_both (exact d) b h k = absurd h
nowhere_both mixed b h k = tt

fits_both : (d : ℕ) (a b : Degree ℕ) → Fits d a → Fits d b → Fits d (of_both nat_eq a b)
fits_both d any b h k = k
fits_both d (exact c) any h k = h
fits_both d (exact c) (exact e) h k = go (nat_eq c e)
  where
    go : (t : Bool) → Fits d (cond t (exact c) mixed)
    go true = h
    go false = tt
fits_both d (exact c) mixed h k = tt
fits_both d mixed b h k = tt

nowhere_left : (a b : Degree ℕ) → Nowhere a → Nowhere (of_bracket (λ a b. a + b) a b)
nowhere_left any any h = tt
nowhere_left any (exact d) h = tt
nowhere_left any mixed h = tt
nowhere_left (exact c) b h = absurd h
nowhere_left mixed b h = tt

nowhere_right : (a b : Degree ℕ) → Nowhere b → Nowhere (of_bracket (λ a b. a + b) a b)
nowhere_right any any h = tt
nowhere_right any (exact d) h = tt
nowhere_right any mixed h = tt
nowhere_right (exact c) any h = tt
nowhere_right (exact c) (exact d) h = absurd h
nowhere_right (exact c) mixed h = tt
nowhere_right mixed b h = tt

fits_bracket : (c d : ℕ) (a b : Degree ℕ) → Fits c a → Fits d b → Fits (c + d) (of_bracket (λ a b. a + b) a b)
fits_bracket c d any any h k = tt
fits_bracket c d any (exact e) h k = tt
fits_bracket c d any mixed h k = tt
fits_bracket c d (exact e) any h k = tt
fits_bracket c d (exact e) (exact f) h k = ap₂ (λ a b. a + b) h k
fits_bracket c d (exact e) mixed h k = tt
fits_bracket c d mixed b h k = tt

module _ {N : Type 0} (P : Presentation N) where
  mutual
    unfolding weight_of

    void_nowhere : {e : Tree N} → IsVoid e → Nowhere (weight_of P e)
    void_nowhere void_none = tt
    void_nowhere (void_sum h) = voids_nowhere h
    void_nowhere (void_multiple h) = void_nowhere h
    void_nowhere (void_left {e = e} {f = f} h) = nowhere_left (weight_of P e) (weight_of P f) (void_nowhere h)
    void_nowhere (void_right {e = e} {f = f} h) = nowhere_right (weight_of P e) (weight_of P f) (void_nowhere h)

    voids_nowhere : {es : Trees N} → AreVoid es → Nowhere (weights_of P es)
    voids_nowhere void_end = tt
    voids_nowhere (void_more {e = e} {es = es} h k) = nowhere_both (weight_of P e) (weights_of P es) (void_nowhere h) (voids_nowhere k)

  mutual
    unfolding weight_of

    pub weight_fits : {e : Tree N} {d : ℕ} → WeightIs P e d → Fits d (weight_of P e)
    weight_fits (weight_void {e = e} d h) = nowhere_fits d (weight_of P e) (void_nowhere h)
    weight_fits (weight_gen g l) = refl
    weight_fits (weight_sum h) = weights_fit h
    weight_fits (weight_multiple h) = weight_fits h
    weight_fits (weight_bracket {e = e} {f = f} {b = b} {c = c} h k) = fits_bracket b c (weight_of P e) (weight_of P f) (weight_fits h) (weight_fits k)

    weights_fit : {es : Trees N} {d : ℕ} → WeightsAre P es d → Fits d (weights_of P es)
    weights_fit weight_end = tt
    weights_fit (weight_more {e = e} {es = es} {d = d} h k) = fits_both d (weight_of P e) (weights_of P es) (weight_fits h) (weights_fit k)

  abbrev IsAny : Degree ℕ → Type 0
  IsAny any = Unit {0}
  IsAny (exact d) = ⊥
  IsAny mixed = ⊥

  both_any : (a b : Degree ℕ) → IsAny (of_both nat_eq a b) → IsAny a × IsAny b
  both_any any b e = (tt, e)
  both_any (exact c) any e = absurd e
  both_any (exact c) (exact d) e = absurd (go (nat_eq c d) e)
    where
      go : (t : Bool) → IsAny (cond t (exact c) mixed) → ⊥
      go true p = p
      go false p = p
  both_any (exact c) mixed e = absurd e
  both_any mixed b e = absurd e

  void_any : (a : Degree ℕ) (e : Tree N) → IsAny a → a ≡ weight_of P e → IsOver P e → IsVoid e
  void_any a e h p o = go (weight_of P e) (subst IsAny p h) (weight_means P o)
    where
      go : (b : Degree ℕ) → IsAny b → WeightMeans P b e → IsVoid e
      go any h k = k
      go (exact d) h k = absurd h
      go mixed h k = absurd h

  -- the sides of an equation without a weight are void
  pub equation_any : (e f : Tree N) → IsOver P e → IsOver P f → weight_of_both P e f ≡ any → IsVoid e × IsVoid f
  equation_any e f o q p =
      let r = both_any (weight_of P e) (weight_of P f) (subst IsAny (sym p) tt) in (
        void_any (weight_of P e) e r.0 refl o,
        void_any (weight_of P f) f r.1 refl q,
      )

  -- an equation whose two sides have weight w has w as written, or both sides are void
  pub equation_is : (e f : Tree N) (w : ℕ) → IsOver P e → IsOver P f → weight_of_both P e f ≢ mixed → WeightIs P e w → WeightIs P f w →
      (IsVoid e × IsVoid f) ⊎ (weight_of_both P e f ≡ exact w)
  equation_is e f w o q n h k = go (weight_of_both P e f) refl (fits_both w (weight_of P e) (weight_of P f) (weight_fits h) (weight_fits k))
    where
      go : (a : Degree ℕ) → weight_of_both P e f ≡ a → Fits w a → (IsVoid e × IsVoid f) ⊎ (weight_of_both P e f ≡ exact w)
      go any p t = inl (equation_any e f o q p)
      go (exact c) p t = inr (p ∙ ap exact t)
      go mixed p t = absurd (n p)

  -- the other way
  pub equation_has : (e f : Tree N) (w : ℕ) → IsOver P e → IsOver P f → weight_of_both P e f ≡ exact w → WeightIs P e w × WeightIs P f w
  equation_has e f w o q p = go (weight_of P e) (weight_of P f) (weight_means P o) (weight_means P q) p
    where
      go : (a b : Degree ℕ) → WeightMeans P a e → WeightMeans P b f → of_both nat_eq a b ≡ exact w → WeightIs P e w × WeightIs P f w
      go any any h k p = absurd (subst IsAny p tt)
      go any (exact d) h k p = let r = subst (Fits d) p refl in (weight_void w h, subst (WeightIs P f) (sym r) k)
      go any mixed h k p = absurd (subst Mixed p tt)
      go (exact d) any h k p = let r = subst (Fits d) p refl in (subst (WeightIs P e) (sym r) h, weight_void w k)
      go (exact d) (exact c) h k p = both (nat_eq d c) refl p
        where
          both : (t : Bool) → nat_eq d c ≡ t → cond t (exact d) mixed ≡ exact w → WeightIs P e w × WeightIs P f w
          both true t p = let r = subst (Fits d) p refl in (
            subst (WeightIs P e) (sym r) h,
            subst (WeightIs P f) (let s : d ≡ c = grind (arith, t) in sym s ∙ sym r) k,
          )
          both false t p = absurd (subst Mixed p tt)
      go (exact d) mixed h k p = absurd (subst Mixed p tt)
      go mixed b h k p = absurd (subst Mixed p tt)

-- a presentation whose equations aren't mixed is homogeneous
pub sound_homogeneous : {N : Type 0} (P : Presentation N) → IsSoundPresentation P → IsHomogeneous P
sound_homogeneous P h = record {
  positive = h.positive;
  over = h.over;
  weights = λ k l. equation_weight P (left P k) (right P k) (h.over k l).0 (h.over k l).1 (h.weights k l);
  parities = λ k l. equation_parity P (left P k) (right P k) (h.over k l).0 (h.over k l).1 (h.parities k l);
  has = λ k w l e. equation_has P (left P k) (right P k) w (h.over k l).0 (h.over k l).1 e;
  is = λ k w l a b. equation_is P (left P k) (right P k) w (h.over k l).0 (h.over k l).1 (h.weights k l) a b;
}
