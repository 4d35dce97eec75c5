-- A fraction has one form in lowest terms.
use Rattle.std.specs.Prelude.{ℕ, zero, suc, ◌≡◌, ◌<◌, ◌≤◌, ◌/◌, ◌+◌, ◌*◌, ◌-◌}
use Rattle.std.specs.Int.{IsGcd}
use mathlib.Core.Path.{sym, ap, ap₂, ◌∙◌, subst}
use native.Mathlib.Omega.{arith}
use native.Mathlib.Decide.{dec_le}
use native.Mathlib.Nat.{zero-div, div-mul_cancel, pos_of_dvd_of_pos, eq_of_mul-eq-mul_right, mul-pos}
use Rattle.math_fields.specs.Gcd.{gcd}
use Rattle.math_fields.specs.Ratios.{Ratio, Alike, lowest}
use Rattle.math_fields.proofs.Gcd.{gcd_is}
use Rattle.math_fields.proofs.Divisors.{quotients_apart, quotient_positive, lowest_equal}

-- n'/e is n/d in lowest terms
pub record Lowest (n d n' e : ℕ) : Type 0 where
  pub by : ℕ
  pub positive : 0 < by
  pub above : n ≡ n' * by
  pub below : d ≡ e * by
  pub apart : IsGcd n' e 1

lowest_of : (n d : ℕ) → 0 < d → (n' : ℕ) × ((k : ℕ) × Lowest n d n' (k + 1))
lowest_of n d z = (
  n / g,
  (
    d / g - 1,
    record {
      by = g;
      positive = some;
      above = sym (div-mul_cancel g is.0);
      below = sym (div-mul_cancel g is.1) ∙ ap (λ w. w * g) (sym back);
      apart = subst (λ w. IsGcd (n / g) w 1) (sym back) (quotients_apart n d g some is);
    },
  ),
)
  where
    g : ℕ
    g = gcd n d

    is : IsGcd n d g
    is = gcd_is n d

    some : 0 < g
    some = pos_of_dvd_of_pos is.1 z

    back : d / g - 1 + 1 ≡ d / g
    back = omega (arith, quotient_positive d g z is.1)

lowest_same : (n d n' e m f m' h : ℕ) → 0 < d → 0 < f → Lowest n d n' e → Lowest m f m' h → n * f ≡ m * d → (n' ≡ m') × (e ≡ h)
lowest_same n d n' e m f m' h z z' a b eq = lowest_equal n' e m' h positive a.apart b.apart crossed
  where
    positive : 0 < h
    positive = from h b.below
      where
        from : (h : ℕ) → f ≡ h * b.by → 0 < h
        from zero p = absurd (omega arith)
        from (suc h) p = omega arith

    crossed : n' * h ≡ m' * e
    crossed =
        eq_of_mul-eq-mul_right (a.by * b.by) (mul-pos a.positive b.positive) (n' * h) (m' * e)
        (turn n' a.by h b.by ∙ ap₂ (λ u v. u * v) (sym a.above) (sym b.below) ∙ eq ∙ ap₂ (λ u v. u * v) b.above a.below ∙ turn' m' b.by e a.by)
      where
        turn : (p g q k : ℕ) → p * q * (g * k) ≡ p * g * (q * k)
        turn p g q k = omega arith

        turn' : (p g q k : ℕ) → p * g * (q * k) ≡ p * q * (k * g)
        turn' p g q k = omega arith

pub ratio : {a a' b b' c c' : ℕ} → a ≡ a' → b ≡ b' → c ≡ c' → Path Ratio (a, (b, c)) (a', (b', c'))
ratio p q r i = (p i, (q i, r i))

past_zero : (n : ℕ) → 0 < n + 1
past_zero n = omega arith

lowest_in : (x : Ratio) → Dec (x.1.0 ≤ x.0) → Ratio
lowest_in x (yes h) = let t = lowest_of (x.0 - x.1.0) (x.1.1 + 1) (past_zero x.1.1) in (t.0, (0, t.1.0))
lowest_in x (no h) = let t = lowest_of (x.1.0 - x.0) (x.1.1 + 1) (past_zero x.1.1) in (0, (t.0, t.1.0))

-- one of the two differences is 0, so that the lowest terms are those of the other
lowest_is : (x : Ratio) (d : Dec (x.1.0 ≤ x.0)) → lowest x ≡ lowest_in x d
unfolding lowest lowest_in lowest_of
lowest_is x (yes h) = up (x.0 - x.1.0) (x.1.0 - x.0) (x.1.1 + 1) (omega arith)
  where
    up : (n m d : ℕ) → m ≡ 0 → Path Ratio (n / gcd (n + m) d, (m / gcd (n + m) d, d / gcd (n + m) d - 1)) (n / gcd n d, (0, d / gcd n d - 1))
    up n m d e =
        let f : n + m ≡ n = omega arith in
        ratio (ap (λ w. n / gcd w d) f) (ap (λ w. w / gcd (n + m) d) e ∙ zero-div _) (ap (λ w. d / gcd w d - 1) f)
lowest_is x (no h) = down (x.0 - x.1.0) (x.1.0 - x.0) (x.1.1 + 1) (omega arith)
  where
    down : (n m d : ℕ) → n ≡ 0 → Path Ratio (n / gcd (n + m) d, (m / gcd (n + m) d, d / gcd (n + m) d - 1)) (0, (m / gcd m d, d / gcd m d - 1))
    down n m d e =
        let f : n + m ≡ m = omega arith in
        ratio (ap (λ w. w / gcd (n + m) d) e ∙ zero-div _) (ap (λ w. m / gcd w d) f) (ap (λ w. d / gcd w d - 1) f)

lowest_in_alike : (x : Ratio) (d : Dec (x.1.0 ≤ x.0)) → Alike (lowest_in x d) x
unfolding lowest_in
lowest_in_alike x (yes h) =
    let t = lowest_of (x.0 - x.1.0) (x.1.1 + 1) (past_zero x.1.1) in
    go x.0 x.1.0 (x.1.1 + 1) (t.1.0 + 1) t.0 t.1.1.by (omega (arith, t.1.1.above)) t.1.1.below
  where
    go : (u v d e n g : ℕ) → u ≡ v + n * g → d ≡ e * g → n * d + v * e ≡ u * e + 0 * d
    go u v d e n g p q = omega (arith, ap (λ w. w * e) p, ap (λ w. n * w) q)
lowest_in_alike x (no h) =
    let t = lowest_of (x.1.0 - x.0) (x.1.1 + 1) (past_zero x.1.1) in
    go x.0 x.1.0 (x.1.1 + 1) (t.1.0 + 1) t.0 t.1.1.by (omega (arith, t.1.1.above)) t.1.1.below
  where
    go : (u v d e n g : ℕ) → v ≡ u + n * g → d ≡ e * g → 0 * d + v * e ≡ u * e + n * d
    go u v d e n g p q = omega (arith, ap (λ w. w * e) p, ap (λ w. n * w) q)

pub lowest_alike : (x : Ratio) → Alike (lowest x) x
lowest_alike x = subst (λ w. Alike w x) (sym (lowest_is x (dec_le x.1.0 x.0))) (lowest_in_alike x (dec_le x.1.0 x.0))

-- from what is alike, the differences
cross : (u v a e u' v' b d : ℕ) → u ≡ v + a → u' ≡ v' + b → u * e + v' * d ≡ u' * d + v * e → a * e ≡ b * d
cross u v a e u' v' b d p q h = omega (arith, ap (λ w. w * e) p, ap (λ w. w * d) q, h)

not_cross : (u v a e u' v' b d : ℕ) → 0 < d → u ≡ v + a → v' ≡ u' + b → 0 < b → u * e + v' * d ≡ u' * d + v * e → ⊥
not_cross u v a e u' v' b d z p q k h = omega (arith, ap (λ w. w * e) p, ap (λ w. w * d) q, h, mul-pos k z)

cross_back : (u v a e u' v' b d : ℕ) → v ≡ u + a → v' ≡ u' + b → u * e + v' * d ≡ u' * d + v * e → a * e ≡ b * d
cross_back u v a e u' v' b d p q h = omega (arith, ap (λ w. w * e) p, ap (λ w. w * d) q, h)

not_cross_back : (u v a e u' v' b d : ℕ) → 0 < e → v ≡ u + a → u' ≡ v' + b → 0 < a → u * e + v' * d ≡ u' * d + v * e → ⊥
not_cross_back u v a e u' v' b d z p q k h = omega (arith, ap (λ w. w * e) p, ap (λ w. w * d) q, h, mul-pos k z)

lowest_in_same : (x y : Ratio) (c : Dec (x.1.0 ≤ x.0)) (d : Dec (y.1.0 ≤ y.0)) → Alike x y → lowest_in x c ≡ lowest_in y d
unfolding lowest_in
lowest_in_same x y (yes c) (yes d) h =
    let s = lowest_of (x.0 - x.1.0) (x.1.1 + 1) (past_zero x.1.1) in
    let t = lowest_of (y.0 - y.1.0) (y.1.1 + 1) (past_zero y.1.1) in
    let e = lowest_same (x.0 - x.1.0) (x.1.1 + 1) s.0 (s.1.0 + 1) (y.0 - y.1.0) (y.1.1 + 1) t.0 (t.1.0 + 1) (past_zero x.1.1) (past_zero y.1.1) s.1.1 t.1.1
    (cross x.0 x.1.0 (x.0 - x.1.0) (y.1.1 + 1) y.0 y.1.0 (y.0 - y.1.0) (x.1.1 + 1) (omega arith) (omega arith) h) in
    let k : s.1.0 ≡ t.1.0 = omega (arith, e.1) in
    ap₂ (λ n m. (n, (0, m))) e.0 k
lowest_in_same x y (yes c) (no d) h =
    absurd (not_cross x.0 x.1.0 (x.0 - x.1.0) (y.1.1 + 1) y.0 y.1.0 (y.1.0 - y.0) (x.1.1 + 1) (past_zero x.1.1) (omega arith) (omega arith) (omega arith) h)
lowest_in_same x y (no c) (yes d) h =
    absurd (not_cross_back x.0 x.1.0 (x.1.0 - x.0) (y.1.1 + 1) y.0 y.1.0 (y.0 - y.1.0) (x.1.1 + 1) (past_zero y.1.1) (omega arith) (omega arith)
    (omega arith) h)
lowest_in_same x y (no c) (no d) h =
    let s = lowest_of (x.1.0 - x.0) (x.1.1 + 1) (past_zero x.1.1) in
    let t = lowest_of (y.1.0 - y.0) (y.1.1 + 1) (past_zero y.1.1) in
    let e = lowest_same (x.1.0 - x.0) (x.1.1 + 1) s.0 (s.1.0 + 1) (y.1.0 - y.0) (y.1.1 + 1) t.0 (t.1.0 + 1) (past_zero x.1.1) (past_zero y.1.1) s.1.1 t.1.1
    (cross_back x.0 x.1.0 (x.1.0 - x.0) (y.1.1 + 1) y.0 y.1.0 (y.1.0 - y.0) (x.1.1 + 1) (omega arith) (omega arith) h) in
    let k : s.1.0 ≡ t.1.0 = omega (arith, e.1) in
    ap₂ (λ n m. (0, (n, m))) e.0 k

pub lowest_same_of : (x y : Ratio) → Alike x y → lowest x ≡ lowest y
lowest_same_of x y h = lowest_is x _ ∙ lowest_in_same x y (dec_le x.1.0 x.0) (dec_le y.1.0 y.0) h ∙ sym (lowest_is y _)

-- fractions with one normal form are alike
pub alike_of_lowest : (x y : Ratio) → lowest x ≡ lowest y → Alike x y
alike_of_lowest x y e =
    go (lowest x) (lowest_alike x) (subst (λ w. Alike w y) (sym e) (lowest_alike y))
  where
    go : (z : Ratio) → Alike z x → Alike z y → Alike x y
    go z p q = eq_of_mul-eq-mul_right (z.1.1 + 1) (past_zero z.1.1) _ _ (through z.0 z.1.0 (z.1.1 + 1) x.0 x.1.0 (x.1.1 + 1) y.0 y.1.0 (y.1.1 + 1) p q)
      where
        through : (u v d u' v' d' a b e : ℕ) → u * d' + v' * d ≡ u' * d + v * d' → u * e + b * d ≡ a * d + v * e → (u' * e + b * d') * d ≡ (a * d' + v' * e) * d
        through u v d u' v' d' a b e p q = omega (arith, ap (λ w. w * e) p, ap (λ w. w * d') q)
