-- What code computes, place by place; tables that agree; and the lower part of a table.
use Rattle.std.specs.Prelude.{ℕ, suc, ◌≡◌, ◌⊎◌, ◌<◌, ◌≤◌, ◌+◌, ◌-◌, length}
use mathlib.Core.Path.{sym, refl, ap, ap₂, ◌∙◌}
use mathlib.Core.Logic.{inl, inr}
use native.Mathlib.Omega.{arith}
use native.Mathlib.Decide.{ℕ_discrete, dec_le, dec_lt}
use Rattle.math_fields.specs.Field.{Field}
use Rattle.math_linear.specs.Vector.{Vector, vplus, scale, place, total, bilinear}
use Rattle.math_algebra.specs.Tree.{odd, Presentation, generator}
use Rattle.math_algebra.specs.Derives.{sign}
use Rattle.math_algebra.specs.Table.{Table, parity_at, product, weight_at, IsRegular}
use Rattle.math_algebra.specs.SourceRows.{outer_place, outer, jacobi_row, cube_row}
use Rattle.math_algebra.proofs.Homogeneous.{IsHomogeneous}
use Rattle.math_algebra.specs.Symbols.{pair_number}
use Rattle.math_algebra.specs.Extending.{Agree, IsLower}
use Rattle.math_algebra.specs.Built.{IsNext, Built}
use Rattle.math_algebra.specs.Built.Built.{built_start, built_next}
use Rattle.math_linear.proofs.Vectors.{scale_scale, total_same, total_scale, total_place}
use Rattle.math_values.proofs.Products.{bracket_places}
use Rattle.math_standard.proofs.NewPlaces.{of_past}
use Rattle.math_standard.proofs.BuiltFacts.{built_whole}

-- a bilinear form at a place on one side is a sum over the other
module _ (K : Field) (n : ℕ) (form : ℕ → ℕ → Vector K) where
  pub place_left : (i : ℕ) (y : Vector K) → i < n → bilinear K n form (place K i) y ≡ total K n (λ t. scale K (y t) (form i t))
  unfolding bilinear
  place_left i y l =
      total_same K n _ _ (λ a. total_same K n _ _ (λ t. sym (scale_scale K (place K i a) (y t) (form a t))) ∙ total_scale K n (place K i a) _)
      ∙ total_place K n i (λ a. total K n (λ t. scale K (y t) (form a t))) l

  pub place_right : (x : Vector K) (k : ℕ) → k < n → bilinear K n form x (place K k) ≡ total K n (λ t. scale K (x t) (form t k))
  unfolding bilinear
  place_right x k l =
      total_same K n _ _
      (λ t. total_same K n _ _ (λ b. ap (λ w. scale K w (form t b)) (K.times_comm (x t) (place K k b)) ∙ sym (scale_scale K (place K k b) (x t) (form t b)))
      ∙ total_place K n k (λ b. scale K (x t) (form t b)) l)

-- the rows of triples and cubes, by the entries
module _ (K : Field) (P : Presentation K.Carrier) (T : Table K) where
  pub jacobi_entries : (i j k : ℕ) → i < length T.basis → j < length T.basis → k < length T.basis →
      jacobi_row K T (pair_number P T) i j k
      ≡ vplus K (total K (length T.basis) (λ t. scale K (product K T j k t) (outer_place K T (pair_number P T) i t)))
      (scale K (K.minus K.unit)
      (vplus K (total K (length T.basis) (λ t. scale K (product K T i j t) (outer_place K T (pair_number P T) t k)))
      (scale K (sign K (parity_at T i) (parity_at T j)) (total K (length T.basis) (λ t. scale K (product K T i k t) (outer_place K T (pair_number P T) j t))))))
  unfolding jacobi_row outer
  jacobi_entries i j k p q r =
      ap₂ (λ a b. vplus K a (scale K (K.minus K.unit) b))
      (ap (bilinear K (length T.basis) (outer_place K T (pair_number P T)) (place K i)) (bracket_places K T j k q r) ∙
      place_left K (length T.basis) (outer_place K T (pair_number P T)) i _ p)
      (ap₂ (λ a b. vplus K a (scale K (sign K (parity_at T i) (parity_at T j)) b))
      (ap (λ w. bilinear K (length T.basis) (outer_place K T (pair_number P T)) w (place K k)) (bracket_places K T i j p q) ∙
      place_right K (length T.basis) (outer_place K T (pair_number P T)) _ k r)
      (ap (bilinear K (length T.basis) (outer_place K T (pair_number P T)) (place K j)) (bracket_places K T i k p r) ∙
      place_left K (length T.basis) (outer_place K T (pair_number P T)) j _ q))

  pub cube_entries : (i : ℕ) → i < length T.basis → cube_row K P T i ≡ total K (length T.basis)
      (λ t. scale K (product K T i i t) (outer_place K T (pair_number P T) i t))
  unfolding outer
  cube_entries i l =
      ap (bilinear K (length T.basis) (outer_place K T (pair_number P T)) (place K i)) (bracket_places K T i i l l) ∙
      place_left K (length T.basis) (outer_place K T (pair_number P T)) i _ l

-- what agrees with a next table is one
module _ (K : Field) (P : Presentation K.Carrier) (T T' S : Table K) (next : IsNext K P T T') (agree : Agree K P T' S)
    (positive : (i : ℕ) → i < length T.basis → 0 < weight_at T i) where
  inside : (i : ℕ) → i < length T.basis → i < length T'.basis
  inside i l = omega (arith, l, next.basis.more)

  regular' : (i j : ℕ) → i < length T.basis → IsRegular T i j → (i < j) ⊎ ((i ≡ j) × (parity_at T' i ≡ odd))
  regular' i j l (inl a) = inl a
  regular' i j l (inr a) = inr (a.0, ap (λ b. b.parity) (next.basis.old i l) ∙ a.1)

  entry_same : (i j : ℕ) → i < length T.basis → j < length T.basis → IsRegular T i j → weight_at T i + weight_at T j ≤ suc T.weight → T'.entry i j ≡ S.entry i j
  entry_same i j l k r w =
      agree.entries i j (inside i l) (inside j k) (regular' i j l r)
      (omega (arith, w, ap (λ b. b.weight) (next.basis.old i l), ap (λ b. b.weight) (next.basis.old j k), next.basis.weight))

  pub next_same : IsNext K P T S
  next_same = record {
    number_of_rows = next.number_of_rows;
    row = next.row;
    pivot = next.pivot;
    count = next.count;
    slot = next.slot;
    form = next.form;
    free = next.free;
    basis = record {
      weight = sym agree.weight ∙ next.basis.weight;
      more = sym agree.more ∙ next.basis.more;
      old = λ i l. sym (agree.basis i (inside i l)) ∙ next.basis.old i l;
      added = λ i l. sym (agree.basis (length T.basis + i) (omega (arith, l, next.basis.more))) ∙ next.basis.added i l;
    };
    keeps = record {
      images = λ g l w. sym (agree.images g l) ∙ next.keeps.images g l w;
      entries = λ i j l k r w. sym (entry_same i j l k r (omega arith)) ∙ next.keeps.entries i j l k r w;
      past = λ g l w. sym (agree.images g l) ∙ next.keeps.past g l w;
    };
    images = λ g l w. sym (agree.images g l) ∙ next.images g l w;
    entries = λ i j l k r w. sym (entry_same i j l k r (omega arith)) ∙ next.entries i j l k r w;
  }

-- so it doesn't matter what a built table holds where a table says nothing
pub built_same : (K : Field) (P : Presentation K.Carrier) → IsHomogeneous P → (T S : Table K) → Built K P T → Agree K P T S → Built K P S
built_same K P hom T S (built_start e) a =
    built_start (record { weight = sym a.weight ∙ e.weight; basis = sym a.more ∙ e.basis; images = λ g l. sym (a.images g l) ∙ e.images g l })
built_same K P hom T' S (built_next {T = T} b next) a = built_next b (next_same K P T T' S next a (built_whole K P hom T b).facts.positive)

module _ (K : Field) (P : Presentation K.Carrier) (hom : IsHomogeneous P) where
  -- a built table is its own whole part
  lower_itself : (T : Table K) → Built K P T → IsLower K P T T
  lower_itself T b =
      let w = built_whole K P hom T b in
      record {
        less = omega arith;
        fewer = omega arith;
        basis = λ i l. refl;
        heavier = λ i l k. absurd (omega arith);
        lighter = w.facts.within;
        images = λ g l h. refl;
        past = λ g l h. of_past K T _ _ w.facts.within h (w.facts.image_of g l);
        entries = λ i j l k r h. refl;
      }

  lower_next : (T T' S : Table K) → Built K P T → IsNext K P T T' → IsLower K P T S → IsLower K P T' S
  lower_next T T' S b next low = record {
    less = omega (arith, low.less, next.basis.weight);
    fewer = omega (arith, low.fewer, next.basis.more);
    basis = λ i l. next.basis.old i (omega (arith, l, low.fewer)) ∙ low.basis i l;
    heavier = λ i l k. heavier i l k (dec_lt i (length T.basis));
    lighter = low.lighter;
    images = λ g l h. next.keeps.images g l (omega (arith, h, low.less)) ∙ low.images g l h;
    past = low.past;
    entries = λ i j l k r h.
        next.keeps.entries i j (omega (arith, l, low.fewer)) (omega (arith, k, low.fewer)) (regular i j l r)
        (omega (arith, h, low.less, ap (λ b. b.weight) (low.basis i l), ap (λ b. b.weight) (low.basis j k)))
        ∙ low.entries i j l k r h;
  }
    where
      regular : (i j : ℕ) → i < length S.basis → (i < j) ⊎ ((i ≡ j) × (parity_at S i ≡ odd)) → IsRegular T i j
      regular i j l (inl a) = inl a
      regular i j l (inr a) = inr (a.0, ap (λ b. b.parity) (low.basis i l) ∙ a.1)

      heavier : (i : ℕ) → length S.basis ≤ i → i < length T'.basis → Dec (i < length T.basis) → S.weight < weight_at T' i
      heavier i l k (yes h) = omega (arith, low.heavier i l h, ap (λ b. b.weight) (next.basis.old i h))
      heavier i l k (no h) =
          let e : i ≡ length T.basis + (i - length T.basis) = omega arith in
          omega (arith, low.less, ap (weight_at T') e, ap (λ b. b.weight) (next.basis.added (i - length T.basis) (omega (arith, h, k, next.basis.more))))

  -- below a built table there is a built one of each weight
  pub built_lower : (T : Table K) → Built K P T → (d : ℕ) → d ≤ T.weight → (S : Table K) × Built K P S × (S.weight ≡ d) × IsLower K P T S
  built_lower T (built_start e) d l = (T, built_start e, omega (arith, e.weight, l), lower_itself T (built_start e))
  built_lower T' (built_next {T = T} b next) d l = go (ℕ_discrete d T'.weight) (built_lower T b d)
    where
      go : Dec (d ≡ T'.weight) → (d ≤ T.weight → (S : Table K) × Built K P S × (S.weight ≡ d) × IsLower K P T S) →
          (S : Table K) × Built K P S × (S.weight ≡ d) × IsLower K P T' S
      go (yes e) r = (T', built_next b next, sym e, lower_itself T' (built_next b next))
      go (no e) r = let t = r (omega (arith, l, e, next.basis.weight)) in (t.0, t.1, t.2, lower_next T T' t.0 b next t.3)

  -- so the part of a built table through a weight is built
  pub lower_built : (T S : Table K) → Built K P T → IsLower K P T S → Built K P S
  lower_built T S b low = go (built_lower T b S.weight low.less)
    where
      same_length : (R : Table K) → R.weight ≡ S.weight → IsLower K P T R → length R.basis ≡ length S.basis
      same_length R e r = elim (dec_lt (length R.basis) (length S.basis)) [
        | yes l ↦ (let h = r.heavier (length R.basis) (omega arith) (omega (arith, l, low.fewer)) in
            absurd (omega (arith, h, e, ap (λ b. b.weight) (low.basis (length R.basis) l), low.lighter (length R.basis) l)))
        | no l ↦ elim (dec_lt (length S.basis) (length R.basis)) [
          | yes k ↦ (let h = low.heavier (length S.basis) (omega arith) (omega (arith, k, r.fewer)) in
              absurd (omega (arith, h, e, ap (λ b. b.weight) (r.basis (length S.basis) k), r.lighter (length S.basis) k)))
          | no k ↦ omega arith
        ]
      ]

      regular : (R : Table K) → R.weight ≡ S.weight → IsLower K P T R → (i j : ℕ) → i < length R.basis → i < length S.basis →
          (i < j) ⊎ ((i ≡ j) × (parity_at R i ≡ odd)) → (i < j) ⊎ ((i ≡ j) × (parity_at S i ≡ odd))
      regular R e r i j l k (inl a) = inl a
      regular R e r i j l k (inr a) = inr (a.0, sym (ap (λ b. b.parity) (low.basis i k)) ∙ ap (λ b. b.parity) (r.basis i l) ∙ a.1)

      agree : (R : Table K) → (e : R.weight ≡ S.weight) → (r : IsLower K P T R) → Agree K P R S
      agree R e r =
          let same = same_length R e r in
          record {
            weight = e;
            more = same;
            basis = λ i l. sym (r.basis i l) ∙ low.basis i (omega arith);
            images = λ g l. elim (dec_le (generator P g).weight S.weight) [
              | yes h ↦ sym (r.images g l (omega arith)) ∙ low.images g l h
              | no h ↦ r.past g l (omega arith) ∙ sym (low.past g l (omega arith))
            ];
            entries = λ i j l k o h.
                sym (r.entries i j l k o h)
                ∙ low.entries i j (omega arith) (omega arith) (regular R e r i j l (omega arith) o)
                (omega (
                  arith,
                  h,
                  e,
                  ap (λ b. b.weight) (low.basis i (omega arith)),
                  ap (λ b. b.weight) (r.basis i l),
                  ap (λ b. b.weight) (low.basis j (omega arith)),
                  ap (λ b. b.weight) (r.basis j k),
                ));
          }

      go : (R : Table K) × Built K P R × (R.weight ≡ S.weight) × IsLower K P T R → Built K P S
      go t = built_same K P hom t.0 S t.1 (agree t.0 t.2 t.3)
