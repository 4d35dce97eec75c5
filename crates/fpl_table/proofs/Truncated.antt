-- The part of a table through a weight has its shape, and the trees of its basis are the first of the table's.
use Rattle.std.proofs.Common.{◌≡◌, ◌≤◌, ◌<◌, ◌+◌, ◌-◌, ◌++◌, ℕ, zero, suc, max, List, [], ◌∷◌, length, map, get_or, take, drop, cond, nat_le, All, refl, ap, ap₂, sym, subst, ◌∙◌, arith, append_assoc, append-nil}
use Rattle.std.proofs.lemmas.List.{length-take-le, get_or-take, take_at, take-append-drop, take-map, length-map}
use native.Mathlib.Decide.{dec_le}
use Rattle.fpl_numbers.specs.declared.number.Num.{Num}
use Rattle.fpl_numbers.specs.declared.number.Kind.{Kind}
use Rattle.math_algebra.specs.Tree.{Tree, Generator}
use Rattle.math_algebra.specs.Table.{Symbol, of_generator, of_pair, Basis, no_basis}
use Rattle.math_algebra.specs.Symbols.{is_odd}
use Rattle.fpl_table.specs.Plain.{PlainTable, plain_basis, leading, through, first_partner, partner_from}
use Rattle.fpl_table.specs.Shape.{HasShape, IsRowUpTo, IsOfTable, IsBefore, partners, images_at, entries_at, IsNumbered, grown, symbol_tree_in}
use Rattle.fpl_table.specs.Truncate.{truncate_of}
use Rattle.fpl_table.specs.Whole.{IsWhole}
use Rattle.fpl_table.specs.declared.symbol.Symbol as code
use Rattle.fpl_table.proofs.PushedTrees.{grown_more, length-grown}
use Rattle.fpl_table.proofs.Weights.{leading_within, through_below, through_within}

-- counting up to a weight sees only the elements up to a greater one
leading_take : (bs : List Basis) (d v : ℕ) → v ≤ d → leading (take (leading bs d) bs) v ≡ leading bs v
unfolding leading
leading_take [] d v l = refl
leading_take (b ∷ bs) d v l = go (dec_le b.weight d) (leading_take bs d v l)
  where
    go : Dec (b.weight ≤ d) → leading (take (leading bs d) bs) v ≡ leading bs v →
        leading (take (cond (nat_le b.weight d) (suc (leading bs d)) 0) (b ∷ bs)) v ≡ cond (nat_le b.weight v) (suc (leading bs v)) 0
    go (yes h) r =
        ap (λ n. leading (take n (b ∷ bs)) v) (let e : cond (nat_le b.weight d) (suc (leading bs d)) 0 ≡ suc (leading bs d) = grind arith in e) ∙
        ap (λ n. cond (nat_le b.weight v) (suc n) 0) r
    go (no h) r =
        ap (λ n. leading (take n (b ∷ bs)) v) (let e : cond (nat_le b.weight d) (suc (leading bs d)) 0 ≡ 0 = grind arith in e)
        ∙ (let e : 0 ≡ cond (nat_le b.weight v) (suc (leading bs v)) 0 = grind arith in e)

module _ (T : PlainTable) (shape : HasShape T) (d : ℕ) (within : d ≤ T.weight) where
  pub basis_long : length (truncate_of T d).basis ≡ through T d
  basis_long = length-take-le (through T d) T.basis (through_within T shape d)

  pub basis_kept : (i : ℕ) → i < through T d → plain_basis (truncate_of T d) i ≡ plain_basis T i
  basis_kept i l = get_or-take (through T d) T.basis i no_basis l

  pub through_kept : (w : ℕ) → w ≤ d → through (truncate_of T d) w ≡ through T w
  through_kept w l = leading_take T.basis d w l

  pub partner_kept : (i w : ℕ) → i < through T d → w ≤ d → partner_from (truncate_of T d) i w ≡ partner_from T i w
  partner_kept i w l h =
      ap (λ b. max (cond (is_odd b.parity) i (i + 1)) (through (truncate_of T d) (w - b.weight - 1))) (basis_kept i l)
      ∙ ap (max (first_partner T i)) (through_kept (w - (plain_basis T i).weight - 1) (omega (arith, h)))

  partners_kept : (i w : ℕ) → i < through T d → w ≤ d → partners (truncate_of T d) i w ≡ partners T i w
  partners_kept i w l h =
      ap₂ (λ b f. through (truncate_of T d) (w - b.weight) - f) (basis_kept i l) (partner_kept i w l h)
      ∙ ap (λ n. n - partner_from T i w) (through_kept (w - (plain_basis T i).weight) (omega (arith, h)))

  at : (i : ℕ) → i < length (truncate_of T d).basis → i < through T d
  at i l = omega (arith, l, basis_long)

  there : (i : ℕ) → i < through T d → i < length T.basis
  there i l = omega (arith, l, through_within T shape d)

  weight_kept : (i : ℕ) → i < through T d → (plain_basis (truncate_of T d) i).weight ≡ (plain_basis T i).weight
  weight_kept i l = ap (λ b. b.weight) (basis_kept i l)

  pub images_kept : (v : ℕ) → v < d → images_at (truncate_of T d) v ≡ images_at T v
  images_kept v l = get_or-take d T.images v [] l

  pub entries_kept : (v : ℕ) → v < d → entries_at (truncate_of T d) v ≡ entries_at T v
  entries_kept v l = get_or-take d T.entries v [] l

  -- a pair of elements before one of the part is of the part
  stays : (i : ℕ) (x : Symbol) → i < through T d → IsOfTable T x → IsBefore i x → IsOfTable (truncate_of T d) x
  stays i (of_generator g) l h b = h
  stays i (of_pair j k) l h b = (omega (arith, l, b.0, basis_long), omega (arith, l, b.1, basis_long))

  old_place : (v i : ℕ) → v < d → i < through (truncate_of T d) v → i < through T v
  old_place v i l k = omega (arith, k, through_kept v (omega (arith, l)))

  low_place : (v i : ℕ) → v < d → i < through (truncate_of T d) v → i < through T d
  low_place v i l k = omega (arith, k, through_within_part v, basis_long)
    where
      through_within_part : (v : ℕ) → through (truncate_of T d) v ≤ length (truncate_of T d).basis
      through_within_part v = leading_within (truncate_of T d).basis v

  pub truncate_shape : HasShape (truncate_of T d)
  truncate_shape = record {
    field = shape.field;
    few = shape.few;
    weights = shape.weights;
    weight = omega (arith, within, shape.weight);
    small = omega (arith, basis_long, shape.small_parts d within);
    small_parts = λ w l. omega (arith, through_kept w l, shape.small_parts w (omega (arith, l, within)));
    heavy = λ i l. omega (arith, weight_kept i (at i l), shape.heavy i (there i (at i l)));
    light = λ i l. omega (arith, weight_kept i (at i l), through_below T shape d i (at i l));
    ascend = λ i j l k. omega (arith, weight_kept i (omega (arith, l, at j k)), weight_kept j (at j k), shape.ascend i j l (there j (at j k)));
    symbols = λ i l.
        subst (λ b. IsOfTable (truncate_of T d) b.symbol) (sym (basis_kept i (at i l)))
        (stays i (plain_basis T i).symbol (at i l) (shape.symbols i (there i (at i l))) (shape.earlier i (there i (at i l))));
    earlier = λ i l. subst (λ b. IsBefore i b.symbol) (sym (basis_kept i (at i l))) (shape.earlier i (there i (at i l)));
    images_length = length-take-le d T.images (let h = shape.images_length in omega (arith, h, within));
    image_lengths = λ v l. ap length (images_kept v l) ∙ shape.image_lengths v (omega (arith, l, within));
    image_rows = λ v g l k.
        subst (λ n. IsRowUpTo T.kind n (get_or (images_at (truncate_of T d) v) g [])) (sym (through_kept (suc v) (omega (arith, l))))
        (subst (λ rows. IsRowUpTo T.kind (through T (suc v)) (get_or rows g [])) (sym (images_kept v l)) (shape.image_rows v g (omega (arith, l, within)) k));
    entries_length = length-take-le d T.entries (let h = shape.entries_length in omega (arith, h, within));
    entry_lengths = λ v l. ap length (entries_kept v l) ∙ shape.entry_lengths v (omega (arith, l, within)) ∙ sym (through_kept v (omega (arith, l)));
    partner_lengths = λ v i l k.
        ap (λ rows. length (get_or rows i [])) (entries_kept v l) ∙ shape.partner_lengths v i (omega (arith, l, within)) (old_place v i l k)
        ∙ sym (partners_kept i (suc v) (low_place v i l k) (omega (arith, l)));
    entry_rows = λ v i q l k m.
        subst (λ n. IsRowUpTo T.kind n (get_or (get_or (entries_at (truncate_of T d) v) i []) q [])) (sym (through_kept (suc v) (omega (arith, l))))
        (subst (λ rows. IsRowUpTo T.kind (through T (suc v)) (get_or (get_or rows i []) q [])) (sym (entries_kept v l))
        (shape.entry_rows v i q (omega (arith, l, within)) (old_place v i l k) (omega (
          arith,
          m,
          partners_kept i (suc v) (low_place v i l k) (omega (arith, l)),
        ))));
  }

-- trees grow behind those that are there
pub grows : (ts : List (Tree Num)) (bs : List Basis) → (us : List (Tree Num)) × (grown ts bs ≡ ts ++ us)
unfolding grown
grows ts [] = ([], sym (append-nil ts))
grows ts (b ∷ bs) = let r = grows (ts ++ symbol_tree_in ts b.symbol ∷ []) bs in (
  symbol_tree_in ts b.symbol ∷ r.0,
  r.1 ∙ append_assoc ts (symbol_tree_in ts b.symbol ∷ []) r.0,
)

-- the trees of the first basis elements are the first trees
pub grown_take : (n : ℕ) (bs : List Basis) → n ≤ length bs → grown [] (take n bs) ≡ take n (grown [] bs)
grown_take n bs le =
    let long : length (grown [] (take n bs)) ≡ n = omega (arith, length-grown [] (take n bs), length-take-le n bs le) in
    let r = grows (grown [] (take n bs)) (drop n bs) in
    sym (ap (λ l. take n (grown [] l)) (sym (take-append-drop n bs)) ∙ ap (take n) (grown_more [] (take n bs) (drop n bs) ∙ r.1) ∙
    take_at (grown [] (take n bs)) r.0 n long)

all_take : {A : Type 0} (P : A → Type 0) (n : ℕ) (xs : List A) → All P xs → All P (take n xs)
all_take P zero xs h i d lt = absurd (omega (arith, lt))
all_take P (suc n) [] h i d lt = absurd (omega (arith, lt))
all_take P (suc n) (x ∷ xs) h zero d lt = h 0 d (omega arith)
all_take P (suc n) (x ∷ xs) h (suc i) d lt = all_take P n xs (λ k e l. h (suc k) e (omega (arith, l))) i d (omega (arith, lt))

-- all that the fields of a table keep, of its part
pub truncate_whole : (T : PlainTable) (d : ℕ) (counts : List ℕ) (trees : List (Tree Num)) (codes : List code.Symbol) → d ≤ T.weight →
    IsWhole T counts trees codes →
    IsWhole (truncate_of T d) (take d counts) (take (through T d) trees) (take (through T d) codes)
truncate_whole T d counts trees codes within whole = record {
  shape = truncate_shape T whole.shape d within;
  counts_are = λ v l. get_or-take d counts v 0 l ∙ whole.counts_are v (omega (arith, l, within)) ∙
      sym (through_kept T whole.shape d within (suc v) (omega (arith, l)));
  trees_are = ap (take (through T d)) whole.trees_are ∙ sym (grown_take (through T d) T.basis (through_within T whole.shape d));
  numbered = all_take IsNumbered (through T d) codes whole.numbered;
}

-- the part of a table whose fields are lists of levels and of elements
module _ {L E : Type 0} (kind : Kind) (generators : List Generator) (through_of : L → ℕ) (images : L → List (List Num))
    (entries : L → List (List (List Num))) (basis : E → Basis) (tree : E → Tree Num) (code_of : E → code.Symbol) where
  abbrev view : List L → List E → PlainTable
  view levels elements = record {
    kind = kind;
    generators = generators;
    weight = length levels;
    basis = map basis elements;
    images =
        map images levels;
    entries = map entries levels;
  }

  abbrev Whole : List L → List E → Type 0
  Whole levels elements = IsWhole (view levels elements) (map through_of levels) (map tree elements) (map code_of elements)

  view_part : (levels : List L) (elements : List E) (d : ℕ) → d ≤ length levels → view (take d levels)
      (take (through (view levels elements) d) elements) ≡ truncate_of (view levels elements) d
  view_part levels elements d le =
      rw (
        length-take-le d levels le,
        ← take-map basis (through (view levels elements) d) elements,
        ← take-map images d levels,
        ← take-map entries d levels,
      ) refl

  whole_part : (levels : List L) (elements : List E) (d : ℕ) → d ≤ length levels → Whole levels elements →
      Whole (take d levels) (take (through (view levels elements) d) elements)
  whole_part levels elements d le whole =
      rw (
        view_part levels elements d le,
        ← take-map through_of d levels,
        ← take-map tree (through (view levels elements) d) elements,
        ← take-map code_of (through (view levels elements) d) elements,
      )
      (truncate_whole (view levels elements) d (map through_of levels) (map tree elements) (map code_of elements) le whole)

  same_view : (levels later : List L) (elements all : List E) → length later ≡ length levels → map images later ≡ map images levels →
      map entries later ≡ map entries levels → map basis all ≡ map basis elements → view later all ≡ view levels elements
  same_view levels later elements all long i e b = rw (long, i, e, b) refl

  pub truncated_fields : (levels later : List L) (elements all : List E) (T : PlainTable) (d n : ℕ) → view levels elements ≡ T → d ≤ T.weight →
      n ≡ through T d → Whole levels elements →
      map through_of later ≡ map through_of (take d levels) → map images later ≡ map images (take d levels) → map entries later ≡ map entries (take d levels) →
      map basis all ≡ map basis (take n elements) → map tree all ≡ map tree (take n elements) → map code_of all ≡ map code_of (take n elements) →
      Whole later all × (view later all ≡ truncate_of T d)
  truncated_fields levels later elements all T d n is within count whole t i e b r c =
      let le : d ≤ length levels = omega (arith, within, ap (λ U. U.weight) is) in
      let here : n ≡ through (view levels elements) d = count ∙ ap (λ U. through U d) (sym is) in
      let long : length later ≡ length (take d levels) = sym (length-map later through_of) ∙ ap length t ∙ length-map (take d levels) through_of in
      let same : view later all ≡ view (take d levels) (take n elements) = same_view (take d levels) later (take n elements) all long i e b in (
        rw (same, t, r, c) (subst (λ m. Whole (take d levels) (take m elements)) (sym here) (whole_part levels elements d le whole)),
        same ∙ subst (λ m. view (take d levels) (take m elements) ≡ truncate_of (view levels elements) d) (sym here) (view_part levels elements d le)
            ∙ ap (λ U. truncate_of U d) is,
      )
