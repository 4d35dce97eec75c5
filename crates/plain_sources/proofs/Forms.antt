-- Expressions of the next weight: their plain rows over the symbols stand for their rows in the mathematics.
use Rattle.std.specs.Prelude.{◌≡◌, ℕ, suc, ◌+◌, ◌-◌, ◌<◌, ◌⊎◌, List, length, get_or, Result, Ok, true, false, Bool, cond, nat_eq, if◌then◌else◌}
use mathlib.Core.Path.{sym, refl, ap, ap₂, ◌∙◌, subst}
use mathlib.Core.Logic.{inl, inr}
use native.Mathlib.Omega.{arith}
use Rattle.math_fields.specs.Field.{Field}
use Rattle.math_linear.specs.Vector.{Vector, vzero, vplus, scale, place}
use Rattle.math_linear.proofs.Vectors.{vplus_assoc, vplus-vzero, vzero-vplus, scale_scale, scale-vzero, scale-unit}
use Rattle.math_linear.proofs.Linear.{linear_vzero, bilinear_left, bilinear_right}
use Rattle.math_linear.proofs.Numbers.{minus-times, unit-times}
use Rattle.fpl_numbers.specs.declared.number.Num.{Num}
use Rattle.fpl_numbers.specs.declared.number.Op.TheVariants.{Mul}
use Rattle.fpl_numbers.specs.declared.number.Unfit.{Unfit}
use Rattle.fpl_numbers.specs.Numbers.{IsField, IsElement, operate, residue, negative_of}
use Rattle.fpl_numbers.specs.Results.{and_then}
use Rattle.fpl_numbers.specs.Kinds.{field_of, number_of, Number}
use Rattle.fpl_scalar.specs.Vectors.{AreElements, scale_of}
use Rattle.fpl_rows.proofs.Fits.{ok_same, first_fits}
use Rattle.math_algebra.specs.Tree.{Tree, Trees, gen, none, sum_of, multiple, bracket_of as br, end, more, generator}
use Rattle.math_algebra.specs.Degrees.{IsVoid, AreVoid, Degree, any, exact, mixed, of_both, of_bracket, weight_of, weights_of, weight_of_both}
use Rattle.math_algebra.specs.Degrees.IsVoid.{void_none, void_sum, void_multiple, void_left, void_right}
use Rattle.math_algebra.specs.Degrees.AreVoid.{void_end, void_more}
use Rattle.math_algebra.specs.Table.{of_generator, of_pair, val, IsOf}
use Rattle.math_algebra.specs.Symbols.{pair_number, generator_number}
use Rattle.math_algebra.specs.Symbols.IsSymbol.{is_generator, is_pair}
use Rattle.math_algebra.specs.SourceRows.{outer_place, outer, row_of, rows_of_all}
use Rattle.math_algebra.proofs.Degrees.{WeightMeans, weight_means}
use Rattle.math_values.proofs.Parts.{void_val}
use Rattle.math_values.proofs.Steps.{outer_within}
use Rattle.math_values.proofs.SymbolLists as lists
use Rattle.fpl_model.specs.declared.presentation.Equation.{Equation}
use Rattle.fpl_model.specs.Meaning.{plain, in_field, all_in_field, tree_in}
use Rattle.fpl_model.specs.Sound.{IsWithin, AreWithin}
use Rattle.fpl_rows.specs.Meaning.{vector_in}
use Rattle.fpl_table.specs.Plain.{PlainTable, table_in, shell_in, symbols_in, Pairing, nothing, plus, minus, pairing}
use Rattle.fpl_table.specs.Sums.{add_product}
use Rattle.fpl_table.specs.Value.{zero_row, add_row, value_of}
use Rattle.fpl_rewrite.specs.Rows.{pair_place, generator_place, add_symbol, add_signed, outer_of, has_weight, counts, symbol_unit, form_of, forms_of, take_off, relation_row_of}
use Rattle.plain_sources.specs.Premises.{IsRowIn, HasRows, HasWeights}
use Rattle.plain_sources.proofs.Rows.{zero_row_reads, add_at_reads, add_row_reads, take_off_reads, scale_reads, at_place}
use Rattle.plain_sources.proofs.Walks.{Places, both_walks}
use Rattle.plain_sources.proofs.Pairs.{paired, weight, paired_is, IsPairOf, IsPaired, pairing_is}
use Rattle.plain_sources.proofs.Products.{reads, units, Stands, same, times_twice}
use Rattle.plain_sources.proofs.Values.{over_is, value_weight, value_reads, is_row}

module _ (T : PlainTable) (is_field : IsField T.kind) where
  abbrev F : Field
  F = field_of T.kind

  abbrev pub pairs : ℕ → ℕ → ℕ
  pairs i j = pair_number (shell_in T.kind T) (table_in T.kind T) i j

  abbrev pub generators : ℕ → ℕ
  generators g = generator_number (shell_in T.kind T) (table_in T.kind T) g

  abbrev pub m : ℕ
  m = length (symbols_in T)

  pair_inside : (i j a b : ℕ) → IsPairOf T i j a b → weight T i + weight T j ≡ suc T.weight → pair_place T a b < m
  pair_inside i j a b p w = (lists.number_of F (shell_in T.kind T) (table_in T.kind T) (of_pair a b) (is_pair a b p.first p.second (p.weights ∙ w) p.regular)).0

  pub minus_once : (c : Num) (v : Vector F) → IsElement T.kind c → scale F (number_of T.kind (negative_of T.kind c)) v ≡
      scale F (number_of T.kind c) (scale F (F.minus F.unit) v)
  minus_once c v is =
      ap (λ a. scale F a v) (((reads T is_field).negative c is).1 ∙ sym (ap F.minus (unit-times F _)) ∙ sym (minus-times F F.unit _) ∙
      F.times_comm _ _) ∙ sym (scale_scale F _ _ v)

  -- a number added at a pair's symbol, with the sign of the pairing
  pub signed_reads : (i j : ℕ) (pr : Pairing) → IsPaired T i j pr → weight T i + weight T j ≡ suc T.weight →
      (c : Num) (v z : List Num) (w : Vector F) → IsElement T.kind c →
      Stands T is_field m w v → add_signed T pr c v ≡ Ok z →
      Stands T is_field m (vplus F w (scale F (number_of T.kind c) (paired F (λ i j. place F (pairs i j)) pr))) z
  signed_reads i j nothing p s c v z w is k e =
      subst (Stands T is_field m _) (ok_same e) (same T is_field m w _ v (sym (ap (vplus F w) (scale-vzero F _) ∙ vplus-vzero F w)) k)
  signed_reads i j (plus a b) p s c v z w is k e =
      add_at_reads T.kind F (number_of T.kind) (reads T is_field) (units T is_field) m w v z (pair_place T a b) c k is (pair_inside i j a b p s) e
  signed_reads i j (minus a b) p s c v z w is k e =
      same T is_field m _ _ z (ap (vplus F w) (minus_once c (place F (pairs a b)) is))
      (add_at_reads T.kind F (number_of T.kind) (reads T is_field) (units T is_field) m w v z (pair_place T a b) (negative_of T.kind c) k
      ((reads T is_field).negative c is).0 (pair_inside i j a b p s) e)

  pub outer_is : (i j : ℕ) → weight T i + weight T j ≡ suc T.weight → paired F (λ i j. place F (pairs i j)) (pairing T i j) ≡
      outer_place F (table_in T.kind T) pairs i j
  outer_is i j w = sym (outer_within F (table_in T.kind T) pairs i j w ∙ paired_is T F (λ i j. place F (pairs i j)) i j)

  outer_step : (i j : ℕ) (pr : Pairing) → IsPaired T i j pr → weight T i + weight T j ≡ suc T.weight → (x y : Num) (v z : List Num) (w : Vector F) →
      IsElement T.kind x → IsElement T.kind y →
      Stands T is_field m w v → add_product T (add_symbol T) pr x y v ≡ Ok z →
      Stands T is_field m (vplus F w (scale F (number_of T.kind y) (scale F (number_of T.kind x) (paired F (λ i j. place F (pairs i j)) pr)))) z
  outer_step i j nothing p s x y v z w a b k e =
      subst (Stands T is_field m _) (ok_same e)
      (same T is_field m w _ v (sym (ap (vplus F w) (ap (scale F (number_of T.kind y)) (scale-vzero F _) ∙ scale-vzero F _) ∙ vplus-vzero F w)) k)
  outer_step i j (plus c d) p s x y v z w a b k e =
      let q = first_fits (λ m. add_symbol T c d m v) (operate T.kind Mul x y) z e in
      let r = (reads T is_field).product x y q.0 a b q.1.0 in
      same T is_field m _ _ z (ap (vplus F w) (times_twice T is_field x y q.0 (place F (pairs c d)) r.1))
      (signed_reads i j (plus c d) p s q.0 v z w r.0 k q.1.1)
  outer_step i j (minus c d) p s x y v z w a b k e =
      let q = first_fits (λ m. add_symbol T c d (negative_of T.kind m) v) (operate T.kind Mul x y) z e in
      let r = (reads T is_field).product x y q.0 a b q.1.0 in
      same T is_field m _ _ z (ap (vplus F w) (times_twice T is_field x y q.0 (scale F (F.minus F.unit) (place F (pairs c d))) r.1))
      (signed_reads i j (minus c d) p s q.0 v z w r.0 k q.1.1)

  abbrev pub HasWeight : ℕ → ℕ → Type 0
  HasWeight b i = (i < length T.basis) × (weight T i ≡ b)

  -- the places of a row of one weight that aren't 0 have that weight
  pub places_of : (b : ℕ) (x : List Num) → AreElements T.kind x → IsOf F (table_in T.kind T) b (vector_in T.kind x) → Places (HasWeight b) 0 x
  places_of b x a h s d l e = subst (HasWeight b) (let g : s ≡ 0 + s = omega arith in g) (go (h s))
    where
      go : (vector_in T.kind x s ≡ F.nought) ⊎ HasWeight b s → HasWeight b s
      go (inl z) = absurd ((reads T is_field).nonzero (get_or x s d) (a s d l) e
          (sym (at_place T.kind F (number_of T.kind) (reads T is_field) (units T is_field) x s d l) ∙ z))
      go (inr k) = k

  pub zero_symbols : Stands T is_field m (vzero F) (zero_row m)
  zero_symbols = zero_row_reads T.kind F (number_of T.kind) (reads T is_field) (units T is_field) m

  -- the outermost bracket of two rows whose weights sum to the next weight
  pub outer_reads : (b c : ℕ) → b + c ≡ suc T.weight → (x y z : List Num) → IsRowIn T x → IsRowIn T y →
      IsOf F (table_in T.kind T) b (vector_in T.kind x) → IsOf F (table_in T.kind T) c (vector_in T.kind y) →
      outer_of T x y ≡ Ok z → Stands T is_field m (outer F (table_in T.kind T) pairs (vector_in T.kind x) (vector_in T.kind y)) z
  unfolding outer
  outer_reads b c w x y z p q h k e =
      same T is_field m _ _ z (vzero-vplus F _)
      (both_walks T.kind F (number_of T.kind) (reads T is_field) (units T is_field) (length T.basis) m (HasWeight b) (HasWeight c)
      (λ i j x y v. add_product T (add_symbol T) (pairing T i j) x y v)
      (outer_place F (table_in T.kind T) pairs)
      (λ i j x y v z u r s a b k e.
      let sum : weight T i + weight T j ≡ suc T.weight = let r1 = r.1 in let s1 = s.1 in omega arith in
      same T is_field m _ _ z (ap (λ f. vplus F u (scale F (number_of T.kind y) (scale F (number_of T.kind x) f))) (outer_is i j sum))
      (outer_step i j (pairing T i j) (pairing_is T i j r.0 s.0) sum x y v z u a b k e))
      x y (zero_row m) z (vzero F) p.elements q.elements p.short q.short (places_of b x p.elements h) (places_of c y q.elements k) zero_symbols e)

  -- void expressions have row 0
  outer_vzero : (x : Vector F) → outer F (table_in T.kind T) pairs x (vzero F) ≡ vzero F
  unfolding outer
  outer_vzero x = linear_vzero F _ (bilinear_right F (length T.basis) (outer_place F (table_in T.kind T) pairs) x)

  vzero_outer : (x : Vector F) → outer F (table_in T.kind T) pairs (vzero F) x ≡ vzero F
  unfolding outer
  vzero_outer x = linear_vzero F _ (bilinear_left F (length T.basis) (outer_place F (table_in T.kind T) pairs) x)

  abbrev pub row_in : Tree (Number T.kind) → Vector F
  row_in e = row_of F (table_in T.kind T) pairs generators e

  abbrev pub rows_in : Trees (Number T.kind) → Vector F
  rows_in es = rows_of_all F (table_in T.kind T) pairs generators es

  mutual
    unfolding row_of

    void_row : {e : Tree (Number T.kind)} → IsVoid e → row_in e ≡ vzero F
    void_row void_none = refl
    void_row (void_sum h) = void_rows h
    void_row (void_multiple {c = c} h) = ap (scale F c) (void_row h) ∙ scale-vzero F c
    void_row (void_left {e = e} {f = f} h) = ap (λ w. outer F (table_in T.kind T) pairs w (val F (table_in T.kind T) f))
        (void_val F (table_in T.kind T) h) ∙ vzero_outer _
    void_row (void_right {e = e} {f = f} h) = ap (outer F (table_in T.kind T) pairs (val F (table_in T.kind T) e)) (void_val F (table_in T.kind T) h)
        ∙ outer_vzero _

    void_rows : {es : Trees (Number T.kind)} → AreVoid es → rows_in es ≡ vzero F
    void_rows void_end = refl
    void_rows (void_more {es = es} h k) = ap₂ (vplus F) (void_row h) (void_rows k) ∙ vplus-vzero F _

  -- as written, an expression of weight w, or one without weight
  abbrev pub Suits : ℕ → Degree ℕ → Type 0
  Suits w any = Unit {0}
  Suits w (exact v) = v ≡ w
  Suits w mixed = ⊥

  suits_both : (w : ℕ) (a b : Degree ℕ) → Suits w (of_both nat_eq a b) → Suits w a × Suits w b
  suits_both w any b h = (tt, h)
  suits_both w (exact c) any h = (h, tt)
  suits_both w (exact c) (exact d) h = go (nat_eq c d) refl h
    where
      go : (b : Bool) → nat_eq c d ≡ b → Suits w (cond b (exact c) mixed) → (c ≡ w) × (d ≡ w)
      go true e h = (h, (let f : c ≡ d = grind (arith, e) in sym f ∙ h))
      go false e h = absurd h
  suits_both w (exact c) mixed h = absurd h
  suits_both w mixed b h = absurd h

  bracket_suits : (w : ℕ) (a b : Degree ℕ) → Suits w (of_bracket (λ a b. a + b) a b) → has_weight (of_bracket (λ a b. a + b) a b) ≡ true →
      (c : ℕ) × (d : ℕ) × (a ≡ exact c) × (b ≡ exact d) × (c + d ≡ w)
  bracket_suits w any any h e = absurd (let k : ⊥ = cc in k)
  bracket_suits w any (exact d) h e = absurd (let k : ⊥ = cc in k)
  bracket_suits w any mixed h e = absurd h
  bracket_suits w (exact c) any h e = absurd (let k : ⊥ = cc in k)
  bracket_suits w (exact c) (exact d) h e = (c, d, refl, refl, h)
  bracket_suits w (exact c) mixed h e = absurd h
  bracket_suits w mixed b h e = absurd h

  void_by : (d : Degree ℕ) (e : Tree (Number T.kind)) → WeightMeans (shell_in T.kind T) d e → has_weight d ≡ false → IsVoid e
  void_by any e h f = h
  void_by (exact d) e h f = absurd (let k : ⊥ = cc in k)
  void_by mixed e h f = absurd (let k : ⊥ = cc in k)

  abbrev pub written : Tree Num → Degree ℕ
  written e = weight_of (shell_in T.kind T) (in_field T.kind e)

  uncounted : (e : Tree Num) → IsWithin T.kind (length T.generators) e → counts T e ≡ false → row_in (in_field T.kind e) ≡ vzero F
  uncounted e h f = void_row (void_by (written e) (in_field T.kind e) (weight_means (shell_in T.kind T) (over_is T.kind (shell_in T.kind T) e h)) f)

  -- 0 where the expression has no weight, and else what the rest gives
  by_count : (e : Tree Num) (b : Bool) → IsWithin T.kind (length T.generators) e → counts T e ≡ b → (r : Result (List Num) Unfit) (v : List Num) →
      (if b then r else Ok (zero_row m)) ≡ Ok v →
      (counts T e ≡ true → r ≡ Ok v → Stands T is_field m (row_in (in_field T.kind e)) v) → Stands T is_field m (row_in (in_field T.kind e)) v
  by_count e true h l r v f k = k l f
  by_count e false h l r v f k = subst (Stands T is_field m (row_in (in_field T.kind e))) (ok_same f)
      (same T is_field m _ _ (zero_row m) (sym (uncounted e h l)) zero_symbols)

  unit_reads : (g : ℕ) → g < length T.generators → (generator (shell_in T.kind T) g).weight ≡ suc T.weight → (v : List Num) →
      symbol_unit T (generator_place T g) ≡ Ok v →
      Stands T is_field m (place F (generators g)) v
  unit_reads g l w v e =
      same T is_field m _ _ v (vzero-vplus F _ ∙ ap (λ c. scale F c (place F (generators g))) (units T is_field).unit_is ∙ scale-unit F _)
      (add_at_reads T.kind F (number_of T.kind) (reads T is_field) (units T is_field) m (vzero F) (zero_row m) v (generator_place T g)
      (residue 1) zero_symbols (units T is_field).unit
      (lists.number_of F (shell_in T.kind T) (table_in T.kind T) (of_generator g) (is_generator g l w)).0 e)

  module _ (rows : HasRows T) (weights : HasWeights T) where
    part_weight : (e : Tree Num) (d : ℕ) → IsWithin T.kind (length T.generators) e → written e ≡ exact d →
        IsOf F (table_in T.kind T) d (val F (table_in T.kind T) (in_field T.kind e))
    part_weight e d h k =
        value_weight T is_field rows weights (in_field T.kind e) d (subst (λ w. WeightMeans (shell_in T.kind T) w (in_field T.kind e)) k
        (weight_means (shell_in T.kind T) (over_is T.kind (shell_in T.kind T) e h)))

    bracket_row : (a b : Tree Num) → IsWithin T.kind (length T.generators) a → IsWithin T.kind (length T.generators) b →
        (p : (c : ℕ) × (d : ℕ) × (written a ≡ exact c) × (written b ≡ exact d) × (c + d ≡ suc T.weight)) → (x y v : List Num) → value_of T a ≡ Ok x →
        value_of T b ≡ Ok y → outer_of T x y ≡ Ok v →
        Stands T is_field m (outer F (table_in T.kind T) pairs (val F (table_in T.kind T) (in_field T.kind a))
        (val F (table_in T.kind T) (in_field T.kind b))) v
    bracket_row a b h k p x y v e f g =
        let s = value_reads T is_field rows weights a h x e in
        let t = value_reads T is_field rows weights b k y f in
        same T is_field m _ _ v (ap₂ (outer F (table_in T.kind T) pairs) s.vector t.vector)
        (outer_reads p.0 p.1 p.4 x y v (is_row T is_field rows weights _ x s) (is_row T is_field rows weights _ y t)
        (subst (IsOf F (table_in T.kind T) p.0) (sym s.vector) (part_weight a p.0 h p.2)) (subst (IsOf F (table_in T.kind T) p.1) (sym t.vector)
        (part_weight b p.1 k p.3)) g)

    add_reads : (u : Vector F) (w : Vector F) (v x z : List Num) → Stands T is_field m w v → Stands T is_field m u x → add_row T.kind v x ≡ Ok z →
        Stands T is_field m (vplus F w u) z
    add_reads u w v x z h k e =
        same T is_field m _ _ z (ap (vplus F w) k.vector)
        (add_row_reads T.kind F (number_of T.kind) (reads T is_field) (units T is_field) m w v x z h k.elements (let l = k.long in omega arith) e)

    member : (e : Tree Num) (b : Bool) → IsWithin T.kind (length T.generators) e → counts T e ≡ b → (w : Vector F) (v z : List Num) → Stands T is_field m w v →
        (if b then and_then (λ x. add_row T.kind v x) (form_of T e) else Ok v) ≡ Ok z → ((x : List Num) → form_of T e ≡ Ok x →
        Stands T is_field m (row_in (in_field T.kind e)) x) →
        Stands T is_field m (vplus F w (row_in (in_field T.kind e))) z
    member e true h l w v z k f form =
        let x = first_fits (λ x. add_row T.kind v x) (form_of T e) z f in add_reads (row_in (in_field T.kind e)) w v x.0 z k (form x.0 x.1.0) x.1.1
    member e false h l w v z k f form =
        subst (Stands T is_field m _) (ok_same f) (same T is_field m w _ v (sym (ap (vplus F w) (uncounted e h l) ∙ vplus-vzero F w)) k)

    mutual
      unfolding row_of weight_of

      pub form_reads : (e : Tree Num) → IsWithin T.kind (length T.generators) e → Suits (suc T.weight) (written e) → (v : List Num) → form_of T e ≡ Ok v →
          Stands T is_field m (row_in (in_field T.kind e)) v
      form_reads (gen g) h s v f = unit_reads (g - 1) (let l = h.0 in let k = h.1 in omega arith) s v f
      form_reads none h s v f = subst (Stands T is_field m _) (ok_same f) zero_symbols
      form_reads (sum_of es) h s v f = same T is_field m _ _ v (vzero-vplus F _) (forms_read es h.1 s (vzero F) (zero_row m) v zero_symbols f)
      form_reads (multiple c e) h s v f =
          by_count (multiple c e) (counts T (multiple c e)) h refl (and_then (scale_of T.kind c) (form_of T e)) v f
          (λ l k. let x = first_fits (scale_of T.kind c) (form_of T e) v k in
          scale_reads T.kind F (number_of T.kind) (reads T is_field) (units T is_field) m (row_in (in_field T.kind e)) x.0 v c
          (form_reads e h.1 s x.0 x.1.0) h.0 x.1.1)
      form_reads (br a b) h s v f =
          by_count (br a b) (counts T (br a b)) h refl (and_then (λ x. and_then (λ y. outer_of T x y) (value_of T b)) (value_of T a)) v f
          (λ l k.
          let x = first_fits (λ x. and_then (λ y. outer_of T x y) (value_of T b)) (value_of T a) v k in
          let y = first_fits (λ y. outer_of T x.0 y) (value_of T b) v x.1.1 in
          bracket_row a b h.0 h.1 (bracket_suits (suc T.weight) (written a) (written b) s l) x.0 y.0 v x.1.0 y.1.0 y.1.1)

      pub forms_read : (es : Trees Num) → AreWithin T.kind (length T.generators) es → Suits (suc T.weight)
          (weights_of (shell_in T.kind T) (all_in_field T.kind es)) → (w : Vector F) (v z : List Num) →
          Stands T is_field m w v → forms_of T es v ≡ Ok z → Stands T is_field m (vplus F w (rows_in (all_in_field T.kind es))) z
      forms_read end h s w v z k f = subst (Stands T is_field m _) (ok_same f) (same T is_field m _ _ v (sym (vplus-vzero F w)) k)
      forms_read (more e es) h s w v z k f =
          let y = first_fits (λ w. forms_of T es w) (if counts T e then and_then (λ x. add_row T.kind v x) (form_of T e) else Ok v) z f in
          let t = suits_both (suc T.weight) (written e) (weights_of (shell_in T.kind T) (all_in_field T.kind es)) s in
          same T is_field m _ _ z (vplus_assoc F _ _ _)
          (forms_read es h.1 t.1 (vplus F w (row_in (in_field T.kind e))) y.0 z (member e (counts T e) h.0 refl w v y.0 k y.1.0
          (λ x g. form_reads e h.0 t.0 x g)) y.1.1)

    -- the row of a relation of the next weight: its left side minus its right side
    pub relation_reads : (q : Equation) → IsWithin T.kind (length T.generators) (plain q.left) → IsWithin T.kind (length T.generators) (plain q.right) →
        weight_of_both (shell_in T.kind T) (tree_in T.kind q.left) (tree_in T.kind q.right) ≡ exact (suc T.weight) → (v : List Num) →
        relation_row_of T q ≡ Ok v →
        Stands T is_field m (vplus F (row_in (tree_in T.kind q.left)) (scale F (F.minus F.unit) (row_in (tree_in T.kind q.right)))) v
    relation_reads q h k w v e =
        let s = suits_both (suc T.weight) (written (plain q.left)) (written (plain q.right)) (subst (Suits (suc T.weight)) (sym w) refl) in
        let x = first_fits (λ x. and_then (λ y. take_off T.kind x y) (form_of T (plain q.right))) (form_of T (plain q.left)) v e in
        let y = first_fits (λ y. take_off T.kind x.0 y) (form_of T (plain q.right)) v x.1.1 in
        let right = form_reads (plain q.right) k s.1 y.0 y.1.0 in
        same T is_field m _ _ v (ap (λ u. vplus F (row_in (tree_in T.kind q.left)) (scale F (F.minus F.unit) u)) right.vector)
        (take_off_reads T.kind F (number_of T.kind) (reads T is_field) (units T is_field) m _ x.0 y.0 v
        (form_reads (plain q.left) h s.0 x.0 x.1.0) right.elements
        (let l = right.long in omega arith) y.1.1)
