-- Where every operation fits, nothing in the plain run is refused.
use Rattle.std.specs.Prelude.{ℕ, ◌+◌, ◌-◌, List, [], ◌∷◌, length, get_or, set, Result, Bool, true, false, cond, nat_eq}
use mathlib.Core.Path.{refl}
use Rattle.fpl_numbers.specs.declared.number.Num.{Num}
use Rattle.fpl_numbers.specs.declared.number.Op.TheVariants.{Add, Mul}
use Rattle.fpl_numbers.specs.declared.number.Kind.{Kind}
use Rattle.fpl_numbers.specs.declared.number.Unfit.{Unfit}
use Rattle.fpl_numbers.specs.Numbers.{residue, negative_of}
use Rattle.fpl_numbers.specs.Results.{and_then}
use Rattle.fpl_scalar.specs.Vectors.{scale_of}
use Rattle.fpl_rows.specs.Positions.{added_at}
use Rattle.math_algebra.specs.Tree.{Tree, Trees, gen, none, sum_of, multiple, bracket_of as br, end, more}
use Rattle.math_algebra.specs.Degrees.{weight_of}
use Rattle.fpl_model.specs.declared.presentation.Equation.{Equation}
use Rattle.fpl_model.specs.declared.presentation.Presentation.{Presentation}
use Rattle.fpl_model.specs.Meaning.{plain}
use Rattle.fpl_log.specs.declared.step.Origin.{Origin}
use Rattle.fpl_log.specs.declared.step.Origin.TheVariants.{Relation, Jacobi, Cube, Row}
use Rattle.fpl_table.specs.Plain.{PlainTable, plain_basis, entry_row, image_row, symbols_in, Pairing, nothing, plus, minus, pairing}
use Rattle.fpl_table.specs.Sums.{add_each, add_product, add_products, bilinear_of}
use Rattle.fpl_table.specs.Value.{zero_row, add_row, add_entry, bracket_of, is_light, value_of, values_of}
use Rattle.fpl_rewrite.specs.Rows.{pair_place, generator_place, add_symbol, add_signed, outer_of, counts, form_of, forms_of, take_off, relation_row_of, entry_if, first_terms, second_terms, swapped, third_terms, jacobi_row_of, cube_row_of, equation_row, row_of_origin}
use Rattle.plain_sources.specs.PrimeLaws.{DoesFit}
pub use Rattle.plain_elimination.proofs.Fitting.{Always, prime_always, if_fits, axpy_fits, scale_fits, sweep_rows_fits}
use Rattle.plain_elimination.proofs.Fitting.{then_fits, map_fits}

cond_fits : {X : Type 0} (b : Bool) (r s : Result X Unfit) → DoesFit r → DoesFit s → DoesFit (cond b r s)
cond_fits true r s h k = h
cond_fits false r s h k = k

module _ (kind : Kind) (always : Always kind) where
  pub add_at_fits : (v : List Num) (s : ℕ) (c : Num) → DoesFit (added_at kind v s c)
  add_at_fits v s c = map_fits (λ x. set v s x) _ (always Add (get_or v s (residue 0)) c)

  pub add_row_fits : (v x : List Num) → DoesFit (add_row kind v x)
  add_row_fits v x = axpy_fits kind always v (residue 1) x

pub each_fits : (add : ℕ → Num → List Num → Result (List Num) Unfit) → ((t : ℕ) (c : Num) (v : List Num) → DoesFit (add t c v)) →
    (t : ℕ) (cs v : List Num) → DoesFit (add_each add t cs v)
each_fits add each t [] v = (v, refl)
each_fits add each t (c ∷ cs) v = then_fits (λ w. add_each add (t + 1) cs w) _ (if_fits _ _ _ (v, refl) (each t c v)) (λ w. each_fits add each (t + 1) cs w)

module _ (T : PlainTable) (always : Always T.kind) where
  module _ (at : ℕ → ℕ → Num → List Num → Result (List Num) Unfit) (each : (i j : ℕ) (m : Num) (v : List Num) → DoesFit (at i j m v)) where
    product_fits : (pr : Pairing) (x y : Num) (v : List Num) → DoesFit (add_product T at pr x y v)
    product_fits nothing x y v = (v, refl)
    product_fits (plus i j) x y v = then_fits (λ m. at i j m v) _ (always Mul x y) (λ m. each i j m v)
    product_fits (minus i j) x y v = then_fits (λ m. at i j (negative_of T.kind m) v) _ (always Mul x y) (λ m. each i j (negative_of T.kind m) v)

    bilinear_fits : (x y v : List Num) → DoesFit (bilinear_of T at x y v)
    bilinear_fits x y v =
        each_fits (λ i a v. add_products T at i a y v) (λ i a v. each_fits (λ j b v. add_product T at (pairing T i j) a b v)
        (λ j b v. product_fits (pairing T i j) a b v) 0 y v) 0 x v

  entry_fits : (i j : ℕ) (m : Num) (v : List Num) → DoesFit (add_entry T i j m v)
  entry_fits i j m v = if_fits _ _ _ (axpy_fits T.kind always v m (entry_row T i j)) (v, refl)

  pub bracket_fits : (x y : List Num) → DoesFit (bracket_of T x y)
  bracket_fits x y = bilinear_fits (add_entry T) entry_fits x y (zero_row (length T.basis))

  abbrev none_row : List Num
  none_row = zero_row (length T.basis)

  mutual
    pub value_fits : (e : Tree Num) → DoesFit (value_of T e)
    value_fits (gen g) = if_fits (is_light T (gen g)) _ _ (add_row_fits T.kind always none_row (image_row T (g - 1))) (none_row, refl)
    value_fits none = (none_row, refl)
    value_fits (sum_of es) = if_fits (is_light T (sum_of es)) _ _ (values_fit es none_row) (none_row, refl)
    value_fits (multiple c e) = if_fits (is_light T (multiple c e)) _ _ (then_fits (scale_of T.kind c) _ (value_fits e)
        (λ x. scale_fits T.kind always c x)) (none_row, refl)
    value_fits (br a b) =
        if_fits (is_light T (br a b)) _ _ (then_fits (λ x. and_then (λ y. bracket_of T x y) (value_of T b)) _ (value_fits a)
        (λ x. then_fits (λ y. bracket_of T x y) _ (value_fits b) (λ y. bracket_fits x y)))
        (none_row, refl)

    pub values_fit : (es : Trees Num) (v : List Num) → DoesFit (values_of T es v)
    values_fit end v = (v, refl)
    values_fit (more e es) v =
        then_fits (λ x. and_then (λ w. values_of T es w) (add_row T.kind v x)) _ (value_fits e)
        (λ x. then_fits (λ w. values_of T es w) _ (add_row_fits T.kind always v x) (λ w. values_fit es w))

  symbol_fits : (i j : ℕ) (c : Num) (v : List Num) → DoesFit (add_symbol T i j c v)
  symbol_fits i j c v = add_at_fits T.kind always v (pair_place T i j) c

  signed_fits : (pr : Pairing) (c : Num) (v : List Num) → DoesFit (add_signed T pr c v)
  signed_fits nothing c v = (v, refl)
  signed_fits (plus i j) c v = symbol_fits i j c v
  signed_fits (minus i j) c v = symbol_fits i j (negative_of T.kind c) v

  abbrev none_symbols : List Num
  none_symbols = zero_row (length (symbols_in T))

  mutual
    unfolding weight_of

    pub form_fits : (e : Tree Num) → DoesFit (form_of T e)
    form_fits (gen g) = add_at_fits T.kind always none_symbols (generator_place T (g - 1)) (residue 1)
    form_fits none = (none_symbols, refl)
    form_fits (sum_of es) = forms_fit es none_symbols
    form_fits (multiple c e) = if_fits (counts T (multiple c e)) _ _ (then_fits (scale_of T.kind c) _ (form_fits e)
        (λ x. scale_fits T.kind always c x)) (none_symbols, refl)
    form_fits (br a b) =
        if_fits (counts T (br a b)) _ _
        (then_fits (λ x. and_then (λ y. outer_of T x y) (value_of T b)) _ (value_fits a) (λ x. then_fits (λ y. outer_of T x y) _ (value_fits b)
        (λ y. bilinear_fits (add_symbol T) symbol_fits x y none_symbols)))
        (none_symbols, refl)

    pub forms_fit : (es : Trees Num) (v : List Num) → DoesFit (forms_of T es v)
    forms_fit end v = (v, refl)
    forms_fit (more e es) v =
        then_fits (λ w. forms_of T es w) _ (if_fits (counts T e) _ _ (then_fits (λ x. add_row T.kind v x) _ (form_fits e)
        (λ x. add_row_fits T.kind always v x)) (v, refl)) (λ w. forms_fit es w)

  relation_fits : (q : Equation) → DoesFit (relation_row_of T q)
  relation_fits q =
      then_fits (λ x. and_then (λ y. take_off T.kind x y) (form_of T (plain q.right))) _ (form_fits (plain q.left))
      (λ x. then_fits (λ y. take_off T.kind x y) _ (form_fits (plain q.right)) (λ y. axpy_fits T.kind always x (negative_of T.kind (residue 1)) y))

  jacobi_fits : (i j k : ℕ) → DoesFit (jacobi_row_of T i j k)
  jacobi_fits i j k =
      then_fits (λ w. add_each (third_terms T i j) 0 (entry_if T i k) w) _
      (then_fits (λ w. add_each (second_terms T k) 0 (entry_if T i j) w) _ (each_fits (first_terms T i) (λ t c v. signed_fits (pairing T i t) c v) 0
      (entry_if T j k) none_symbols)
      (λ w. each_fits (second_terms T k) (λ t c v. signed_fits (pairing T t k) (negative_of T.kind c) v) 0 (entry_if T i j) w))
      (λ w. each_fits (third_terms T i j) (λ t c v. signed_fits (pairing T j t) (swapped T (plain_basis T i).parity (plain_basis T j).parity c) v) 0
      (entry_if T i k) w)

  cube_fits : (i : ℕ) → DoesFit (cube_row_of T i)
  cube_fits i = each_fits (first_terms T i) (λ t c v. signed_fits (pairing T i t) c v) 0 (entry_if T i i) none_symbols

  equation_fits : (qs : List Equation) (r : ℕ) → DoesFit (equation_row T qs r)
  equation_fits [] r = (none_symbols, refl)
  equation_fits (q ∷ qs) r = cond_fits (nat_eq r 1) _ _ (relation_fits q) (equation_fits qs (r - 1))

  pub origin_fits : (p : Presentation) (o : Origin) → DoesFit (row_of_origin T p o)
  origin_fits p (Relation r) = equation_fits p.relations r
  origin_fits p (Jacobi i j k) = jacobi_fits (i - 1) (j - 1) (k - 1)
  origin_fits p (Cube i) = cube_fits (i - 1)
  origin_fits p (Row n) = (none_symbols, refl)
