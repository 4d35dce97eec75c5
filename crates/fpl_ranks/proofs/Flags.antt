-- Flags of the places that may lead.
use Rattle.std.proofs.Common.{add-one}
use Rattle.std.specs.Prelude.{◌≡◌, ℕ, ◌+◌, ◌-◌, ◌<◌, List, [], ◌∷◌, ◌++◌, length, get_or, Some, Ok, Bool, true, false, not}
use mathlib.Core.Path.{sym, refl, ap, ap₂, ◌∙◌, subst}
use native.Mathlib.Omega.{arith}
use native.Mathlib.Decide.{dec_lt}
use Rattle.std.proofs.lemmas.List.{length-append, get_or_append_left, get_or-append-add}
use Rattle.math_fields.specs.Field.{Field}
use Rattle.math_linear.specs.Vector.{Vector}
use Rattle.math_linear.specs.Kernel.{product_sum}
use Rattle.math_linear.proofs.Numbers.{times-nought}
use Rattle.fpl_numbers.specs.declared.number.Num.{Num}
use Rattle.fpl_numbers.specs.declared.number.Kind.{Kind}
use Rattle.fpl_numbers.specs.declared.number.Op.TheVariants.{Add, Mul}
use Rattle.fpl_numbers.specs.Numbers.{IsField, IsElement, operate, is_nought, residue}
use Rattle.fpl_numbers.specs.Kinds.{field_of, number_of}
use Rattle.fpl_numbers.specs.Reads.{Reads}
use Rattle.fpl_numbers.proofs.KindReads.{kind_reads}
use Rattle.fpl_rows.specs.Positions.{next_of}
use Rattle.fpl_rows.specs.Meaning.{vector_in, IsRowOf, AreRows}
use Rattle.fpl_rows.proofs.Firsts.{next_is_at}
use Rattle.fpl_rows.proofs.Readings.{vector_past, at_place, nought_at}
use Rattle.fpl_ranks.specs.Leads.{NeverLeads, EachRow, IsSolvedBy, AddsProduct}
use Rattle.fpl_ranks.proofs.Stops.{formed_each, solved_never}

module _ (kind : Kind) (listed : IsField kind) where
  abbrev K : Field
  K = field_of kind

  abbrev value : ℕ → K.Carrier
  value a = number_of kind (residue a)

  abbrev reads : Reads kind (field_of kind) (number_of kind)
  reads = kind_reads kind listed

  pub adds_none : (sum a b : ℕ) → IsElement kind (residue sum) → IsElement kind (residue b) → is_nought (residue b) ≡ true → AddsProduct kind sum a b sum
  adds_none sum a b is_sum is_b z = record {
    element = is_sum;
    value = sym (ap (λ w. K.plus (value sum) (K.times (value a) w)) (reads.zero_is (residue b) is_b z)
        ∙ ap (K.plus (value sum)) (times-nought (field_of kind) (value a)) ∙ K.plus-nought (value sum));
  }

  pub adds_one : (one two : Kind) → one ≡ kind → two ≡ kind → (sum a b product more : ℕ) → IsElement kind (residue sum) → IsElement kind (residue a) →
      IsElement kind (residue b) → Ok (residue product) ≡ operate one Mul (residue a) (residue b) →
      Ok (residue more) ≡ operate two Add (residue sum) (residue product) → AddsProduct kind sum a b more
  adds_one one two e f sum a b product more is_sum is_a is_b m s =
      let p = reads.product (residue a) (residue b) (residue product) is_a is_b (ap (λ k. operate k Mul (residue a) (residue b)) (sym e) ∙ sym m) in
      let q = reads.sum (residue sum) (residue product) (residue more) is_sum p.0 (ap (λ k. operate k Add (residue sum) (residue product)) (sym f) ∙ sym s) in
      record { element = q.0; value = q.1 ∙ ap (K.plus (value sum)) p.1 }

  pub starts_value : (u x : Vector (field_of kind)) (z : ℕ) → IsElement kind (residue z) → residue z ≡ residue 0 →
      value z ≡ product_sum (field_of kind) 0 u x
  unfolding product_sum
  starts_value u x z is e = reads.zero_is (residue z) is (ap is_nought e)

  pub next_value : (row test : List Num) (s sum a b more : ℕ) → s < length row → s < length test → residue a ≡ get_or row (s + 1 - 1) (residue 0) →
      residue b ≡ get_or test (s + 1 - 1) (residue 0) → AddsProduct kind sum a b more →
      value sum ≡ product_sum (field_of kind) s (vector_in kind row) (vector_in kind test) →
      value more ≡ product_sum (field_of kind) (s + 1) (vector_in kind row) (vector_in kind test)
  unfolding product_sum
  next_value row test s sum a b more l m is_a is_b adds before =
      let here : s + 1 - 1 ≡ s = omega arith in
      adds.value
      ∙ ap₂ K.plus before
      (ap₂ K.times
      (ap (number_of kind) (is_a ∙ ap (λ i. get_or row i (residue 0)) here) ∙ sym (at_place kind (field_of kind) (number_of kind) reads row s (residue 0) l))
      (ap (number_of kind) (is_b ∙ ap (λ i. get_or test i (residue 0)) here) ∙ sym (at_place kind (field_of kind) (number_of kind) reads test s (residue 0) m)))
      ∙ ap (λ n. product_sum (field_of kind) n (vector_in kind row) (vector_in kind test)) (sym (add-one s))

  pub ends_solved : (row test : List Num) (s sum : ℕ) → s ≡ length test → IsElement kind (residue sum) → is_nought (residue sum) ≡ true →
      value sum ≡ product_sum (field_of kind) s (vector_in kind row) (vector_in kind test) → IsSolvedBy kind test row
  ends_solved row test s sum e is z before =
      ap (λ n. product_sum (field_of kind) n (vector_in kind row) (vector_in kind test)) (sym e) ∙ sym before ∙ reads.zero_is (residue sum) is z

  -- the first place of a test that each row passes
  pub first_never : (rows : List (List Num)) (test : List Num) (first s : ℕ) → AreRows kind (length test) rows → IsRowOf kind (length test) test →
      EachRow (IsSolvedBy kind test) rows → Some first ≡ next_of test 0 → first ≡ s + 1 → NeverLeads kind rows s
  first_never rows test first s are is solved found e =
      let f = next_is_at test 0 first found in
      let here : first - 1 ≡ s = omega (arith, e) in
      let within : s < length test = (let t = f.to_end in omega (arith, e, t)) in
      solved_never kind listed (length test) rows are (vector_in kind test) (λ t l. vector_past (field_of kind) (number_of kind) test t l)
      (formed_each kind rows (λ u. product_sum (field_of kind) (length test) u (vector_in kind test) ≡ K.nought) solved) s within
      (λ z. reads.nonzero (get_or test s (residue 0)) (is.elements s (residue 0) within)
      (ap (λ i. is_nought (get_or test i (residue 0))) (sym here) ∙ f.filled)
      (sym (at_place kind (field_of kind) (number_of kind) reads test s (residue 0) within) ∙ z))
      (λ t l. nought_at kind (field_of kind) (number_of kind) reads test t is.elements (omega (arith, l, within))
      (f.before t (omega arith) (omega (arith, l, here))))

-- one flag more
pub never_next : (Never : ℕ → Type 0) (flags longer : List Bool) (n : ℕ) (flag : Bool) → length flags ≡ n → longer ≡ flags ++ flag ∷ [] →
    (flag ≡ false → Never n) → ((s : ℕ) → s < n → get_or flags s false ≡ false → Never s) → (s : ℕ) → s < n + 1 → get_or longer s false ≡ false → Never s
never_next Never flags longer n flag count e last before s l off = go (dec_lt s n)
  where
    there : get_or (flags ++ flag ∷ []) s false ≡ false
    there = subst (λ fs. get_or fs s false ≡ false) e off

    go : Dec (s < n) → Never s
    go (yes m) = before s m (sym (get_or_append_left flags (flag ∷ []) false s (omega (arith, m, count))) ∙ there)
    go (no d) =
        let here : s ≡ length flags + 0 = omega (arith, l, d, count) in
        let same : n ≡ s = omega (arith, l, d) in
        let at : get_or (flags ++ flag ∷ []) (length flags + 0) false ≡ false = subst (λ i. get_or (flags ++ flag ∷ []) i false ≡ false) here there in
        subst Never same (last (sym (get_or-append-add flags (flag ∷ []) 0 false) ∙ at))

pub count_next : (flags longer : List Bool) (flag : Bool) (n : ℕ) → longer ≡ flags ++ flag ∷ [] → length flags ≡ n → length longer ≡ n + 1
count_next flags longer flag n e count = ap length e ∙ length-append flags (flag ∷ []) ∙ ap (λ m. m + 1) count

pub not_off : (b : Bool) → not b ≡ false → b ≡ true
not_off true h = refl
not_off false h = sym h
