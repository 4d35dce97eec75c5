-- Terms taken off one after another leave the row less their sum; and the next term, and where taking stops.
use Rattle.std.specs.Prelude.{◌≡◌, ℕ, zero, suc, ◌-◌, ◌≤◌, List, [], ◌∷◌, length, drop, map, slice_get, Option, Some, None, option_map, Result, Ok, Err, All, IfOk, IfSome}
use mathlib.Core.Path.{sym, refl, ap, ◌∙◌, subst}
use native.Mathlib.Omega.{arith}
use Rattle.std.proofs.lemmas.List.{get_or-map}
use Rattle.math_fields.specs.Field.{Field}
use Rattle.math_linear.specs.Vector.{Vector, vzero, vplus, scale}
use Rattle.math_linear.specs.Lists.{vector_of}
use Rattle.math_linear.proofs.Numbers.{minus-times, unit-times}
use Rattle.math_linear.proofs.Vectors.{vplus_assoc, vplus-vzero, scale-vplus, scale_scale, scale-vzero}
use Rattle.fpl_numbers.specs.declared.number.Num.{Num}
use Rattle.fpl_numbers.specs.declared.number.Kind.{Kind}
use Rattle.fpl_numbers.specs.declared.number.Unfit.{Unfit}
use Rattle.fpl_numbers.specs.declared.number.Fault.{Fault}
use Rattle.fpl_numbers.specs.declared.number.Fault.TheVariants.{NoMemory}
use Rattle.fpl_numbers.specs.declared.number.Fault.TheVariants.{Unfit as Unfits}
use Rattle.fpl_numbers.specs.Numbers.{IsField, IsElement, negative_of}
use Rattle.fpl_numbers.specs.Results.{IsFault, GivesBy, and_then}
use Rattle.fpl_numbers.specs.Reads.{Reads}
use Rattle.fpl_numbers.specs.Kinds.{field_of, number_of}
use Rattle.fpl_numbers.proofs.KindReads.{kind_reads}
use Rattle.fpl_scalar.specs.Vectors.{AreElements, axpy_of}
use Rattle.fpl_rows.specs.Meaning.{AreRows, vector_in}
use Rattle.fpl_rows.proofs.Fits.{ok_same, some_same, none_some, first_fits, all_head, all_tail}
use Rattle.fpl_rows.proofs.Readings.{IsFor, axpy_reads, scale_reads}
use Rattle.fpl_log.specs.declared.terms.Term.{Term}
use Rattle.fpl_log.specs.Conclusion.{cited, terms_sum, less}
use Rattle.fpl_log.specs.Plain.{IsTermOf, term_row, terms_off, scaled_by, conclude_of, conclusion_in}

one_more : (K : Field) (v t u : Vector K) (a : K.Carrier) → vplus K (vplus K v (scale K (K.minus a) u)) (scale K (K.minus K.unit) t) ≡
    vplus K v (scale K (K.minus K.unit) (vplus K (scale K a u) t))
one_more K v t u a =
    vplus_assoc K v _ _
    ∙ ap (vplus K v) (ap (λ w. vplus K w (scale K (K.minus K.unit) t))
    (sym (scale_scale K (K.minus K.unit) a u ∙ ap (λ w. scale K w u) (minus-times K K.unit a ∙ ap K.minus (unit-times K a)))) ∙ sym (scale-vplus K _ _ _))

module _ (kind : Kind) (K : Field) (value : Num → K.Carrier) (reads : Reads kind K value) (n : ℕ) (earlier : List (List Num))
    (rows : AreRows kind n earlier) where
  done : List (Vector K)
  done = map (vector_of K value) earlier

  cited_is : (t : Term) → IsTermOf kind (length earlier) t → cited K value done t.step ≡ vector_of K value (term_row earlier t)
  unfolding done
  cited_is t is = get_or-map (vector_of K value) earlier (t.step - 1) [] (vzero K) (let a = is.from_one in let b = is.to_end in omega arith)

  terms_read : (v w : List Num) (ts : List Term) → AreElements kind v → length v ≡ n → All (IsTermOf kind (length earlier)) ts →
      terms_off kind earlier v ts ≡ Ok w → IsFor kind K value reads n (less K value done (vector_of K value v) ts) w
  unfolding terms_sum
  terms_read v w [] a len all e =
      subst (IsFor kind K value reads n _) (ok_same e) (record {
        elements = a;
        length_is = len;
        vector =
            sym (ap (vplus K (vector_of K value v)) (scale-vzero K _) ∙ vplus-vzero K _);
      })
  terms_read v w (t ∷ ts) a len all e =
      let is = all_head (IsTermOf kind (length earlier)) t ts all in
      let u = rows (t.step - 1) [] (let x = is.from_one in let y = is.to_end in omega arith) in
      let f = first_fits _ (axpy_of kind v (negative_of kind t.factor) (term_row earlier t)) w e in
      let m = reads.negative t.factor is.factor in
      let r = axpy_reads kind K value reads v (term_row earlier t) f.0 (negative_of kind t.factor) a m.0 u.elements (len ∙ sym u.length_is) f.1.0 in
      let k = terms_read f.0 w ts r.elements (r.length_is ∙ len) (all_tail (IsTermOf kind (length earlier)) t ts all) f.1.1 in
      record {
        elements = k.elements;
        length_is = k.length_is;
        vector = k.vector
            ∙ ap (λ x. vplus K x (scale K (K.minus K.unit) (terms_sum K value (cited K value done) ts)))
            (r.vector ∙ ap (λ c. vplus K (vector_of K value v) (scale K c (vector_of K value (term_row earlier t)))) m.1)
            ∙ one_more K (vector_of K value v) (terms_sum K value (cited K value done) ts) (vector_of K value (term_row earlier t)) (value t.factor)
            ∙ ap (λ x. vplus K (vector_of K value v)
            (scale K (K.minus K.unit) (vplus K (scale K (value t.factor) x) (terms_sum K value (cited K value done) ts)))) (sym (cited_is t is));
      }

-- a conclusion over the field of its kind
pub conclusion_means : (kind : Kind) (earlier : List (List Num)) (start row : List Num) (terms : List Term) (k : Option Num) → IsField kind →
    AreElements kind start → AreRows kind (length start) earlier → All (IsTermOf kind (length earlier)) terms →
    ((c : Num) → k ≡ Some c → IsElement kind c) → conclude_of kind earlier start terms k ≡ Ok row →
    vector_in kind row ≡ conclusion_in kind earlier start terms k
unfolding done
conclusion_means kind earlier start row terms k listed a rows all el e =
    let reads = kind_reads kind listed in
    let f = first_fits _ (terms_off kind earlier start terms) row e in
    let r = terms_read kind (field_of kind) (number_of kind) reads (length start) earlier rows start f.0 terms a refl all f.1.0 in
    go f.0 r.elements r.vector k el f.1.1
  where
    go : (left : List Num) → AreElements kind left → vector_in kind left ≡ conclusion_in kind earlier start terms None → (k : Option Num) →
        ((c : Num) → k ≡ Some c → IsElement kind c) → scaled_by kind k left ≡ Ok row → vector_in kind row ≡ conclusion_in kind earlier start terms k
    go left b v None el g = ap (vector_in kind) (sym (ok_same g)) ∙ v
    go left b v (Some c) el g = (scale_reads kind (field_of kind) (number_of kind) (kind_reads kind listed) left row c b (el c refl) g).vector ∙
        ap (scale (field_of kind) (number_of kind c)) v

-- the next term
pub drop_next : {X : Type 0} (xs : List X) (k : ℕ) (x : X) → Some x ≡ slice_get xs k → drop k xs ≡ x ∷ drop (suc k) xs
drop_next [] k x e = absurd (none_some (sym e))
drop_next (y ∷ ys) zero x e = ap (λ z. z ∷ ys) (sym (some_same e))
drop_next (y ∷ ys) (suc k) x e = drop_next ys k x e

pub term_got : {X : Type 0} (P : X → Type 0) (xs : List X) (k : ℕ) (x : X) → All P xs → Some x ≡ slice_get xs k → P x
term_got P [] k x all e = absurd (none_some (sym e))
term_got P (y ∷ ys) zero x all e = subst P (sym (some_same e)) (all_head P y ys all)
term_got P (y ∷ ys) (suc k) x all e = term_got P ys k x (all_tail P y ys all) e

pub taken_next : (kind : Kind) (earlier : List (List Num)) (v w : List Num) (ts : List Term) (j k : ℕ) (t : Term) → j ≡ suc k →
    Some t ≡ slice_get ts k → axpy_of kind v (negative_of kind t.factor) (term_row earlier t) ≡ Ok w →
    terms_off kind earlier v (drop k ts) ≡ terms_off kind earlier w (drop j ts)
taken_next kind earlier v w ts j k t is e f =
    ap (terms_off kind earlier v) (drop_next ts k t e) ∙ ap (and_then (λ w. terms_off kind earlier w (drop (suc k) ts))) f ∙
    ap (λ i. terms_off kind earlier w (drop i ts)) (sym is)

pub taken_stops : (kind : Kind) (earlier : List (List Num)) (v : List Num) (ts : List Term) (k : ℕ) (t : Term) (all : Result (List Num) Unfit)
    (fault : Fault) → Some t ≡ slice_get ts k → all ≡ terms_off kind earlier v (drop k ts) →
    IsFault fault (axpy_of kind v (negative_of kind t.factor) (term_row earlier t)) → IsFault fault all
taken_stops kind earlier v ts k t all NoMemory e f g = tt
taken_stops kind earlier v ts k t all (Unfits u) e f g =
    f ∙ ap (terms_off kind earlier v) (drop_next ts k t e) ∙ ap (and_then (λ w. terms_off kind earlier w (drop (suc k) ts))) g

pub past_end : {X : Type 0} (xs : List X) (k : ℕ) → None ≡ slice_get xs k → length xs ≤ k
past_end [] k e = omega arith
past_end (y ∷ ys) zero e = absurd (none_some e)
past_end (y ∷ ys) (suc k) e = (let l = past_end ys k e in omega arith)

pub scale_element : {E : Type 0} (kind : Kind) (f : E → Num) (o : Option E) → IfSome o (λ k. IsElement kind (f k)) → (c : Num) →
    option_map f o ≡ Some c → IsElement kind c
scale_element kind f None h c e = absurd (none_some e)
scale_element kind f (Some k) h c e = subst (IsElement kind) (some_same e) h

pub means_from : (kind : Kind) (earlier : List (List Num)) (start left : List Num) (terms : List Term) (k : Option Num)
    (r : Result (List Num) Fault) → IsField kind → AreElements kind start → AreRows kind (length start) earlier → All (IsTermOf kind (length earlier)) terms →
    ((c : Num) → k ≡ Some c → IsElement kind c) → terms_off kind earlier start terms ≡ Ok left → GivesBy (λ (row : List Num). row) r (scaled_by kind k left) →
    IfOk r (λ row. vector_in kind row ≡ conclusion_in kind earlier start terms k)
means_from kind earlier start left terms k (Ok row) listed a rows all el e g = conclusion_means kind earlier start row terms k listed a rows all el
    (ap (and_then (λ v. scaled_by kind k v)) e ∙ g)
means_from kind earlier start left terms k (Err fault) listed a rows all el e g = tt
