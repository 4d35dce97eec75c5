-- What stands at a place of a list of tuples.
use Rattle.std.proofs.Common.{◌≡◌, ◌≤◌, ◌<◌, ◌+◌, ◌^◌, inl, inr, ℕ, zero, suc, List, [], ◌∷◌, length, map, get_or, cond, Bool, true, false, ap, sym, subst, ◌∙◌, arith}
use Rattle.math_algebra.specs.Table.{Symbol, IsRegular}
use Rattle.math_algebra.specs.Symbols.{is_odd, no_symbol}
use Rattle.fpl_rows.specs.Meaning.{IsRowOf}
use Rattle.fpl_table.specs.Shape.{HasShape}
use Rattle.fpl_table.specs.Plain.{PlainTable, plain_basis, first_partner, table_in}
use Rattle.plain_spans.proofs.Among.{Among}
use Rattle.plain_cohomology.specs.Plain.{Triple, singles, pairs, triples, bracket_row, coboundary_row}
use Rattle.plain_sources.proofs.Laws.{rows_of_shape}
use Rattle.plain_cohomology.proofs.Degrees.{one_is_row, bound_is_row}
use Rattle.plain_cohomology.proofs.Lists.{member_among}
use Rattle.plain_cohomology.proofs.Tuples.{single_is, pair_is, triple_is, left, right}
use Rattle.fpl_cohomology.specs.declared.triples.Places as code
use Rattle.fpl_cohomology.specs.Forms.{triple_in}
use Rattle.fpl_cohomology.specs.Rows.{IsPairOf, IsTripleOf}

-- a member at its place
at_among : {X Y : Type 0} (f : X → Y) (xs : List X) (s : ℕ) (x : X) → s < length xs → x ≡ get_or xs s x → Among (map f xs) (f x)
at_among f [] s x l e = absurd (omega arith)
at_among f (y ∷ ys) zero x l e = inl (ap f (sym e))
at_among f (y ∷ ys) (suc s) x l e = inr (at_among f ys s x (omega arith) e)

module _ (T : PlainTable) where
  partner_of : (i j : ℕ) → IsRegular (table_in T.kind T) i j → first_partner T i ≤ j
  partner_of i j (inl l) = go (is_odd (plain_basis T i).parity)
    where
      go : (b : Bool) → cond b i (i + 1) ≤ j
      go true = omega arith
      go false = omega arith
  partner_of i j (inr h) = rw (ap is_odd h.1) (let e = h.0 in omega arith)

  before : (i j : ℕ) → IsRegular (table_in T.kind T) i j → i ≤ j
  before i j (inl l) = omega arith
  before i j (inr h) = (let e = h.0 in omega arith)

  ends : (i j k : ℕ) → IsRegular (table_in T.kind T) i j → IsRegular (table_in T.kind T) j k → IsRegular (table_in T.kind T) i k
  ends i j k (inl l) (inl m) = inl (omega arith)
  ends i j k (inl l) (inr h) = inl (let e = h.0 in omega arith)
  ends i j k (inr h) (inl m) = inl (let e = h.0 in omega arith)
  ends i j k (inr h) (inr h') = inr (h.0 ∙ h'.0, h.1)

  module _ (w : ℕ) where
    pair_among : (x : Symbol) → Among (pairs T w) x → IsPairOf T w x
    pair_among x h =
        let p = pair_is T w x h in
        subst (IsPairOf T w) (sym p.is) (p.first, p.second, partner_of (left x) (right x) p.regular, p.sum)

    module _ (ps : List Symbol) (are : ps ≡ pairs T w) (s : ℕ) (x : Symbol) (l : s < length ps) (e : x ≡ get_or ps s no_symbol) where
      among : Among (pairs T w) x
      among = subst (λ ps. Among ps x) are (subst (Among ps) (sym e) (member_among ps s no_symbol l))

      pub pair_at : IsPairOf T w x
      pair_at = pair_among x among

      pub pair_row : HasShape T → w ≤ T.weight → IsRowOf T.kind (length (singles T w)) (bracket_row T w x)
      pair_row shape low = one_is_row T shape.field (rows_of_shape T shape) w low x (pair_is T w x among)

    pub single_row : HasShape T → w ≤ T.weight → (e : ℕ) → IsRowOf T.kind (length (pairs T w)) (coboundary_row T w e)
    single_row shape low e = bound_is_row T shape.field (rows_of_shape T shape) w low e

    -- the place of a single
    pub single_small : HasShape T → (xs : List ℕ) → xs ≡ singles T w → (s x : ℕ) → s < length xs → x ≡ get_or xs s x → x + 1 < 2 ^ 32
    single_small shape xs are s x l e =
        let at = subst (λ ys. Among ys x) are (subst (Among xs) (sym e) (member_among xs s x l)) in
        let r = (single_is T w x at).0 in
        let small = shape.small in
        let weight = shape.weight in
        omega (arith, r, small, weight)

    triple_of : (x : Triple) → Among (triples T w) x → IsTripleOf T w x
    triple_of x h =
        let t = triple_is T w x h in
        let a = before x.first x.second t.sorted.0 in
        let b = before x.second x.third t.sorted.1 in
        let l = t.below in
        record {
          first = omega arith;
          second = omega arith;
          third = l;
          regular_first = partner_of x.first x.second t.sorted.0;
          regular_second = partner_of x.second x.third t.sorted.1;
          regular_ends = partner_of x.first x.third (ends x.first x.second x.third t.sorted.0 t.sorted.1);
          weight = t.sum;
        }

    pub triple_at : (xs : List code.Places) → map triple_in xs ≡ triples T w → (s : ℕ) (x : code.Places) → s < length xs → x ≡ get_or xs s x →
        IsTripleOf T w (triple_in x)
    triple_at xs are s x l e = triple_of (triple_in x) (subst (λ ts. Among ts (triple_in x)) are (at_among triple_in xs s x l e))

    pub triple_small : HasShape T → (xs : List code.Places) → map triple_in xs ≡ triples T w → (s : ℕ) (x : code.Places) → s < length xs →
        x ≡ get_or xs s x → (x.first + 1 < 2 ^ 32) × (x.second + 1 < 2 ^ 32) × (x.third + 1 < 2 ^ 32)
    triple_small shape xs are s x l e =
        let t = triple_at xs are s x l e in
        let a = t.first in
        let b = t.second in
        let c = t.third in
        let small = shape.small in
        let weight = shape.weight in
        (omega (arith, a, small, weight), omega (arith, b, small, weight), omega (arith, c, small, weight))
