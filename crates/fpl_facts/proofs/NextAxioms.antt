-- The lines of the axioms that may stand next.
use Rattle.std.proofs.Common.{◌≡◌, ◌<◌, ◌≤◌, ◌-◌, ℕ, zero, suc, List, [], ◌∷◌, length, get_or, refl, ap, ap₂, sym, subst, ◌∙◌, arith, All}
use Rattle.std.proofs.lemmas.List.{get_or-map, length-map}
use Rattle.std.proofs.lemmas.List.Elements.{All-get_or}
use Rattle.std.proofs.Math.Nat.{mod-eq_of_lt}
use Rattle.math_linear.proofs.Numbers.{minus_minus}
use Rattle.fpl_numbers.specs.declared.number.Kind.{Kind}
use Rattle.fpl_numbers.specs.declared.number.Kind.TheVariants.{Prime}
use Rattle.fpl_numbers.specs.Numbers.{IsListed, residue}
use Rattle.fpl_numbers.specs.Kinds.{field_of, number_of}
use Rattle.fpl_numbers.proofs.KindReads.{kind_reads_exactly, listed_prime}
use Rattle.math_algebra.specs.Tree.{none, multiple, bracket_of}
use Rattle.math_algebra.specs.Derives.{Expression, sum_all, sign, three}
use Rattle.math_proofs.specs.Rules.IsInstance.{is_swap, is_jacobi, is_cube, is_relation}
use Rattle.math_proofs.specs.Rules as proofs
use Rattle.fpl_model.specs.declared.expr.Expr.{Expr}
use Rattle.fpl_model.specs.declared.expr.Expr.TheVariants.{Zero, Times, Br}
use Rattle.fpl_model.specs.declared.presentation.Parity.{Parity}
use Rattle.fpl_model.specs.declared.presentation.Parity.TheVariants.{Even, Odd}
use Rattle.fpl_model.specs.Meaning.{plain, parity_in, equation_in, presentation_in}
use Rattle.fpl_model.specs.Sound.{IsSound, IsSoundEquation}
use Rattle.fpl_model.proofs.Terms.{term_within}
use Rattle.fpl_lines.specs.declared.line.Rule.TheVariants as rule
use Rattle.fpl_forms.specs.Ledgers.{PlainLedger, IsSoundLedger}
use Rattle.fpl_forms.proofs.Trees.{tree-Zero, tree-Sum, tree-Times, tree-Br, over-Zero, over-Sum, over-Br}
use Rattle.fpl_forms.proofs.Next.{k, tree, IsOver, Next, Instance, residue_over, plus_is, nought_is, unit_is}
use Rattle.fpl_facts.specs.Axioms.{HasParityIn, swap_number, sign_number, jacobi_sum, no_equation, relation_at}

pub all_two : {A : Type 0} (P : A → Type 0) (x y : A) → P x → P y → All P (x ∷ y ∷ [])
all_two P x y h l zero d lt = h
all_two P x y h l (suc zero) d lt = l
all_two P x y h l (suc (suc i)) d lt = absurd (omega (arith, lt))

pub one_default : {A : Type 0} (xs : List A) (n : ℕ) (d e : A) → n < length xs → get_or xs n d ≡ get_or xs n e
one_default [] n d e lt = absurd (omega (arith, lt))
one_default (x ∷ xs) zero d e lt = refl
one_default (x ∷ xs) (suc n) d e lt = one_default xs n d e (omega (arith, lt))

less_at : (q : ℕ) → IsListed q → number_of (Prime q) (residue (q - 1)) ≡ (field_of (Prime q)).minus (field_of (Prime q)).unit
less_at q listed =
    let past = (listed_prime q listed).1 in
    ap (λ x. number_of (Prime q) (residue x)) (sym (mod-eq_of_lt (omega (arith, past)))) ∙
    ((kind_reads_exactly (Prime q) listed).negative (residue 1) (omega (arith, past), refl)).1 ∙
    ap (field_of (Prime q)).minus (unit_is (Prime q) q refl listed)

module _ (q : ℕ) (listed : IsListed q) where
  past : 2 < q
  past = (listed_prime q listed).1

  pub swap_below : (s t : Parity) → swap_number q s t < q
  swap_below Even t = let l = past in omega (arith, l)
  swap_below Odd Even = let l = past in omega (arith, l)
  swap_below Odd Odd = let l = past in omega (arith, l)

  pub sign_below : (s t : Parity) → sign_number q s t < q
  sign_below Even t = let l = past in omega (arith, l)
  sign_below Odd Even = let l = past in omega (arith, l)
  sign_below Odd Odd = let l = past in omega (arith, l)

three_at : (k : Kind) → k ≡ Prime 3 → IsListed 3 → three (field_of k) ≡ (field_of k).nought
three_at k is listed =
    let K = field_of k in
    let u = sym (unit_is k 3 is listed) in
    ap₂ K.plus (ap₂ K.plus u u ∙ sym (plus_is k 3 is listed 1 1 (omega arith) (omega arith))) u ∙
    sym (plus_is k 3 is listed 2 1 (omega arith) (omega arith)) ∙ nought_is k 3 is listed

module _ (L : PlainLedger) (s : IsSoundLedger L) where
  brought : {r : proofs.Rule} {e e' f f' : Expression (field_of (k L s))} → e' ≡ e → f' ≡ f → Instance L s r e f → Instance L s r e' f'
  brought {r} {e} {e'} {f} {f'} p q i = subst (λ f. Instance L s r e' f) (sym q) (subst (λ e. Instance L s r e f) (sym p) i)

  pub less_is : number_of (k L s) (residue (L.prime - 1)) ≡ (field_of (k L s)).minus (field_of (k L s)).unit
  less_is =
      subst (λ k. number_of k (residue (L.prime - 1)) ≡ (field_of k).minus (field_of k).unit) (sym s.field) (less_at L.prime s.listed)

  pub one_is : number_of (k L s) (residue 1) ≡ (field_of (k L s)).unit
  one_is = unit_is (k L s) L.prime s.field s.listed

  pub swap_is : (t u : Parity) → number_of (k L s) (residue (swap_number L.prime t u)) ≡ (field_of (k L s)).minus (sign (field_of (k L s)) (parity_in t) (parity_in u))
  swap_is Even u = less_is
  swap_is Odd Even = less_is
  swap_is Odd Odd = one_is ∙ sym (minus_minus (field_of (k L s)) (field_of (k L s)).unit)

  pub sign_is : (t u : Parity) → number_of (k L s) (residue (sign_number L.prime t u)) ≡ sign (field_of (k L s)) (parity_in t) (parity_in u)
  sign_is Even u = one_is
  sign_is Odd Even = one_is
  sign_is Odd Odd = less_is

  pub next_swap : (t u : Parity) (a b : Expr) → IsOver L s a → IsOver L s b → HasParityIn L.presentation a t → HasParityIn L.presentation b u →
      Next L s (Br a b) (Times (residue (swap_number L.prime t u)) (Br b a)) (rule.Swap t u)
  next_swap t u a b h l x y = record {
    instance_of = brought (tree-Br (k L s) a b)
        (tree-Times (k L s) (residue (swap_number L.prime t u)) (Br b a) ∙ ap₂ multiple (swap_is t u) (tree-Br (k L s) b a))
        (is_swap (parity_in t) (parity_in u) (tree L s a) (tree L s b) x y);
    over = (over-Br L.presentation a b h l, residue_over L s (swap_number L.prime t u) (Br b a) (swap_below L.prime s.listed t u) (over-Br L.presentation b a l h));
  }

  pub next_jacobi : (t u v : Parity) (a b c : Expr) → IsOver L s a → IsOver L s b → IsOver L s c → HasParityIn L.presentation a t →
      HasParityIn L.presentation b u → HasParityIn L.presentation c v →
      Next L s (Br a (Br b c)) (jacobi_sum (sign_number L.prime t u) a b c) (rule.Jacobi t u)
  next_jacobi t u v a b c ha hb hc x y z =
      let K = field_of (k L s) in
      let n = sign_number L.prime t u in
      let first = Br (Br a b) c in
      let second = Br b (Br a c) in
      record {
        instance_of = brought (tree-Br (k L s) a (Br b c) ∙ ap (bracket_of (tree L s a)) (tree-Br (k L s) b c))
            (tree-Sum (k L s) (first ∷ Times (residue n) second ∷ []) ∙ ap₂ (λ e f. sum_all K (e ∷ f ∷ []))
            (tree-Br (k L s) (Br a b) c ∙ ap (λ e. bracket_of e (tree L s c)) (tree-Br (k L s) a b))
            (tree-Times (k L s) (residue n) second ∙ ap₂ multiple (sign_is t u)
            (tree-Br (k L s) b (Br a c) ∙ ap (bracket_of (tree L s b)) (tree-Br (k L s) a c))))
            (is_jacobi (parity_in t) (parity_in u) (parity_in v) (tree L s a) (tree L s b) (tree L s c) x y z);
        over = (
          over-Br L.presentation a (Br b c) ha (over-Br L.presentation b c hb hc),
          over-Sum L.presentation (first ∷ Times (residue n) second ∷ []) (all_two (IsOver L s) first (Times (residue n) second)
              (over-Br L.presentation (Br a b) c (over-Br L.presentation a b ha hb) hc)
              (residue_over L s n second (sign_below L.prime s.listed t u) (over-Br L.presentation b (Br a c) hb (over-Br L.presentation a c ha hc)))),
        );
      }

  three_is : L.prime ≡ 3 → three (field_of (k L s)) ≡ (field_of (k L s)).nought
  three_is is = three_at (k L s) (s.field ∙ ap Prime is) (subst IsListed is s.listed)

  pub next_cube : (a : Expr) → L.prime ≡ 3 → IsOver L s a → HasParityIn L.presentation a Odd → Next L s (Br a (Br a a)) Zero rule.Cube
  next_cube a is h x = record {
    instance_of = brought (tree-Br (k L s) a (Br a a) ∙ ap (bracket_of (tree L s a)) (tree-Br (k L s) a a)) (tree-Zero (k L s))
        (is_cube (tree L s a) (three_is is) x);
    over = (over-Br L.presentation a (Br a a) h (over-Br L.presentation a a h h), over-Zero L.presentation);
  }

  -- the relation at a place
  next_relation_at : IsSound L.presentation → (r : ℕ) → r < length L.presentation.relations →
      Next L s (get_or L.presentation.relations r no_equation).left (get_or L.presentation.relations r no_equation).right (rule.Relation (suc r))
  next_relation_at sound r within =
      let p = L.presentation in
      let at = get_or-map (equation_in p.field) p.relations r no_equation (none, none) within in
      let h = All-get_or (IsSoundEquation p) p.relations r no_equation within sound.relations in
      let q = get_or p.relations r no_equation in
      let lt : r < length (presentation_in p).relations = subst (λ m. r < m) (sym (length-map p.relations (equation_in p.field))) within in
      record {
        instance_of = brought (sym (ap (λ q. q.0) at)) (sym (ap (λ q. q.1) at)) (is_relation r lt);
        over = (
          term_within p.field (length p.generators) (plain q.left) h.0.0,
          term_within p.field (length p.generators) (plain q.right) h.1.0,
        );
      }

  -- relation r of the presentation, which counts from 1
  pub next_relation : IsSound L.presentation → (r : ℕ) → 1 ≤ r → r ≤ length L.presentation.relations →
      Next L s (relation_at L.presentation r).left (relation_at L.presentation r).right (rule.Relation r)
  next_relation sound r from to =
      let one : suc (r - 1) ≡ r = omega (arith, from) in
      subst (λ m. Next L s (relation_at L.presentation r).left (relation_at L.presentation r).right (rule.Relation m)) one
      (next_relation_at sound (r - 1) (omega (arith, from, to)))
