-- The lines that may stand next, by their rule.
use Rattle.std.proofs.Common.{◌≡◌, ◌<◌, ◌+◌, ◌*◌, ◌%◌, ◌++◌, ℕ, zero, suc, List, [], ◌∷◌, length, map, refl, ap, ap₂, sym, subst, ◌∙◌, arith, All}
use native.Mathlib.Nat.{mod-eq_of_lt}
use Rattle.std.proofs.lemmas.List.{length-map, map-append}
use Rattle.fpl_numbers.specs.declared.number.Num.{Num}
use Rattle.fpl_numbers.specs.declared.number.Kind.{Kind}
use Rattle.fpl_numbers.specs.declared.number.Kind.TheVariants.{Prime}
use Rattle.fpl_numbers.specs.Numbers.{IsElement, IsListed, residue}
use Rattle.fpl_numbers.specs.Kinds.{field_of, number_of}
use Rattle.fpl_numbers.proofs.KindReads.{kind_reads_exactly, listed_prime}
use Rattle.fpl_numbers.proofs.WholeNumbers.{whole_one}
use Rattle.math_algebra.specs.Tree.{multiple}
use Rattle.math_algebra.specs.Derives.{Expression, sum_all}
use Rattle.math_proofs.specs.Rules.{Earlier, AreEarlier, Cites, IsInstance}
use Rattle.math_proofs.specs.Rules as proofs
use Rattle.math_proofs.specs.Rules.IsInstance.{is_same, is_turn, is_chain, is_parts, is_factor, is_members, is_exchange, is_flat, is_drop, is_single, is_multiply, is_one, is_nought, is_collect, is_spread}
use Rattle.fpl_model.specs.declared.expr.Expr.{Expr}
use Rattle.fpl_model.specs.declared.expr.Expr.TheVariants.{Zero, Sum, Times, Br}
use Rattle.fpl_model.specs.Meaning.{tree_in, presentation_in}
use Rattle.fpl_lines.specs.declared.line.Rule.{Rule}
use Rattle.fpl_lines.specs.declared.line.Rule.TheVariants as rule
use Rattle.fpl_forms.specs.Ledgers.{PlainLedger, IsExpr, proof_in, IsSoundLedger, IsNextLine, left_of, right_of, IsWithin, AreWithin}
use Rattle.fpl_forms.proofs.Trees.{tree-Zero, tree-Sum, tree-Times, tree-Br, over-Zero, over-Sum, over-Times, over-Br}
use Rattle.fpl_forms.proofs.Ledgers.{cited, sides_over}

-- residues modulo an accepted prime as numbers of its field
module _ (k : Kind) (q : ℕ) (is : k ≡ Prime q) (listed : IsListed q) where
  pub element : (n : ℕ) → n < q → IsElement k (residue n)
  element n lt = subst (λ k. IsElement k (residue n)) (sym is) ((lt, refl), tt)

  pub plus_is : (a b : ℕ) → a < q → b < q → number_of k (residue ((a + b) % q)) ≡ (field_of k).plus (number_of k (residue a)) (number_of k (residue b))
  plus_is a b h l =
      subst (λ k. number_of k (residue ((a + b) % q)) ≡ (field_of k).plus (number_of k (residue a)) (number_of k (residue b))) (sym is)
      ((kind_reads_exactly (Prime q) listed).sum (residue a) (residue b) (h, refl) (l, refl)).1

  pub times_is : (a b : ℕ) → a < q → b < q → number_of k (residue ((a * b) % q)) ≡ (field_of k).times (number_of k (residue a)) (number_of k (residue b))
  times_is a b h l =
      subst (λ k. number_of k (residue ((a * b) % q)) ≡ (field_of k).times (number_of k (residue a)) (number_of k (residue b))) (sym is)
      ((kind_reads_exactly (Prime q) listed).product (residue a) (residue b) (h, refl) (l, refl)).1

  pub nought_is : number_of k (residue 0) ≡ (field_of k).nought
  nought_is =
      subst (λ k. number_of k (residue 0) ≡ (field_of k).nought) (sym is)
      ((kind_reads_exactly (Prime q) listed).zero_is (residue 0) (omega (arith, (listed_prime q listed).1), refl) refl)

  pub unit_is : number_of k (residue 1) ≡ (field_of k).unit
  unit_is =
      subst (λ k. number_of k (residue 1) ≡ (field_of k).unit) (sym is)
      (ap (λ n. number_of (Prime q) (residue n)) (sym (mod-eq_of_lt (omega (arith, (listed_prime q listed).1)))) ∙ whole_one (Prime q) listed)

module _ (L : PlainLedger) (s : IsSoundLedger L) where
  abbrev pub k : Kind
  k = L.presentation.field

  abbrev pub tree : Expr → Expression (field_of k)
  tree e = tree_in k e

  abbrev pub Instance : proofs.Rule → Expression (field_of k) → Expression (field_of k) → Type 0
  Instance r e f = IsInstance (field_of k) (presentation_in L.presentation) (Cites (field_of k) (proof_in L) (length L.lines)) r e f

  abbrev pub IsOver : Expr → Type 0
  IsOver e = IsExpr L.presentation e

  abbrev pub Next : Expr → Expr → Rule → Type 0
  Next e f r = IsNextLine L (record { left = e; right = f; why = r })

  pub carried : {r : proofs.Rule} {e e' f f' : Expression (field_of k)} → e' ≡ e → f' ≡ f → Instance r e f → Instance r e' f'
  carried {r} {e} {e'} {f} {f'} p q i = subst (λ f. Instance r e' f) (sym q) (subst (λ e. Instance r e f) (sym p) i)

  pub next_as : {e e' f f' : Expr} {r : Rule} → e' ≡ e → f' ≡ f → Next e f r → Next e' f' r
  next_as {e} {e'} {f} {f'} {r} p q n = subst (λ f. Next e' f r) (sym q) (subst (λ e. Next e f r) (sym p) n)

  pub residue_over : (n : ℕ) (e : Expr) → n < L.prime → IsOver e → IsOver (Times (residue n) e)
  residue_over n e lt h = over-Times L.presentation (residue n) e (element k L.prime s.field s.listed n lt) h

  pub next_same : (e : Expr) → IsOver e → Next e e rule.Same
  next_same e h = record { instance_of = is_same (tree e); over = (h, h) }

  pub next_turn : (n : ℕ) → IsWithin L n → Next (right_of L n) (left_of L n) (rule.Turn n)
  next_turn n w =
      let o = sides_over L n w s in
      record { instance_of = is_turn n (tree (right_of L n)) (tree (left_of L n)) (cited L n w); over = (o.1, o.0) }

  pub next_chain : (n m : ℕ) → IsWithin L n → IsWithin L m → right_of L n ≡ left_of L m → Next (left_of L n) (right_of L m) (rule.Chain n m)
  next_chain n m w v meet =
      record {
        instance_of = is_chain n m (tree (left_of L n)) (tree (left_of L m)) (tree (right_of L m))
            (subst (λ e. Cites (field_of k) (proof_in L) (length L.lines) n (tree (left_of L n)) (tree e)) meet (cited L n w)) (cited L m v);
        over = ((sides_over L n w s).0, (sides_over L m v s).1);
      }

  pub next_factor : (c n : ℕ) → c < L.prime → IsWithin L n → Next (Times (residue c) (left_of L n)) (Times (residue c) (right_of L n)) (rule.Factor n)
  next_factor c n lt w =
      let o = sides_over L n w s in
      record {
        instance_of = carried (tree-Times k (residue c) (left_of L n)) (tree-Times k (residue c) (right_of L n))
            (is_factor n (number_of k (residue c)) (tree (left_of L n)) (tree (right_of L n)) (cited L n w));
        over = (residue_over c (left_of L n) lt o.0, residue_over c (right_of L n) lt o.1);
      }

  pub next_members : (n m : ℕ) → IsWithin L n → IsWithin L m →
      Next (Br (left_of L n) (left_of L m)) (Br (right_of L n) (right_of L m)) (rule.Members n m)
  next_members n m w v =
      let o = sides_over L n w s in
      let u = sides_over L m v s in
      record {
        instance_of = carried (tree-Br k (left_of L n) (left_of L m)) (tree-Br k (right_of L n) (right_of L m))
            (is_members n m (tree (left_of L n)) (tree (left_of L m)) (tree (right_of L n)) (tree (right_of L m)) (cited L n w) (cited L m v));
        over = (over-Br L.presentation _ _ o.0 u.0, over-Br L.presentation _ _ o.1 u.1);
      }

  all_cited : (ns : List ℕ) → AreWithin L ns → AreEarlier (field_of k) (Cites (field_of k) (proof_in L) (length L.lines)) ns (map tree (map (left_of L) ns))
      (map tree (map (right_of L) ns))
  all_cited [] h = tt
  all_cited (n ∷ ns) h = (cited L n (h zero n (omega arith)), all_cited ns (λ i d lt. h (suc i) d (omega (arith, lt))))

  lefts_over : (ns : List ℕ) → AreWithin L ns → All IsOver (map (left_of L) ns)
  lefts_over [] h i d lt = absurd (omega (arith, lt))
  lefts_over (n ∷ ns) h zero d lt = (sides_over L n (h zero n (omega arith)) s).0
  lefts_over (n ∷ ns) h (suc i) d lt = lefts_over ns (λ i d lt. h (suc i) d (omega (arith, lt))) i d (omega (arith, lt))

  rights_over : (ns : List ℕ) → AreWithin L ns → All IsOver (map (right_of L) ns)
  rights_over [] h i d lt = absurd (omega (arith, lt))
  rights_over (n ∷ ns) h zero d lt = (sides_over L n (h zero n (omega arith)) s).1
  rights_over (n ∷ ns) h (suc i) d lt = rights_over ns (λ i d lt. h (suc i) d (omega (arith, lt))) i d (omega (arith, lt))

  pub next_parts : (ns : List ℕ) → AreWithin L ns → Next (Sum (map (left_of L) ns)) (Sum (map (right_of L) ns)) (rule.Parts ns)
  next_parts ns h =
      record {
        instance_of = carried (tree-Sum k (map (left_of L) ns)) (tree-Sum k (map (right_of L) ns))
            (is_parts ns (map tree (map (left_of L) ns)) (map tree (map (right_of L) ns)) (all_cited ns h));
        over = (over-Sum L.presentation _ (lefts_over ns h), over-Sum L.presentation _ (rights_over ns h));
      }

  -- rules on the members of a sum
  joined : (before rest : List Expr) → tree (Sum (before ++ rest)) ≡ sum_all (field_of k) (map tree before ++ map tree rest)
  joined before rest = tree-Sum k (before ++ rest) ∙ ap (sum_all (field_of k)) (map-append tree before rest)

  numbered : (r : ℕ → proofs.Rule) (before : List Expr) (at : ℕ) (e f : Expression (field_of k)) → at ≡ length before + 1 →
      Instance (r (suc (length (map tree before)))) e f → Instance (r at) e f
  numbered r before at e f is i =
      subst (λ n. Instance (r n) e f)
      (let same : length (map tree before) ≡ length before = length-map before tree in
      let goal : suc (length (map tree before)) ≡ at = omega (arith, same, is) in goal) i

  pub next_exchange : (before after : List Expr) (e f : Expr) (at : ℕ) → at ≡ length before + 1 → IsOver (Sum (before ++ e ∷ f ∷ after)) →
      IsOver (Sum (before ++ f ∷ e ∷ after)) → Next (Sum (before ++ e ∷ f ∷ after)) (Sum (before ++ f ∷ e ∷ after)) (rule.Exchange at)
  next_exchange before after e f at is h l =
      record {
        instance_of = numbered proofs.exchange before at _ _ is
            (carried (joined before (e ∷ f ∷ after)) (joined before (f ∷ e ∷ after)) (is_exchange (map tree before) (map tree after) (tree e) (tree f)));
        over = (h, l);
      }

  pub next_flat : (before after es : List Expr) (at : ℕ) → at ≡ length before + 1 → IsOver (Sum (before ++ Sum es ∷ after)) →
      IsOver (Sum (before ++ (es ++ after))) → Next (Sum (before ++ Sum es ∷ after)) (Sum (before ++ (es ++ after))) (rule.Flat at)
  next_flat before after es at is h l =
      record {
        instance_of = numbered proofs.flat before at _ _ is
            (carried (joined before (Sum es ∷ after) ∙ ap (λ e. sum_all (field_of k) (map tree before ++ e ∷ map tree after)) (tree-Sum k es))
            (joined before (es ++ after) ∙ ap (λ r. sum_all (field_of k) (map tree before ++ r)) (map-append tree es after))
            (is_flat (map tree before) (map tree after) (map tree es)));
        over = (h, l);
      }

  pub next_drop : (before after : List Expr) (at : ℕ) → at ≡ length before + 1 → IsOver (Sum (before ++ Zero ∷ after)) → IsOver (Sum (before ++ after)) →
      Next (Sum (before ++ Zero ∷ after)) (Sum (before ++ after)) (rule.Drop at)
  next_drop before after at is h l =
      record {
        instance_of = numbered proofs.drop before at _ _ is
            (carried (joined before (Zero ∷ after) ∙ ap (λ e. sum_all (field_of k) (map tree before ++ e ∷ map tree after)) (tree-Zero k))
            (joined before after) (is_drop (map tree before) (map tree after)));
        over = (h, l);
      }

  pub next_collect : (before after : List Expr) (c a : ℕ) (e : Expr) (at : ℕ) → c < L.prime → a < L.prime → at ≡ length before + 1 →
      IsOver (Sum (before ++ Times (residue c) e ∷ Times (residue a) e ∷ after)) → IsOver (Sum (before ++ Times (residue ((c + a) % L.prime)) e ∷ after)) →
      Next (Sum (before ++ Times (residue c) e ∷ Times (residue a) e ∷ after)) (Sum (before ++ Times (residue ((c + a) % L.prime)) e ∷ after))
      (rule.Collect at)
  next_collect before after c a e at lc la is h l =
      record {
        instance_of = numbered proofs.collect before at _ _ is
            (carried
            (joined before (Times (residue c) e ∷ Times (residue a) e ∷ after) ∙
            ap₂ (λ x y. sum_all (field_of k) (map tree before ++ x ∷ y ∷ map tree after)) (tree-Times k (residue c) e) (tree-Times k (residue a) e))
            (joined before (Times (residue ((c + a) % L.prime)) e ∷ after) ∙
            ap (λ x. sum_all (field_of k) (map tree before ++ x ∷ map tree after))
            (tree-Times k (residue ((c + a) % L.prime)) e ∙ ap (λ n. multiple n (tree e)) (plus_is k L.prime s.field s.listed c a lc la)))
            (is_collect (map tree before) (map tree after) (number_of k (residue c)) (number_of k (residue a)) (tree e)));
        over = (h, l);
      }

  -- rules on multiples
  pub next_one : (e : Expr) → IsOver (Times (residue 1) e) → IsOver e → Next (Times (residue 1) e) e rule.One
  next_one e h l =
      record {
        instance_of = carried (tree-Times k (residue 1) e ∙ ap (λ n. multiple n (tree e)) (unit_is k L.prime s.field s.listed)) refl (is_one (tree e));
        over = (h, l);
      }

  pub next_nought : (e : Expr) → IsOver (Times (residue 0) e) → Next (Times (residue 0) e) Zero rule.Nought
  next_nought e h =
      record {
        instance_of = carried (tree-Times k (residue 0) e ∙ ap (λ n. multiple n (tree e)) (nought_is k L.prime s.field s.listed)) (tree-Zero k)
            (is_nought (tree e));
        over = (h, over-Zero L.presentation);
      }

  pub next_multiply : (c a : ℕ) (e : Expr) → c < L.prime → a < L.prime → IsOver (Times (residue c) (Times (residue a) e)) →
      IsOver (Times (residue ((c * a) % L.prime)) e) → Next (Times (residue c) (Times (residue a) e)) (Times (residue ((c * a) % L.prime)) e) rule.Multiply
  next_multiply c a e lc la h l =
      record {
        instance_of = carried (tree-Times k (residue c) (Times (residue a) e) ∙ ap (multiple (number_of k (residue c))) (tree-Times k (residue a) e))
            (tree-Times k (residue ((c * a) % L.prime)) e ∙ ap (λ n. multiple n (tree e)) (times_is k L.prime s.field s.listed c a lc la))
            (is_multiply (number_of k (residue c)) (number_of k (residue a)) (tree e));
        over = (h, l);
      }

  pub next_single : (e : Expr) → IsOver (Sum (e ∷ [])) → IsOver e → Next (Sum (e ∷ [])) e rule.Single
  next_single e h l = record { instance_of = carried (tree-Sum k (e ∷ [])) refl (is_single (tree e)); over = (h, l) }

  each_times : (c : Num) (es : List Expr) → map tree (map (Times c) es) ≡ map (multiple (number_of k c)) (map tree es)
  each_times c [] = refl
  each_times c (e ∷ es) = ap₂ (λ x xs. x ∷ xs) (tree-Times k c e) (each_times c es)

  pub next_spread : (c : Num) (es : List Expr) → IsOver (Times c (Sum es)) → IsOver (Sum (map (Times c) es)) →
      Next (Times c (Sum es)) (Sum (map (Times c) es)) rule.Spread
  next_spread c es h l =
      record {
        instance_of = carried (tree-Times k c (Sum es) ∙ ap (multiple (number_of k c)) (tree-Sum k es))
            (tree-Sum k (map (Times c) es) ∙ ap (sum_all (field_of k)) (each_times c es)) (is_spread (number_of k c) (map tree es));
        over = (h, l);
      }
