-- The expressions of basis elements are brackets of generators alone: their weights, and how many places they have.
use Rattle.std.proofs.Common.{◌≡◌, ◌<◌, ◌≤◌, ◌+◌, ◌-◌, ◌^◌, ◌++◌, inl, inr, ℕ, zero, suc, List, [], ◌∷◌, true, cond, nat_eq, length, get_or, refl, ap, ap₂, sym, subst, ◌∙◌, arith, All, length-append}
use Rattle.std.proofs.lemmas.List.{get_or-map, length-map}
use Rattle.std.proofs.lemmas.List.Elements.{All-append, All-get_or}
use Rattle.math_linear.specs.Vector.{place}
use Rattle.math_linear.proofs.Vectors.{place_same}
use Rattle.fpl_numbers.specs.declared.number.Num.{Num}
use Rattle.fpl_numbers.specs.Numbers.{IsElement, residue}
use Rattle.fpl_numbers.specs.Kinds.{field_of}
use Rattle.math_algebra.specs.Tree.{Tree, gen, none, sum_of, multiple, bracket_of, generator}
use Rattle.math_algebra.specs.Degrees.{Degree, any, exact, mixed, of_both, of_bracket, weight_of}
use Rattle.math_algebra.specs.Table.{Symbol, of_generator, of_pair, Basis, no_basis, IsOf, val}
use Rattle.math_algebra.proofs.Degrees.{WeightMeans, weight_means}
use Rattle.math_values.proofs.Relations.{val_of}
use Rattle.fpl_model.specs.declared.expr.Expr.{Expr}
use Rattle.fpl_model.specs.declared.expr.Expr.TheVariants.{Zero, Sum, Times, Br}
use Rattle.fpl_model.specs.declared.presentation.Presentation.{Presentation}
use Rattle.fpl_model.specs.Meaning.{plain, in_field, tree_in, presentation_in}
use Rattle.fpl_model.specs.Sound.{IsSound, IsTerm, count_tree}
use Rattle.fpl_model.proofs.Plain.{plain-Zero, plain-Sum, plain-Times, plain-Br}
use Rattle.fpl_table.specs.Plain.{PlainTable, plain_basis, table_in}
use Rattle.fpl_table.specs.Shape.{IsBefore, HasShape, grown, basis_trees, symbol_tree_in}
use Rattle.fpl_table.proofs.PushedTrees.{length-grown}
use Rattle.plain_tables.proofs.Holding.{sound_is_sound}
use Rattle.plain_tables.proofs.Trees.{tree_printed}
use Rattle.fpl_why.proofs.Axioms.{term_over}
use Rattle.fpl_forms.specs.Ledgers.{PlainLedger, IsSoundLedger, IsExpr}
use Rattle.fpl_forms.proofs.Trees.{over-Zero, over-Sum, over-Times, over-Br}
use Rattle.fpl_forms.proofs.Next.{element}
use Rattle.fpl_facts.specs.Axioms.{jacobi_sum}
use Rattle.fpl_facts.proofs.NextAxioms.{all_two}
use Rattle.plain_facts.specs.Values.{value_in}
use Rattle.fpl_table_facts.specs.declared.known.Known.{Known}
use Rattle.fpl_table_facts.specs.Known.{IsKnown, is_next, weight_in}
use Rattle.fpl_table_facts.specs.Rows.{IsDue}
use Rattle.fpl_table_facts.proofs.Levels.{basis_length, atom_over, atom_tree, whole}

-- a bracket of generators alone
abbrev IsMonomial : Tree Num → Type 0
IsMonomial (gen g) = Unit {0}
IsMonomial none = ⊥
IsMonomial (sum_of es) = ⊥
IsMonomial (multiple c e) = ⊥
IsMonomial (bracket_of a b) = IsMonomial a × IsMonomial b

symbol_monomial : (ts : List (Tree Num)) (x : Symbol) → All IsMonomial ts → IsBefore (length ts) x → IsMonomial (symbol_tree_in ts x)
symbol_monomial ts (of_generator g) h b = tt
symbol_monomial ts (of_pair i j) h b = (All-get_or IsMonomial ts i none b.0 h, All-get_or IsMonomial ts j none b.1 h)

one_more : (ts : List (Tree Num)) (t : Tree Num) → All IsMonomial ts → IsMonomial t → All IsMonomial (ts ++ t ∷ [])
one_more ts t h m = All-append IsMonomial ts (t ∷ []) h only
  where
    only : All IsMonomial (t ∷ [])
    only zero d lt = m
    only (suc i) d lt = absurd (omega (arith, lt))

grown_monomials : (ts : List (Tree Num)) (bs : List Basis) → All IsMonomial ts →
    ((q : ℕ) → q < length bs → IsBefore (length ts + q) (get_or bs q no_basis).symbol) → All IsMonomial (grown ts bs)
unfolding grown
grown_monomials ts [] h b = h
grown_monomials ts (x ∷ bs) h b =
    let t = symbol_tree_in ts x.symbol in
    let first : length ts + 0 ≡ length ts = omega arith in
    let size : length (ts ++ t ∷ []) ≡ length ts + 1 = length-append ts (t ∷ []) in
    grown_monomials (ts ++ t ∷ []) bs
    (one_more ts t h (symbol_monomial ts x.symbol h (subst (λ m. IsBefore m x.symbol) first (b zero (omega arith)))))
    (λ q lt. let e : length ts + suc q ≡ length (ts ++ t ∷ []) + q = omega (arith, size) in
    subst (λ m. IsBefore m (get_or bs q no_basis).symbol) e (b (suc q) (omega (arith, lt))))

basis_monomials : (T : PlainTable) → HasShape T → All IsMonomial (basis_trees T)
basis_monomials T h =
    grown_monomials [] T.basis (λ i d lt. absurd (omega (arith, lt)))
    (λ q lt. let e : q ≡ 0 + q = omega arith in subst (λ m. IsBefore m (get_or T.basis q no_basis).symbol) e (h.earlier q lt))

module _ (p : Presentation) (sound : IsSound p) where
  abbrev IsTermIn : Tree Num → Type 0
  IsTermIn t = IsTerm p.field (length p.generators) t

  abbrev plain_weight : Tree Num → Degree ℕ
  plain_weight t = weight_of (presentation_in p) (in_field p.field t)

  record HasWeight (t : Tree Num) : Type 0 where
    weight : ℕ
    is : plain_weight t ≡ exact weight
    few : count_tree t ≤ weight

  monomial_weight : (t : Tree Num) → IsMonomial t → IsTermIn t → HasWeight t
  unfolding weight_of
  monomial_weight (gen g) m h =
      let long : length (presentation_in p).generators ≡ length p.generators = length-map p.generators _ in
      let from = h.0 in
      let to = h.1 in
      let some = (sound_is_sound p sound).positive (g - 1) (omega (arith, from, to, long)) in
      record { weight = (generator (presentation_in p) (g - 1)).weight; is = refl; few = omega (arith, some) }
  monomial_weight none m h = absurd m
  monomial_weight (sum_of es) m h = absurd m
  monomial_weight (multiple c e) m h = absurd m
  monomial_weight (bracket_of a b) m h =
      let x = monomial_weight a m.0 h.0 in
      let y = monomial_weight b m.1 h.1 in
      let fx = x.few in
      let fy = y.few in
      record { weight = x.weight + y.weight; is = ap₂ (of_bracket (λ a b. a + b)) x.is y.is; few = omega (arith, fx, fy) }

-- expressions with their weights and a bound for their places
module _ (p : Presentation) where
  pub record IsHeavy (e : Expr) (w c : ℕ) : Type 0 where
    pub over : IsExpr p e
    pub few : count_tree (plain e) ≤ c
    pub weight : weight_in p e ≡ exact w

  heavy_Br : (a b : Expr) (v w c d : ℕ) → IsHeavy a v c → IsHeavy b w d → IsHeavy (Br a b) (v + w) (c + d)
  unfolding weight_of
  heavy_Br a b v w c d h l =
      let fh = h.few in
      let fl = l.few in
      record {
        over = over-Br p a b h.over l.over;
        few = subst (λ t. count_tree t ≤ c + d) (sym (plain-Br a b)) (omega (arith, fh, fl));
        weight = ap (λ t. weight_of (presentation_in p) (in_field p.field t)) (plain-Br a b) ∙ ap₂ (of_bracket (λ a b. a + b)) h.weight l.weight;
      }

  heavy_Times : (x : Num) (e : Expr) (w c : ℕ) → IsElement p.field x → IsHeavy e w c → IsHeavy (Times x e) w c
  unfolding weight_of
  heavy_Times x e w c is h = record {
    over = over-Times p x e is h.over;
    few = subst (λ t. count_tree t ≤ c) (sym (plain-Times x e)) h.few;
    weight = ap (λ t. weight_of (presentation_in p) (in_field p.field t)) (plain-Times x e) ∙ h.weight;
  }

  both_same : (w : ℕ) → of_both nat_eq (exact w) (of_both nat_eq (exact w) any) ≡ exact w
  both_same w = let e : nat_eq w w ≡ true = grind arith in ap (λ b. cond b (exact w) mixed) e

  heavy_two : (e f : Expr) (w c d : ℕ) → IsHeavy e w c → IsHeavy f w d → IsHeavy (Sum (e ∷ f ∷ [])) w (c + d)
  unfolding weight_of
  heavy_two e f w c d h l =
      let fh = h.few in
      let fl = l.few in
      record {
        over = over-Sum p (e ∷ f ∷ []) (all_two (IsExpr p) e f h.over l.over);
        few = subst (λ t. count_tree t ≤ c + d) (sym (plain-Sum (e ∷ f ∷ []))) (omega (arith, fh, fl));
        weight = ap (λ t. weight_of (presentation_in p) (in_field p.field t)) (plain-Sum (e ∷ f ∷ []))
            ∙ ap₂ (λ a b. of_both nat_eq a (of_both nat_eq b any)) h.weight l.weight ∙ both_same w;
      }

  heavy_as : (e : Expr) (v w c : ℕ) → v ≡ w → IsHeavy e v c → IsHeavy e w c
  heavy_as e v w c q h = subst (λ v. IsHeavy e v c) q h

  heavy_due : (d : ℕ) (e : Expr) (c : ℕ) → c < 2 ^ 40 → IsHeavy e (suc d) c → IsDue p d e
  heavy_due d e c lt h =
      let few = h.few in
      let e : nat_eq (suc d) (suc d) ≡ true = grind arith in
      record { over = h.over; few = omega (arith, few, lt); weight = ap (is_next d) h.weight ∙ e }

  pub none_due : (d : ℕ) → IsDue p d Zero
  unfolding weight_of
  none_due d = record {
    over = over-Zero p;
    few = subst (λ t. count_tree t < 2 ^ 40) (sym plain-Zero) (omega arith);
    weight = ap (λ t. is_next d (weight_of (presentation_in p) (in_field p.field t))) plain-Zero;
  }

module _ (L : PlainLedger) (s : IsSoundLedger L) (k : Known) (h : IsKnown L k) where
  abbrev p : Presentation
  p = L.presentation

  abbrev T : PlainTable
  T = k.table

  abbrev at : ℕ → Expr
  at i = get_or k.basis.items i Zero

  within : (i : ℕ) → i < length k.basis.items → i < length T.basis
  within i lt = let e = basis_length h in omega (arith, lt, e)

  monomial_at : (i : ℕ) → i < length k.basis.items → IsMonomial (plain (at i))
  monomial_at i lt =
      let size : length (basis_trees T) ≡ 0 + length T.basis = length-grown [] T.basis in
      let here = within i lt in
      let same : get_or (basis_trees T) i none ≡ plain (at i) = sym (ap (λ ts. get_or ts i none) h.basis) ∙ get_or-map plain k.basis.items i Zero none lt in
      subst IsMonomial same (All-get_or IsMonomial (basis_trees T) i none (omega (arith, size, here)) (basis_monomials T h.holds.shape))

  pub value_at : (i : ℕ) → i < length k.basis.items → value_in p T (at i) ≡ place (field_of p.field) i
  value_at i lt =
      let tree : (whole h).tree i ≡ tree_in p.field (at i) =
      tree_printed p.field (presentation_in p) (table_in p.field T) (whole h).tree (whole h).standard i (within i lt) ∙ sym (atom_tree h i lt) in
      subst (λ e. val (field_of p.field) (table_in p.field T) e ≡ place (field_of p.field) i) tree
      ((whole h).facts.tree_val i (within i lt))

  weight_is : (i w : ℕ) → i < length k.basis.items → weight_in p (at i) ≡ exact w → w ≡ (plain_basis T i).weight
  weight_is i w lt e =
      let K = field_of p.field in
      let facts = (whole h).facts in
      let means = subst (λ d. WeightMeans (presentation_in p) d (tree_in p.field (at i))) e
      (weight_means (presentation_in p) (term_over p (plain (at i)) (atom_over h i lt))) in
      let of : IsOf K (table_in p.field T) w (value_in p T (at i)) =
      val_of K (table_in p.field T) (presentation_in p) facts.image_of facts.entry_of means in
      let one : value_in p T (at i) i ≡ K.unit = ap (λ v. v i) (value_at i lt) ∙ place_same K i in
      elim (of i) [
        | inl z ↦ absurd (K.unit≢nought (sym one ∙ z))
        | inr f ↦ sym f.1
      ]

  -- a basis element has its weight, and no more places than that
  pub heavy_at : (i : ℕ) → i < length k.basis.items → IsHeavy p (at i) (plain_basis T i).weight 1000
  heavy_at i lt =
      let m = monomial_weight p h.holds.sound (plain (at i)) (monomial_at i lt) (atom_over h i lt) in
      let few = m.few in
      let same = weight_is i m.weight lt m.is in
      let light = h.holds.shape.light i (within i lt) in
      let most = h.holds.shape.weight in
      record { over = atom_over h i lt; few = omega (arith, few, same, light, most); weight = m.is ∙ ap exact same }

  abbrev AreTriple : ℕ → ℕ → ℕ → Type 0
  AreTriple i j l = (plain_basis T i).weight + (plain_basis T j).weight + (plain_basis T l).weight ≡ suc T.weight

  pub triple_left : (i j l : ℕ) → i < length k.basis.items → j < length k.basis.items → l < length k.basis.items → AreTriple i j l →
      IsDue p T.weight (Br (at i) (Br (at j) (at l)))
  triple_left i j l a b c sum =
      heavy_due p T.weight _ 3000 (omega arith)
      (heavy_as p _ _ (suc T.weight) 3000 (omega (arith, sum))
      (heavy_Br p (at i) (Br (at j) (at l)) _ _ 1000 2000 (heavy_at i a) (heavy_Br p (at j) (at l) _ _ 1000 1000 (heavy_at j b) (heavy_at l c))))

  pub triple_right : (n : ℕ) → n < L.prime → (i j l : ℕ) → i < length k.basis.items → j < length k.basis.items → l < length k.basis.items → AreTriple i j l →
      IsDue p T.weight (jacobi_sum n (at i) (at j) (at l))
  triple_right n below i j l a b c sum =
      let x = heavy_as p _ _ (suc T.weight) 3000 (omega (arith, sum))
      (heavy_Br p (Br (at i) (at j)) (at l) _ _ 2000 1000 (heavy_Br p (at i) (at j) _ _ 1000 1000 (heavy_at i a) (heavy_at j b)) (heavy_at l c)) in
      let y = heavy_as p _ _ (suc T.weight) 3000 (omega (arith, sum))
      (heavy_Br p (at j) (Br (at i) (at l)) _ _ 1000 2000 (heavy_at j b) (heavy_Br p (at i) (at l) _ _ 1000 1000 (heavy_at i a) (heavy_at l c))) in
      let z = heavy_Times p (residue n) (Br (at j) (Br (at i) (at l))) (suc T.weight) 3000 (element p.field L.prime s.field s.listed n below) y in
      heavy_due p T.weight _ 6000 (omega arith)
      (heavy_two p (Br (Br (at i) (at j)) (at l)) (Times (residue n) (Br (at j) (Br (at i) (at l)))) (suc T.weight) 3000 3000 x z)
