-- Two tables that meet the definition of the standard basis, through one weight, agree.
use Rattle.std.specs.Prelude.{ℕ, zero, suc, ◌≡◌, ◌⊎◌, ◌<◌, ◌≤◌, ◌+◌, ◌-◌, List, [], ◌∷◌, ◌++◌, length, get_or, true, false, cond, nat_lt, nat_eq}
use mathlib.Core.Path.{sym, refl, ap, ap₂, ◌∙◌, subst}
use mathlib.Core.Logic.{inl, inr}
use native.Mathlib.Omega.{arith}
use native.Mathlib.Decide.{ℕ_discrete, dec_le, dec_lt}
use Rattle.math_fields.specs.Field.{Field}
use Rattle.math_linear.specs.Vector.{Vector}
use Rattle.math_algebra.specs.Tree.{gen, bracket_of, odd, parity_sum, Presentation, generator, IsOver, left, right}
use Rattle.math_algebra.proofs.Freely.{DerivesFreely}
use Rattle.math_algebra.specs.Derives.{Expression}
use Rattle.math_algebra.proofs.Freely.DerivesFreely.{back, then}
use Rattle.math_algebra.specs.Table.{Table, Symbol, of_generator, of_pair, Basis, basis_at, parity_at, IsOf, weight_at}
use Rattle.math_algebra.proofs.Within.{along, within_derives}
use Rattle.math_algebra.specs.Standard.{combined, IsCombination, IsStandardNext, IsStandard}
use Rattle.math_linear.specs.Lists.{joined}
use Rattle.math_algebra.specs.Symbols.{is_odd, symbols, symbol_at, symbol_parity, symbol_tree, IsSymbol, no_symbol, symbols_of}
use Rattle.math_algebra.specs.Symbols.IsSymbol.{is_generator, is_pair}
use Rattle.math_algebra.specs.Extending.{Agree}
use Rattle.math_algebra.specs.Standard.IsStandard.{standard_start, standard_next}
use Rattle.math_linear.proofs.Closed.{Same, same_below}
use Rattle.math_algebra.proofs.Derived.{of_path}
use Rattle.math_values.proofs.SymbolLists.{place_symbol}
use Rattle.math_standard.proofs.NewPlaces.{trees_same}
use Rattle.math_standard.proofs.SameCombinations.{symbol_over, same_vector}

pub split_add : (n c k : ℕ) → k < n + c → (k < n) ⊎ ((i : ℕ) × (i < c) × (k ≡ n + i))
split_add n c k l = go (dec_lt k n)
  where
    go : Dec (k < n) → (k < n) ⊎ ((i : ℕ) × (i < c) × (k ≡ n + i))
    go (yes h) = inl h
    go (no h) = inr (k - n, omega arith, omega arith)

pub joined_same : (n : ℕ) (f g : ℕ → List Symbol) → ((i : ℕ) → i < n → f i ≡ g i) → joined n f ≡ joined n g
unfolding joined
joined_same zero f g h = refl
joined_same (suc n) f g h = ap₂ (λ a b. a ++ b) (joined_same n f g (λ i l. h i (omega arith))) (h n (omega arith))

pub record Twins (K : Field) (P : Presentation K.Carrier) (T S : Table K) (tree twig : ℕ → Expression K) : Type 0 where
  pub agree : Agree K P T S
  pub trees : (i : ℕ) → i < length T.basis → tree i ≡ twig i
  pub positive : (i : ℕ) → i < length T.basis → 0 < weight_at T i
  pub within : (i : ℕ) → i < length T.basis → weight_at T i ≤ T.weight
  pub over : (i : ℕ) → i < length T.basis → IsOver P (tree i)

abbrev pair_if : Basis → Basis → ℕ → ℕ → ℕ → List Symbol
pair_if b c w i j = cond (cond (nat_eq (b.weight + c.weight) (suc w)) (cond (nat_lt i j) true (cond (nat_eq i j) (is_odd b.parity) false)) false)
    (of_pair i j ∷ []) []

module _ (K : Field) (P : Presentation K.Carrier) (T S : Table K) (tree twig : ℕ → Expression K) (twins : Twins K P T S tree twig) where
  pub symbols_same : symbols P T ≡ symbols P S
  unfolding symbols symbols_of
  symbols_same =
      ap₂ (λ a b. a ++ b)
      (ap (λ w. joined (length P.generators) (λ g. cond (nat_eq (generator P g).weight (suc w)) (of_generator g ∷ []) [])) twins.agree.weight)
      (joined_same (length T.basis) _ _ (λ i l. joined_same (length T.basis) (λ j. pair_if (basis_at T i) (basis_at T j) T.weight i j)
      (λ j. pair_if (basis_at S i) (basis_at S j) S.weight i j) (λ j k. pair i j l k))
      ∙ ap (λ m. joined m (λ i. joined m (λ j. pair_if (basis_at S i) (basis_at S j) S.weight i j))) twins.agree.more)
    where
      pair : (i j : ℕ) → i < length T.basis → j < length T.basis → pair_if (basis_at T i) (basis_at T j) T.weight i j ≡
          pair_if (basis_at S i) (basis_at S j) S.weight i j
      pair i j l k =
          ap₂ (λ b c. pair_if b c T.weight i j) (twins.agree.basis i l) (twins.agree.basis j k) ∙
          ap (λ w. pair_if (basis_at S i) (basis_at S j) w i j) twins.agree.weight

  tree_same : (x : Symbol) → IsSymbol P T x → symbol_tree tree x ≡ symbol_tree twig x
  tree_same _ (is_generator g l w) = refl
  tree_same _ (is_pair i j l k w r) = ap₂ bracket_of (twins.trees i l) (twins.trees j k)

  parity_same : (x : Symbol) → IsSymbol P T x → symbol_parity P T x ≡ symbol_parity P S x
  parity_same _ (is_generator g l w) = refl
  parity_same _ (is_pair i j l k w r) = ap₂ (λ b c. parity_sum b.parity c.parity) (twins.agree.basis i l) (twins.agree.basis j k)

  at_same : (s : ℕ) → symbol_at P T s ≡ symbol_at P S s
  at_same s = ap (λ l. get_or l s no_symbol) symbols_same

  pub symbol_same : (s : ℕ) → s < length (symbols P T) → symbol_tree tree (symbol_at P T s) ≡ symbol_tree twig (symbol_at P S s)
  symbol_same s l = tree_same (symbol_at P T s) (place_symbol K P T s l) ∙ ap (symbol_tree twig) (at_same s)

  combination_there : (s : ℕ) → s < length (symbols P T) → IsCombination K P T tree s → IsCombination K P S twig s
  combination_there s l c = record {
    what = c.what;
    equal =
        along K P (sym (symbol_same s l)) (trees_same K P (λ t. symbol_tree tree (symbol_at P T t)) (λ t. symbol_tree twig (symbol_at P S t)) s c.what
        (λ t k. sym (symbol_same t (omega arith)))) c.equal;
  }

  combination_back : (s : ℕ) → s < length (symbols P T) → IsCombination K P S twig s → IsCombination K P T tree s
  combination_back s l c = record {
    what = c.what;
    equal =
        along K P (symbol_same s l) (sym (trees_same K P (λ t. symbol_tree tree (symbol_at P T t)) (λ t. symbol_tree twig (symbol_at P S t)) s c.what
        (λ t k. sym (symbol_same t (omega arith))))) c.equal;
  }

  module _ (rel_over : (k : ℕ) → k < length P.relations → IsOver P (left P k) × IsOver P (right P k)) (T' S' : Table K)
      (tree' twig' : ℕ → Expression K) (next : IsStandardNext K P T T' tree tree') (other : IsStandardNext K P S S' twig twig') where
    abbrev N : ℕ
    N = length T.basis

    long : length (symbols P T) ≡ length (symbols P S)
    long = ap length symbols_same

    slots : (i : ℕ) → Same next.count next.slot other.count other.slot i
    slots i =
        same_below next.count other.count next.slot other.slot next.fresh.ascend other.fresh.ascend
        (λ i l. let f = next.fresh.there i l in other.fresh.all (next.slot i) (omega (arith, f.0, long)) (λ c. f.1 (combination_back (next.slot i) f.0 c)))
        (λ i l. let f = other.fresh.there i l in
        let k : other.slot i < length (symbols P T) = omega (arith, f.0, long) in
        next.fresh.all (other.slot i) k (λ c. f.1 (combination_there (other.slot i) k c)))
        (suc i) i (omega arith)

    counts : next.count ≡ other.count
    counts = elim (dec_lt next.count other.count) [
      | yes l ↦ (let h = ((slots next.count).1 l).0 in absurd (omega arith))
      | no l ↦ elim (dec_lt other.count next.count) [ yes k ↦ (let h = ((slots other.count).0 k).0 in absurd (omega arith)) | no k ↦ omega arith ]
    ]

    slot_same : (i : ℕ) → i < next.count → next.slot i ≡ other.slot i
    slot_same i l = ((slots i).0 l).1

    more' : length T'.basis ≡ length S'.basis
    more' = next.basis.more ∙ ap₂ (λ a b. a + b) twins.agree.more counts ∙ sym other.basis.more

    weight' : T'.weight ≡ S'.weight
    weight' = next.basis.weight ∙ ap (λ w. suc w) twins.agree.weight ∙ sym other.basis.weight

    basis' : (k : ℕ) → k < length T'.basis → basis_at T' k ≡ basis_at S' k
    basis' k l = go (split_add N next.count k (omega (arith, l, next.basis.more)))
      where
        go : (k < N) ⊎ ((i : ℕ) × (i < next.count) × (k ≡ N + i)) → basis_at T' k ≡ basis_at S' k
        go (inl h) = next.basis.old k h ∙ twins.agree.basis k h ∙ sym (other.basis.old k (omega (arith, h, twins.agree.more)))
        go (inr f) =
            ap (basis_at T') f.2 ∙ next.basis.added f.0 f.1 ∙ basis_same (next.slot f.0) (next.fresh.there f.0 f.1).0
            ∙ ap (λ s. new_basis S s) (slot_same f.0 f.1) ∙ sym (other.basis.added f.0 (omega (arith, f.1, counts)))
            ∙ ap (λ w. basis_at S' (w + f.0)) (sym twins.agree.more) ∙ ap (basis_at S') (sym f.2)
          where
            new_basis : Table K → ℕ → Basis
            new_basis T s = record { weight = suc T.weight; parity = symbol_parity P T (symbol_at P T s); symbol = symbol_at P T s }

            basis_same : (s : ℕ) → s < length (symbols P T) → new_basis T s ≡ new_basis S s
            basis_same s l =
                ap₂ (λ w p. record { weight = suc w; parity = p; symbol = symbol_at P T s }) twins.agree.weight
                (parity_same (symbol_at P T s) (place_symbol K P T s l))
                ∙ ap (λ x. record { weight = suc S.weight; parity = symbol_parity P S x; symbol = x }) (at_same s)

    trees' : (k : ℕ) → k < length T'.basis → tree' k ≡ twig' k
    trees' k l = go (split_add N next.count k (omega (arith, l, next.basis.more)))
      where
        go : (k < N) ⊎ ((i : ℕ) × (i < next.count) × (k ≡ N + i)) → tree' k ≡ twig' k
        go (inl h) = next.old_tree k h ∙ twins.trees k h ∙ sym (other.old_tree k (omega (arith, h, twins.agree.more)))
        go (inr f) =
            ap tree' f.2 ∙ next.new_tree f.0 f.1 ∙ symbol_same (next.slot f.0) (next.fresh.there f.0 f.1).0
            ∙ ap (λ s. symbol_tree twig (symbol_at P S s)) (slot_same f.0 f.1) ∙ sym (other.new_tree f.0 (omega (arith, f.1, counts)))
            ∙ ap (λ w. twig' (w + f.0)) (sym twins.agree.more) ∙ ap twig' (sym f.2)

    weight_fresh : (k : ℕ) → N ≤ k → k < length T'.basis → weight_at T' k ≡ suc T.weight
    weight_fresh k h l = go (split_add N next.count k (omega (arith, l, next.basis.more)))
      where
        go : (k < N) ⊎ ((i : ℕ) × (i < next.count) × (k ≡ N + i)) → weight_at T' k ≡ suc T.weight
        go (inl f) = absurd (omega arith)
        go (inr f) = ap (weight_at T') f.2 ∙ ap (λ b. b.weight) (next.basis.added f.0 f.1)

    weight_old : (k : ℕ) → k < N → weight_at T' k ≡ weight_at T k
    weight_old k l = ap (λ b. b.weight) (next.basis.old k l)

    positive' : (k : ℕ) → k < length T'.basis → 0 < weight_at T' k
    positive' k l = elim (dec_lt k N) [ yes h ↦ omega (arith, weight_old k h, twins.positive k h) | no h ↦ omega (arith, weight_fresh k (omega arith) l) ]

    within' : (k : ℕ) → k < length T'.basis → weight_at T' k ≤ T'.weight
    within' k l = elim (dec_lt k N) [
      | yes h ↦ omega (arith, weight_old k h, twins.within k h, next.basis.weight)
      | no h ↦ omega
          (arith, weight_fresh k (omega arith) l, next.basis.weight)
    ]

    over' : (k : ℕ) → k < length T'.basis → IsOver P (tree' k)
    over' k l = go (split_add N next.count k (omega (arith, l, next.basis.more)))
      where
        go : (k < N) ⊎ ((i : ℕ) × (i < next.count) × (k ≡ N + i)) → IsOver P (tree' k)
        go (inl h) = subst (IsOver P) (sym (next.old_tree k h)) (twins.over k h)
        go (inr f) =
            subst (λ k. IsOver P (tree' k)) (sym f.2)
            (subst (IsOver P) (sym (next.new_tree f.0 f.1)) (symbol_over K P T tree twins.over (symbol_at P T (next.slot f.0))
            (place_symbol K P T (next.slot f.0) (next.fresh.there f.0 f.1).0)))

    -- a vector of the other table, seen in this one
    of_other : (x : Vector K) → IsOf K S' (suc S.weight) x → IsOf K T' (suc T.weight) x
    of_other x h k = go (h k)
      where
        go : (x k ≡ K.nought) ⊎ ((k < length S'.basis) × (weight_at S' k ≡ suc S.weight)) →
            (x k ≡ K.nought) ⊎ ((k < length T'.basis) × (weight_at T' k ≡ suc T.weight))
        go (inl e) = inl e
        go (inr f) =
            let l : k < length T'.basis = omega (arith, f.0, more') in
            inr (l, ap (λ b. b.weight) (basis' k l) ∙ f.1 ∙ ap (λ w. suc w) (sym twins.agree.weight))

    combined_other : (x : Vector K) → combined K twig' (length S'.basis) x ≡ combined K tree' (length T'.basis) x
    combined_other x = ap (λ w. combined K twig' w x) (sym more') ∙ trees_same K P tree' twig' (length T'.basis) x (λ k l. sym (trees' k l))

    derived_same : (e : Expression K) (x y : Vector K) → IsOf K T' (suc T.weight) x → IsOf K S' (suc S.weight) y →
        DerivesFreely K P e (combined K tree' (length T'.basis) x) → DerivesFreely K P e (combined K twig' (length S'.basis) y) → x ≡ y
    derived_same e x y h k p q =
        same_vector K P rel_over T T' tree tree' twins.over next x y twins.within h (of_other y k) (then (back p) (then q (of_path K P _ _ (combined_other y))))

    images' : (g : ℕ) → g < length P.generators → T'.image g ≡ S'.image g
    images' g l = go (dec_le (generator P g).weight T.weight) (ℕ_discrete (generator P g).weight (suc T.weight))
      where
        go : Dec ((generator P g).weight ≤ T.weight) → Dec ((generator P g).weight ≡ suc T.weight) → T'.image g ≡ S'.image g
        go (yes h) d = next.keeps.images g l h ∙ twins.agree.images g l ∙ sym (other.keeps.images g l (omega (arith, h, twins.agree.weight)))
        go (no h) (yes d) =
            let d' : (generator P g).weight ≡ suc S.weight = omega (arith, d, twins.agree.weight) in
            derived_same (gen g) _ _ (next.image_of g l d) (other.image_of g l d') (within_derives K P (next.images g l d))
            (within_derives K P (other.images g l d'))
        go (no h) (no d) = next.keeps.past g l (omega arith) ∙ sym (other.keeps.past g l (omega (arith, h, d, twins.agree.weight)))

    entries' : (i j : ℕ) → i < length T'.basis → j < length T'.basis → (i < j) ⊎ ((i ≡ j) × (parity_at T' i ≡ odd)) →
        weight_at T' i + weight_at T' j ≤ T'.weight → T'.entry i j ≡ S'.entry i j
    entries' i j l k r w = go (dec_lt i N) (dec_lt j N)
      where
        regular : i < N → (i < j) ⊎ ((i ≡ j) × (parity_at T' i ≡ odd)) → (i < j) ⊎ ((i ≡ j) × (parity_at T i ≡ odd))
        regular p (inl a) = inl a
        regular p (inr a) = inr (a.0, sym (ap (λ b. b.parity) (next.basis.old i p)) ∙ a.1)

        regular' : i < N → (i < j) ⊎ ((i ≡ j) × (parity_at T' i ≡ odd)) → (i < j) ⊎ ((i ≡ j) × (parity_at S i ≡ odd))
        regular' p (inl a) = inl a
        regular' p (inr a) = inr (a.0, sym (ap (λ b. b.parity) (twins.agree.basis i p)) ∙ sym (ap (λ b. b.parity) (next.basis.old i p)) ∙ a.1)

        inside : i < N → j < N → Dec (weight_at T i + weight_at T j ≤ T.weight) → T'.entry i j ≡ S'.entry i j
        inside p q (yes h) =
            next.keeps.entries i j p q (regular p r) h ∙ twins.agree.entries i j p q (regular p r) h
            ∙ sym (other.keeps.entries i j (omega (arith, p, twins.agree.more)) (omega (arith, q, twins.agree.more)) (regular' p r)
            (omega (arith, h, ap (λ b. b.weight) (twins.agree.basis i p), ap (λ b. b.weight) (twins.agree.basis j q), twins.agree.weight)))
        inside p q (no h) =
            let d : weight_at T i + weight_at T j ≡ suc T.weight = omega (arith, h, w, weight_old i p, weight_old j q, next.basis.weight) in
            let d' : weight_at S i + weight_at S j ≡ suc S.weight = omega (
              arith,
              d,
              ap (λ b. b.weight) (twins.agree.basis i p),
              ap (λ b. b.weight) (twins.agree.basis j q),
              twins.agree.weight,
            ) in
            let p' : i < length S.basis = omega (arith, p, twins.agree.more) in
            let q' : j < length S.basis = omega (arith, q, twins.agree.more) in
            derived_same (bracket_of (tree i) (tree j)) _ _ (next.entry_of i j p q (regular p r) d) (other.entry_of i j p' q' (regular' p r) d')
            (within_derives K P (next.entries i j p q (regular p r) d))
            (then (of_path K P _ _ (ap₂ bracket_of (twins.trees i p) (twins.trees j q))) (within_derives K P (other.entries i j p' q' (regular' p r) d')))

        go : Dec (i < N) → Dec (j < N) → T'.entry i j ≡ S'.entry i j
        go (yes p) (yes q) = inside p q (dec_le (weight_at T i + weight_at T j) T.weight)
        go (no p) d = absurd (omega (arith, w, weight_fresh i (omega arith) l, positive' j k, next.basis.weight))
        go (yes p) (no q) = absurd (omega (arith, w, weight_fresh j (omega arith) k, positive' i l, next.basis.weight))

    pub twins_next : Twins K P T' S' tree' twig'
    twins_next = record {
      agree = record { weight = weight'; more = more'; basis = basis'; images = images'; entries = entries' };
      trees = trees';
      positive = positive';
      within = within';
      over = over';
    }

pub standard_twins : (K : Field) (P : Presentation K.Carrier) → ((k : ℕ) → k < length P.relations → IsOver P (left P k) × IsOver P (right P k)) →
    (T S : Table K) (tree twig : ℕ → Expression K) → IsStandard K P T tree → IsStandard K P S twig → T.weight ≡ S.weight → Twins K P T S tree twig
standard_twins K P ro T S tree twig (standard_start _ e) (standard_start _ f) w = record {
  agree = record {
    weight = w;
    more = e.basis ∙ sym f.basis;
    basis = λ i l. absurd (omega (arith, l, e.basis));
    images = λ g l. e.images g l ∙ sym (f.images g l);
    entries = λ i j l k r h. absurd (omega (arith, l, e.basis));
  };
  trees = λ i l. absurd (omega (arith, l, e.basis));
  positive = λ i l. absurd (omega (arith, l, e.basis));
  within = λ i l. absurd (omega (arith, l, e.basis));
  over = λ i l. absurd (omega (arith, l, e.basis));
}
standard_twins K P ro T S tree twig (standard_start _ e) (standard_next b next) w = absurd (omega (arith, w, e.weight, next.basis.weight))
standard_twins K P ro T S tree twig (standard_next b next) (standard_start _ e) w = absurd (omega (arith, w, e.weight, next.basis.weight))
standard_twins K P ro T' S' tree' twig' (standard_next {T = T} {tree = tree} b next) (standard_next {T = S} {tree = twig} c other) w =
    twins_next K P T S tree twig (standard_twins K P ro T S tree twig b c (omega (arith, w, next.basis.weight, other.basis.weight))) ro T' S' tree'
    twig' next other
