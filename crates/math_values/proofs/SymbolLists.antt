-- Lists of symbols: where each stands, and that none stands twice.
use Rattle.std.specs.Prelude.{ℕ, zero, suc, List, [], ◌∷◌, ◌++◌, ◌≡◌, ◌⊎◌, ◌+◌, ◌-◌, ◌<◌, length, get_or, Bool, true, false, cond, nat_eq}
use mathlib.Core.Path.{sym, refl, ap, ap₂, ◌∙◌, subst}
use mathlib.Core.Logic.{inl, inr}
use native.Mathlib.Omega.{arith}
use native.Mathlib.Decide.{ℕ_discrete, dec_lt}
use Rattle.std.proofs.lemmas.List.{length-append, get_or_append_left, get_or-append-add}
use Rattle.math_fields.specs.Field.{Field}
use Rattle.math_algebra.specs.Tree.{Parity, even, odd, Presentation, generator}
use Rattle.math_algebra.specs.Table.{Table, Symbol, of_generator, of_pair, parity_at, weight_at}
use Rattle.math_linear.specs.Lists.{joined}
use Rattle.math_algebra.specs.Symbols.{is_pair_of, generators_of, pairs_of, symbols, symbols_of, no_symbol, symbol_at, same_symbol, place_of, IsSymbol}
use Rattle.math_algebra.specs.Symbols.IsSymbol.{is_generator, is_pair}

abbrev pub At : List Symbol → ℕ → Symbol → Type 0
At l k x = (k < length l) × (get_or l k no_symbol ≡ x)

abbrev pub Once : List Symbol → Type 0
Once l = (k k' : ℕ) → k < length l → k' < length l → get_or l k no_symbol ≡ get_or l k' no_symbol → k ≡ k'

at_left : (l l' : List Symbol) (k : ℕ) (x : Symbol) → At l k x → At (l ++ l') k x
at_left l l' k x h = (omega (arith, length-append l l', h.0), get_or_append_left l l' no_symbol k h.0 ∙ h.1)

at_right : (l l' : List Symbol) (k : ℕ) (x : Symbol) → At l' k x → At (l ++ l') (length l + k) x
at_right l l' k x h = (omega (arith, length-append l l', h.0), get_or-append-add l l' k no_symbol ∙ h.1)

at_either : (l l' : List Symbol) (k : ℕ) (x : Symbol) → At (l ++ l') k x → (At l k x) ⊎ ((k' : ℕ) × (At l' k' x) × (k ≡ length l + k'))
at_either l l' k x h = go (dec_lt k (length l))
  where
    go : Dec (k < length l) → (At l k x) ⊎ ((k' : ℕ) × (At l' k' x) × (k ≡ length l + k'))
    go (yes m) = inl (m, sym (get_or_append_left l l' no_symbol k m) ∙ h.1)
    go (no m) =
        let e : k ≡ length l + (k - length l) = omega arith in
        inr (
          k - length l,
          (
            omega (arith, length-append l l', h.0),
            sym (get_or-append-add l l' (k - length l) no_symbol) ∙
                ap (λ w. get_or (l ++ l') w no_symbol) (sym e) ∙ h.1,
          ),
          e,
        )

joined_at : (n : ℕ) (f : ℕ → List Symbol) (i k : ℕ) (x : Symbol) → i < n → At (f i) k x → (k' : ℕ) × At (joined n f) k' x
unfolding joined
joined_at zero f i k x l h = absurd (omega arith)
joined_at (suc n) f i k x l h = go (ℕ_discrete i n) (λ m. joined_at n f i k x m h)
  where
    go : Dec (i ≡ n) → (i < n → (k' : ℕ) × At (joined n f) k' x) → (k' : ℕ) × At (joined n f ++ f n) k' x
    go (yes e) r = (length (joined n f) + k, at_right (joined n f) (f n) k x (subst (λ w. At (f w) k x) e h))
    go (no d) r = let g = r (omega arith) in (g.0, at_left (joined n f) (f n) g.0 x g.1)

at_joined : (n : ℕ) (f : ℕ → List Symbol) (k : ℕ) (x : Symbol) → At (joined n f) k x → (i : ℕ) × (i < n) × (k' : ℕ) × At (f i) k' x
unfolding joined
at_joined zero f k x h = absurd (omega (arith, h.0))
at_joined (suc n) f k x h = go (at_either (joined n f) (f n) k x h) (at_joined n f k x)
  where
    go : (At (joined n f) k x) ⊎ ((k' : ℕ) × (At (f n) k' x) × (k ≡ length (joined n f) + k')) →
        (At (joined n f) k x → (i : ℕ) × (i < n) × (k' : ℕ) × At (f i) k' x) →
        (i : ℕ) × (i < suc n) × (k' : ℕ) × At (f i) k' x
    go (inl g) t = let r = t g in (r.0, omega (arith, r.1), r.2, r.3)
    go (inr g) t = (n, omega arith, g.0, g.1)

once_append : (l l' : List Symbol) → Once l → Once l' → ((x : Symbol) (k k' : ℕ) → At l k x → At l' k' x → ⊥) → Once (l ++ l')
once_append l l' h h' apart k k' m m' e =
    go (at_either l l' k (get_or (l ++ l') k' no_symbol) (m, e)) (at_either l l' k' (get_or (l ++ l') k' no_symbol) (m', refl))
  where
    x : Symbol
    x = get_or (l ++ l') k' no_symbol

    go : (At l k x) ⊎ ((j : ℕ) × (At l' j x) × (k ≡ length l + j)) → (At l k' x) ⊎ ((j : ℕ) × (At l' j x) × (k' ≡ length l + j)) → k ≡ k'
    go (inl a) (inl b) = h k k' a.0 b.0 (a.1 ∙ sym b.1)
    go (inl a) (inr b) = absurd (apart x k b.0 a b.1)
    go (inr a) (inl b) = absurd (apart x k' a.0 b a.1)
    go (inr a) (inr b) = a.2 ∙ ap (λ w. length l + w) (h' a.0 b.0 a.1.0 b.1.0 (a.1.1 ∙ sym b.1.1)) ∙ sym b.2

once_joined : (n : ℕ) (f : ℕ → List Symbol) → ((i : ℕ) → Once (f i)) → ((i j k k' : ℕ) (x : Symbol) → At (f i) k x → At (f j) k' x → i ≡ j) → Once (joined n f)
unfolding joined
once_joined zero f h apart = λ k k' m m' e. absurd (omega (arith, m))
once_joined (suc n) f h apart =
    once_append (joined n f) (f n) (once_joined n f h apart) (h n)
    (λ x k k' a b. let r = at_joined n f k x a in let e = apart r.0 n r.2 k' x r.3 b in absurd (omega (arith, e, r.1)))

one_if : (b : Bool) (y x : Symbol) (k : ℕ) → At (cond b (y ∷ []) []) k x → (b ≡ true) × (x ≡ y)
one_if true y x zero h = (refl, sym h.1)
one_if true y x (suc k) h = absurd (omega (arith, h.0))
one_if false y x k h = absurd (omega (arith, h.0))

if_one : (b : Bool) (y : Symbol) → b ≡ true → At (cond b (y ∷ []) []) 0 y
if_one true y e = (omega arith, refl)
if_one false y e = grind arith

once_if : (b : Bool) (y : Symbol) → Once (cond b (y ∷ []) [])
once_if true y k k' m m' e = omega (arith, m, m')
once_if false y k k' m m' e = absurd (omega (arith, m))

same_itself : (x : Symbol) → same_symbol x x ≡ true
same_itself (of_generator g) = grind arith
same_itself (of_pair i j) = grind arith

same_symbol_is : (x y : Symbol) → same_symbol x y ≡ true → x ≡ y
same_symbol_is (of_generator g) (of_generator h) e = ap of_generator (grind arith)
same_symbol_is (of_generator g) (of_pair i j) e = grind arith
same_symbol_is (of_pair i j) (of_generator g) e = grind arith
same_symbol_is (of_pair i j) (of_pair k l) e = ap₂ of_pair (grind arith) (grind arith)

pub at_place_of : (l : List Symbol) (k : ℕ) (x : Symbol) → At l k x → At l (place_of x l) x
unfolding place_of
at_place_of [] k x h = absurd (omega (arith, h.0))
at_place_of (y ∷ ys) k x h = go (same_symbol x y) refl (λ k. at_place_of ys k x)
  where
    later : same_symbol x y ≡ false → ((k : ℕ) → At ys k x → At ys (place_of x ys) x) → (k : ℕ) → At (y ∷ ys) k x → At (y ∷ ys) (suc (place_of x ys)) x
    later e t zero m = let d = subst (λ w. same_symbol x w ≡ true) (sym m.1) (same_itself x) in absurd (grind (arith, d, e))
    later e t (suc k) m = let r = t k (omega (arith, m.0), m.1) in (omega (arith, r.0), r.1)

    go : (b : Bool) → same_symbol x y ≡ b → ((k : ℕ) → At ys k x → At ys (place_of x ys) x) → At (y ∷ ys) (cond b 0 (suc (place_of x ys))) x
    go true e t = (omega arith, sym (same_symbol_is x y e))
    go false e t = later e t k h

module _ (K : Field) (P : Presentation K.Carrier) (T : Table K) where
  regular_is : (i j : ℕ) → is_pair_of T (suc T.weight) i j ≡ true → (weight_at T i + weight_at T j ≡ suc T.weight) ×
      ((i < j) ⊎ ((i ≡ j) × (parity_at T i ≡ odd)))
  regular_is i j e = go (ℕ_discrete (weight_at T i + weight_at T j) (suc T.weight)) (dec_lt i j) (ℕ_discrete i j) (parity_at T i) refl
    where
      go : Dec (weight_at T i + weight_at T j ≡ suc T.weight) → Dec (i < j) → Dec (i ≡ j) → (s : Parity) → parity_at T i ≡ s →
          (weight_at T i + weight_at T j ≡ suc T.weight) × ((i < j) ⊎ ((i ≡ j) × (parity_at T i ≡ odd)))
      go (yes a) (yes b) c s p = (a, inl b)
      go (yes a) (no b) (yes c) odd p = (a, inr (c, p))
      go (yes a) (no b) (yes c) even p = absurd (grind arith)
      go (yes a) (no b) (no c) s p = absurd (grind arith)
      go (no a) b c s p = absurd (grind arith)

  is_regular_pair : (i j : ℕ) → weight_at T i + weight_at T j ≡ suc T.weight → (i < j) ⊎ ((i ≡ j) × (parity_at T i ≡ odd)) →
      is_pair_of T (suc T.weight) i j ≡ true
  is_regular_pair i j a (inl b) = grind arith
  is_regular_pair i j a (inr b) = let e = b.0 in let f = b.1 in grind arith

  abbrev row_of_pairs : ℕ → List Symbol
  row_of_pairs i = joined (length T.basis) (λ j. cond (is_pair_of T (suc T.weight) i j) (of_pair i j ∷ []) [])

  -- each symbol stands in the list
  pub symbol_stands : (x : Symbol) → IsSymbol P T x → (k : ℕ) × At (symbols P T) k x
  unfolding symbols symbols_of
  symbol_stands _ (is_generator g l e) =
      let r = joined_at (length P.generators) (λ g. cond (nat_eq (generator P g).weight (suc T.weight)) (of_generator g ∷ []) []) g 0
      (of_generator g) l (if_one _ (of_generator g) (grind arith)) in
      (r.0, at_left (generators_of P (suc T.weight)) (pairs_of T (suc T.weight)) r.0 (of_generator g) r.1)
  symbol_stands _ (is_pair i j l m a b) =
      let r = joined_at (length T.basis) (λ j. cond (is_pair_of T (suc T.weight) i j) (of_pair i j ∷ []) []) j 0 (of_pair i j) m
      (if_one _ (of_pair i j) (is_regular_pair i j a b)) in
      let t = joined_at (length T.basis) row_of_pairs i r.0 (of_pair i j) l r.1 in
      (length (generators_of P (suc T.weight)) + t.0, at_right (generators_of P (suc T.weight)) (pairs_of T (suc T.weight)) t.0 (of_pair i j) t.1)

  in_generators : (x : Symbol) (k : ℕ) → At (generators_of P (suc T.weight)) k x → (g : ℕ) × (g < length P.generators) ×
      ((generator P g).weight ≡ suc T.weight) × (x ≡ of_generator g)
  in_generators x k h =
      let r = at_joined (length P.generators) (λ g. cond (nat_eq (generator P g).weight (suc T.weight)) (of_generator g ∷ []) []) k x h in
      let t = one_if _ (of_generator r.0) x r.2 r.3 in
      (r.0, r.1, (let e = t.0 in grind arith), t.1)

  in_row : (i : ℕ) (x : Symbol) (k : ℕ) → At (row_of_pairs i) k x → (j : ℕ) × (j < length T.basis) × (is_pair_of T (suc T.weight) i j ≡ true) ×
      (x ≡ of_pair i j)
  in_row i x k h =
      let r = at_joined (length T.basis) (λ j. cond (is_pair_of T (suc T.weight) i j) (of_pair i j ∷ []) []) k x h in
      let t = one_if _ (of_pair i r.0) x r.2 r.3 in (r.0, r.1, t.0, t.1)

  in_pairs : (x : Symbol) (k : ℕ) → At (pairs_of T (suc T.weight)) k x → (i : ℕ) × (i < length T.basis) × (j : ℕ) × (j < length T.basis) ×
      (is_pair_of T (suc T.weight) i j ≡ true) × (x ≡ of_pair i j)
  in_pairs x k h =
      let r = at_joined (length T.basis) row_of_pairs k x h in
      let t = in_row r.0 x r.2 r.3 in (r.0, r.1, t.0, t.1, t.2, t.3)

  -- what stands in the list is a symbol
  pub is_symbol : (x : Symbol) (k : ℕ) → At (symbols P T) k x → IsSymbol P T x
  unfolding symbols symbols_of
  is_symbol x k h = go (at_either (generators_of P (suc T.weight)) (pairs_of T (suc T.weight)) k x h)
    where
      go : (At (generators_of P (suc T.weight)) k x) ⊎ ((k' : ℕ) × (At (pairs_of T (suc T.weight)) k' x) ×
          (k ≡ length (generators_of P (suc T.weight)) + k')) → IsSymbol P T x
      go (inl a) = let r = in_generators x k a in subst (IsSymbol P T) (sym r.3) (is_generator r.0 r.1 r.2)
      go (inr a) = let r = in_pairs x a.0 a.1 in let t = regular_is r.0 r.2 r.4 in subst (IsSymbol P T) (sym r.5) (is_pair r.0 r.2 r.1 r.3 t.0 t.1)

  generator_injective : (g h : ℕ) → of_generator g ≡ of_generator h → g ≡ h
  generator_injective g h e = ap (λ x. elim x [ of_generator g ↦ g | of_pair i j ↦ 0 ]) e

  first_of_pair : Symbol → ℕ
  first_of_pair (of_generator g) = 0
  first_of_pair (of_pair i j) = i

  second_of_pair : Symbol → ℕ
  second_of_pair (of_generator g) = 0
  second_of_pair (of_pair i j) = j

  is_pair_symbol : Symbol → ℕ
  is_pair_symbol (of_generator g) = 0
  is_pair_symbol (of_pair i j) = 1

  -- no symbol stands twice
  pub symbols_once : Once (symbols P T)
  unfolding symbols symbols_of first_of_pair second_of_pair is_pair_symbol
  symbols_once =
      once_append (generators_of P (suc T.weight)) (pairs_of T (suc T.weight))
      (once_joined (length P.generators) _ (λ g. once_if _ (of_generator g))
      (λ g h k k' x a b. generator_injective g h (sym (one_if _ (of_generator g) x k a).1 ∙ (one_if _ (of_generator h) x k' b).1)))
      (once_joined (length T.basis) row_of_pairs
      (λ i. once_joined (length T.basis) _ (λ j. once_if _ (of_pair i j))
      (λ j l k k' x a b. ap second_of_pair (sym (one_if _ (of_pair i j) x k a).1 ∙ (one_if _ (of_pair i l) x k' b).1)))
      (λ i j k k' x a b. ap first_of_pair (sym (in_row i x k a).3 ∙ (in_row j x k' b).3)))
      (λ x k k' a b.
      let e = ap is_pair_symbol (sym (in_generators x k a).3 ∙ (in_pairs x k' b).5) in absurd (omega (arith, e)))

  -- a symbol has a place, and each place is that of its symbol
  pub number_of : (x : Symbol) → IsSymbol P T x → At (symbols P T) (place_of x (symbols P T)) x
  number_of x h = let r = symbol_stands x h in at_place_of (symbols P T) r.0 x r.1

  pub place_symbol : (s : ℕ) → s < length (symbols P T) → IsSymbol P T (symbol_at P T s)
  place_symbol s l = is_symbol (symbol_at P T s) s (l, refl)

  pub place_number : (s : ℕ) → s < length (symbols P T) → place_of (symbol_at P T s) (symbols P T) ≡ s
  place_number s l = let r = number_of (symbol_at P T s) (place_symbol s l) in symbols_once _ s r.0 l r.1
