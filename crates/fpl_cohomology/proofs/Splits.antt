-- The pairs of a weight stand behind its generators.
use Rattle.std.proofs.Common.{◌≡◌, ◌≤◌, ◌+◌, ◌++◌, ℕ, zero, suc, List, [], ◌∷◌, length, drop, cond, Bool, true, false, nat_eq, refl, ap, ◌∙◌, arith}
use Rattle.math_linear.specs.Lists.{joined}
use Rattle.math_algebra.specs.Table.{Symbol, of_generator, of_pair}
use Rattle.math_algebra.specs.Symbols.{symbols_of, generators_of, pairs_of, is_pair_of, place_of}
use Rattle.math_algebra.specs.Tree.{generator}
use Rattle.fpl_table.specs.Plain.{PlainTable, table_in, shell_in}
use Rattle.plain_cohomology.specs.Plain.{pairs}
use Rattle.fpl_cohomology.specs.Pairs.{leading_generators, IsSplit}

one_more : (xs : List Symbol) (k g i j : ℕ) → place_of (of_pair i j) xs ≡ k + place_of (of_pair i j) (drop k xs) →
    place_of (of_pair i j) (of_generator g ∷ xs) ≡ suc k + place_of (of_pair i j) (drop k xs)
unfolding place_of
one_more xs k g i j e = ap suc e ∙ (omega arith)

pub split_leads : (xs : List Symbol) → IsSplit xs (leading_generators xs)
split_leads [] = record { within = omega arith; places = λ i j. omega arith }
split_leads (of_pair i j ∷ xs) = record { within = omega arith; places = λ i j. omega arith }
split_leads (of_generator g ∷ xs) =
    let r = split_leads xs in
    record { within = (let l = r.within in omega arith); places = λ i j. one_more xs (leading_generators xs) g i j (r.places i j) }

-- lists that begin with no generator
no_lead_append : (xs ys : List Symbol) → leading_generators xs ≡ 0 → leading_generators ys ≡ 0 → leading_generators (xs ++ ys) ≡ 0
no_lead_append [] ys h k = k
no_lead_append (of_pair i j ∷ xs) ys h k = refl
no_lead_append (of_generator g ∷ xs) ys h k = absurd (omega arith)

no_lead_joined : (n : ℕ) (f : ℕ → List Symbol) → ((i : ℕ) → leading_generators (f i) ≡ 0) → leading_generators (joined n f) ≡ 0
unfolding joined
no_lead_joined zero f h = refl
no_lead_joined (suc n) f h = no_lead_append (joined n f) (f n) (no_lead_joined n f h) (h n)

no_lead_if : (b : Bool) (i j : ℕ) → leading_generators (cond b (of_pair i j ∷ []) []) ≡ 0
no_lead_if true i j = refl
no_lead_if false i j = refl

-- lists of generators
abbrev AreGenerators : List Symbol → Type 0
AreGenerators [] = Unit {0}
AreGenerators (of_generator g ∷ xs) = AreGenerators xs
AreGenerators (of_pair i j ∷ xs) = ⊥

are_append : (xs ys : List Symbol) → AreGenerators xs → AreGenerators ys → AreGenerators (xs ++ ys)
are_append [] ys h k = k
are_append (of_generator g ∷ xs) ys h k = are_append xs ys h k
are_append (of_pair i j ∷ xs) ys h k = absurd h

are_joined : (n : ℕ) (f : ℕ → List Symbol) → ((i : ℕ) → AreGenerators (f i)) → AreGenerators (joined n f)
unfolding joined
are_joined zero f h = tt
are_joined (suc n) f h = are_append (joined n f) (f n) (are_joined n f h) (h n)

are_if : (b : Bool) (g : ℕ) → AreGenerators (cond b (of_generator g ∷ []) [])
are_if true g = tt
are_if false g = tt

behind : (xs ys : List Symbol) → AreGenerators xs → leading_generators ys ≡ 0 → drop (leading_generators (xs ++ ys)) (xs ++ ys) ≡ ys
behind [] ys h k = ap (λ n. drop n ys) k
behind (of_generator g ∷ xs) ys h k = behind xs ys h k
behind (of_pair i j ∷ xs) ys h k = absurd h

pub pairs_behind : (T : PlainTable) (w : ℕ) →
    drop (leading_generators (symbols_of (shell_in T.kind T) (table_in T.kind T) w)) (symbols_of (shell_in T.kind T) (table_in T.kind T) w) ≡ pairs T w
unfolding symbols_of
pairs_behind T w =
    behind (generators_of (shell_in T.kind T) w) (pairs_of (table_in T.kind T) w)
    (are_joined (length T.generators) _ (λ g. are_if (nat_eq (generator (shell_in T.kind T) g).weight w) g))
    (no_lead_joined (length T.basis) _ (λ i. no_lead_joined (length T.basis) _ (λ j. no_lead_if (is_pair_of (table_in T.kind T) w i j) i j)))

-- behind the first k
pub length_behind : (xs : List Symbol) (k : ℕ) → k ≤ length xs → k + length (drop k xs) ≡ length xs
length_behind xs zero l = omega arith
length_behind [] (suc k) l = absurd (omega arith)
length_behind (x ∷ xs) (suc k) l = (let e = length_behind xs k (omega arith) in omega arith)
