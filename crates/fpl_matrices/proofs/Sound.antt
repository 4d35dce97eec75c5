-- What the code needs of sound matrices: bounds of the prime, rows, and matrices that it makes.
use Rattle.std.proofs.Common.{◌≡◌, ◌<◌, ◌≤◌, ◌+◌, ◌-◌, ◌*◌, ◌%◌, ℕ, List, [], ◌++◌, length, get_or, take, drop, refl, sym, ap, ap₂, ◌∙◌, subst, arith}
use Rattle.std.specs.Prelude.{true, nat_le, slice_get, Some, Result, Ok, Err, IfOk}
use Rattle.std.proofs.Math.Seq.{take-append_seam}
use Rattle.std.proofs.lemmas.Option.{get_or_from_slice_get}
use Rattle.std.proofs.lemmas.List.Elements.{All-contains}
use Rattle.std.proofs.lemmas.List.Sums.{AllPass-from_list_all}
use Rattle.std.proofs.lemmas.List.{length-map, get_or-map}
use Rattle.fpl_lanes.specs.Lanes.{AllBelow, added, multiplied}
use Rattle.fpl_numbers.specs.declared.number.Num.{Num}
use Rattle.fpl_numbers.specs.declared.number.Kind.TheVariants.{Prime}
use Rattle.fpl_numbers.specs.Numbers.{IsListed, accepted_primes}
use Rattle.fpl_scalar.proofs.ResidueRows.{added_below, multiplied_below}
use Rattle.fpl_model.specs.declared.presentation.Presentation.{Presentation}
use Rattle.fpl_model.specs.Sound.{IsTerm}
use Rattle.math_algebra.specs.Tree.{Tree, gen}
use Rattle.plain_matrices.specs.Plain.{PlainMatrix, IsSquare, size_of, row_at, turned}
use Rattle.plain_matrices.proofs.Entries.{length_row, below_row, length_turned, turned_below, length_added}
use Rattle.plain_matrices.proofs.Respect.{brackets_mean, numbers_mean}
use Rattle.fpl_matrices.specs.Matrices.{IsSound, AreAlike, bracket_of, with_numbers, Assigned, IsAssignment, numbers_in, prime_in, matrix_at}

-- the accepted primes are from 3 to 65521
pub listed_least : (p : ℕ) → IsListed p → 3 ≤ p
listed_least p h =
    let t : nat_le 3 p ≡ true = All-contains (λ q. nat_le 3 q ≡ true) accepted_primes p (AllPass-from_list_all (λ q. nat_le 3 q) accepted_primes refl) h in
    grind arith

pub listed_most : (p : ℕ) → IsListed p → p ≤ 65521
listed_most p h =
    let t : nat_le p 65521 ≡ true = All-contains (λ q. nat_le q 65521 ≡ true) accepted_primes p
    (AllPass-from_list_all (λ q. nat_le q 65521) accepted_primes refl) h in
    grind arith

-- rows
pub row_length : (x : PlainMatrix) (k : ℕ) → IsSound x → k < size_of x → length (row_at (size_of x) x.numbers k) ≡ size_of x
row_length x k s l = length_row (size_of x) x.numbers s.matrix.square.places k l

pub row_below : (x : PlainMatrix) (k : ℕ) → IsSound x → k < size_of x → AllBelow x.prime (row_at (size_of x) x.numbers k)
row_below x k s l = below_row (size_of x) x.numbers s.matrix.square.places k l x.prime s.matrix.square.below

-- the odd part negated
pub turned_sound : (x : PlainMatrix) → 0 < x.prime → IsSound x → IsSound (with_numbers x (turned x.prime x.even (size_of x) x.numbers (size_of x * size_of x)))
turned_sound x some s = record {
  matrix = record {
    listed = s.matrix.listed;
    square = record {
      places = length_turned x.prime x.even (size_of x) x.numbers (size_of x * size_of x);
      below = turned_below x.prime x.even (size_of x) x.numbers (size_of x * size_of x) some s.matrix.square.below
          (let e = s.matrix.square.places in omega arith);
    };
  };
  shape = s.shape;
}

pub bracket_sound : (x y : PlainMatrix) → IsSound x → IsSound y → AreAlike x y → IsSound (bracket_of x y)
bracket_sound x y s t a = record {
  matrix = record {
    listed = s.matrix.listed;
    square = (brackets_mean (Prime x.prime) x.prime x.even
        (size_of x) refl s.matrix.listed x.numbers y.numbers s.matrix.square other).0;
  };
  shape = s.shape;
}
  where
    size : size_of y ≡ size_of x
    size = ap₂ (λ m n. m + n) (sym a.even) (sym a.odd)

    other : IsSquare x.prime (size_of x) y.numbers
    other = subst (λ n. IsSquare x.prime n y.numbers) size (subst (λ p. IsSquare p (size_of y) y.numbers) (sym a.prime) t.matrix.square)

-- the matrix of an expression
pub matrix_sound : (p : Presentation) (a : Assigned) (t : Tree Num) → IsAssignment p a → IsTerm p.field (length p.generators) t → IsSound (matrix_at p a t)
matrix_sound p a t h term = record {
  matrix = record {
    listed = h.matrices.listed;
    square = (numbers_mean p.field (prime_in p.field) a.even (a.even + a.odd) h.matrices.field h.matrices.listed (numbers_in a) h.matrices.squares t
        (subst (λ c. IsTerm p.field c t) (sym h.matrices.count) term)).0;
  };
  shape = h.shape;
}

-- a generator's matrix
fields_same : (x : PlainMatrix) (p m n : ℕ) (xs : List ℕ) → x.prime ≡ p → x.even ≡ m → x.odd ≡ n → x.numbers ≡ xs →
    x ≡ record { prime = p; even = m; odd = n; numbers = xs }
fields_same x p m n xs a b c d =
    ap (λ w. record { prime = w; even = x.even; odd = x.odd; numbers = x.numbers }) a
    ∙ ap (λ w. record { prime = p; even = w; odd = x.odd; numbers = x.numbers }) b
    ∙ ap (λ w. record { prime = p; even = m; odd = w; numbers = x.numbers }) c
    ∙ ap (λ w. record { prime = p; even = m; odd = n; numbers = w }) d

pub generators_there : (p : Presentation) (a : Assigned) → IsAssignment p a → length a.matrices ≡ length p.generators
generators_there p a h = sym (length-map a.matrices (λ x. x.numbers)) ∙ h.matrices.count

pub generator_is : (p : Presentation) (a : Assigned) (g : ℕ) (x : PlainMatrix) → IsAssignment p a → 1 ≤ g → g ≤ length p.generators →
    slice_get a.matrices (g - 1) ≡ Some x → x ≡ matrix_at p a (gen g)
generator_is p a g x h l m e =
    let there : g - 1 < length a.matrices = omega (arith, generators_there p a h) in
    let at : get_or a.matrices (g - 1) x ≡ x = get_or_from_slice_get a.matrices (g - 1) x x e in
    let f = subst (λ y. (y.prime ≡ prime_in p.field) × (y.even ≡ a.even) × (y.odd ≡ a.odd)) at (h.alike (g - 1) x there) in
    fields_same x (prime_in p.field) a.even a.odd (get_or (numbers_in a) (g - 1) []) f.0 f.1 f.2
    (sym (get_or-map (λ x. x.numbers) a.matrices (g - 1) x [] there ∙ ap (λ y. y.numbers) at))

-- a list that is written back whole
pub written : (xs ys : List ℕ) (len : ℕ) → len ≡ length xs → take len (xs ++ drop (length xs) ys) ≡ xs
written xs ys len e = ap (λ n. take n (xs ++ drop (length xs) ys)) e ∙ take-append_seam xs (drop (length xs) ys)

pub added_sound : (x y : PlainMatrix) → IsSound x → IsSound (with_numbers x (added x.prime x.numbers 1 y.numbers))
added_sound x y s =
    let some : 0 < x.prime = (let h = listed_least x.prime s.matrix.listed in omega arith) in
    record {
      matrix = record {
        listed = s.matrix.listed;
        square = record {
          places = length_added x.prime x.numbers 1 y.numbers ∙ s.matrix.square.places;
          below = added_below x.prime x.numbers 1 y.numbers some s.matrix.square.below;
        };
      };
      shape = s.shape;
    }

pub multiplied_sound : (x : PlainMatrix) (c : ℕ) → IsSound x → IsSound (with_numbers x (multiplied x.prime c x.numbers))
multiplied_sound x c s =
    let some : 0 < x.prime = (let h = listed_least x.prime s.matrix.listed in omega arith) in
    record {
      matrix = record {
        listed = s.matrix.listed;
        square = record {
          places = length-map x.numbers (λ a. c * a % x.prime) ∙ s.matrix.square.places;
          below = multiplied_below x.prime c x.numbers some;
        };
      };
      shape = s.shape;
    }

pub ok_more : {A E : Type 0} (P Q : A → Type 0) (r : Result A E) → ((x : A) → P x → Q x) → IfOk r P → IfOk r Q
ok_more P Q (Ok x) f h = f x h
ok_more P Q (Err e) f h = tt
