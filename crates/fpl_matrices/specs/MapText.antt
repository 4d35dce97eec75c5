-- The text that gives a matrix for each generator: pieces between blanks. Places count bytes from 0.
--
--   is_blank b              a tab, a line end, a carriage return or a space
--   start_of, end_of        where the first piece from a place on begins, or the end of the bytes where there is none; and where it ends
--   piece_of                its bytes; none where there is no piece
--   is_spelled text         something, and no leading zero
--   is_number text          decimal digits without a leading zero
--   value_of text           the value of digits
--   capped                  a value, or 65536 where it is more
--   Read                    a value that was read, and the place after it
--   sized, judged           a number that passes as a size, and as the number at a place
--   matrix_with, assigned   a matrix with the numbers that were read, and a shape with the matrices
--   read_word               a given word
--   read_number             a number
--   read_even, read_odd     how many rows are even, and how many odd: each at most 32, and together from 1 to 32
--   read_entry              the number at a place of a matrix: below p, and 0 but in the blocks of a parity
--   read_entries            so many of them, after those that were read
--   read_matrices           for each generator its name and its matrix
--   read_end                no piece more
--   map_of p bytes from     the whole
--   Gives                   what a call answers, but for want of memory
--
-- A piece that is missing is a piece that isn't what stands there, at the end of the bytes. At one piece syntax comes before size, and before number and
-- parity, in this order.
use Rattle.std.specs.Prelude.{ℕ, zero, suc, ◌≡◌, ◌+◌, ◌-◌, ◌*◌, ◌/◌, ◌%◌, List, [], ◌∷◌, ◌++◌, length, drop, slice_index, slice_range, Bool, not, ◌&&◌, ◌||◌, nat_eq, nat_le, nat_lt, min, Result, Ok, Err, if◌then◌else◌, codes}
use Rattle.std.specs.List.{prefix_len, list_all}
use Rattle.std.specs.Str.{bytes_eq}
use Rattle.fpl_numbers.specs.Results.{and_then, map_ok}
use Rattle.math_algebra.specs.Tree.{Parity}
use Rattle.math_algebra.specs.Degrees.{same_parity}
use Rattle.math_matrices.specs.Matrices.{block}
use Rattle.fpl_model.specs.declared.presentation.Presentation.{Presentation}
use Rattle.fpl_model.specs.declared.presentation.Generator.{Generator}
use Rattle.fpl_model.specs.Meaning.{parity_in}
use Rattle.plain_matrices.specs.Plain.{PlainMatrix}
use Rattle.fpl_matrices.specs.declared.fault.MapError.{MapError}
use Rattle.fpl_matrices.specs.declared.fault.MapError.TheVariants.{Syntax, Size, Number, Parity as Other, NoMemory}
use Rattle.fpl_matrices.specs.Matrices.{Assigned, prime_in}

abbrev pub is_blank : ℕ → Bool
is_blank b = nat_eq b 9 || nat_eq b 10 || nat_eq b 13 || nat_eq b 32

abbrev pub is_mark : ℕ → Bool
is_mark b = not (is_blank b)

abbrev pub start_of : List ℕ → ℕ → ℕ
start_of bytes at = at + prefix_len is_blank (drop at bytes)

abbrev pub end_of : List ℕ → ℕ → ℕ
end_of bytes at = start_of bytes at + prefix_len is_mark (drop (start_of bytes at) bytes)

abbrev pub piece_of : List ℕ → ℕ → List ℕ
piece_of bytes at = slice_range bytes (start_of bytes at) (end_of bytes at)

abbrev pub is_digit : ℕ → Bool
is_digit b = nat_le 48 b && nat_le b 57

-- something, and no leading zero
abbrev pub is_spelled : List ℕ → Bool
is_spelled text = not (nat_eq (length text) 0) && (not (nat_eq (slice_index text 0) 48) || nat_eq (length text) 1)

abbrev pub is_number : List ℕ → Bool
is_number text = is_spelled text && list_all is_digit text

-- the value of digits after those whose value is n
abbrev pub value_after : ℕ → List ℕ → ℕ
value_after n [] = n
value_after n (b ∷ bs) = value_after (10 * n + (b - 48)) bs

abbrev pub value_of : List ℕ → ℕ
value_of text = value_after 0 text

pub record Read (A : Type 0) : Type 0 where
  pub value : A
  pub next : ℕ

abbrev pub read_as : {A : Type 0} → A → ℕ → Read A
read_as x next = record { value = x; next = next }

-- so many odd rows beside m even ones
abbrev pub is_size : (m n : ℕ) → Bool
is_size m n = nat_le n 32 && nat_le 1 (m + n) && nat_le (m + n) 32

abbrev pub sized : (place : ℕ) → (ℕ → Bool) → Read ℕ → Result (Read ℕ) MapError
sized place test x = if test x.value then Ok x else Err (Size place)

-- p is the prime; of n rows and columns the first m are even; s is the place in the matrix
abbrev pub judged : (p m n : ℕ) → Parity → (s place : ℕ) → Read ℕ → Result (Read ℕ) MapError
judged p m n t s place x =
    if nat_lt x.value p
    then (if nat_eq x.value 0 || same_parity (block m (s / n) (s % n)) t then Ok x else Err (Other place))
    else Err (Number place)

abbrev pub matrix_with : (p m n : ℕ) → Read (List ℕ) → Read PlainMatrix
matrix_with p m n r = read_as (record { prime = p; even = m; odd = n - m; numbers = r.value }) r.next

abbrev pub assigned : (m n : ℕ) → Read (List PlainMatrix) → Read Assigned
assigned m n r = read_as (record { even = m; odd = n; matrices = r.value }) r.next

-- a value past 65536 told as 65536
abbrev pub capped : Read ℕ → Read ℕ
capped x = read_as (min 65536 x.value) x.next

module _ (bytes : List ℕ) where
  abbrev pub read_word : List ℕ → ℕ → Result ℕ MapError
  read_word word at = if bytes_eq (piece_of bytes at) word then Ok (end_of bytes at) else Err (Syntax (start_of bytes at))

  abbrev pub read_number : ℕ → Result (Read ℕ) MapError
  read_number at = if is_number (piece_of bytes at) then Ok (read_as (value_of (piece_of bytes at)) (end_of bytes at)) else Err (Syntax (start_of bytes at))

  abbrev pub read_even : ℕ → Result (Read ℕ) MapError
  read_even at = and_then (sized (start_of bytes at) (λ m. nat_le m 32)) (read_number at)

  abbrev pub read_odd : (m : ℕ) → ℕ → Result (Read ℕ) MapError
  read_odd m at = and_then (sized (start_of bytes at) (is_size m)) (read_number at)

  module _ (p m n : ℕ) where
    abbrev pub read_entry : Parity → (s at : ℕ) → Result (Read ℕ) MapError
    read_entry t s at = and_then (judged p m n t s (start_of bytes at)) (read_number at)

    abbrev pub read_entries : Parity → List ℕ → (count at : ℕ) → Result (Read (List ℕ)) MapError
    read_entries t before zero at = Ok (read_as before at)
    read_entries t before (suc count) at = and_then (λ x. read_entries t (before ++ x.value ∷ []) count x.next) (read_entry t (length before) at)

    abbrev pub read_matrix : Generator → ℕ → Result (Read PlainMatrix) MapError
    read_matrix g at = map_ok (matrix_with p m n) (and_then (λ next. read_entries (parity_in g.parity) [] (n * n) next) (read_word g.name at))

    abbrev pub read_matrices : List PlainMatrix → List Generator → ℕ → Result (Read (List PlainMatrix)) MapError
    read_matrices before [] at = Ok (read_as before at)
    read_matrices before (g ∷ gs) at = and_then (λ x. read_matrices (before ++ x.value ∷ []) gs x.next) (read_matrix g at)

  abbrev pub read_end : Read Assigned → Result Assigned MapError
  read_end a = if nat_eq (start_of bytes a.next) (length bytes) then Ok a.value else Err (Syntax (start_of bytes a.next))

abbrev pub map_of : Presentation → List ℕ → ℕ → Result Assigned MapError
map_of p bytes from =
    and_then (λ start.
    and_then (λ m.
    and_then (λ n.
    and_then (read_end bytes) (map_ok (assigned m.value n.value)
    (read_matrices bytes (prime_in p.field) m.value (m.value + n.value) [] p.generators n.next)))
    (read_odd bytes m.value m.next))
    (read_even bytes start))
    (read_word bytes (codes "size") from)

abbrev pub Gives : {A B : Type 0} → (A → B) → Result A MapError → Result B MapError → Type 0
Gives f (Ok x) exact = exact ≡ Ok (f x)
Gives f (Err NoMemory) exact = Unit {0}
Gives f (Err e) exact = exact ≡ Err e
