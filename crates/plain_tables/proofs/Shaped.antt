-- A pushed table has its shape: the rows of symbols are rows of it.
use Rattle.std.specs.Prelude.{ℕ, suc, ◌≡◌, ◌<◌, ◌≤◌, ◌+◌, List, [], ◌∷◌, ◌++◌, length, map, get_or, All, cond, nat_eq, nat_lt, Bool, true, false, Option, Some, None}
use mathlib.Core.Path.{sym, refl, subst}
use native.Mathlib.Omega.{arith}
use native.Mathlib.Decide.{dec_lt}
use Rattle.std.proofs.lemmas.List.{length-append, length-replicate, get_or-replicate, get_or_past}
use Rattle.fpl_numbers.specs.declared.number.Num.{Num}
use Rattle.fpl_numbers.specs.declared.number.Kind.{Kind}
use Rattle.fpl_numbers.specs.Numbers.{IsField, IsElement, residue, negative_of}
use Rattle.fpl_numbers.proofs.KindReads.{kind_reads}
use Rattle.fpl_scalar.specs.Vectors.{AreElements}
use Rattle.fpl_rows.specs.Meaning.{AreRows}
use Rattle.fpl_rows.proofs.Ones.{one_element}
use Rattle.math_algebra.specs.Tree.{Generator}
use Rattle.math_algebra.specs.Table.{Symbol, of_generator, of_pair, Basis}
use Rattle.math_algebra.specs.Symbols.{place_of}
use Rattle.fpl_table.specs.Plain.{PlainTable, plain_basis, first_partner, symbols_in}
use Rattle.fpl_table.specs.Value.{zero_row}
use Rattle.fpl_table.specs.Push.{free_of, row_with_lead, solved, row_of_symbol, new_images, new_partners, new_entries, push_of}
use Rattle.fpl_table.specs.Shape.{IsRowUpTo, HasShape}
use Rattle.fpl_table.proofs.Leads.{length-solved}
use Rattle.fpl_table.proofs.Pushed as pushed
use Rattle.plain_tables.proofs.Leads.{row_found}
use Rattle.fpl_rows.proofs.Fits.{all_cons}
use Rattle.fpl_table.proofs.NewNumbers.{nought_element}

pub all_none : {X : Type 0} (P : X → Type 0) → All P []
all_none P i d l = absurd (omega (arith, l))

all_append : {X : Type 0} (P : X → Type 0) (xs ys : List X) → All P xs → All P ys → All P (xs ++ ys)
all_append P [] ys h k = k
all_append P (x ∷ xs) ys h k = all_cons P x (xs ++ ys) (h 0 x (omega arith)) (all_append P xs ys (λ i d l. h (suc i) d (omega (arith, l))) k)

all_mapped : {A B : Type 0} (P : B → Type 0) (f : A → B) (xs : List A) → ((x : A) → P (f x)) → All P (map f xs)
all_mapped P f [] h = all_none P
all_mapped P f (x ∷ xs) h = all_cons P (f x) (map f xs) (h x) (all_mapped P f xs h)

-- rows of elements
module _ (k : Kind) (is : IsField k) where
  solved_elements : (free : List ℕ) (s : ℕ) (o : Option (List Num)) → ((r : List Num) → o ≡ Some r → AreElements k r) → AreElements k (solved k free s o)
  solved_elements free s None h = all_mapped (IsElement k) (λ t. cond (nat_eq t s) (residue 1) (residue 0)) free (λ t. unit (nat_eq t s))
    where
      unit : (b : Bool) → IsElement k (cond b (residue 1) (residue 0))
      unit true = one_element k is
      unit false = nought_element k is
  solved_elements free s (Some r) h = all_mapped (IsElement k) (λ t. negative_of k (get_or r t (residue 0))) free
      (λ t. ((kind_reads k is).negative _ (at t (dec_lt t (length r)))).0)
    where
      at : (t : ℕ) → Dec (t < length r) → IsElement k (get_or r t (residue 0))
      at t (yes l) = h r refl t (residue 0) l
      at t (no l) = subst (IsElement k) (sym (get_or_past r t (residue 0) (omega arith))) (nought_element k is)

  zeros_elements : (n : ℕ) → AreElements k (zero_row n)
  zeros_elements n i d l = subst (IsElement k) (sym (get_or-replicate n i (residue 0) d (omega (arith, l, length-replicate n (residue 0)))))
      (nought_element k is)

module _ (T : PlainTable) (shape : HasShape T) (rows : List (List Num)) (are : AreRows T.kind (length (symbols_in T)) rows) where
  abbrev IsNew : List Num → Type 0
  IsNew row = IsRowUpTo T.kind (length T.basis + length (free_of T rows)) row

  -- the row of a symbol is one of the new table
  symbol_row_is : (x : Symbol) → IsNew (row_of_symbol T rows x)
  symbol_row_is x = record {
    elements =
        all_append (IsElement T.kind) (zero_row (length T.basis)) _ (zeros_elements T.kind shape.field (length T.basis))
        (solved_elements T.kind shape.field (free_of T rows) (place_of x (symbols_in T)) (row_with_lead rows (place_of x (symbols_in T)))
        (λ r e. let q = row_found rows (place_of x (symbols_in T)) r e in subst (AreElements T.kind) q.2 (are q.0 [] q.1).elements));
    short =
        omega (
          arith,
          length-append (zero_row (length T.basis)) (solved T.kind (free_of T rows) (place_of x (symbols_in T))
              (row_with_lead rows (place_of x (symbols_in T)))),
          length-replicate (length T.basis) (residue 0),
          length-solved T.kind (free_of T rows) (place_of x (symbols_in T)) (row_with_lead rows (place_of x (symbols_in T))),
        );
  }

  empty_row : IsNew []
  empty_row = record { elements = all_none (IsElement T.kind); short = omega arith }

  images_rows : (gs : List Generator) (g : ℕ) → All IsNew (new_images T rows g gs)
  images_rows [] g = all_none IsNew
  images_rows (x ∷ xs) g = all_cons IsNew _ (new_images T rows (g + 1) xs) (pick (nat_eq x.weight (suc T.weight))) (images_rows xs (g + 1))
    where
      pick : (b : Bool) → IsNew (cond b (row_of_symbol T rows (of_generator g)) [])
      pick true = symbol_row_is (of_generator g)
      pick false = empty_row

  partners_rows : (bs : List Basis) (i j : ℕ) → All IsNew (new_partners T rows i j bs)
  partners_rows [] i j = all_none IsNew
  partners_rows (b ∷ bs) i j = all_append IsNew _ (new_partners T rows i (j + 1) bs)
      (pick (nat_eq ((plain_basis T i).weight + b.weight) (suc T.weight)) (nat_lt j (first_partner T i))) (partners_rows bs i (j + 1))
    where
      pick : (c d : Bool) → All IsNew (cond c (cond d [] (row_of_symbol T rows (of_pair i j) ∷ [])) [])
      pick true true = all_none IsNew
      pick true false = all_cons IsNew (row_of_symbol T rows (of_pair i j)) [] (symbol_row_is (of_pair i j)) (all_none IsNew)
      pick false d = all_none IsNew

  entries_rows : (bs : List Basis) (i : ℕ) → All (λ partners. All IsNew partners) (new_entries T rows i bs)
  entries_rows [] i = all_none (λ partners. All IsNew partners)
  entries_rows (b ∷ bs) i = all_cons (λ partners. All IsNew partners) (new_partners T rows i 0 T.basis) (new_entries T rows (i + 1) bs)
      (partners_rows T.basis i 0) (entries_rows bs (i + 1))

  pub push_shape : T.weight < 1000 → length (symbols_in T) ≤ 2000000 → HasShape (push_of T rows)
  push_shape below few = pushed.push_shape T rows shape below few (images_rows T.generators 0) (entries_rows T.basis 0)
