-- The pushed table agrees with the next table of its rows.
use Rattle.std.specs.Prelude.{ℕ, suc, Bool, true, false, ◌≡◌, ◌≢◌, ◌⊎◌, ◌<◌, ◌≤◌, ◌+◌, ◌-◌, List, [], ◌∷◌, ◌++◌, length, map, get_or, cond, nat_eq}
use mathlib.Core.Path.{sym, refl, ap, ap₂, ◌∙◌, fun_ext, subst}
use mathlib.Core.Logic.{inl, inr}
use native.Mathlib.Omega.{arith}
use native.Mathlib.Decide.{ℕ_discrete, dec_lt, dec_le}
use Rattle.std.proofs.lemmas.List.{length-append, get_or-append-add}
use Rattle.math_fields.specs.Field.{Field}
use Rattle.math_linear.specs.Vector.{vzero, place, EndsAt}
use Rattle.math_linear.specs.Span.{SpansKind}
use Rattle.math_linear.proofs.Places.{zero_at}
use Rattle.fpl_numbers.specs.declared.number.Num.{Num}
use Rattle.fpl_numbers.specs.Numbers.{residue}
use Rattle.fpl_numbers.specs.Kinds.{Number, field_of, number_of}
use Rattle.fpl_numbers.specs.Reads.{Reads}
use Rattle.fpl_numbers.proofs.KindReads.{kind_reads}
use Rattle.fpl_rows.specs.Meaning.{vector_in, row_in, pivot_in, IsClosedList}
use Rattle.fpl_rows.proofs.Ones.{one_is}
use Rattle.fpl_rows.proofs.Readings.{vector_past}
use Rattle.math_algebra.specs.Tree.{odd, Presentation, generator, no_generator}
use Rattle.math_algebra.specs.Degrees.{IsSoundPresentation}
use Rattle.math_algebra.specs.Table.{Symbol, of_generator, of_pair, no_basis}
use Rattle.math_linear.specs.Lists.{joined}
use Rattle.math_algebra.specs.Symbols.{is_odd, pairs_of, symbols, no_symbol, symbol_parity, place_of, symbols_of}
use Rattle.math_algebra.specs.SourceRows.{IsSource}
use Rattle.math_algebra.specs.Extending.{Agree}
use Rattle.math_algebra.specs.Built.{slot_of, meaning_of, Built}
use Rattle.math_algebra.specs.NextTable.{free_places, new_basis, next_table}
use Rattle.math_standard.proofs.NextTables.{free_are, length_map, get_or_map, image_kept, image_filled, image_past, entry_kept, entry_filled, weight_next}
use Rattle.math_theorems.proofs.StandardLaws.{closed_rows_build, agreeing_is_built}
use Rattle.fpl_table.specs.Plain.{PlainTable, plain_basis, first_partner, generator_at, image_row, entry_row, table_in, shell_in, symbols_in}
use Rattle.fpl_table.specs.Push.{free_of, new_basis as new_plain, row_of_symbol, push_of}
use Rattle.fpl_table.specs.Shape.{HasShape}
use Rattle.plain_tables.proofs.Leads.{free_same}
use Rattle.plain_tables.proofs.Solved.{symbol_is}
use Rattle.plain_tables.proofs.Places.{basis_old, image_old, image_new, image_past as plain_past, entry_old, entry_new}
use Rattle.fpl_table.proofs.NewNumbers.{nought_element}

module _ (T : PlainTable) (shape : HasShape T) (P : Presentation (Number T.kind)) (gens : P.generators ≡ T.generators) (rows : List (List Num))
    (closed : IsClosedList T.kind (length (symbols_in T)) rows) where
  abbrev K : Field
  K = field_of T.kind

  reads : Reads T.kind K (number_of T.kind)
  reads = kind_reads T.kind shape.field

  nought_is : number_of T.kind (residue 0) ≡ K.nought
  nought_is = reads.zero_is (residue 0) (nought_element T.kind shape.field) refl

  unit_is : number_of T.kind (residue 1) ≡ K.unit
  unit_is = one_is T.kind K (number_of T.kind) reads shape.field

  pub symbols_same : symbols P (table_in T.kind T) ≡ symbols_in T
  unfolding symbols symbols_of
  symbols_same =
      ap (λ G. joined (length G) (λ g. cond (nat_eq (get_or G g no_generator).weight (suc T.weight)) (of_generator g ∷ []) []) ++
      pairs_of (table_in T.kind T) (suc T.weight)) gens

  parity_same : (x : Symbol) → symbol_parity P (table_in T.kind T) x ≡ symbol_parity (shell_in T.kind T) (table_in T.kind T) x
  parity_same (of_generator g) = ap (λ G. (get_or G g no_generator).parity) gens
  parity_same (of_pair i j) = refl

  generator_same : (g : ℕ) → generator P g ≡ generator_at T g
  generator_same g = ap (λ G. get_or G g no_generator) gens

  free_path : free_places (length (symbols P (table_in T.kind T))) (length rows) (pivot_in rows) ≡ free_of T rows
  free_path = ap (λ S. free_places (length S) (length rows) (pivot_in rows)) symbols_same ∙ sym (free_same rows (length (symbols_in T)))

  new_same : (s : ℕ) → new_basis P (table_in T.kind T) s ≡ new_plain T s
  new_same s =
      ap (λ x. record { weight = suc T.weight; parity = symbol_parity P (table_in T.kind T) x; symbol = x }) (ap (λ S. get_or S s no_symbol) symbols_same)
      ∙ ap (λ q. record { weight = suc T.weight; parity = q; symbol = get_or (symbols_in T) s no_symbol }) (parity_same (get_or (symbols_in T) s no_symbol))

  basis_is : (next_table K P (table_in T.kind T) (length rows) (row_in T.kind rows) (pivot_in rows)).basis ≡ (push_of T rows).basis
  unfolding next_table
  basis_is = ap₂ (λ f F. T.basis ++ map f F) (fun_ext new_same) free_path

  -- what the row of a symbol stands for
  means : (x : Symbol) →
      vector_in T.kind (row_of_symbol T rows x)
      ≡ meaning_of K (slot_of (length T.basis) (length (free_places (length (symbols P (table_in T.kind T))) (length rows) (pivot_in rows)))
      (λ i. get_or (free_places (length (symbols P (table_in T.kind T))) (length rows) (pivot_in rows)) i 0))
      (length rows) (row_in T.kind rows) (pivot_in rows) (place K (place_of x (symbols P (table_in T.kind T))))
  means x =
      symbol_is T.kind reads nought_is unit_is (length (symbols_in T)) rows closed (length T.basis) (free_of T rows) (place_of x (symbols_in T)) are
      ∙ ap₂ (λ F S. meaning_of K (slot_of (length T.basis) (length F) (λ i. get_or F i 0)) (length rows) (row_in T.kind rows) (pivot_in rows)
      (place K (place_of x S))) (sym free_path) (sym symbols_same)
    where
      are : (j : ℕ) → j < length (free_of T rows) → (get_or (free_of T rows) j 0 < length (symbols_in T)) ×
          ((i : ℕ) → i < length rows → pivot_in rows i ≢ get_or (free_of T rows) j 0)
      are =
          subst (λ F. (j : ℕ) → j < length F → (get_or F j 0 < length (symbols_in T)) × ((i : ℕ) → i < length rows → pivot_in rows i ≢ get_or F j 0))
          (sym (free_same rows (length (symbols_in T))))
          (free_are (length (symbols_in T)) (length rows) (pivot_in rows)).there

  no_vector : vector_in T.kind [] ≡ vzero K
  no_vector = fun_ext (λ s. sym (zero_at K s))

  images_agree : (g : ℕ) → g < length P.generators → (next_table K P (table_in T.kind T) (length rows) (row_in T.kind rows) (pivot_in rows)).image g ≡
      vector_in T.kind (image_row (push_of T rows) g)
  images_agree g l = go (dec_le (generator P g).weight T.weight) (ℕ_discrete (generator P g).weight (suc T.weight))
    where
      l' : g < length T.generators
      l' = omega (arith, l, ap length gens)

      w : (generator P g).weight ≡ (generator_at T g).weight
      w = ap (λ x. x.weight) (generator_same g)

      go : Dec ((generator P g).weight ≤ T.weight) → Dec ((generator P g).weight ≡ suc T.weight) →
          (next_table K P (table_in T.kind T) (length rows) (row_in T.kind rows) (pivot_in rows)).image g ≡ vector_in T.kind (image_row (push_of T rows) g)
      go (yes h) d = image_kept K P (table_in T.kind T) (length rows) (row_in T.kind rows) (pivot_in rows) g h ∙
          sym (ap (vector_in T.kind) (image_old T shape rows g l' (omega (arith, h, w))))
      go (no h) (yes d) =
          image_filled K P (table_in T.kind T) (length rows) (row_in T.kind rows) (pivot_in rows) g d ∙ sym (means (of_generator g)) ∙
          sym (ap (vector_in T.kind) (image_new T shape rows g l' (sym w ∙ d)))
      go (no h) (no d) =
          image_past K P (table_in T.kind T) (length rows) (row_in T.kind rows) (pivot_in rows) g (omega (arith, h, d)) ∙
          sym (ap (vector_in T.kind) (plain_past T shape rows g (omega (arith, h, d, w))) ∙ no_vector)

  -- new basis elements have the new weight
  pub more_is : length (push_of T rows).basis ≡ length T.basis + length (free_of T rows)
  more_is = length-append T.basis (map (new_plain T) (free_of T rows)) ∙ ap (λ w. length T.basis + w) (length_map (new_plain T) (free_of T rows))

  pub weight_new : (i : ℕ) → length T.basis ≤ i → i < length (push_of T rows).basis → (plain_basis (push_of T rows) i).weight ≡ suc T.weight
  weight_new i l h =
      let e : length T.basis + (i - length T.basis) ≡ i = omega arith in
      ap (λ w. (plain_basis (push_of T rows) w).weight) (sym e)
      ∙ ap (λ b. b.weight) (get_or-append-add T.basis (map (new_plain T) (free_of T rows)) (i - length T.basis) no_basis)
      ∙ ap (λ b. b.weight) (get_or_map (new_plain T) (free_of T rows) (i - length T.basis) 0 no_basis (omega (arith, l, h, more_is)))

  pub weight_old : (i : ℕ) → i < length T.basis → (plain_basis (push_of T rows) i).weight ≡ (plain_basis T i).weight
  weight_old i l = ap (λ b. b.weight) (basis_old T shape rows i l)

  pub heavy_after : (i : ℕ) → i < length (push_of T rows).basis → 1 ≤ (plain_basis (push_of T rows) i).weight
  heavy_after i l = go (dec_lt i (length T.basis))
    where
      go : Dec (i < length T.basis) → 1 ≤ (plain_basis (push_of T rows) i).weight
      go (yes h) = omega (arith, weight_old i h, shape.heavy i h)
      go (no h) = omega (arith, weight_new i (omega (arith, h)) l)

  partner_of : (i j : ℕ) → i < length T.basis → (i < j) ⊎ ((i ≡ j) × ((plain_basis T i).parity ≡ odd)) → first_partner T i ≤ j
  partner_of i j l (inl h) = go (is_odd (plain_basis T i).parity)
    where
      go : (b : Bool) → cond b i (i + 1) ≤ j
      go true = omega arith
      go false = omega arith
  partner_of i j l (inr h) = subst (λ b. cond b i (i + 1) ≤ j) (sym (ap is_odd h.1)) (omega (arith, h.0))

  entries_agree : (i j : ℕ) → i < length (push_of T rows).basis → j < length (push_of T rows).basis →
      (i < j) ⊎ ((i ≡ j) × ((plain_basis (push_of T rows) i).parity ≡ odd)) →
      (plain_basis (push_of T rows) i).weight + (plain_basis (push_of T rows) j).weight ≤ suc T.weight →
      (next_table K P (table_in T.kind T) (length rows) (row_in T.kind rows) (pivot_in rows)).entry i j ≡ vector_in T.kind (entry_row (push_of T rows) i j)
  entries_agree i j l k r w = go (dec_lt i (length T.basis)) (dec_lt j (length T.basis))
    where
      regular : i < length T.basis → (i < j) ⊎ ((i ≡ j) × ((plain_basis (push_of T rows) i).parity ≡ odd)) →
          (i < j) ⊎ ((i ≡ j) × ((plain_basis T i).parity ≡ odd))
      regular p (inl h) = inl h
      regular p (inr h) = inr (h.0, sym (ap (λ b. b.parity) (basis_old T shape rows i p)) ∙ h.1)

      inside : i < length T.basis → j < length T.basis → Dec ((plain_basis T i).weight + (plain_basis T j).weight ≤ T.weight) →
          (next_table K P (table_in T.kind T) (length rows) (row_in T.kind rows) (pivot_in rows)).entry i j ≡ vector_in T.kind (entry_row (push_of T rows) i j)
      inside p q (yes h) = entry_kept K P (table_in T.kind T) (length rows) (row_in T.kind rows) (pivot_in rows) i j h ∙
          sym (ap (vector_in T.kind) (entry_old T shape rows i j p q h))
      inside p q (no h) =
          let e : (plain_basis T i).weight + (plain_basis T j).weight ≡ suc T.weight = omega (arith, h, w, weight_old i p, weight_old j q) in
          entry_filled K P (table_in T.kind T) (length rows) (row_in T.kind rows) (pivot_in rows) i j e ∙ sym (means (of_pair i j))
          ∙ sym (ap (vector_in T.kind) (entry_new T shape rows i j p q (partner_of i j p (regular p r)) e))

      go : Dec (i < length T.basis) → Dec (j < length T.basis) →
          (next_table K P (table_in T.kind T) (length rows) (row_in T.kind rows) (pivot_in rows)).entry i j ≡ vector_in T.kind (entry_row (push_of T rows) i j)
      go (yes p) (yes q) = inside p q (dec_le ((plain_basis T i).weight + (plain_basis T j).weight) T.weight)
      go (no p) d = absurd (omega (arith, w, weight_new i (omega (arith, p)) l, heavy_after j k))
      go (yes p) (no q) = absurd (omega (arith, w, weight_new j (omega (arith, q)) k, heavy_after i l))

  pub agrees : Agree K P (next_table K P (table_in T.kind T) (length rows) (row_in T.kind rows) (pivot_in rows)) (table_in T.kind (push_of T rows))
  agrees = record {
    weight = weight_next K P (table_in T.kind T) (length rows) (row_in T.kind rows) (pivot_in rows);
    more = ap length basis_is;
    basis = λ i l. ap (λ B. get_or B i no_basis) basis_is;
    images = images_agree;
    entries = λ i j l k r w.
        entries_agree i j (omega (arith, l, ap length basis_is)) (omega (arith, k, ap length basis_is))
        (subst (λ B. (i < j) ⊎ ((i ≡ j) × ((get_or B i no_basis).parity ≡ odd))) basis_is r)
        (omega (
          arith,
          w,
          ap (λ B. (get_or B i no_basis).weight) basis_is,
          ap (λ B. (get_or B j no_basis).weight) basis_is,
          weight_next K P (table_in T.kind T) (length rows) (row_in T.kind rows) (pivot_in rows),
        ));
  }

  -- so where the rows span the source rows, the pushed table is built
  pub push_built : IsSoundPresentation P → Built K P (table_in T.kind T) → SpansKind K (IsSource K P (table_in T.kind T)) (length rows)
      (row_in T.kind rows) → Built K P (table_in T.kind (push_of T rows))
  push_built s b spans =
      agreeing_is_built K P s _ (table_in T.kind (push_of T rows))
      (closed_rows_build K P (table_in T.kind T) b (length rows) (row_in T.kind rows) (pivot_in rows)
      (record { closed = closed.closed; spans = spans; ends = ends })) agrees
    where
      ends : (i : ℕ) → i < length rows → EndsAt K (length (symbols P (table_in T.kind T))) (row_in T.kind rows i)
      ends i l s h = vector_past K (number_of T.kind) (get_or rows i []) s (omega (arith, h, ap length symbols_same, (closed.are_rows i [] l).length_is))
