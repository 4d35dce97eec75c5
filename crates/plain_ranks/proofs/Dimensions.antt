-- The rank of a weight is the dimension of the span of the matrices of all its expressions.
use Rattle.std.specs.Prelude.{ℕ, zero, suc, ◌≡◌, ◌<◌, ◌≤◌, ◌+◌, ◌-◌, ◌*◌, ◌/◌, ◌%◌, ◌↔◌, List, [], ◌∷◌, ◌++◌, length, get_or, map, Result, Ok}
use mathlib.Core.Path.{sym, refl, ap, ◌∙◌, subst, fun_ext}
use mathlib.Core.Logic.{inl, inr}
use native.Mathlib.Omega.{arith}
use native.Mathlib.Decide.{dec_lt}
use Rattle.std.proofs.lemmas.List.{length-map}
use Rattle.math_fields.specs.Field.{Field}
use Rattle.math_linear.specs.Vector.{Vector}
use Rattle.math_linear.specs.Lists.{vector_of}
use Rattle.math_linear.specs.Span.{Spanned}
use Rattle.math_linear.specs.Closed.{IsClosedForm}
use Rattle.math_linear.proofs.Span.{spanned_one, spanned_more, in_span}
use Rattle.math_algebra.specs.Tree.{Tree, none}
use Rattle.math_algebra.specs.Table.{Symbol, of_generator, of_pair, Basis, no_basis, weight_at}
use Rattle.math_matrices.specs.Matrices.{Matrix, matrix_of}
use Rattle.math_matrices.specs.Ranks.{flat, IsMatrixOfWeight, IsMatrixOfBasis}
use Rattle.math_matrices.proofs.Ranks.{basis_spans_weight}
use Rattle.fpl_numbers.specs.declared.number.Num.{Num}
use Rattle.fpl_numbers.specs.declared.number.Kind.{Kind}
use Rattle.fpl_numbers.specs.declared.number.Kind.TheVariants.{Prime}
use Rattle.fpl_numbers.specs.declared.number.Unfit.{Unfit}
use Rattle.fpl_numbers.specs.Numbers.{IsListed, IsField, residue}
use Rattle.fpl_numbers.specs.Kinds.{field_of, number_of}
use Rattle.fpl_numbers.specs.Results.{map_ok}
use Rattle.fpl_scalar.specs.Vectors.{AreElements}
use Rattle.fpl_scalar.proofs.ResidueRows.{elements_from_below}
use Rattle.fpl_rows.specs.Meaning.{vector_in, row_in, pivot_in, IsRowOf, IsClosedList, InSpanOf}
use Rattle.fpl_rows.proofs.Readings.{vector_past}
use Rattle.fpl_rows.proofs.Fits.{part_fits}
use Rattle.fpl_model.specs.declared.presentation.Presentation.{Presentation}
use Rattle.fpl_model.specs.Meaning.{generator_in, presentation_in}
use Rattle.fpl_model.specs.Sound.{IsTerm}
use Rattle.fpl_table.specs.Plain.{PlainTable, through, table_in, plain_basis}
use Rattle.fpl_table.specs.Shape.{HasShape, IsOfTable, symbol_tree_in, grown, basis_trees}
use Rattle.fpl_table.specs.Standard.{printed_tree}
use Rattle.fpl_table.proofs.Weights.{through_within, through_below, through_above, through_heavier}
use Rattle.plain_tables.specs.Holds.{Holds}
use Rattle.plain_tables.proofs.Holding.{held_is_table, sound_is_sound}
use Rattle.plain_spans.specs.Plain.{span_of}
use Rattle.plain_spans.specs.Means.{IsFormed, AreFormed, AreAllFormed}
use Rattle.plain_spans.proofs.Fitting.{spans_fit}
use Rattle.plain_spans.proofs.Gathered.{span_means}
use Rattle.plain_matrices.specs.Plain.{IsSquare}
use Rattle.plain_matrices.specs.Means.{matrix_in, image_in}
use Rattle.plain_matrices.specs.Relations.{AreMatricesOf, AreRespected}
use Rattle.plain_ranks.specs.Ranks.{basis_numbers, rows_from, dimension_of, RankMeans, RankFits}
use Rattle.plain_matrices.proofs.Residues.{ReadsResidues}
use Rattle.plain_matrices.proofs.BracketNumbers.{within}
use Rattle.plain_matrices.proofs.Respect.{numbers_mean, respect_means, place_at, reads_kind, image_graded}

-- the vector of a list of residues
vector_within : (K : Field) (value : Num → K.Carrier) (xs : List ℕ) (s : ℕ) → s < length xs →
    vector_of K value (map residue xs) s ≡ value (residue (get_or xs s 0))
vector_within K value [] s l = absurd (omega arith)
vector_within K value (x ∷ xs) zero l = refl
vector_within K value (x ∷ xs) (suc s) l = vector_within K value xs s (omega arith)

-- over the field of a kind with a prime
module _ (k : Kind) (q m n : ℕ) (kind : k ≡ Prime q) (listed : IsListed q) where
  abbrev K : Field
  K = field_of k

  abbrev reads : ReadsResidues q (field_of k) (λ a. number_of k (residue a))
  reads = reads_kind k q m n kind listed

  elements : (xs : List ℕ) → IsSquare q n xs → AreElements k (map residue xs)
  elements xs g = subst (λ k. AreElements k (map residue xs)) (sym kind) (elements_from_below q xs g.below)

  is_row : (xs : List ℕ) → IsSquare q n xs → IsRowOf k (n * n) (map residue xs)
  is_row xs g = record { elements = elements xs g; length_is = length-map xs residue ∙ g.places }

  flat_within : (x : Matrix (field_of k)) (s : ℕ) → s < n * n → flat (field_of k) n x s ≡ x (s / n) (s % n)
  unfolding flat
  flat_within x s l = grind arith

  flat_past : (x : Matrix (field_of k)) (s : ℕ) → n * n ≤ s → flat (field_of k) n x s ≡ K.nought
  unfolding flat
  flat_past x s l = grind arith

  flat_numbers : (xs : List ℕ) → IsSquare q n xs → vector_in k (map residue xs) ≡ flat (field_of k) n (matrix_in k n xs)
  flat_numbers xs g = fun_ext (λ s. go s (dec_lt s (n * n)))
    where
      go : (s : ℕ) → Dec (s < n * n) → vector_in k (map residue xs) s ≡ flat (field_of k) n (matrix_in k n xs) s
      go s (yes l) =
          let r = place_at n s l in
          vector_within (field_of k) (number_of k) xs s (let e = g.places in omega arith)
          ∙ ap (λ t. number_of k (residue (get_or xs t 0))) (sym r.2)
          ∙ sym (within q (field_of k) (λ a. number_of k (residue a)) reads n xs (s / n) (s % n) r.0 r.1)
          ∙ sym (flat_within (matrix_in k n xs) s l)
      go s (no d) =
          vector_past (field_of k) (number_of k) (map residue xs) s (let e = g.places in omega (arith, length-map xs residue))
          ∙ sym (flat_past (matrix_in k n xs) s (omega arith))

  -- ---- rows of basis elements
  module _ (images : List (List ℕ)) (T : PlainTable) (square : (i : ℕ) → i < length T.basis → IsSquare q n (basis_numbers q m n images T i)) where
    are_formed : (from count : ℕ) → from + count ≤ length T.basis → AreFormed k (n * n) (rows_from q m n images T from count)
    are_formed from zero l = tt
    are_formed from (suc count) l =
        (is_row (basis_numbers q m n images T from) (square from (omega arith)), are_formed (from + 1) count (omega arith))

    record IsOne (from count : ℕ) (v : Vector (field_of k)) : Type 0 where
      element : ℕ
      least : from ≤ element
      most : element < from + count
      numbers : v ≡ vector_in k (map residue (basis_numbers q m n images T element))

    formed_is : (from count : ℕ) (v : Vector (field_of k)) → IsFormed k (rows_from q m n images T from count) v → IsOne from count v
    formed_is from zero v h = absurd h
    formed_is from (suc count) v (inl e) = record { element = from; least = omega arith; most = omega arith; numbers = e }
    formed_is from (suc count) v (inr h) =
        let r = formed_is (from + 1) count v h in
        record { element = r.element; least = (let a = r.least in omega arith); most = (let b = r.most in omega arith); numbers = r.numbers }

    is_formed : (from count i : ℕ) (v : Vector (field_of k)) → from ≤ i → i < from + count → v ≡ vector_in k (map residue (basis_numbers q m n images T i)) →
        IsFormed k (rows_from q m n images T from count) v
    is_formed from zero i v l h e = absurd (omega arith)
    is_formed from (suc count) i v l h e = go (dec_lt from i) (λ a. is_formed (from + 1) count i v (omega (arith, a)) (omega (arith, h)) e)
      where
        go : Dec (from < i) → (from < i → IsFormed k (rows_from q m n images T (from + 1) count) v) → IsFormed k (rows_from q m n images T from (suc count)) v
        go (yes a) rest = inr (rest a)
        go (no a) rest = inl (e ∙ ap (λ j. vector_in k (map residue (basis_numbers q m n images T j))) (let b : i ≡ from = omega arith in b))

-- ---- the bracket trees of a table have generators from 1
abbrev IsIn : ℕ → Symbol → Type 0
IsIn count (of_generator g) = g < count
IsIn count (of_pair i j) = Unit {0}

module _ (k : Kind) (count : ℕ) where
  symbol_fine : (ts : List (Tree Num)) (x : Symbol) → IsIn count x → ((i : ℕ) → IsTerm k count (get_or ts i none)) → IsTerm k count (symbol_tree_in ts x)
  symbol_fine ts (of_generator g) h fine = (omega arith, omega (arith, h))
  symbol_fine ts (of_pair i j) h fine = (fine i, fine j)

  more_fine : (ts : List (Tree Num)) (t : Tree Num) → ((i : ℕ) → IsTerm k count (get_or ts i none)) → IsTerm k count t → (i : ℕ) →
      IsTerm k count (get_or (ts ++ t ∷ []) i none)
  more_fine [] t fine h zero = h
  more_fine [] t fine h (suc i) = tt
  more_fine (u ∷ ts) t fine h zero = fine zero
  more_fine (u ∷ ts) t fine h (suc i) = more_fine ts t (λ j. fine (suc j)) h i

  grown_fine : (ts : List (Tree Num)) (bs : List Basis) → ((i : ℕ) → IsTerm k count (get_or ts i none)) →
      ((j : ℕ) → j < length bs → IsIn count (get_or bs j no_basis).symbol) → (i : ℕ) → IsTerm k count (get_or (grown ts bs) i none)
  unfolding grown
  grown_fine ts [] fine h i = fine i
  grown_fine ts (b ∷ bs) fine h i =
      grown_fine (ts ++ symbol_tree_in ts b.symbol ∷ []) bs (more_fine ts (symbol_tree_in ts b.symbol) fine (symbol_fine ts b.symbol (h 0 (omega arith)) fine))
      (λ j l. h (suc j) (omega arith)) i

  none_fine : (i : ℕ) → IsTerm k count (get_or [] i none)
  none_fine zero = tt
  none_fine (suc i) = tt

-- the tree of a basis element, whatever the kind
pub basis_term : (k : Kind) (T : PlainTable) → HasShape T → (i : ℕ) → IsTerm k (length T.generators) (get_or (basis_trees T) i none)
basis_term k T shape i =
    grown_fine k (length T.generators) [] T.basis (none_fine k (length T.generators)) (λ j l. is_in (plain_basis T j).symbol (shape.symbols j l)) i
  where
    is_in : (x : Symbol) → IsOfTable T x → IsIn (length T.generators) x
    is_in (of_generator g) h = h
    is_in (of_pair i j) h = tt

module _ (p : Presentation) (q m n : ℕ) (images : List (List ℕ)) (of : AreMatricesOf p q m n images) (respected : AreRespected q m n images p)
    (T : PlainTable) (holds : Holds p T) where
  count_is : length T.generators ≡ length images
  count_is = ap length holds.generators ∙ length-map p.generators generator_in ∙ sym of.count

  basis_same : (i : ℕ) → IsSquare q n (basis_numbers q m n images T i)
      × (matrix_in p.field n (basis_numbers q m n images T i) ≡ matrix_of (field_of p.field) m n (image_in p.field n images) (printed_tree p T i))
  basis_same i =
      numbers_mean p.field q m n of.field of.listed images of.squares (get_or (basis_trees T) i none)
      (subst (λ c. IsTerm p.field c (get_or (basis_trees T) i none)) count_is (basis_term p.field T holds.shape i))

  module _ (w : ℕ) (from_one : 1 ≤ w) (to_end : w ≤ T.weight) where
    abbrev rows : List (Result (List Num) Unfit)
    rows = rows_from q m n images T (through T (w - 1)) (dimension_of T w)

    ends : through T (w - 1) + dimension_of T w ≤ length T.basis
    ends =
        let a = through_within T holds.shape (w - 1) in
        let b = through_within T holds.shape w in omega arith

    weight_of_one : (i : ℕ) → through T (w - 1) ≤ i → i < through T (w - 1) + dimension_of T w → (i < length T.basis) × (weight_at (table_in p.field T) i ≡ w)
    weight_of_one i l h =
        let b = through_within T holds.shape w in
        let j : i < length T.basis = omega (arith, ends) in
        let k : i < through T w = omega arith in
        let above : (plain_basis T i).weight ≤ w - 1 → i < through T (w - 1) = through_above T holds.shape (w - 1) i j in
        let below = through_below T holds.shape w i k in
        (j, grind arith)

    one_of_weight : (i : ℕ) → i < length T.basis → weight_at (table_in p.field T) i ≡ w → (through T (w - 1) ≤ i) × (i < through T (w - 1) + dimension_of T w)
    one_of_weight i j e =
        let k : i < through T w = through_above T holds.shape w i j (omega (arith, e)) in
        let a : through T (w - 1) ≤ i = through_heavier T holds.shape (w - 1) i (omega (arith, e, from_one)) in
        (a, omega arith)

    square : (i : ℕ) → i < length T.basis → IsSquare q n (basis_numbers q m n images T i)
    square i l = (basis_same i).0

    to_basis : (v : Vector (field_of p.field)) → IsFormed p.field rows v →
        IsMatrixOfBasis (field_of p.field) (table_in p.field T) (printed_tree p T) m n (image_in p.field n images) w v
    to_basis v h =
        let r = formed_is p.field q m n of.field of.listed images T square (through T (w - 1)) (dimension_of T w) v h in
        let f = weight_of_one r.element r.least r.most in
        let s = basis_same r.element in
        record {
          element = r.element;
          there = f.0;
          weight = f.1;
          numbers = r.numbers ∙ flat_numbers p.field q m n of.field of.listed (basis_numbers q m n images T r.element) s.0 ∙ ap (flat (field_of p.field) n) s.1;
        }

    of_basis : (v : Vector (field_of p.field)) → IsMatrixOfBasis (field_of p.field) (table_in p.field T) (printed_tree p T) m n
        (image_in p.field n images) w v →
        IsFormed p.field rows v
    of_basis v h =
        let f = one_of_weight h.element h.there h.weight in
        let s = basis_same h.element in
        is_formed p.field q m n of.field of.listed images T square (through T (w - 1)) (dimension_of T w) h.element v f.0 f.1
        (h.numbers ∙ sym (flat_numbers p.field q m n of.field of.listed (basis_numbers q m n images T h.element) s.0 ∙ ap (flat (field_of p.field) n) s.1))

    abbrev OfWeight : Vector (field_of p.field) → Type 0
    OfWeight = IsMatrixOfWeight (field_of p.field) (presentation_in p) m n (image_in p.field n images) w

    abbrev OfBasis : Vector (field_of p.field) → Type 0
    OfBasis = IsMatrixOfBasis (field_of p.field) (table_in p.field T) (printed_tree p T) m n (image_in p.field n images) w

    abbrev OfRows : Vector (field_of p.field) → Type 0
    OfRows = IsFormed p.field rows

    one_span : (v : Vector (field_of p.field)) → Spanned (field_of p.field) OfWeight v ↔ Spanned (field_of p.field) OfRows v
    one_span v =
        let table = held_is_table p T holds in
        let b =
        basis_spans_weight (field_of p.field) (presentation_in p) (sound_is_sound p holds.sound) (table_in p.field T) (printed_tree p T) table.standard
        m n (image_in p.field n images) (image_graded p q m n images of)
        ((respect_means p q m n images holds.sound of).0 respected) w to_end v in (
          (λ h. spanned_more (field_of p.field) OfBasis OfRows of_basis v (b.0 h)),
          (λ h. b.1 (spanned_more (field_of p.field) OfRows OfBasis to_basis v h)),
        )

    is_field : IsField p.field
    is_field = subst IsField (sym of.field) of.listed

    means : (closed : List (List Num)) → span_of p.field (n * n) rows ≡ Ok closed →
        IsClosedForm (field_of p.field) (n * n) (IsMatrixOfWeight (field_of p.field) (presentation_in p) m n (image_in p.field n images) w)
        (length closed) (row_in p.field closed) (pivot_in closed)
    means closed e = record {
      closed = s.0.closed;
      spans = record {
        each = λ v h. (s.1 v).1 ((one_span v).0 (spanned_one (field_of p.field) OfWeight v h));
        from = λ i l.
            (one_span (row_in p.field closed i)).1 ((s.1 (row_in p.field closed i)).0 (in_span (field_of p.field) (length closed) (row_in p.field closed) i l));
      };
      ends = λ i l t h. vector_past (field_of p.field) (number_of p.field) (get_or closed i []) t (omega (arith, h, (s.0.are_rows i [] l).length_is));
    }
      where
        s : IsClosedList p.field (n * n) closed × ((v : Vector (field_of p.field)) → InSpanOf p.field closed v ↔
            Spanned (field_of p.field) (IsFormed p.field rows) v)
        s = span_means p.field is_field (n * n) rows closed
            (are_formed p.field q m n of.field of.listed images T square (through T (w - 1)) (dimension_of T w) ends) e

pub rank_means : RankMeans
rank_means p q m n images of respected T holds w rank from_one to_end e =
    let x = part_fits length (span_of p.field (n * n) (rows_from q m n images T (through T (w - 1)) (dimension_of T w))) rank e in (
      row_in p.field x.0,
      pivot_in x.0,
      subst
          (λ c.
          IsClosedForm (field_of p.field) (n * n) (IsMatrixOfWeight (field_of p.field) (presentation_in p) m n (image_in p.field n images) w) c
          (row_in p.field x.0) (pivot_in x.0))
          (sym x.1.1) (means p q m n images of respected T holds w from_one to_end x.0 x.1.0),
    )

-- each row is there
rows_formed : (q m n : ℕ) (images : List (List ℕ)) (T : PlainTable) (from count : ℕ) → AreAllFormed (rows_from q m n images T from count)
rows_formed q m n images T from zero = tt
rows_formed q m n images T from (suc count) = rows_formed q m n images T (from + 1) count

pub rank_fits : RankFits
rank_fits k q m n images T w e =
    let rows : List (Result (List Num) Unfit) = rows_from q m n images T (through T (w - 1)) (dimension_of T w) in
    let s = spans_fit q (n * n) rows (rows_formed q m n images T (through T (w - 1)) (dimension_of T w)) in
    (length s.0, subst (λ k. map_ok length (span_of k (n * n) rows) ≡ Ok (length s.0)) (sym e) (ap (map_ok length) s.1))
