-- The rows of a weight's origins are its source rows.
use Rattle.std.specs.Prelude.{◌≤◌, ◌≡◌, ℕ, zero, suc, ◌+◌, ◌-◌, ◌<◌, List, [], ◌∷◌, length, get_or, map, Ok, All, false, nat_eq}
use mathlib.Core.Path.{sym, refl, ap, ap₂, ◌∙◌, subst}
use native.Mathlib.Omega.{arith}
use Rattle.std.proofs.lemmas.List.{get_or-map, length-map}
use Rattle.math_fields.specs.Field.{Field}
use Rattle.math_linear.specs.Vector.{Vector, vplus, scale, place}
use Rattle.fpl_numbers.specs.declared.number.Num.{Num}
use Rattle.fpl_numbers.specs.Numbers.{IsField}
use Rattle.fpl_numbers.specs.Kinds.{field_of, Number}
use Rattle.math_algebra.specs.Tree.{Tree, Trees, gen, none, sum_of, multiple, bracket_of as br, end, more, Generator, Presentation as Abstract, left, right}
use Rattle.math_algebra.specs.Degrees.{exact, of_both, of_bracket, weight_of, weights_of, weight_of_both}
use Rattle.math_algebra.specs.Table.{Symbol, of_generator, of_pair, bracket}
use Rattle.math_algebra.specs.Symbols.{symbols, place_of, pair_number, symbols_of}
use Rattle.math_algebra.specs.SourceRows.{outer, row_of, jacobi_row, relation_row, cube_row, IsSource}
use Rattle.math_algebra.specs.SourceRows.IsSource.{of_relation, of_triple, of_cube}
use Rattle.fpl_model.specs.declared.presentation.Equation.{Equation}
use Rattle.fpl_model.specs.declared.presentation.Presentation.{Presentation}
use Rattle.fpl_model.specs.Meaning.{plain, equation_in}
use Rattle.fpl_model.specs.Sound.{IsWithin}
use Rattle.fpl_log.specs.declared.step.Origin.{Origin}
use Rattle.fpl_log.specs.declared.step.Origin.TheVariants.{Relation, Jacobi, Cube}
use Rattle.fpl_table.specs.Plain.{PlainTable, table_in, symbols_in}
use Rattle.fpl_rewrite.specs.Origins.{relation_weight}
use Rattle.fpl_rewrite.specs.Rows.{relation_row_of, jacobi_row_of, cube_row_of, equation_row, row_of_origin}
use Rattle.plain_sources.specs.Premises.{HasRows, HasWeights}
use Rattle.plain_sources.specs.TableLaws.{vector_of_origin}
use Rattle.plain_sources.specs.Late.{first_of}
use Rattle.math_generators.specs.Triples.{IsEarlySource}
use Rattle.math_generators.specs.Triples.IsEarlySource.{early_relation, early_triple, early_cube}
use Rattle.plain_sources.proofs.Products.{Stands, same}
use Rattle.plain_sources.proofs.Forms.{relation_reads}
use Rattle.plain_sources.proofs.Triples.{jacobi_reads, cube_reads}
use Rattle.math_theorems.proofs.Three.{three_is}
use Rattle.plain_sources.proofs.Listed.{IsTriple, IsCube, IsListed, listed_relation, listed_triple, listed_cube}

-- weights as written depend on the generators alone
module _ {N : Type 0} (gs : List Generator) (rs ss : List (Tree N × Tree N)) where
  abbrev one : Abstract N
  one = record { generators = gs; relations = rs }

  abbrev other : Abstract N
  other = record { generators = gs; relations = ss }

  mutual
    unfolding weight_of

    pub weight_same : (e : Tree N) → weight_of one e ≡ weight_of other e
    weight_same (gen g) = refl
    weight_same none = refl
    weight_same (sum_of es) = weights_same es
    weight_same (multiple c e) = weight_same e
    weight_same (br e f) = ap₂ (of_bracket (λ a b. a + b)) (weight_same e) (weight_same f)

    pub weights_same : (es : Trees N) → weights_of one es ≡ weights_of other es
    weights_same end = refl
    weights_same (more e es) = ap₂ (of_both nat_eq) (weight_same e) (weights_same es)

-- the row of a relation by its number
equation_at : (T : PlainTable) (qs : List Equation) (k : ℕ) (d : Equation) → k < length qs → equation_row T qs (1 + k) ≡ relation_row_of T (get_or qs k d)
equation_at T [] k d l = absurd (omega arith)
equation_at T (q ∷ qs) zero d l = refl
equation_at T (q ∷ qs) (suc k) d l =
    let e : nat_eq (1 + suc k) 1 ≡ false = grind arith in
    let f : 1 + suc k - 1 ≡ 1 + k = omega arith in
    rw (e, f) (equation_at T qs k d (omega arith))

pub some_of : {A : Type 0} (xs : List A) (k : ℕ) → k < length xs → A
some_of [] k l = absurd (omega arith)
some_of (x ∷ xs) k l = x

shift : (i : ℕ) → i ≡ i + 1 - 1
shift i = omega arith

at_shifts : (Q : ℕ → ℕ → ℕ → Type 0) (i j k : ℕ) → Q i j k → Q (i + 1 - 1) (j + 1 - 1) (k + 1 - 1)
at_shifts Q i j k q = subst (λ a. Q a (j + 1 - 1) (k + 1 - 1)) (shift i) (subst (λ b. Q i b (k + 1 - 1)) (shift j) (subst (λ c. Q i j c) (shift k) q))

module _ (T : PlainTable) (is_field : IsField T.kind) (rows : HasRows T) (weights : HasWeights T) (p : Presentation)
    (within : All (λ q. IsWithin T.kind (length T.generators) (plain q.left) × IsWithin T.kind (length T.generators) (plain q.right)) p.relations) where
  abbrev F : Field
  F = field_of T.kind

  -- the presentation over the table's field
  abbrev pub P : Abstract (Number T.kind)
  P = record { generators = T.generators; relations = map (equation_in T.kind) p.relations }

  abbrev m : ℕ
  m = length (symbols_in T)

  symbols_same : symbols P (table_in T.kind T) ≡ symbols_in T
  unfolding symbols symbols_of
  symbols_same = refl

  equation_is : (k : ℕ) (d : Equation) → k < length p.relations → get_or (map (equation_in T.kind) p.relations) k (none, none) ≡
      equation_in T.kind (get_or p.relations k d)
  equation_is k d l = get_or-map (equation_in T.kind) p.relations k d (none, none) l

  weight_is : (k : ℕ) (d : Equation) → k < length p.relations → weight_of_both P (left P k) (right P k) ≡ relation_weight T (get_or p.relations k d)
  weight_is k d l =
      ap (λ q. weight_of_both P (q.0) (q.1)) (equation_is k d l)
      ∙ ap₂ (of_both nat_eq) (weight_same T.generators (map (equation_in T.kind) p.relations) [] _)
      (weight_same T.generators (map (equation_in T.kind) p.relations) [] _)

  abbrev relation_by : List Symbol → Tree (Number T.kind) × Tree (Number T.kind) → Vector F
  relation_by s q =
      vplus F (row_of F (table_in T.kind T) (λ i j. place_of (of_pair i j) s) (λ g. place_of (of_generator g) s) q.0)
      (scale F (F.minus F.unit) (row_of F (table_in T.kind T) (λ i j. place_of (of_pair i j) s) (λ g. place_of (of_generator g) s) q.1))

  -- what an origin's row stands for
  abbrev pub origin_vector : Origin → Vector F
  origin_vector o = vector_of_origin F P (table_in T.kind T) o

  relation_stands : (k : ℕ) → k < length p.relations → ((d : Equation) → relation_weight T (get_or p.relations k d) ≡ exact (suc T.weight)) →
      (v : List Num) → equation_row T p.relations (1 + k) ≡ Ok v →
      Stands T is_field m (relation_row F P (table_in T.kind T) k) v
  relation_stands k l w v e =
      let d = some_of p.relations k l in
      let h = within k d l in
      same T is_field m _ _ v (ap (relation_by (symbols_in T)) (sym (equation_is k d l)) ∙ ap
      (λ s. relation_by s (get_or (map (equation_in T.kind) p.relations) k (none, none))) (sym symbols_same))
      (relation_reads T is_field rows weights (get_or p.relations k d) h.0 h.1 (w d) v (sym (equation_at T p.relations k d l) ∙ e))

  triple_row : List Symbol → ℕ → ℕ → ℕ → Vector F
  triple_row s i j k = jacobi_row F (table_in T.kind T) (λ i j. place_of (of_pair i j) s) i j k

  triple_stands : (i j k : ℕ) → IsTriple T i j k → (v : List Num) → jacobi_row_of T i j k ≡ Ok v →
      Stands T is_field m (jacobi_row F (table_in T.kind T) (pair_number P (table_in T.kind T)) i j k) v
  unfolding triple_row
  triple_stands i j k h v e =
      same T is_field m _ _ v (ap (λ s. triple_row s i j k) (sym symbols_same)) (jacobi_reads T is_field rows weights i j k h.first h.second h.third h.sum v e)

  cube_by : List Symbol → ℕ → Vector F
  cube_by s i = outer F (table_in T.kind T) (λ i j. place_of (of_pair i j) s) (place F i) (bracket F (table_in T.kind T) (place F i) (place F i))

  cube_stands : (i : ℕ) → IsCube T i → (v : List Num) → cube_row_of T i ≡ Ok v → Stands T is_field m (cube_row F P (table_in T.kind T) i) v
  unfolding cube_by
  cube_stands i h v e = same T is_field m _ _ v (ap (λ s. cube_by s i) (sym symbols_same)) (cube_reads T is_field rows weights i h.below h.sum v e)

  -- the row of a listed origin stands for its vector
  pub origin_reads : (o : Origin) → IsListed T p o → (v : List Num) → row_of_origin T p o ≡ Ok v → Stands T is_field m (origin_vector o) v
  origin_reads _ (listed_relation k l h) v e =
      subst (λ r. Stands T is_field m (relation_row F P (table_in T.kind T) r) v) (let g : k ≡ 1 + k - 1 = omega arith in g) (relation_stands k l h v e)
  origin_reads _ (listed_triple i j k h) v e =
      at_shifts (λ a b c. jacobi_row_of T a b c ≡ Ok v →
      Stands T is_field m (jacobi_row F (table_in T.kind T) (pair_number P (table_in T.kind T)) a b c) v) i j k (triple_stands i j k h v) e
  origin_reads _ (listed_cube i h) v e = subst (λ a. cube_row_of T a ≡ Ok v → Stands T is_field m (cube_row F P (table_in T.kind T) a) v) (shift i)
      (cube_stands i h v) e

  -- which is a source row
  pub origin_source : (o : Origin) → IsListed T p o → IsSource F P (table_in T.kind T) (origin_vector o)
  origin_source _ (listed_relation k l h) =
      subst (λ r. IsSource F P (table_in T.kind T) (relation_row F P (table_in T.kind T) r)) (let g : k ≡ 1 + k - 1 = omega arith in g)
      (of_relation k (omega (arith, length-map p.relations (equation_in T.kind))) (weight_is k (some_of p.relations k l) l ∙ h (some_of p.relations k l)))
  origin_source _ (listed_triple i j k h) =
      at_shifts (λ a b c. IsSource F P (table_in T.kind T) (jacobi_row F (table_in T.kind T) (pair_number P (table_in T.kind T)) a b c)) i j k
      (of_triple i j k h.first h.second h.third h.sum)
  origin_source _ (listed_cube i h) =
      subst (λ a. IsSource F P (table_in T.kind T) (cube_row F P (table_in T.kind T) a)) (shift i)
      (of_cube i ((three_is T.kind).1 h.three) h.below h.odd_one h.sum)

  -- and each source row is the vector of a listed origin
  pub source_origin : (v : Vector F) → IsSource F P (table_in T.kind T) v → (o : Origin) × IsListed T p o × (origin_vector o ≡ v)
  source_origin _ (of_relation k l w) =
      let l' : k < length p.relations = omega (arith, length-map p.relations (equation_in T.kind)) in
      (Relation (1 + k), listed_relation k l' (λ d. sym (weight_is k d l') ∙ w), ap (relation_row F P (table_in T.kind T)) (omega arith))
  source_origin _ (of_triple i j k a b l w) = (
    Jacobi (i + 1) (j + 1) (k + 1),
    listed_triple i j k (record { first = a; second = b; third = l; sum = w }),
    at_shifts (λ a b c. jacobi_row F (table_in T.kind T) (pair_number P (table_in T.kind T)) a b c ≡
        jacobi_row F (table_in T.kind T) (pair_number P (table_in T.kind T)) i j k) i j k refl,
  )
  source_origin _ (of_cube i z l o w) = (
    Cube (i + 1),
    listed_cube i (record { three = (three_is T.kind).0 z; below = l; odd_one = o; sum = w }),
    ap (cube_row F P (table_in T.kind T)) (sym (shift i)),
  )

  -- and each early one that of a listed origin that is not late
  pub early_origin : (bound : ℕ) (v : Vector F) → IsEarlySource F P (table_in T.kind T) bound v →
      (o : Origin) × IsListed T p o × (first_of o ≤ bound) × (origin_vector o ≡ v)
  early_origin bound _ (early_relation k l w) =
      let l' : k < length p.relations = omega (arith, length-map p.relations (equation_in T.kind)) in (
        Relation (1 + k),
        listed_relation k l' (λ d. sym (weight_is k d l') ∙ w),
        omega arith,
        ap (relation_row F P (table_in T.kind T)) (omega arith),
      )
  early_origin bound _ (early_triple i j k b a c l w) = (
    Jacobi (i + 1) (j + 1) (k + 1),
    listed_triple i j k (record { first = a; second = c; third = l; sum = w }),
    omega arith,
    at_shifts (λ a b c. jacobi_row F (table_in T.kind T) (pair_number P (table_in T.kind T)) a b c ≡
        jacobi_row F (table_in T.kind T) (pair_number P (table_in T.kind T)) i j k) i j k refl,
  )
  early_origin bound _ (early_cube i z l o w) = (
    Cube (i + 1),
    listed_cube i (record { three = (three_is T.kind).0 z; below = l; odd_one = o; sum = w }),
    omega arith,
    ap (cube_row F P (table_in T.kind T)) (sym (shift i)),
  )
