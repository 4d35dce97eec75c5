-- The laws of tables, over the field of a sound presentation.
use Rattle.std.specs.Prelude.{◌≡◌, ℕ, ◌+◌, ◌<◌, ◌≤◌, ◌-◌, ◌⊎◌, true, List, [], length, get_or, map, Ok, All, Contains}
use mathlib.Core.Path.{sym, ap, subst}
use mathlib.Core.Logic.{inl, inr}
use native.Mathlib.Omega.{arith}
use native.Mathlib.Decide.{dec_le}
use Rattle.std.proofs.lemmas.List.{get_or_past, length-map}
use Rattle.std.proofs.lemmas.List.Elements.{All-nil}
use Rattle.math_linear.specs.Vector.{Vector}
use Rattle.fpl_numbers.specs.declared.number.Num.{Num}
use Rattle.fpl_numbers.specs.declared.number.Kind.{Kind}
use Rattle.fpl_numbers.specs.Numbers.{IsField, IsElement}
use Rattle.fpl_numbers.specs.Kinds.{field_of, Number}
use Rattle.math_algebra.specs.Tree.{Tree, odd, Generator, no_generator, Presentation as Abstract}
use Rattle.math_algebra.specs.Table.{ObeysLaw, IsOf, product, bracket, val}
use Rattle.math_algebra.specs.Symbols.{is_odd}
use Rattle.math_algebra.specs.SourceRows.{IsSource}
use Rattle.math_algebra.specs.Built.{Built}
use Rattle.math_algebra.proofs.Equations.{sound_homogeneous}
use Rattle.math_standard.proofs.BuiltFacts.{built_whole}
use Rattle.math_theorems.proofs.StandardLaws.{standard_is_built}
use Rattle.fpl_model.specs.declared.presentation.Presentation.{Presentation}
use Rattle.fpl_model.specs.Meaning.{plain, in_field, generator_in, generators_in, equation_in, presentation_in}
use Rattle.fpl_model.specs.Sound.{IsWithin, IsSound}
use Rattle.fpl_log.specs.declared.step.Origin.{Origin}
use Rattle.fpl_rows.specs.Meaning.{vector_in}
use Rattle.fpl_table.specs.Plain.{PlainTable, plain_basis, first_partner, generator_at, image_row, table_in, symbols_in}
use Rattle.fpl_table.specs.Shape.{HasShape}
use Rattle.fpl_table.specs.Standard.{printed_tree}
use Rattle.fpl_table.proofs.Entries.{entry_row_within, image_row_within}
use Rattle.fpl_table.specs.Value.{bracket_of, value_of}
use Rattle.fpl_rewrite.specs.Origins.{origins_of}
use Rattle.fpl_rewrite.specs.Rows.{row_of_origin}
use Rattle.plain_tables.proofs.Holding.{sound_is_sound}
use Rattle.plain_sources.specs.Premises.{IsRowIn, HasRows, HasWeights}
use Rattle.plain_sources.specs.RowLaws.{Stands}
use Rattle.plain_sources.specs.TableLaws.{WeightsOfTable, vector_of_origin}
use Rattle.plain_sources.proofs.Products.{bracket_reads}
use Rattle.plain_sources.proofs.Values.{value_reads}
use Rattle.plain_sources.proofs.Listed.{listed, is_listed}
use Rattle.plain_sources.proofs.Sources.{origin_reads, origin_source, source_origin, early_origin}
use Rattle.plain_sources.specs.Late.{first_of}
use Rattle.math_generators.specs.Triples.{IsEarlySource}

-- the rows of a table of code
pub rows_of_shape : (T : PlainTable) → HasShape T → HasRows T
rows_of_shape T shape = record {
  images = λ g l. image g l (dec_le (generator_at T g).weight T.weight);
  entries = λ i j l k regular h. entry_row_within T shape i j l k (partner i j regular) h;
}
  where
    image : (g : ℕ) → g < length T.generators → Dec ((generator_at T g).weight ≤ T.weight) → IsRowIn T (image_row T g)
    image g l (yes h) = image_row_within T shape g l h
    image g l (no h) =
        subst (λ rows. IsRowIn T (get_or rows g []))
        (sym (get_or_past T.images ((generator_at T g).weight - 1) [] (let e = shape.images_length in omega arith)))
        (record { elements = All-nil (IsElement T.kind); short = omega arith })

    partner : (i j : ℕ) → (i < j) ⊎ ((i ≡ j) × ((plain_basis T i).parity ≡ odd)) → first_partner T i ≤ j
    partner i j (inl h) = grind arith
    partner i j (inr h) = let e = h.0 in let o : is_odd (plain_basis T i).parity ≡ true = ap is_odd h.1 in grind arith

module _ (p : Presentation) (T : PlainTable) (kind : T.kind ≡ p.field) (generators : T.generators ≡ generators_in p) where
  -- what is so over the table's own kind and generators is so over the presentation's, and the other way round
  there : (Q : Kind → List Generator → Type 0) → Q T.kind T.generators → Q p.field (generators_in p)
  there Q h = subst (λ k. Q k (generators_in p)) kind (subst (Q T.kind) generators h)

  back : (Q : Kind → List Generator → Type 0) → Q p.field (generators_in p) → Q T.kind T.generators
  back Q h = subst (λ k. Q k T.generators) (sym kind) (subst (Q p.field) (sym generators) h)

  abbrev over : (k : Kind) → List Generator → Abstract (Number k)
  over k gs = record { generators = gs; relations = map (equation_in k) p.relations }

  abbrev ImagesAt : Kind → List Generator → Type 0
  ImagesAt k gs = (g : ℕ) → g < length gs → IsOf (field_of k) (table_in k T) (get_or gs g no_generator).weight (vector_in k (image_row T g))

  abbrev ProductsAt : Kind → List Generator → Type 0
  ProductsAt k gs =
      (i j : ℕ) → i < length T.basis → j < length T.basis → IsOf (field_of k) (table_in k T) ((plain_basis T i).weight + (plain_basis T j).weight)
      (product (field_of k) (table_in k T) i j)

  pub weights_of_law : HasShape T → ObeysLaw (field_of p.field) (presentation_in p) (table_in p.field T) → HasWeights T
  weights_of_law shape law = record {
    positive = shape.heavy;
    within = shape.light;
    images = back ImagesAt law.image_of;
    products =
        back ProductsAt law.entry_of;
  }

  pub weights_of_built : IsSound p → Built (field_of p.field) (presentation_in p) (table_in p.field T) → HasWeights T
  weights_of_built sound built =
      let facts = (built_whole (field_of p.field) (presentation_in p) (sound_homogeneous (presentation_in p) (sound_is_sound p sound))
      (table_in p.field T) built).facts in
      record { positive = facts.positive; within = facts.within; images = back ImagesAt facts.image_of; products = back ProductsAt facts.entry_of }

  within_here : (e : Tree Num) → IsWithin p.field (length p.generators) e → IsWithin T.kind (length T.generators) e
  within_here e h = back (λ k gs. IsWithin k (length gs) e) (subst (λ n. IsWithin p.field n e) (sym (length-map p.generators generator_in)) h)

  module _ (sound : IsSound p) (rows : HasRows T) where
    is_field : IsField T.kind
    is_field = subst IsField (sym kind) sound.field

    pub bracket_stands : (x y z : List Num) → IsRowIn T x → IsRowIn T y → bracket_of T x y ≡ Ok z →
        Stands p.field (length T.basis) (bracket (field_of p.field) (table_in p.field T) (vector_in p.field x) (vector_in p.field y)) z
    bracket_stands x y z a b e =
        subst (λ k. Stands k (length T.basis) (bracket (field_of k) (table_in k T) (vector_in k x) (vector_in k y)) z) kind
        (bracket_reads T is_field rows x y z a b e)

    module _ (weights : HasWeights T) where
      pub value_stands : (e : Tree Num) → IsWithin p.field (length p.generators) e → (v : List Num) → value_of T e ≡ Ok v →
          Stands p.field (length T.basis) (val (field_of p.field) (table_in p.field T) (in_field p.field e)) v
      value_stands e h v f =
          subst (λ k. Stands k (length T.basis) (val (field_of k) (table_in k T) (in_field k e)) v) kind
          (value_reads T is_field rows weights e (within_here e h) v f)

      relations_within : All (λ q. IsWithin T.kind (length T.generators) (plain q.left) × IsWithin T.kind (length T.generators) (plain q.right)) p.relations
      relations_within k d l = let h = sound.relations k d l in (within_here _ h.0.0, within_here _ h.1.0)

      pub rows_stand : (o : Origin) → Contains (origins_of T p) o → (row : List Num) → row_of_origin T p o ≡ Ok row →
          Stands p.field (length (symbols_in T)) (vector_of_origin (field_of p.field) (presentation_in p) (table_in p.field T) o) row
      rows_stand o h row e =
          there (λ k gs. Stands k (length (symbols_in T)) (vector_of_origin (field_of k) (over k gs) (table_in k T) o) row)
          (origin_reads T is_field rows weights p relations_within o (listed T p o h) row e)

      pub origins_are_sources : (o : Origin) → Contains (origins_of T p) o →
          IsSource (field_of p.field) (presentation_in p) (table_in p.field T) (vector_of_origin (field_of p.field) (presentation_in p) (table_in p.field T) o)
      origins_are_sources o h =
          there (λ k gs. IsSource (field_of k) (over k gs) (table_in k T) (vector_of_origin (field_of k) (over k gs) (table_in k T) o))
          (origin_source T is_field rows weights p relations_within o (listed T p o h))

      pub sources_are_origins : (v : Vector (field_of p.field)) → IsSource (field_of p.field) (presentation_in p) (table_in p.field T) v →
          (o : Origin) × Contains (origins_of T p) o × (vector_of_origin (field_of p.field) (presentation_in p) (table_in p.field T) o ≡ v)
      sources_are_origins =
          there (λ k gs. (v : Vector (field_of k)) → IsSource (field_of k) (over k gs) (table_in k T) v →
          (o : Origin) × Contains (origins_of T p) o × (vector_of_origin (field_of k) (over k gs) (table_in k T) o ≡ v))
          (λ v h. let r = source_origin T is_field rows weights p relations_within v h in (r.0, is_listed T p r.0 r.1, r.2))

      pub early_origins : (bound : ℕ) (v : Vector (field_of p.field)) →
          IsEarlySource (field_of p.field) (presentation_in p) (table_in p.field T) bound v →
          (o : Origin) × Contains (origins_of T p) o × (first_of o ≤ bound) ×
          (vector_of_origin (field_of p.field) (presentation_in p) (table_in p.field T) o ≡ v)
      early_origins bound =
          there (λ k gs. (v : Vector (field_of k)) → IsEarlySource (field_of k) (over k gs) (table_in k T) bound v →
          (o : Origin) × Contains (origins_of T p) o × (first_of o ≤ bound) × (vector_of_origin (field_of k) (over k gs) (table_in k T) o ≡ v))
          (λ v h. let r = early_origin T is_field rows weights p relations_within bound v h in (r.0, is_listed T p r.0 r.1, r.2, r.3))

pub weights_of_table : (p : Presentation) → WeightsOfTable p
weights_of_table p sound d T table =
    weights_of_built p T table.kind table.generators sound
    (standard_is_built (field_of p.field) (presentation_in p) (sound_is_sound p sound) (table_in p.field T) (printed_tree p T) table.standard)
