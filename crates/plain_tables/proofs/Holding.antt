-- Proofs of the theorems on the invariant.
use Rattle.std.specs.Prelude.{ℕ, zero, suc, ◌≡◌, ◌≢◌, ◌<◌, ◌≤◌, ◌+◌, ◌-◌, List, [], ◌∷◌, ◌++◌, length, map, get_or, All, cond, nat_eq, nat_lt, true, false}
use mathlib.Core.Path.{sym, refl, ap, ap₂, fun_ext, subst}
use native.Mathlib.Omega.{arith}
use Rattle.math_linear.specs.Vector.{vzero}
use Rattle.math_linear.specs.Span.{SpansKind}
use Rattle.fpl_numbers.specs.declared.number.Num.{Num}
use Rattle.fpl_numbers.specs.declared.number.Kind.{Kind}
use Rattle.fpl_numbers.specs.Kinds.{Number, field_of}
use Rattle.fpl_scalar.specs.Vectors.{AreElements}
use Rattle.fpl_rows.specs.Meaning.{vector_in, row_in, IsClosedList}
use Rattle.fpl_rows.proofs.Fits.{all_head, all_tail}
use Rattle.math_algebra.specs.Tree.{Tree, Trees, gen, none, sum_of, multiple, bracket_of, end, more, Presentation as Algebra, no_generator, IsOver, AreOver}
use Rattle.math_algebra.specs.Tree.IsOver.{over_gen, over_none, over_sum, over_multiple, over_bracket}
use Rattle.math_algebra.specs.Tree.AreOver.{over_end, over_more}
use Rattle.math_algebra.specs.Degrees.{IsSoundPresentation, weight_of_both, parity_of_both, mixed}
use Rattle.math_algebra.specs.Table.{Symbol, of_generator, of_pair}
use Rattle.math_linear.specs.Lists.{joined}
use Rattle.math_algebra.specs.Symbols.{is_odd, pairs_of, symbols, symbols_of}
use Rattle.math_algebra.specs.SourceRows.{IsSource}
use Rattle.math_algebra.specs.Built.{Built}
use Rattle.math_algebra.specs.Built.Built.{built_start}
use Rattle.math_theorems.proofs.StandardLaws.{built_is_standard, headline}
use Rattle.fpl_model.specs.declared.presentation.Generator.{Generator}
use Rattle.fpl_model.specs.declared.presentation.Equation.{Equation}
use Rattle.fpl_model.specs.Meaning.{in_field, all_in_field, generator_in, equation_in, presentation_in, tree_in, plain}
use Rattle.fpl_model.specs.Sound.{IsWithin, AreWithin, IsSoundEquation}
use Rattle.fpl_table.specs.Plain.{PlainTable, plain_basis, through, table_in, shell_in, symbols_in}
use Rattle.fpl_table.specs.Push.{push_of}
use Rattle.fpl_table.specs.Shape.{HasShape, images_at, entries_at}
use Rattle.fpl_table.specs.Standard.{printed_tree}
use Rattle.math_standard.proofs.NextTables.{length_map}
use Rattle.plain_tables.specs.Holds.{StartHolds, PushKeepsShape, PushHolds, HeldIsTable, SymbolsAreSame, SoundIsSound}
use Rattle.plain_tables.proofs.Pushed.{push_built}
use Rattle.plain_tables.proofs.Shaped.{push_shape}
use Rattle.plain_tables.proofs.Trees.{tree_printed, standard_along}
use Rattle.fpl_table.proofs.Shapes.{start_whole}
use Rattle.fpl_rows.proofs.Packings.{get_or_default}

-- expressions of a presentation are over its algebra
module _ (k : Kind) (P : Algebra (Number k)) where
  mutual
    pub within_over : (t : Tree Num) → IsWithin k (length P.generators) t → IsOver P (in_field k t)
    within_over (gen g) h = over_gen (g - 1) (omega (arith, h.0, h.1))
    within_over none h = over_none
    within_over (sum_of es) h = over_sum (withins_over es h.1)
    within_over (multiple c e) h = over_multiple (within_over e h.1)
    within_over (bracket_of a b) h = over_bracket (within_over a h.0) (within_over b h.1)

    pub withins_over : (es : Trees Num) → AreWithin k (length P.generators) es → AreOver P (all_in_field k es)
    withins_over end h = over_end
    withins_over (more e es) h = over_more (within_over e h.0) (withins_over es h.1)

heavy_generators : (gs : List Generator) → All (λ g. (1 ≤ g.weight) × (g.weight ≤ 1000)) gs → (g : ℕ) → g < length (map generator_in gs) →
    0 < (get_or (map generator_in gs) g no_generator).weight
heavy_generators [] h g l = absurd (omega (arith, l))
heavy_generators (x ∷ xs) h zero l = (all_head (λ g. (1 ≤ g.weight) × (g.weight ≤ 1000)) x xs h).0
heavy_generators (x ∷ xs) h (suc g) l = heavy_generators xs (all_tail (λ g. (1 ≤ g.weight) × (g.weight ≤ 1000)) x xs h) g (omega (arith, l))

equation_at : (k : Kind) (Q : Equation → Type 0) (qs : List Equation) → All Q qs → (i : ℕ) → i < length (map (equation_in k) qs) →
    (q : Equation) × Q q × (get_or (map (equation_in k) qs) i (none, none) ≡ equation_in k q)
equation_at k Q [] h i l = absurd (omega (arith, l))
equation_at k Q (q ∷ qs) h zero l = (q, all_head Q q qs h, refl)
equation_at k Q (q ∷ qs) h (suc i) l = equation_at k Q qs (all_tail Q q qs h) i (omega (arith, l))

pub sound_is_sound : SoundIsSound
sound_is_sound p s = record {
  positive = heavy_generators p.generators s.weights;
  over = λ i l.
      let q = equation_at p.field (IsSoundEquation p) p.relations s.relations i l in (
        subst (λ e. IsOver (presentation_in p) e.0) (sym q.2) (over q.0.left q.1.0.0),
        subst (λ e. IsOver (presentation_in p) e.1) (sym q.2)
            (over q.0.right q.1.1.0),
      );
  weights = λ i l.
      let q = equation_at p.field (IsSoundEquation p) p.relations s.relations i l in subst (λ e. weight_of_both (presentation_in p) e.0 e.1 ≢ mixed)
      (sym q.2) q.1.2.0;
  parities = λ i l.
      let q = equation_at p.field (IsSoundEquation p) p.relations s.relations i l in subst (λ e. parity_of_both (presentation_in p) e.0 e.1 ≢ mixed)
      (sym q.2) q.1.2.1;
}
  where
    over : (e : _) → IsWithin p.field (length p.generators) (plain e) → IsOver (presentation_in p) (tree_in p.field e)
    over e h = within_over p.field (presentation_in p) (plain e) (subst (λ n. IsWithin p.field n (plain e)) (sym (length_map generator_in p.generators)) h)

-- symbols
symbols_by : (k : Kind) (P : Algebra (Number k)) (T : PlainTable) → T.kind ≡ k → T.generators ≡ P.generators → symbols_in T ≡ symbols P (table_in k T)
unfolding symbols symbols_of
symbols_by k P T e g =
    ap₂ (λ j G. joined (length G) (λ g. cond (nat_eq (get_or G g no_generator).weight (suc T.weight)) (of_generator g ∷ []) []) ++
    pairs_of (table_in j T) (suc T.weight)) e g

symbols_of_by : (k : Kind) (P : Algebra (Number k)) (T : PlainTable) → T.kind ≡ k → T.generators ≡ P.generators → (w : ℕ) →
    symbols_of (shell_in T.kind T) (table_in T.kind T) w ≡ symbols_of P (table_in k T) w
unfolding symbols_of
symbols_of_by k P T e g w = ap (λ G. joined (length G) (λ g. cond (nat_eq (get_or G g no_generator).weight w) (of_generator g ∷ []) []) ++ pairs_in) g
  where
    pairs_in : List Symbol
    pairs_in =
        joined (length T.basis)
        (λ i. joined (length T.basis) (λ j. cond (cond (nat_eq ((plain_basis T i).weight + (plain_basis T j).weight) w)
        (cond (nat_lt i j) true (cond (nat_eq i j) (is_odd (plain_basis T i).parity) false)) false) (of_pair i j ∷ []) []))

pub symbols_are_same : SymbolsAreSame
symbols_are_same p T e g = (symbols_by p.field (presentation_in p) T e g, symbols_of_by p.field (presentation_in p) T e g)

no_vector : (k : Kind) → vector_in k [] ≡ vzero (field_of k)
unfolding vzero
no_vector k = fun_ext (λ s. refl)

pub start_holds : StartHolds
start_holds p s = record {
  sound = s;
  kind = refl;
  generators = refl;
  shape = (start_whole p.field p.generators s.field s.few s.weights).shape;
  built = built_start (record { weight = refl; basis = refl; images = λ g l. no_vector p.field });
}

push_by : (T : PlainTable) (shape : HasShape T) (rows : List (List Num)) → IsClosedList T.kind (length (symbols_in T)) rows → (k : Kind) →
    T.kind ≡ k → (P : Algebra (Number k)) → P.generators ≡ T.generators → IsSoundPresentation P →
    Built (field_of k) P (table_in k T) → SpansKind (field_of k) (IsSource (field_of k) P (table_in k T)) (length rows) (row_in k rows) →
    Built (field_of k) P (table_in k (push_of T rows))
push_by T shape rows closed k e =
    subst
    (λ k. (P : Algebra (Number k)) → P.generators ≡ T.generators → IsSoundPresentation P → Built (field_of k) P (table_in k T) →
    SpansKind (field_of k) (IsSource (field_of k) P (table_in k T)) (length rows) (row_in k rows) → Built (field_of k) P (table_in k (push_of T rows)))
    e (λ P g s b spans. push_built T shape P g rows closed s b spans)

pub push_keeps_shape : PushKeepsShape
push_keeps_shape T rows shape below few are = push_shape T shape rows are below few

pub push_holds : PushHolds
push_holds p T rows h below few closed spans = record {
  sound = h.sound;
  kind = h.kind;
  generators = h.generators;
  shape = push_shape T h.shape rows closed.are_rows below few;
  built = push_by T h.shape rows closed p.field h.kind (presentation_in p) (sym h.generators) (sound_is_sound p h.sound) h.built spans;
}

images_are : (T : PlainTable) → HasShape T → All (λ rows. All (AreElements T.kind) rows) T.images
images_are T shape v d l =
    subst (λ rows. All (AreElements T.kind) rows) (get_or_default T.images v [] d l)
    (λ g e m. subst (AreElements T.kind) (get_or_default (images_at T v) g [] e m) (shape.image_rows v g below
    (omega (arith, m, shape.image_lengths v below))).elements)
  where
    below : v < T.weight
    below = omega (arith, l, shape.images_length)

entries_are : (T : PlainTable) → HasShape T → All (λ level. All (λ rows. All (AreElements T.kind) rows) level) T.entries
entries_are T shape v d l = subst (λ level. All (λ rows. All (AreElements T.kind) rows) level) (get_or_default T.entries v [] d l) (λ i e m. rows_are i e m)
  where
    below : v < T.weight
    below = omega (arith, l, shape.entries_length)

    through_at : (i : ℕ) → i < length (entries_at T v) → i < through T v
    through_at i m = omega (arith, m, shape.entry_lengths v below)

    rows_are : (i : ℕ) (e : List (List Num)) → i < length (entries_at T v) → All (AreElements T.kind) (get_or (entries_at T v) i e)
    rows_are i e m =
        subst (λ rows. All (AreElements T.kind) rows) (get_or_default (entries_at T v) i [] e m)
        (λ q f o. subst (AreElements T.kind) (get_or_default (get_or (entries_at T v) i []) q [] f o)
        (shape.entry_rows v i q below (through_at i m) (omega (arith, o, shape.partner_lengths v i below (through_at i m)))).elements)

pub held_is_table : HeldIsTable
held_is_table p T h =
    let s = sound_is_sound p h.sound in
    let standard = built_is_standard (field_of p.field) (presentation_in p) s (table_in p.field T) h.built in
    record {
      kind = h.kind;
      weight = refl;
      generators = h.generators;
      images = images_are T h.shape;
      entries = entries_are T h.shape;
      standard =
          standard_along (field_of p.field) (presentation_in p) (table_in p.field T) standard.0 (printed_tree p T) standard.1
          (tree_printed p.field (presentation_in p) (table_in p.field T) standard.0 standard.1);
      values = λ e f o q t u. headline (field_of p.field) (presentation_in p) s (table_in p.field T) h.built e f o q t u;
    }
