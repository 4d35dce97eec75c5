-- Proofs of the theorems on built tables and the standard table.
use Rattle.std.specs.Prelude.{ℕ, ◌≡◌, ◌<◌, ◌↔◌, length}
use mathlib.Core.Path.{sym, refl, ap₂}
use native.Mathlib.Omega.{arith}
use Rattle.math_fields.specs.Field.{Field}
use Rattle.math_linear.specs.Vector.{Vector, EndsAt}
use Rattle.math_linear.specs.Span.{Spanned, InSpan}
use Rattle.math_linear.proofs.Span.{kind_span_iff}
use Rattle.math_algebra.specs.Tree.{Presentation, IsOver, none, bracket_of}
use Rattle.math_algebra.specs.Tree.IsOver.{over_gen, over_none, over_bracket}
use Rattle.math_algebra.specs.Degrees.{IsSoundPresentation}
use Rattle.math_algebra.specs.Derives.{Derives, Expression}
use Rattle.math_algebra.specs.Table.{Table}
use Rattle.math_algebra.specs.Symbols.{symbols, symbol_at, symbol_tree}
use Rattle.math_algebra.specs.SourceRows.{IsSource}
use Rattle.math_algebra.specs.Built.{Built, IsNext}
use Rattle.math_algebra.specs.Built.Built.{built_next}
use Rattle.math_algebra.specs.Standard.{combined, IsStandard}
use Rattle.math_algebra.proofs.Freely.{DerivesFreely}
use Rattle.math_algebra.proofs.Freely.DerivesFreely.{then}
use Rattle.math_algebra.proofs.Homogeneous.{IsHomogeneous}
use Rattle.math_algebra.proofs.Equations.{sound_homogeneous}
use Rattle.math_algebra.proofs.Degrees.{top_is}
use Rattle.math_algebra.proofs.Derived.{of_path}
use Rattle.math_algebra.proofs.Within.{derives_within, within_derives, combined_over, along}
use Rattle.math_standard.proofs.NewPlaces.{trees_same}
use Rattle.math_standard.proofs.BuiltFacts.{Whole, built_whole}
use Rattle.math_standard.proofs.NextTables.{next_is}
use Rattle.math_standard.proofs.Exists.{built_exists, source_closing}
use Rattle.math_standard.proofs.Agreement.{Twins, standard_twins, symbol_same}
use Rattle.math_standard.proofs.SameCombinations.{symbol_over}
use Rattle.math_values.proofs.SymbolLists.{place_symbol}
use Rattle.math_standard.proofs.Main.{built_past, built_obeys, built_headline, built_expressions, built_unique}
use Rattle.math_standard.proofs.Standing.{rows_exact, built_symbols}
use Rattle.math_standard.proofs.Views.{lower_built, built_same}
use Rattle.math_algebra.specs.NextTable.{next_table}
use Rattle.math_theorems.specs.Standard.{BuiltObeys, Headline, BuiltIsStandard, StandardIsBuilt, SomeStandard, OneStandard, IsSoundTable, StandardIsSound, ImagesPastAreZero, over_symbols, RowsAreZero, ClosedRowsAreZero, LowerIsBuilt, AgreeingIsBuilt, ClosedRowsBuild}

module _ (K : Field) where
  pub built_obeys_law : BuiltObeys K
  built_obeys_law P s T b = built_obeys K P (sound_homogeneous P s) T b

  pub headline : Headline K
  headline P s T b e f o q t u =
      let h = built_headline K P (sound_homogeneous P s) T b e f (top_is P o T.weight t) (top_is P q T.weight u) in
      ((λ v. derives_within K P s.over e f o q (h.0 v)), (λ d. h.1 (within_derives K P d)))

  pub built_is_standard : BuiltIsStandard K
  built_is_standard P s T b = let w = built_whole K P (sound_homogeneous P s) T b in (w.tree, w.standard)

  pub standard_is_built : StandardIsBuilt K
  standard_is_built P s T tree h =
      let hom = sound_homogeneous P s in
      let e = built_exists K P hom T.weight in
      let w = built_whole K P hom e.0 e.1 in
      built_same K P hom e.0 T e.1 (standard_twins K P s.over e.0 T w.tree tree w.standard h e.2).agree

  pub some_standard : SomeStandard K
  some_standard P s d =
      let e = built_exists K P (sound_homogeneous P s) d in
      let w = built_whole K P (sound_homogeneous P s) e.0 e.1 in (e.0, w.tree, w.standard, e.2)

  pub one_standard : OneStandard K
  one_standard P s T S tree twig h k w = let t = standard_twins K P s.over T S tree twig h k w in (t.agree, t.trees)

  pub images_past : ImagesPastAreZero K
  images_past P s T b g l h = built_past K P (sound_homogeneous P s) T b g l h

  pub lower_is_built : LowerIsBuilt K
  lower_is_built P s T S b low =
      let hom = sound_homogeneous P s in (lower_built K P hom T S b low, λ w l. built_symbols K P hom T S b low w (omega arith))

  pub agreeing_is_built : AgreeingIsBuilt K
  agreeing_is_built P s T S b a = built_same K P (sound_homogeneous P s) T S b a

  pub closed_rows_build : ClosedRowsBuild K
  closed_rows_build P T b n row pivot form = built_next b (next_is K P T n row pivot form)

-- the standard table with given expressions of its basis elements
module _ (K : Field) (P : Presentation K.Carrier) (s : IsSoundPresentation P) (T : Table K) (tree : ℕ → Expression K) (standard : IsStandard K P T tree) where
  abbrev hom : IsHomogeneous P
  hom = sound_homogeneous P s

  built : Built K P T
  built = standard_is_built K P s T tree standard

  abbrev whole : Whole K P T
  whole = built_whole K P hom T built

  twins : Twins K P T T whole.tree tree
  twins = standard_twins K P s.over T T whole.tree tree whole.standard standard refl

  tree_over : (i : ℕ) → i < length T.basis → IsOver P (tree i)
  tree_over i l = (standard_twins K P s.over T T tree tree standard standard refl).over i l

  same_combined : (v : Vector K) → combined K whole.tree (length T.basis) v ≡ combined K tree (length T.basis) v
  same_combined v = trees_same K P tree whole.tree (length T.basis) v twins.trees

  turned : (e : Expression K) (v : Vector K) → IsOver P e → DerivesFreely K P e (combined K whole.tree (length T.basis) v) →
      Derives K P e (combined K tree (length T.basis) v)
  turned e v o h =
      derives_within K P s.over e _ o (combined_over K P tree (length T.basis) v tree_over) (then h (of_path K P _ _ (same_combined v)))

  pub sound_table : IsSoundTable K P T tree
  sound_table = record {
    over = tree_over;
    images = λ g l h. turned _ _ (over_gen g l) (whole.facts.images g l h);
    entries = λ i j l k h.
        turned _ _ (over_bracket (tree_over i l) (tree_over j k))
        (then (of_path K P _ _ (ap₂ bracket_of (sym (twins.trees i l)) (sym (twins.trees j k)))) (whole.facts.entries i j l k h));
    expressions = λ e o t. turned _ _ o (built_expressions K P hom T built e (top_is P o T.weight t));
    unique = λ e v z h. built_unique K P hom T built e v z (then (within_derives K P h) (of_path K P _ _ (sym (same_combined v))));
  }

  same_symbols : (v : Vector K) → over_symbols K P T whole.tree v ≡ over_symbols K P T tree v
  same_symbols v =
      trees_same K P (λ s. symbol_tree tree (symbol_at P T s)) (λ s. symbol_tree whole.tree (symbol_at P T s)) (length (symbols P T)) v
      (λ k l. symbol_same K P T T whole.tree tree twins k l)

  pub closed_rows_zero : (T' : Table K) (next : IsNext K P T T') (v : Vector K) → EndsAt K (length (symbols P T)) v →
      Derives K P (over_symbols K P T tree v) none ↔ InSpan K next.number_of_rows next.row v
  closed_rows_zero T' next v short =
      let r = rows_exact K P hom T T' whole.tree whole.facts next v short in (
        (λ h. r.0 (then (of_path K P _ _ (same_symbols v)) (within_derives K P h))),
        (λ h. along K P (sym (same_symbols v)) refl (derives_within K P s.over _ _ symbols_over over_none (r.1 h))),
      )
    where
      symbols_over : IsOver P (over_symbols K P T whole.tree v)
      symbols_over =
          combined_over K P (λ s. symbol_tree whole.tree (symbol_at P T s)) (length (symbols P T)) v
          (λ t l. symbol_over K P T whole.tree whole.facts.tree_over (symbol_at P T t) (place_symbol K P T t l))

  pub rows_zero : (v : Vector K) → EndsAt K (length (symbols P T)) v → Derives K P (over_symbols K P T tree v) none ↔ Spanned K (IsSource K P T) v
  rows_zero v short =
      let c = source_closing K P hom T whole.tree whole.facts in
      let next = next_is K P T c.n c.row c.pivot c.form in
      let a = closed_rows_zero (next_table K P T c.n c.row c.pivot) next v short in
      let b = kind_span_iff K (IsSource K P T) next.number_of_rows next.row next.form.spans v in ((λ h. b.1 (a.0 h)), (λ h. a.1 (b.0 h)))

module _ (K : Field) where
  pub standard_is_sound : StandardIsSound K
  standard_is_sound P s T tree h = sound_table K P s T tree h

  pub rows_are_zero : RowsAreZero K
  rows_are_zero P s T tree h v short = rows_zero K P s T tree h v short

  pub closed_rows_are_zero : ClosedRowsAreZero K
  closed_rows_are_zero P s T tree h T' next v short = closed_rows_zero K P s T tree h T' next v short
