-- The main theorems, over any field.
use Rattle.std.specs.Prelude.{ℕ, ◌≡◌, ◌<◌, ◌≤◌, ◌↔◌, length}
use mathlib.Core.Path.{sym, ap, ◌∙◌}
use native.Mathlib.Omega.{arith}
use Rattle.math_fields.specs.Field.{Field}
use Rattle.math_linear.specs.Vector.{Vector, vzero, scale}
use Rattle.math_algebra.specs.Tree.{Presentation, generator}
use Rattle.math_standard.proofs.NewPlaces.{of_past}
use Rattle.math_algebra.proofs.Freely.{DerivesFreely}
use Rattle.math_algebra.specs.Derives.{Expression}
use Rattle.math_algebra.specs.Table.{Table, val, ObeysLaw}
use Rattle.math_algebra.specs.Standard.{combined}
use Rattle.math_algebra.proofs.Homogeneous.{TopIs, IsHomogeneous}
use Rattle.math_algebra.specs.Built.{Built}
use Rattle.math_linear.proofs.Vectors.{from_places, total_below}
use Rattle.math_values.proofs.Soundness.{expression_sound}
use Rattle.math_values.proofs.Facts.{obeys, is_sound, one_value, same_derived, val_combined}
use Rattle.math_standard.proofs.BuiltFacts.{Whole, built_whole}

module _ (K : Field) (P : Presentation K.Carrier) (hom : IsHomogeneous P) (T : Table K) (b : Built K P T) where
  abbrev w : Whole K P T
  w = built_whole K P hom T b

  pub built_obeys : ObeysLaw K P T
  built_obeys = obeys K P T w.tree w.facts

  pub built_one_value : (e f : Expression K) → DerivesFreely K P e f → val K T e ≡ val K T f
  built_one_value e f h = one_value K P T w.tree w.facts e f h

  pub built_headline : (e f : Expression K) → TopIs P e T.weight → TopIs P f T.weight → (val K T e ≡ val K T f) ↔ DerivesFreely K P e f
  built_headline e f t u = ((λ h. same_derived K P T w.tree w.facts e f t u h), (λ h. built_one_value e f h))

  pub built_expressions : (e : Expression K) → TopIs P e T.weight → DerivesFreely K P e (combined K (built_whole K P hom T b).tree (length T.basis) (val K T e))
  built_expressions e t = expression_sound K P T w.tree (is_sound K P T w.tree w.facts) t (omega arith)

  pub built_past : (g : ℕ) → g < length P.generators → T.weight < (generator P g).weight → T.image g ≡ vzero K
  built_past g l h = of_past K T _ _ w.facts.within h (w.facts.image_of g l)

  pub built_unique : (e : Expression K) (v : Vector K) → ((i : ℕ) → length T.basis ≤ i → v i ≡ K.nought) →
      DerivesFreely K P e (combined K (built_whole K P hom T b).tree (length T.basis) v) → v ≡ val K T e
  built_unique e v z h =
      from_places K (length T.basis) v z
      ∙ total_below K (length T.basis) _ _ (λ i l. ap (scale K (v i)) (sym (w.facts.tree_val i l)))
      ∙ sym (val_combined K T w.tree (length T.basis) v) ∙ sym (built_one_value e _ h)
