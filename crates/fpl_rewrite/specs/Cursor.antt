-- The origins that are still to come, from a place among them on. Places count from 0.
--
--   cubes_from T i           the cubes of b_i, .., where there are cubes
--   to_come T p o            all that is still to come
--   IsNext T p list r o      r is the first of the list and o has the others to come; or there is none
use Rattle.std.specs.Prelude.{ℕ, ◌≡◌, ◌+◌, List, [], ◌∷◌, ◌++◌, length, drop, cond, Option, Some, None}
use Rattle.fpl_model.specs.declared.presentation.Presentation.{Presentation}
use Rattle.fpl_log.specs.declared.step.Origin.{Origin}
use Rattle.fpl_log.specs.declared.step.Origin.TheVariants.{Cube}
use Rattle.fpl_table.specs.Plain.{PlainTable}
use Rattle.fpl_rewrite.specs.declared.origins.Place.{Place}
use Rattle.fpl_rewrite.specs.declared.origins.Place.TheVariants.{AtRelation, AtTriple, AtCube}
use Rattle.fpl_rewrite.specs.declared.origins.Origins.{Origins}
use Rattle.fpl_rewrite.specs.Origins.{relations_from, triples_of, cubes_of, is_cube, is_three}
use Rattle.fpl_rewrite.specs.Triples.{from_to, firsts_from}

abbrev pub cube_at : PlainTable → ℕ → List Origin
cube_at T i = cond (is_cube T i) (Cube (i + 1) ∷ []) []

unfoldable pub cubes_from : PlainTable → ℕ → List Origin
cubes_from T i = cond (is_three T.kind) (from_to (cube_at T) i (length T.basis)) []

abbrev pub to_come_from : PlainTable → Presentation → Place → List Origin
to_come_from T p (AtRelation r) = relations_from T (r + 1) (drop r p.relations) ++ triples_of T ++ cubes_of T
to_come_from T p (AtTriple t) = firsts_from T t.first t.second t.third ++ cubes_of T
to_come_from T p (AtCube i) = cubes_from T i

abbrev pub to_come : PlainTable → Presentation → Origins → List Origin
to_come T p o = to_come_from T p o.place

abbrev pub IsNext : PlainTable → Presentation → List Origin → Option Origin → Place → Type 0
IsNext T p list None place = list ≡ []
IsNext T p list (Some o) place = list ≡ o ∷ to_come_from T p place
