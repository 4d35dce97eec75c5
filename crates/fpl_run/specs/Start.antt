-- A run through the weights of what was read.
--   Start: a presentation, what is stored for it, the place where its sections begin, whether there are any, and matrices of the generators
--   of_text p: nothing is stored for the presentation of a text, or for one that is built in
--   of_head bytes h: sections may stand in these bytes, after their head
--   with_matrices a s: the same with these matrices
--   begun_for s: the stage at weight 0
--   walk_for t s: the weights through the task's limit, or as many as come before a stop
--   HasCome t s: the walk comes to the limit, or, where nothing is computed, to the end of what is stored
--   cost_for t s: how many origins those weights have that are computed
use Rattle.std.specs.Prelude.{ℕ, ◌≡◌, ◌⊎◌, List, [], Bool, true, false, Some, None}
use Rattle.fpl_model.specs.declared.presentation.Presentation.{Presentation}
use Rattle.fpl_checkpoint.specs.declared.head.Head.{Head}
use Rattle.fpl_matrices.specs.Matrices.{Assigned}
use Rattle.fpl_walk.specs.Walk.{Stored, Stage, Walked, ended, begun, walk_of, cost_of}
use Rattle.fpl_run.specs.declared.task.Task.{Task}
use Rattle.fpl_run.specs.Task.{does_compute}
use Rattle.fpl_run.specs.Matrices.{none_given}

pub record Start : Type 0 where
  pub presentation : Presentation
  pub stored : Stored
  pub place : ℕ
  pub has : Bool
  pub matrices : Assigned

abbrev pub of_text : Presentation → Start
of_text p = record { presentation = p; stored = record { version = 2; bytes = [] }; place = 0; has = false; matrices = none_given }

abbrev pub of_head : List ℕ → Head → Start
of_head bytes h = record { presentation = h.presentation; stored = record { version = h.version; bytes = bytes }; place = h.end; has = true; matrices = none_given }

abbrev pub with_matrices : Assigned → Start → Start
with_matrices a s = record { presentation = s.presentation; stored = s.stored; place = s.place; has = s.has; matrices = a }

abbrev pub begun_for : Start → Stage
begun_for s = begun s.presentation s.place s.has

abbrev pub walk_for : Task → Start → Walked
walk_for t s = walk_of (does_compute t.way) t.entries s.presentation s.stored t.limit (begun_for s)

abbrev pub HasCome : Task → Start → Type 0
HasCome t s = ((walk_for t s).stop ≡ None) ⊎ ((walk_for t s).stop ≡ Some ended)

abbrev pub cost_for : Task → Start → ℕ
cost_for t s = cost_of (does_compute t.way) t.entries s.presentation s.stored t.limit (begun_for s)
