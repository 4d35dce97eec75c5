-- What is written before what is computed.
--   Begins old new text: what an output took begins with the text
--   through t w: the task as far as this weight
--   IsPaced t s out_old out_new old new: a section is written before the next weight is begun. Either no step was taken; or the head and the sections of some
--   weights were written, and there were at most as many steps as those weights and the next one have origins that are computed
use Rattle.std.specs.Prelude.{ℕ, suc, ◌≡◌, ◌+◌, ◌≤◌, ◌⊎◌, List, ◌++◌, take}
use Rattle.std.specs.declared.option.Option.{Option}
use Rattle.fpl_outside.specs.Outside.{Takes}
use Rattle.fpl_run.specs.declared.task.Task.{Task}
use Rattle.fpl_run.specs.Start.{Start, walk_for, cost_for}
use Rattle.fpl_run.specs.Stream.{stream_text}

abbrev pub Begins : Option (List ℕ) → Option (List ℕ) → List ℕ → Type 0
Begins old new text = (rest : List ℕ) × Takes old new (text ++ rest)

abbrev pub through : Task → ℕ → Task
through t w = record { way = t.way; limit = w; entries = t.entries }

abbrev pub IsPaced : Task → Start → (out_old out_new : Option (List ℕ)) → (old new : ℕ) → Type 0
IsPaced t s out_old out_new old new =
    (new ≡ old)
    ⊎ ((weights : ℕ) × Begins out_old out_new (stream_text s.presentation (take weights (walk_for t s).stage.sections))
    × (new ≤ old + cost_for (through t (suc weights)) s))
