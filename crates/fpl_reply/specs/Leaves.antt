-- What a run leaves in its streams.
--   Says old new before now line: the line was appended, or its writing had a fault after a prefix of it
--   Leaves A F old new r: what a run leaves in its output that replies one of A; r is that reply, but for the text, or tells what came in between
--       whole: the text of the reply was appended
--       part: a put failed, after a prefix of the text of a reply of A
--       front: memory ran out, and nothing was appended, or one of F
--   IsAnswered A F result ..: the input failed; or the status is that of such a reply, and what it leaves stands in the output; and its
--     line in the error output
use Rattle.std.specs.Prelude.{ℕ, ◌≡◌, ◌⊎◌, List}
use Rattle.std.specs.declared.option.Option.{Option}
use Rattle.fpl_outside.specs.Outside.{Rose, Takes}
use Rattle.fpl_outside.specs.Whole.{WrotePrefix}
use Rattle.fpl_reply.specs.declared.status.Status.{Status}
use Rattle.fpl_reply.specs.Reply.{Reply, no_memory, read_fault, write_fault, status_of, text_of, with_text, IsPut, line_of}

abbrev pub Says : Option (List ℕ) → Option (List ℕ) → ℕ → ℕ → List ℕ → Type 0
Says old new before now line = Takes old new line ⊎ (Rose before now × WrotePrefix old new line)

pub data Leaves (A : Reply → Type 0) (F : List ℕ → Type 0) (old new : Option (List ℕ)) : Reply → Type 0 where
  whole : (r : Reply) (text : List ℕ) → A (with_text text r) → Takes old new (text_of (with_text text r)) → Leaves A F old new r
  part : (r : Reply) → A r → IsPut r → WrotePrefix old new (text_of r) → Leaves A F old new write_fault
  front : (new ≡ old) ⊎ ((text : List ℕ) × F text × Takes old new text) → Leaves A F old new no_memory

pub record IsAnswered (A : Reply → Type 0) (F : List ℕ → Type 0) (result : Status) (out_old out_new err_old err_new : Option (List ℕ))
    (before now : ℕ) : Type 0 where
  pub reply : Reply
  pub status : status_of reply ≡ result
  pub leaves : (reply ≡ read_fault) ⊎ Leaves A F out_old out_new reply
  pub line : Says err_old err_new before now (line_of reply)
