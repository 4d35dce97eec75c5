-- What becomes of a text that is put to the output.
--   IsCut: there was no memory to make the text, and nothing was taken; or a put failed after a prefix of it
--   Puts: the whole text was taken, or it was cut
--   cut_reply: the reply where it wasn't put whole
use Rattle.std.specs.Prelude.{ℕ, ◌≡◌, List, Result, Ok, Err}
use Rattle.std.specs.declared.option.Option.{Option}
use Rattle.fpl_outside.specs.Outside.{Takes}
use Rattle.fpl_outside.specs.Whole.{WrotePrefix}
use Rattle.fpl_reply.specs.declared.put.Cut.{Cut}
use Rattle.fpl_reply.specs.declared.put.Cut.TheVariants as cut
use Rattle.fpl_reply.specs.Reply.{Reply, no_memory, write_fault}

abbrev pub IsCut : (text : List ℕ) → (out_old out_new : Option (List ℕ)) → Cut → Type 0
IsCut text out_old out_new cut.NoMemory = out_new ≡ out_old
IsCut text out_old out_new cut.WriteFault = WrotePrefix out_old out_new text

abbrev pub Puts : {X : Type 0} → (text : List ℕ) → (out_old out_new : Option (List ℕ)) → Result X Cut → Type 0
Puts text out_old out_new (Ok x) = Takes out_old out_new text
Puts text out_old out_new (Err why) = IsCut text out_old out_new why

abbrev pub cut_reply : Cut → Reply
cut_reply cut.NoMemory = no_memory
cut_reply cut.WriteFault = write_fault
