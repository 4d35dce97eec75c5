-- The reply that an outcome stands for, but for its text, which was written before.
--   too_long, refusal_text: why an input is refused, in words
--   reply_of: the reply without its text
use Rattle.std.specs.Prelude.{ℕ, List, [], codes}
use Rattle.fpl_reply.specs.declared.outcome.Refusal.{Refusal}
use Rattle.fpl_reply.specs.declared.outcome.Refusal.TheVariants.{TooLong, Unread, NoMatrices, MapSyntax, MapSize, MapNumber, MapParity}
use Rattle.fpl_reply.specs.declared.outcome.Outcome.{Outcome}
use Rattle.fpl_reply.specs.declared.outcome.Outcome.TheVariants as found
use Rattle.fpl_reply.specs.Reply.{Reply, done, usage, refused, unsupported, stopped, failed_in_view, no_memory, read_fault, write_fault}
use Rattle.fpl_complete.specs.State.{unfit_of}
use Rattle.fpl_walk.specs.Walk.{too_many, bad_bytes, bad_section, overflow}
use Rattle.fpl_reader.specs.Reasons.{reason_text}

abbrev pub too_long : List ℕ
too_long = codes "input too long"

abbrev pub refusal_text : Refusal → List ℕ
refusal_text TooLong = too_long
refusal_text (Unread reason) = reason_text reason
refusal_text NoMatrices = codes "no matrices"
refusal_text MapSyntax = codes "map syntax"
refusal_text MapSize = codes "map size"
refusal_text MapNumber = codes "not a residue"
refusal_text MapParity = codes "entry of the other parity"

abbrev pub reply_of : Outcome → Reply
reply_of found.Done = done []
reply_of found.Usage = usage
reply_of (found.Refused place why) = refused place (refusal_text why)
reply_of (found.Unsupported name) = unsupported name.now
reply_of (found.BadBytes bad) = stopped [] (bad_bytes bad)
reply_of (found.BadSection weight spot why) = stopped [] (bad_section weight spot why)
reply_of (found.Limit weight count) = stopped [] (too_many weight count)
reply_of (found.Overflow weight op a b) = stopped [] (overflow weight (unfit_of op a b))
reply_of (found.InView fault) = failed_in_view fault
reply_of found.NoMemory = no_memory
reply_of found.ReadFault = read_fault
reply_of found.WriteFault = write_fault
