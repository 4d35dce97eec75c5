-- What a run replies.
--   Reply: how it ends, with what its output or its line shows: the text of a view; or why there is none; the name of a view that works over primes
--     alone, where the presentation is over fractions; a run that a fault stops, with what was written before
--   fault_status, view_fault_status: the status of a fault that stops a run, and of one in making the text of its view
--   status_of: the status of a reply
--   text_of: the bytes written to the output
--   with_text: the reply with this text, where it has one
--   IsPut: bytes are put to the output
--   op_text: the sign of an operation, between spaces
--   fault_line, view_fault_line: what is said of such a fault
--   line_of: the line written to the error output, with its line feed; none where the view's whole text was written
--   IsFree: there was no memory, or a stream failed: the words and the input don't tell when
use Rattle.std.specs.Prelude.{ℕ, ◌≡◌, List, [], ◌++◌, codes, decimal}
use Rattle.fpl_numbers.specs.declared.number.Op.{Op}
use Rattle.fpl_numbers.specs.declared.number.Op.TheVariants.{Add, Mul}
use Rattle.fpl_spelling.specs.Spelling.{number_text}
use Rattle.fpl_walk.specs.Walk.{Fault, too_many, bad_bytes, bad_section, overflow}
use Rattle.fpl_reply.specs.declared.view_fault.ViewFault.{ViewFault}
use Rattle.fpl_reply.specs.declared.view_fault.ViewFault.TheVariants as view
use Rattle.fpl_bytes.specs.Reasons.{byte_text}
use Rattle.fpl_reply.specs.Faults.{spot_text, why_text}
use Rattle.fpl_reply.specs.declared.status.Status.{Status}
use Rattle.fpl_reply.specs.declared.status.Status.TheVariants.{Done, Usage, Refused, BadCheckpoint, Limit, Overflow, NoMemory, ReadFault, WriteFault, Unsupported}

pub data Reply : Type 0 where
  done : (text : List ℕ) → Reply
  usage : Reply
  refused : (place : ℕ) (reason : List ℕ) → Reply
  unsupported : (name : List ℕ) → Reply
  stopped : (text : List ℕ) (fault : Fault) → Reply
  failed_in_view : ViewFault → Reply
  no_memory : Reply
  read_fault : Reply
  write_fault : Reply

abbrev pub fault_status : Fault → Status
fault_status (too_many weight count) = Limit
fault_status (bad_bytes b) = BadCheckpoint
fault_status (bad_section weight spot why) = BadCheckpoint
fault_status (overflow weight u) = Overflow

abbrev pub view_fault_status : ViewFault → Status
view_fault_status (view.Overflow u) = Overflow
view_fault_status (view.TooManyWords weight count) = Limit

abbrev pub status_of : Reply → Status
status_of (done text) = Done
status_of usage = Usage
status_of (refused place reason) = Refused
status_of (unsupported name) = Unsupported
status_of (stopped text fault) = fault_status fault
status_of (failed_in_view fault) = view_fault_status fault
status_of no_memory = NoMemory
status_of read_fault = ReadFault
status_of write_fault = WriteFault

abbrev pub text_of : Reply → List ℕ
text_of (done text) = text
text_of usage = []
text_of (refused place reason) = []
text_of (unsupported name) = []
text_of (stopped text fault) = text
text_of (failed_in_view fault) = []
text_of no_memory = []
text_of read_fault = []
text_of write_fault = []

abbrev pub with_text : List ℕ → Reply → Reply
with_text text (done other) = done text
with_text text usage = usage
with_text text (refused place reason) = refused place reason
with_text text (unsupported name) = unsupported name
with_text text (stopped other fault) = stopped text fault
with_text text (failed_in_view fault) = failed_in_view fault
with_text text no_memory = no_memory
with_text text read_fault = read_fault
with_text text write_fault = write_fault

abbrev pub IsPut : Reply → Type 0
IsPut (done text) = Unit {0}
IsPut usage = ⊥
IsPut (refused place reason) = ⊥
IsPut (unsupported name) = ⊥
IsPut (stopped text fault) = text ≡ [] → ⊥
IsPut (failed_in_view fault) = ⊥
IsPut no_memory = ⊥
IsPut read_fault = ⊥
IsPut write_fault = ⊥

abbrev pub op_text : Op → List ℕ
op_text Add = codes " + "
op_text Mul = codes " * "

abbrev pub fault_line : Fault → List ℕ
fault_line (too_many weight count) = codes "limit at weight " ++ decimal weight ++ codes ": " ++ decimal count ++ codes " symbols\n"
fault_line (bad_bytes b) = codes "bad checkpoint at byte " ++ decimal b.place ++ codes ": " ++ byte_text b.why ++ codes "\n"
fault_line (bad_section weight spot why) = codes "bad checkpoint in weight " ++ decimal weight ++ spot_text spot ++ codes ": " ++ why_text why ++ codes "\n"
fault_line (overflow weight u) = codes "overflow at weight " ++ decimal weight ++ codes ": " ++ number_text u.a ++ op_text u.op ++ number_text u.b ++ codes "\n"

abbrev pub view_fault_line : ViewFault → List ℕ
view_fault_line (view.Overflow u) = codes "overflow in the view: " ++ number_text u.a ++ op_text u.op ++ number_text u.b ++ codes "\n"
view_fault_line (view.TooManyWords weight count) = codes "limit at weight " ++ decimal weight ++ codes ": " ++ decimal count ++ codes " words\n"

abbrev pub line_of : Reply → List ℕ
line_of (done text) = []
line_of usage = codes "usage: fplsa VIEW LIMIT [ENTRIES]\n"
line_of (refused place reason) = codes "refused at byte " ++ decimal place ++ codes ": " ++ reason ++ codes "\n"
line_of (unsupported name) = codes "unsupported: " ++ name ++ codes " over fractions\n"
line_of (stopped text fault) = fault_line fault
line_of (failed_in_view fault) = view_fault_line fault
line_of no_memory = codes "no memory\n"
line_of read_fault = codes "read fault\n"
line_of write_fault = codes "write fault\n"

abbrev pub IsFree : Status → Type 0
IsFree Done = ⊥
IsFree Usage = ⊥
IsFree Refused = ⊥
IsFree BadCheckpoint = ⊥
IsFree Limit = ⊥
IsFree Overflow = ⊥
IsFree NoMemory = Unit {0}
IsFree ReadFault = Unit {0}
IsFree WriteFault = Unit {0}
IsFree Unsupported = ⊥
