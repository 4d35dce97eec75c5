-- What a call that computes answers, told by the exact result of its plain run: the value, or the first operation that does not fit.
--
--   map_ok f r            f of the value, or the same error
--   and_then f r          what f gives for the value, or the same error
--   Answers number r e    r, with its value seen by number, is the exact result e
--   IsFault fault e       the fault is the error of e, or want of memory
--   Gives r value e       e is Ok value where r is Ok; else r's error is a fault of e
--   GivesBy value r e     the same, where the value depends on what r holds
use Rattle.std.specs.Prelude.{◌≡◌, Result, Ok, Err}
use Rattle.fpl_numbers.specs.declared.number.Unfit.{Unfit}
use Rattle.fpl_numbers.specs.declared.number.Fault.{Fault}
use Rattle.fpl_numbers.specs.declared.number.Fault.TheVariants.{NoMemory}
use Rattle.fpl_numbers.specs.declared.number.Fault.TheVariants.{Unfit as Unfits}

abbrev pub map_ok : {T U E : Type 0} → (T → U) → Result T E → Result U E
map_ok f (Ok x) = Ok (f x)
map_ok f (Err e) = Err e

abbrev pub and_then : {T U E : Type 0} → (T → Result U E) → Result T E → Result U E
and_then f (Ok x) = f x
and_then f (Err e) = Err e

abbrev pub Answers : {T U : Type 0} → (T → U) → Result T Unfit → Result U Unfit → Type 0
Answers number result exact = map_ok number result ≡ exact

abbrev pub IsFault : {T : Type 0} → Fault → Result T Unfit → Type 0
IsFault (Unfits u) exact = exact ≡ Err u
IsFault NoMemory exact = Unit {0}

abbrev pub Gives : {T U : Type 0} → Result U Fault → T → Result T Unfit → Type 0
Gives (Ok done) value exact = exact ≡ Ok value
Gives (Err fault) value exact = IsFault fault exact

abbrev pub GivesBy : {T U : Type 0} → (U → T) → Result U Fault → Result T Unfit → Type 0
GivesBy value (Ok done) exact = exact ≡ Ok (value done)
GivesBy value (Err fault) exact = IsFault fault exact
