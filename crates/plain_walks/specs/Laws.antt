-- Laws of walks through the weights of a sound presentation, over any stored bytes, whoever made them.
--
--   WalksAreStandard   the table of a walk is the standard table
--   StopsMean          what a stop means over the standard table
--   StopsThere         a walk that has come to a stage at which a stop means what it says has that stop
--   TooManyStops       a walk through the weights below w that has no stop stops at w, where the symbols of weights 1 to w, and no fewer, number more than
--                      the entries
--   OverflowStops      it stops at w where nothing is stored for w and some operation in computing w does not fit
--   FitsGoesOn         with nothing stored no walk stops where the symbols never pass the entries and, over fractions, each weight fits
--   symbols_through P T w    how many symbols of weights 1 to w there are over a table of the algebra
--   IsWithin p d e     the symbols of p through d, over its standard table, number at most e: no number is told here
--   WithinNeverPasses  then no weight up to d passes e
--   StandardIsWithin   a table in plain numbers whose symbols number at most e shows it
--   PrimesFit          over a prime no walk stops for an operation that does not fit
--   HasStandardTable   there is a standard table in plain numbers, whose symbols stay within the entries
--   PrimesStop         so a walk with nothing stored goes through every weight, or the symbols pass the entries
--   OneTable           walks of one presentation through one limit that have no stop give one table
--   WalksGiveOneText   and one text of it
--   OneText            standard tables of one presentation through one weight have one text
use Rattle.std.specs.Prelude.{ℕ, zero, suc, ◌+◌, length, ◌≡◌, ◌≤◌, ◌-◌, ◌⊎◌, Bool, true, false, None, Some, IfSome}
use Rattle.math_fields.specs.Field.{Field}
use Rattle.fpl_numbers.specs.declared.number.Unfit.{Unfit}
use Rattle.fpl_numbers.specs.Kinds.{Number, field_of}
use Rattle.math_algebra.specs.Tree as algebra
use Rattle.math_algebra.specs.Tree.{Tree}
use Rattle.math_algebra.specs.Table.{Table}
use Rattle.math_algebra.specs.Symbols.{symbols_of}
use Rattle.math_algebra.specs.Standard.{IsStandard}
use Rattle.fpl_model.specs.Meaning.{presentation_in}
use Rattle.fpl_numbers.specs.declared.number.Kind.TheVariants.{Rational, Prime}
use Rattle.fpl_model.specs.declared.presentation.Presentation.{Presentation}
use Rattle.fpl_model.specs.Sound.{IsSound}
use Rattle.fpl_table.specs.Plain.{PlainTable}
use Rattle.fpl_table.specs.Standard.{IsTableOf, PassesAt, count_through}
use Rattle.plain_weights.specs.Section.{FitsAt, OverflowsAt}
use Rattle.fpl_bytes.specs.Codes.{IsBytes}
use Rattle.fpl_spelling.specs.Spelling.{names_of}
use Rattle.fpl_print.specs.TableText.{table_text}
use Rattle.fpl_walk.specs.Walk.{Stored, Stop, failed, too_many, overflow}
use Rattle.plain_walks.specs.Walks.{walk_over, IsStandardWalk, NothingStands, StopMeans}

abbrev pub WalksAreStandard : Type 0
WalksAreStandard =
    (computes : Bool) (entries limit place : ℕ) (stored : Bool) (p : Presentation) (at : Stored) → IsSound p → entries ≤ 2000000 → limit ≤ 1000 →
    IsBytes at.bytes →
    IsStandardWalk p entries limit (walk_over computes entries p at limit place stored)

abbrev pub StopsMean : Type 0
StopsMean =
    (computes : Bool) (entries limit place : ℕ) (stored : Bool) (p : Presentation) (at : Stored) → IsSound p → entries ≤ 2000000 → limit ≤ 1000 →
    IsBytes at.bytes →
    let w = walk_over computes entries p at limit place stored in
    IfSome w.stop (StopMeans computes entries limit p at w.stage)

abbrev pub StopsThere : Type 0
StopsThere =
    (computes : Bool) (entries limit place : ℕ) (stored : Bool) (p : Presentation) (at : Stored) (w : ℕ) (stop : Stop) → IsSound p →
    entries ≤ 2000000 → limit ≤ 1000 → IsBytes at.bytes →
    1 ≤ w → w ≤ limit →
    let below = walk_over computes entries p at (w - 1) place stored in
    below.stop ≡ None → StopMeans computes entries limit p at below.stage stop → (walk_over computes entries p at limit place stored).stop ≡ Some stop

abbrev pub TooManyStops : Type 0
TooManyStops =
    (computes : Bool) (entries limit place : ℕ) (stored : Bool) (p : Presentation) (at : Stored) (w count : ℕ) → IsSound p → entries ≤ 2000000 →
    limit ≤ 1000 → IsBytes at.bytes →
    PassesAt p limit entries w count → (walk_over computes entries p at (w - 1) place stored).stop ≡ None →
    (walk_over computes entries p at limit place stored).stop ≡ Some (failed (too_many w count))

abbrev pub OverflowStops : Type 0
OverflowStops =
    (entries limit place : ℕ) (stored : Bool) (p : Presentation) (at : Stored) (w : ℕ) (u : Unfit) → IsSound p → entries ≤ 2000000 → limit ≤ 1000 →
    IsBytes at.bytes → 1 ≤ w → w ≤ limit →
    let below = walk_over true entries p at (w - 1) place stored in
    below.stop ≡ None → NothingStands at below.stage → count_through below.stage.table w ≤ entries → OverflowsAt p w u →
    (walk_over true entries p at limit place stored).stop ≡ Some (failed (overflow w u))

abbrev pub FitsGoesOn : Type 0
FitsGoesOn =
    (entries limit place : ℕ) (p : Presentation) (at : Stored) → IsSound p → entries ≤ 2000000 → limit ≤ 1000 → IsBytes at.bytes →
    ((w count : ℕ) → PassesAt p limit entries w count → ⊥) → (p.field ≡ Rational → (w : ℕ) → 1 ≤ w → w ≤ limit → FitsAt p w) →
    (walk_over true entries p at limit place false).stop ≡ None

abbrev pub symbols_through : {K : Field} → algebra.Presentation K.Carrier → Table K → ℕ → ℕ
symbols_through P T zero = 0
symbols_through P T (suc w) = symbols_through P T w + length (symbols_of P T (suc w))

pub record IsWithin (p : Presentation) (limit entries : ℕ) : Type 0 where
  pub table : Table (field_of p.field)
  pub tree : ℕ → Tree (Number p.field)
  pub standard : IsStandard (field_of p.field) (presentation_in p) table tree
  pub weight : table.weight ≡ limit
  pub within : (w : ℕ) → w ≤ limit → symbols_through (presentation_in p) table w ≤ entries

abbrev pub WithinNeverPasses : Type 0
WithinNeverPasses = (p : Presentation) (limit entries w count : ℕ) → IsSound p → IsWithin p limit entries → PassesAt p limit entries w count → ⊥

abbrev pub StandardIsWithin : Type 0
StandardIsWithin = (p : Presentation) (limit entries : ℕ) (T : PlainTable) → IsTableOf p limit T →
    ((w : ℕ) → w ≤ limit → count_through T w ≤ entries) → IsWithin p limit entries

abbrev pub PrimesFit : Type 0
PrimesFit =
    (n : ℕ) (computes : Bool) (entries limit place : ℕ) (stored : Bool) (p : Presentation) (at : Stored) (w : ℕ) (u : Unfit) → IsSound p →
    entries ≤ 2000000 → limit ≤ 1000 → IsBytes at.bytes →
    p.field ≡ Prime n → (walk_over computes entries p at limit place stored).stop ≡ Some (failed (overflow w u)) → ⊥

pub record HasStandardTable (p : Presentation) (limit entries : ℕ) : Type 0 where
  pub table : PlainTable
  pub standard : IsTableOf p limit table
  pub within : (v : ℕ) → v ≤ limit → count_through table v ≤ entries

abbrev pub PrimesStop : Type 0
PrimesStop =
    (n : ℕ) (entries limit : ℕ) (p : Presentation) → IsSound p → entries ≤ 2000000 → limit ≤ 1000 → p.field ≡ Prime n →
    HasStandardTable p limit entries ⊎ ((w : ℕ) × (count : ℕ) × PassesAt p limit entries w count)

abbrev pub OneTable : Type 0
OneTable =
    (computes also : Bool) (entries more limit place other : ℕ) (stored kept : Bool) (p : Presentation) (at by : Stored) → IsSound p →
    entries ≤ 2000000 → more ≤ 2000000 → limit ≤ 1000 →
    IsBytes at.bytes → IsBytes by.bytes →
    let v = walk_over computes entries p at limit place stored in
    let w = walk_over also more p by limit other kept in
    v.stop ≡ None → w.stop ≡ None → v.stage.table ≡ w.stage.table

abbrev pub WalksGiveOneText : Type 0
WalksGiveOneText =
    (computes also : Bool) (entries more limit place other : ℕ) (stored kept : Bool) (p : Presentation) (at by : Stored) → IsSound p →
    entries ≤ 2000000 → more ≤ 2000000 → limit ≤ 1000 →
    IsBytes at.bytes → IsBytes by.bytes →
    let v = walk_over computes entries p at limit place stored in
    let w = walk_over also more p by limit other kept in
    v.stop ≡ None → w.stop ≡ None → table_text (names_of p) v.stage.table ≡ table_text (names_of p) w.stage.table

abbrev pub OneText : Type 0
OneText = (p : Presentation) (d : ℕ) (T S : PlainTable) → IsSound p → IsTableOf p d T → IsTableOf p d S → table_text (names_of p) T ≡ table_text (names_of p) S
