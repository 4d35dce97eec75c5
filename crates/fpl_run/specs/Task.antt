-- How a command is done.
--   way_of view: how a view is made: a text of the table; sections written along the way; a check of those stored; how much matrices see of the table; or proofs
--   task_for c way: a command that is done so
--   does_compute way: whether the weights are computed whose sections aren't stored, as all do but a check
--   IsCounted way: a row that it gives to an elimination is an origin of a weight
--   IsOverPrimes way: it works over primes alone
--   IsServed way kind: so it works over numbers of this kind
use Rattle.std.specs.Prelude.{◌≡◌, Bool, true, false}
use Rattle.fpl_numbers.specs.declared.number.Kind.{Kind}
use Rattle.fpl_numbers.specs.declared.number.Kind.TheVariants.{Rational}
use Rattle.fpl_views.specs.declared.shown.Shown.TheVariants as shown
use Rattle.fpl_views.specs.Views as views
use Rattle.fpl_run.specs.declared.words.View.{View}
use Rattle.fpl_run.specs.declared.words.View.TheVariants as view
use Rattle.fpl_run.specs.declared.words.Command.{Command}
use Rattle.fpl_run.specs.declared.task.Way.{Way}
use Rattle.fpl_run.specs.declared.task.Way.TheVariants.{Show, Write, Check, Rank, Prove}
use Rattle.fpl_run.specs.declared.task.Task.{Task}

abbrev pub way_of : View → Way
way_of view.Table = Show shown.Table
way_of view.Series = Show shown.Series
way_of view.Gap = Show shown.Gap
way_of view.Log = Show shown.Log
way_of view.Equal = Show shown.Equal
way_of view.Sample = Show shown.Sample
way_of view.Cohomology = Show shown.Cohomology
way_of view.Centre = Show shown.Centre
way_of view.Lcs = Show shown.Lcs
way_of view.Ideal = Show shown.Ideal
way_of view.Envelope = Show shown.Envelope
way_of view.Checkpoint = Write
way_of view.Check = Check
way_of view.Map = Rank
way_of view.Why = Prove

abbrev pub task_for : Command → Way → Task
task_for c way = record { way = way; limit = c.limit; entries = c.entries }

abbrev pub does_compute : Way → Bool
does_compute Check = false
does_compute _ = true

abbrev pub IsCounted : Way → Type 0
IsCounted (Show v) = views.IsCounted v
IsCounted Write = Unit {0}
IsCounted Check = Unit {0}
IsCounted Rank = ⊥
IsCounted Prove = Unit {0}

abbrev pub IsOverPrimes : Way → Type 0
IsOverPrimes (Show v) = views.IsOverPrimes v
IsOverPrimes Write = ⊥
IsOverPrimes Check = ⊥
IsOverPrimes Rank = Unit {0}
IsOverPrimes Prove = Unit {0}

abbrev pub IsServed : Way → Kind → Type 0
IsServed way kind = IsOverPrimes way → kind ≡ Rational → ⊥
