-- The views of a table: what each writes, and what that says. A row for each view.
--   text_of_view v entries p T sections: the plain run of a view of the table T of p, which was raised by the sections: its text, or the first fault of its
--   own. Words number at most the entries
--   Shows v p T sections text: what the text says, in the words of the algebra: no walk and no elimination stands in it
--   IsOfTable v: the text is of the table alone, and not of the sections
--   IsCounted v: it gives no row to an elimination
--   IsOverPrimes v: it works over primes alone
--   IsServed v kind: so it has a text over numbers of this kind
use Rattle.std.specs.Prelude.{ℕ, ◌≡◌, List, Result, Ok}
use Rattle.fpl_numbers.specs.declared.number.Kind.{Kind}
use Rattle.fpl_numbers.specs.declared.number.Kind.TheVariants.{Rational}
use Rattle.fpl_log.specs.declared.section.Section.{Section}
use Rattle.fpl_model.specs.declared.presentation.Presentation.{Presentation}
use Rattle.fpl_table.specs.Plain.{PlainTable}
use Rattle.fpl_spelling.specs.Spelling.{names_of}
use Rattle.fpl_print.specs.TableText.{table_text}
use Rattle.fpl_print.specs.SeriesText.{series_text}
use Rattle.fpl_print.specs.GapText.{gap_text}
use Rattle.fpl_print.specs.LogText.{log_text}
use Rattle.fpl_print.specs.SampleText.{sample_text}
use Rattle.fpl_reply.specs.declared.view_fault.ViewFault.{ViewFault}
use Rattle.fpl_views.specs.declared.shown.Shown.{Shown}
use Rattle.fpl_views.specs.declared.shown.Shown.TheVariants.{Table, Series, Gap, Log, Equal, Sample, Cohomology, Centre, Lcs, Ideal, Envelope}
use Rattle.fpl_views.specs.Table.{ShowsTable}
use Rattle.fpl_views.specs.Series.{ShowsSeries}
use Rattle.fpl_views.specs.Gap.{ShowsGap}
use Rattle.fpl_views.specs.Log.{ShowsLog}
use Rattle.fpl_views.specs.Equal.{text_of_equal, ShowsEqual}
use Rattle.fpl_views.specs.Sample.{ShowsSample}
use Rattle.fpl_views.specs.Cohomology.{cohomology_text, ShowsCohomology}
use Rattle.fpl_views.specs.Centre.{centre_text, ShowsCentre}
use Rattle.fpl_views.specs.Lcs.{lcs_text, ShowsLcs}
use Rattle.fpl_views.specs.Ideal.{ideal_text, ShowsIdeal}
use Rattle.fpl_envelope_text.specs.Shows.{ShowsEnvelope}
use Rattle.fpl_views.specs.Envelope.{text_of_envelope}

abbrev pub text_of_view : Shown → (entries : ℕ) → Presentation → PlainTable → List Section → Result (List ℕ) ViewFault
text_of_view Table entries p T sections = Ok (table_text (names_of p) T)
text_of_view Series entries p T sections = Ok (series_text T)
text_of_view Gap entries p T sections = Ok (gap_text (names_of p) T)
text_of_view Log entries p T sections = Ok (log_text (names_of p) T sections)
text_of_view Equal entries p T sections = text_of_equal p T
text_of_view Sample entries p T sections = Ok (sample_text T)
text_of_view Cohomology entries p T sections = cohomology_text T
text_of_view Centre entries p T sections = centre_text T
text_of_view Lcs entries p T sections = lcs_text T
text_of_view Ideal entries p T sections = ideal_text p T
text_of_view Envelope entries p T sections = text_of_envelope entries T

abbrev pub Shows : Shown → Presentation → PlainTable → List Section → List ℕ → Type 0
Shows Table p T sections text = ShowsTable p T text
Shows Series p T sections text = ShowsSeries p T text
Shows Gap p T sections text = ShowsGap p T text
Shows Log p T sections text = ShowsLog p T sections text
Shows Equal p T sections text = ShowsEqual p T text
Shows Sample p T sections text = ShowsSample T text
Shows Cohomology p T sections text = ShowsCohomology p T text
Shows Centre p T sections text = ShowsCentre p T text
Shows Lcs p T sections text = ShowsLcs p T text
Shows Ideal p T sections text = ShowsIdeal p T text
Shows Envelope p T sections text = ShowsEnvelope T text

abbrev pub IsOfTable : Shown → Type 0
IsOfTable Table = Unit {0}
IsOfTable Series = Unit {0}
IsOfTable Gap = Unit {0}
IsOfTable Log = ⊥
IsOfTable Equal = Unit {0}
IsOfTable Sample = Unit {0}
IsOfTable Cohomology = Unit {0}
IsOfTable Centre = Unit {0}
IsOfTable Lcs = Unit {0}
IsOfTable Ideal = Unit {0}
IsOfTable Envelope = Unit {0}

abbrev pub IsCounted : Shown → Type 0
IsCounted Table = Unit {0}
IsCounted Series = Unit {0}
IsCounted Gap = Unit {0}
IsCounted Log = Unit {0}
IsCounted Equal = Unit {0}
IsCounted Sample = Unit {0}
IsCounted Cohomology = ⊥
IsCounted Centre = ⊥
IsCounted Lcs = ⊥
IsCounted Ideal = ⊥
IsCounted Envelope = Unit {0}

abbrev pub IsOverPrimes : Shown → Type 0
IsOverPrimes Table = ⊥
IsOverPrimes Series = ⊥
IsOverPrimes Gap = ⊥
IsOverPrimes Log = ⊥
IsOverPrimes Equal = ⊥
IsOverPrimes Sample = ⊥
IsOverPrimes Cohomology = ⊥
IsOverPrimes Centre = ⊥
IsOverPrimes Lcs = ⊥
IsOverPrimes Ideal = ⊥
IsOverPrimes Envelope = Unit {0}

abbrev pub IsServed : Shown → Kind → Type 0
IsServed v kind = IsOverPrimes v → kind ≡ Rational → ⊥
