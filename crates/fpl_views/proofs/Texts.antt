-- What the texts of the views obey.
use Rattle.std.proofs.Common.{◌≡◌, List, ℕ, Ok, refl, sym, subst, ◌∙◌}
use Rattle.std.specs.declared.result.Result.{Result}
use Rattle.fpl_reply.specs.declared.view_fault.ViewFault.{ViewFault}
use Rattle.fpl_views.specs.declared.shown.Shown.TheVariants.{Table, Series, Gap, Log, Equal, Sample, Cohomology, Centre, Lcs, Ideal, Envelope}
use Rattle.plain_sources.proofs.Fitting.{Always, prime_always}
use Rattle.fpl_views.proofs.Made.{made_holds}
use Rattle.fpl_views.proofs.Answers.{shows_equal, equal_fits}
use Rattle.fpl_views.proofs.Derivations.{are_derivations}
use Rattle.fpl_reply.specs.declared.view_fault.ViewFault.TheVariants.{Overflow}
use Rattle.fpl_views.proofs.Spaces.{shows_centre, shows_lcs, shows_ideal, centre_fits, lcs_fits, ideal_fits}
use Rattle.fpl_views.specs.Laws.{TextsShow, TextsFitOverPrimes, TextsAreOfTables}
use Rattle.fpl_views.proofs.Cocycles.{cohomology_shows, cohomology_fits}
use Rattle.fpl_views.proofs.Words.{shows_envelope, envelope_fits}

given : (a b : List ℕ) → ◌≡◌ {A = Result (List ℕ) ViewFault} (Ok a) (Ok b) → b ≡ a
given a b e = cc

pub texts_show : TextsShow
texts_show Table entries p T sections text sound made served e = given _ text e
texts_show Series entries p T sections text sound made served e = given _ text e
texts_show Gap entries p T sections text sound made served e = given _ text e
texts_show Log entries p T sections text sound made served e = (given _ text e, are_derivations p T sections made.accepted)
texts_show Equal entries p T sections text sound made served e = shows_equal p T sections sound made text e
texts_show Sample entries p T sections text sound made served e = given _ text e
texts_show Cohomology entries p T sections text sound made served e = cohomology_shows p T sections text sound made e
texts_show Centre entries p T sections text sound made served e = shows_centre p T text (made_holds p T sections sound made) e
texts_show Lcs entries p T sections text sound made served e = shows_lcs p T text (made_holds p T sections sound made) e
texts_show Ideal entries p T sections text sound made served e = shows_ideal p T text (made_holds p T sections sound made) e
texts_show Envelope entries p T sections text sound made served e = shows_envelope entries p T sections text sound made (served tt) e

pub texts_fit : TextsFitOverPrimes
texts_fit Table entries n p T sections u sound made prime e = cc
texts_fit Series entries n p T sections u sound made prime e = cc
texts_fit Gap entries n p T sections u sound made prime e = cc
texts_fit Log entries n p T sections u sound made prime e = cc
texts_fit Equal entries n p T sections u sound made prime e = equal_fits p T (subst Always (sym (made.standard.kind ∙ prime)) (prime_always n)) u e
texts_fit Sample entries n p T sections u sound made prime e = cc
texts_fit Cohomology entries n p T sections u sound made prime e = cohomology_fits n T (Overflow u) (made.standard.kind ∙ prime) e
texts_fit Centre entries n p T sections u sound made prime e = centre_fits n T u (made.standard.kind ∙ prime) e
texts_fit Lcs entries n p T sections u sound made prime e = lcs_fits n T u (made.standard.kind ∙ prime) e
texts_fit Ideal entries n p T sections u sound made prime e = ideal_fits n p T u (made.standard.kind ∙ prime) e
texts_fit Envelope entries n p T sections u sound made prime e = envelope_fits entries T u e

pub texts_of_tables : TextsAreOfTables
texts_of_tables Table of_table entries p T ss more = refl
texts_of_tables Series of_table entries p T ss more = refl
texts_of_tables Gap of_table entries p T ss more = refl
texts_of_tables Log of_table entries p T ss more = absurd of_table
texts_of_tables Equal of_table entries p T ss more = refl
texts_of_tables Sample of_table entries p T ss more = refl
texts_of_tables Cohomology of_table entries p T ss more = refl
texts_of_tables Centre of_table entries p T ss more = refl
texts_of_tables Lcs of_table entries p T ss more = refl
texts_of_tables Ideal of_table entries p T ss more = refl
texts_of_tables Envelope of_table entries p T ss more = refl
