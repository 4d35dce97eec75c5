-- The text of the view `cohomology` lists what represents H1 and H2; over a prime there is one.
use Rattle.std.specs.Prelude.{◌≡◌, ℕ, List, Result, Ok, Err}
use mathlib.Core.Path.{refl}
use Rattle.math_theorems.proofs.StandardLaws.{built_obeys_law}
use Rattle.fpl_numbers.specs.declared.number.Kind.TheVariants.{Prime}
use Rattle.fpl_numbers.specs.declared.number.Unfit.{Unfit}
use Rattle.fpl_numbers.specs.Kinds.{field_of}
use Rattle.fpl_numbers.specs.Results.{map_ok}
use Rattle.fpl_log.specs.declared.section.Section.{Section}
use Rattle.fpl_model.specs.declared.presentation.Presentation.{Presentation}
use Rattle.fpl_model.specs.Meaning.{presentation_in}
use Rattle.fpl_model.specs.Sound.{IsSound}
use Rattle.fpl_table.specs.Plain.{PlainTable, table_in}
use Rattle.plain_tables.proofs.Holding.{sound_is_sound}
use Rattle.plain_cohomology.specs.Plain.{Low, lows_of}
use Rattle.plain_cohomology.proofs.Low.{lows_mean}
use Rattle.plain_cohomology.proofs.Fitting.{lows_fit}
use Rattle.fpl_cohomology.specs.Text as texts
use Rattle.fpl_reply.specs.declared.view_fault.ViewFault.{ViewFault}
use Rattle.fpl_views.proofs.Made.{made_holds, made_table_for}
use Rattle.fpl_views.specs.Overflows.{in_view}
use Rattle.fpl_views.specs.Cohomology.{cohomology_text, ShowsCohomology}
use Rattle.fpl_views.specs.Laws.{IsMadeOf}

-- a text comes from what it lists
listed : {X : Type 0} (f : X → List ℕ) (r : Result X Unfit) (text : List ℕ) → in_view (map_ok f r) ≡ Ok text → (x : X) × (r ≡ Ok x) × (text ≡ f x)
listed f (Ok x) text e = (x, refl, cc)
listed f (Err u) text e = absurd cc

pub cohomology_shows : (p : Presentation) (T : PlainTable) (sections : List Section) (text : List ℕ) → IsSound p → IsMadeOf p T sections →
    cohomology_text T ≡ Ok text → ShowsCohomology p T text
cohomology_shows p T sections text sound made e =
    let l = listed (texts.cohomology_text T) (lows_of T T.weight) text e in
    let law = built_obeys_law (field_of p.field) (presentation_in p) (sound_is_sound p sound) (table_in p.field T)
    (made_holds p T sections sound made).built in
    let m = lows_mean p sound T (made_table_for p T sections sound made) law l.0 l.1 in
    record { lows = l.0; each = m.0; are = m.1; is = l.2 }

pub cohomology_fits : (n : ℕ) (T : PlainTable) (fault : ViewFault) → T.kind ≡ Prime n → cohomology_text T ≡ Err fault → ⊥
cohomology_fits n T fault prime e = go (lows_fit n T prime T.weight)
  where
    none : (r : Result (List Low) Unfit) (lows : List Low) → r ≡ Ok lows → in_view (map_ok (texts.cohomology_text T) r) ≡ Err fault → ⊥
    none (Ok x) lows f e = cc
    none (Err u) lows f e = cc

    go : (lows : List Low) × (lows_of T T.weight ≡ Ok lows) → ⊥
    go r = none (lows_of T T.weight) r.0 r.1 e
