-- What the texts of the views obey, over any sound presentation and its standard table through any weight.
--   IsMadeOf p T sections: T is the standard table of p, made weight by weight, and the sections are those that raised it, each accepted
--   TextsShow: where the plain run of a view gives a text, over a field that the view works over, the text shows what the view promises
--   TextsFitOverPrimes: over a prime no operation of a view fails to fit
--   TextsAreOfTables: the text of a view of the table alone is the same for all sections
use Rattle.std.specs.Prelude.{ℕ, ◌≡◌, List, Ok, Err}
use Rattle.fpl_numbers.specs.declared.number.Unfit.{Unfit}
use Rattle.fpl_numbers.specs.declared.number.Kind.TheVariants.{Prime}
use Rattle.fpl_log.specs.declared.section.Section.{Section}
use Rattle.fpl_model.specs.declared.presentation.Presentation.{Presentation}
use Rattle.fpl_model.specs.Sound.{IsSound}
use Rattle.fpl_table.specs.Plain.{PlainTable}
use Rattle.fpl_table.specs.Standard.{IsTableOf}
use Rattle.fpl_table.specs.Shape.{HasShape}
use Rattle.plain_tables.specs.Raised.{IsRaised}
use Rattle.fpl_complete.specs.State.{AreAccepted, AreOfWeights}
use Rattle.fpl_reply.specs.declared.view_fault.ViewFault.TheVariants.{Overflow}
use Rattle.fpl_views.specs.declared.shown.Shown.{Shown}
use Rattle.fpl_views.specs.Views.{text_of_view, Shows, IsOfTable, IsServed}

pub record IsMadeOf (p : Presentation) (T : PlainTable) (sections : List Section) : Type 0 where
  pub standard : IsTableOf p T.weight T
  pub raised : IsRaised p T
  pub shape : HasShape T
  pub of_weights : AreOfWeights T.weight sections
  pub accepted : AreAccepted p T sections

abbrev pub TextsShow : Type 0
TextsShow =
    (v : Shown) (entries : ℕ) (p : Presentation) (T : PlainTable) (sections : List Section) (text : List ℕ) → IsSound p → IsMadeOf p T sections →
    IsServed v p.field → text_of_view v entries p T sections ≡ Ok text → Shows v p T sections text

abbrev pub TextsFitOverPrimes : Type 0
TextsFitOverPrimes =
    (v : Shown) (entries n : ℕ) (p : Presentation) (T : PlainTable) (sections : List Section) (u : Unfit) → IsSound p → IsMadeOf p T sections →
    p.field ≡ Prime n → text_of_view v entries p T sections ≡ Err (Overflow u) → ⊥

abbrev pub TextsAreOfTables : Type 0
TextsAreOfTables =
    (v : Shown) → IsOfTable v → (entries : ℕ) (p : Presentation) (T : PlainTable) (ss more : List Section) →
    text_of_view v entries p T ss ≡ text_of_view v entries p T more
