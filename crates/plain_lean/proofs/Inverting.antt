-- The number that a row is scaled by is not 0, so the step of a row that is kept stays.
use Rattle.std.proofs.Common.{ℕ, ◌-◌, List, [], get_or, arith}
use Rattle.std.specs.Prelude.{All}
use Rattle.math_linear.specs.Vector.{vzero}
use Rattle.fpl_numbers.specs.declared.number.Num.{Num}
use Rattle.fpl_numbers.specs.declared.number.Kind.{Kind}
use Rattle.fpl_numbers.specs.Numbers.{IsField, residue}
use Rattle.fpl_numbers.specs.Kinds.{field_of, number_of}
use Rattle.fpl_numbers.specs.Reads.{Reads}
use Rattle.fpl_numbers.proofs.KindReads.{kind_reads}
use Rattle.fpl_rows.specs.Meaning.{IsRowOf}
use Rattle.fpl_rows.proofs.Leads.{lead_is}
use Rattle.plain_elimination.specs.Plain.{IsPivotRow, Held}
use Rattle.plain_elimination.proofs.Sweeping.{sweep_reads}
use Rattle.plain_elimination.proofs.Inverses.{inverse_stays}
use Rattle.plain_lean.specs.Lean.{InsertsLean}
use Rattle.plain_lean.proofs.Renumbering.{InvertsLeads, insert_same}

module _ (kind : Kind) (listed : IsField kind) where
  reads : Reads kind (field_of kind) (number_of kind)
  reads = kind_reads kind listed

  inverts : (size : ℕ) (h : Held) (row : List Num) → All (IsPivotRow kind size) h.pivots → IsRowOf kind size row → InvertsLeads kind size h row
  inverts size h row rows is x e s lead =
      let q = sweep_reads kind (field_of kind) (number_of kind) reads h.pivots size size (λ i. vzero (field_of kind))
      (record { row = row; terms = [] }) x rows (omega arith) is.elements is.length_is e in
      let k = lead_is x.row _ s lead in
      inverse_stays kind listed (get_or x.row (s - 1) (residue 0)) (q.left.elements (s - 1) (residue 0)
      (let a = k.from_one in let b = k.to_end in omega (arith, a, b))) k.leads

pub inserts_lean : (k : Kind) → InsertsLean k
inserts_lean k listed size full lean row origin rows is h = insert_same k size full lean row origin h (inverts k listed size full row rows is)
