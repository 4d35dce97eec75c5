use Rattle.std.proofs.Common.{◌≡◌, ◌∙◌, ℕ, ap, refl, arith, length, false}
use Rattle.std.specs.Prelude.{Option, Some, None, is_some, not}
use Rattle.fpl_rows.specs.Positions.{next_of}
use Rattle.fpl_rows.proofs.Leads.{lead_place, none_below}
use Rattle.fpl_rows.proofs.Firsts.{next_is_none}
use Rattle.fpl_check.specs.Steps.{remainder_at}
use Rattle.fpl_check.proofs.RowLoops.{number_element}
use Rattle.fpl_check.proofs.remainder.test_zero.Goals as goal

none_is : (o : Option ℕ) → is_some o ≡ false → None ≡ o
none_is None e = refl
none_is (Some s) e = absurd (let k : ⊥ = cc in k)

pub returns-then-is_none : goal.returns-then-is_none
returns-then-is_none g c =
    let row = c.args.row.now in
    let none : ◌≡◌ {A = Option ℕ} None (next_of row 0) = none_is c.next.result (c.is_none.ensures ∙ ap not c.if-is_none.true) ∙ c.next.ensures in
    ap (remainder_at c.args.spot row) (none_below row (length row) (λ t l. next_is_none row 0 none t (omega arith) l))

pub at-requires : goal.at-requires
at-requires g c = lead_place c.args.row.now c.in-Some.symbol c.in-Some.ensures

pub num-number-requires : goal.num-number-requires
num-number-requires g c =
    let place = lead_place c.args.row.now c.in-Some.symbol c.in-Some.ensures in
    number_element (g.F.Field.kind_of c.args.field.now) c.args.row.now c.in-Some.symbol (g.F.Field.number c.at.result) c.requires place.0 place.1 c.at.ensures
