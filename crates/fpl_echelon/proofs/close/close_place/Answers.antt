use Rattle.std.proofs.Common.{◌≡◌, ◌<◌, ◌+◌, ◌∙◌, ℕ, None, false, ap, sym, subst, refl, length, replicate, get_or}
use Rattle.std.specs.List.{find}
use Rattle.fpl_numbers.specs.Numbers.{is_nought, residue}
use Rattle.plain_elimination.specs.Plain.{stands_at}
use Rattle.plain_elimination.proofs.Found.{found_length, found_elements, found_fits}
use Rattle.fpl_echelon.proofs.Contracts.{emptied_is, long_in}
use Rattle.fpl_echelon.proofs.close.close_place.Goals as goal

pub keep_bare-requires-clause-none : goal.keep_bare-requires-clause-none
keep_bare-requires-clause-none g c =
    subst (λ row. (t : ℕ) → t < c.args.s → is_nought (get_or row t (residue 0)) ≡ false → find (stands_at (t + 1)) c.args.closed.now ≡ None)
    c.row.ensures (c.if-meets_none.ensures refl)

pub load-requires-clause-zeros : goal.load-requires-clause-zeros
load-requires-clause-zeros g c =
    rw (c.row-in-Some.ensures)
    (c.requires.zeros ∙ ap (λ n. replicate n (residue 0)) (found_length (g.F.Field.kind_of c.args.field.now) (length c.args.work.now.row)
    (c.args.s + 1) c.args.pivots.now _ c.requires.pivots c.in-Some.ensures))

pub load-requires-clause-elements : goal.load-requires-clause-elements
load-requires-clause-elements g c =
    rw (c.requires.kind, c.row-in-Some.ensures) (found_elements (g.F.Field.kind_of c.args.field.now) (length c.args.work.now.row)
    (c.args.s + 1) c.args.pivots.now _ c.requires.pivots c.in-Some.ensures)

pub sweep_work-requires-clause-kind : goal.sweep_work-requires-clause-kind
sweep_work-requires-clause-kind g c = rw (c.load.ensures) c.requires.kind

pub sweep_work-requires-clause-place : goal.sweep_work-requires-clause-place
sweep_work-requires-clause-place g c =
    rw (c.load.ensures, c.row-in-Some.ensures) (found_fits (g.F.Field.kind_of c.args.field.now) (length c.args.work.now.row) c.args.s c.args.pivots.now _
    c.requires.place c.requires.pivots c.in-Some.ensures)

pub sweep_work-requires-clause-pivots : goal.sweep_work-requires-clause-pivots
sweep_work-requires-clause-pivots g c =
    rw (
      c.load.ensures,
      c.row-in-Some.ensures,
      ← found_length (g.F.Field.kind_of c.args.field.now) (length c.args.work.now.row)
          (c.args.s + 1) c.args.pivots.now _ c.requires.pivots c.in-Some.ensures,
    ) c.requires.closed

pub returns-in_ok-push-in-Some-2-clause-emptied : goal.returns-in_ok-push-in-Some-2-clause-emptied
returns-in_ok-push-in-Some-2-clause-emptied g c =
    let kind = g.F.Field.kind_of c.args.field.now in
    emptied_is c.args.work.now c.clear-in-Some.new.self kind _ _ c.requires.kind c.requires.zeros c.clear-in-Some.ensures c.in-Ok.ensures.kind
    (c.in-Ok.ensures.length ∙ ap long_in c.load.ensures ∙ ap length c.row-in-Some.ensures
    ∙ sym (found_length kind (length c.args.work.now.row) (c.args.s + 1) c.args.pivots.now _ c.requires.pivots c.in-Some.ensures))
