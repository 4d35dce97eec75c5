use Rattle.std.proofs.Common.{◌+◌, ◌-◌, ◌∙◌, ap, subst, sym, arith}
use Rattle.std.specs.Prelude.{List, slice_index_or}
use Rattle.fpl_numbers.specs.declared.number.Num.{Num}
use Rattle.fpl_numbers.specs.Numbers.{IsElement, residue}
use Rattle.plain_elimination.proofs.Found.{found_length, found_elements}
use Rattle.fpl_echelon.proofs.kernels.number_at.Goals as goal

pub at-requires : goal.at-requires
at-requires g c =
    let long = found_length (g.F.Field.kind_of c.args.field.now) c.args.n (c.args.s + 1) c.args.pivots.now _ c.requires.pivots c.in-Some.ensures in
    rw (c.row.ensures, ← long) (omega arith, omega arith)

pub neg-requires : goal.neg-requires
neg-requires g c =
    let kind = g.F.Field.kind_of c.args.field.now in
    let long = found_length kind c.args.n (c.args.s + 1) c.args.pivots.now _ c.requires.pivots c.in-Some.ensures in
    let within = found_elements kind c.args.n (c.args.s + 1) c.args.pivots.now _ c.requires.pivots c.in-Some.ensures in
    subst (IsElement kind) (sym (c.at.ensures ∙ ap (λ (row : List Num). slice_index_or row (c.args.f + 1 - 1) (residue 0)) c.row.ensures))
    (within (c.args.f + 1 - 1) (residue 0) (omega (arith, long)))
