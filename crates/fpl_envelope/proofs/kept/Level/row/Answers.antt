use Rattle.std.proofs.Common.{◌≡◌, ◌-◌, suc, sym, arith}
use Rattle.fpl_table.specs.Plain.{through}
use Rattle.fpl_envelope.proofs.Levels.{kept_row}
use Rattle.fpl_envelope.proofs.kept.Level.row.Goals as goal

pub returns : goal.returns
returns g c =
    let T = c.args.table.now in
    let place : through T c.args.w - suc (c.args.i - 1) ≡ c.through.result - c.args.i = omega arith in
    kept_row T c.args.w (c.args.i - 1) (λ v. v.items) c.self.inside.elements.items c.args.self.now (sym c.self.view_is) (c.through.result - c.args.i) place
    c.args.number c.requires.element c.requires.number c.index.result.now c.index.ensures c.index-2.result.now c.index-2.ensures
