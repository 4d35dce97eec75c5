use Rattle.std.proofs.Common.{◌≡◌, get_or, ap, ap₂, subst, ◌∙◌}
use Rattle.math_algebra.specs.Symbols.{place_of}
use Rattle.fpl_model.specs.declared.expr.Expr.TheVariants.{Zero}
use Rattle.fpl_table.specs.Plain.{symbol_in, symbols_in}
use Rattle.fpl_forms.specs.Forms.{IsWork}
use Rattle.fpl_table_facts.proofs.Grown.{grows_next}
use Rattle.fpl_table_facts.proofs.LeafRows.{once_at, symbol_row}
use Rattle.fpl_table_facts.proofs.leaves.symbol_once.Goals as goal

pub returns-clause-row : goal.returns-clause-row
returns-clause-row c =
    let M = c.unit.new.self in
    let x = symbol_in c.args.x in
    let e = c.in_ok-row.ensures in
    let place : c.place_in-s.result ≡ place_of x (symbols_in c.args.known.now.table) = c.place_in-s.ensures ∙ ap (place_of x) c.requires.next.symbols in
    symbol_row M c.sound.ensures c.args.known.now c.args.next.now (grows_next e.grows c.requires.next) x c.in_ok-row.row c.requires.listed
    (subst (λ es. IsWork M es c.in_ok-row.row) c.deref.ensures.value e.work)
    (e.left ∙ ap₂ (λ es a. get_or es a Zero) c.deref.ensures.value place) (e.terms ∙ ap (once_at M c.sound.ensures) place)
