use Rattle.std.proofs.Common.{◌≢◌, sym, subst, ◌∙◌}
use Rattle.math_algebra.specs.Degrees.{any}
use Rattle.fpl_model.specs.declared.expr.Expr.TheVariants.{Br}
use Rattle.fpl_forms.proofs.Ledgers.{grows_trans}
use Rattle.fpl_table_facts.specs.Known.{weight_in}
use Rattle.fpl_table_facts.specs.Rows.{IsDue}
use Rattle.fpl_table_facts.proofs.bracket_rows.weighty_row.Goals as goal

pub bracket_row-requires-clause-some_a : goal.bracket_row-requires-clause-some_a
bracket_row-requires-clause-some_a c =
    let g = grows_trans c.in_ok-left.ensures.grows c.in_ok-right.ensures.grows in
    subst (λ q. weight_in q c.args.a.now ≢ any) (c.requires.presentation ∙ sym g.presentation) c.requires.some_a

pub bracket_row-requires-clause-some_b : goal.bracket_row-requires-clause-some_b
bracket_row-requires-clause-some_b c =
    let g = grows_trans c.in_ok-left.ensures.grows c.in_ok-right.ensures.grows in
    subst (λ q. weight_in q c.args.b.now ≢ any) (c.requires.presentation ∙ sym g.presentation) c.requires.some_b

pub bracket_row-requires-clause-due : goal.bracket_row-requires-clause-due
bracket_row-requires-clause-due c =
    let g = grows_trans c.in_ok-left.ensures.grows c.in_ok-right.ensures.grows in
    subst (λ q. IsDue q c.args.known.now.table.weight (Br c.args.a.now c.args.b.now)) (c.requires.presentation ∙ sym g.presentation) c.requires.due
