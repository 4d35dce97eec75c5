use Rattle.std.proofs.Common.{◌≡◌, sym, subst, ◌∙◌, rules}
use Rattle.math_algebra.specs.Degrees.{any}
use Rattle.fpl_table_facts.specs.Known.{weight_in}
use Rattle.fpl_table_facts.proofs.bracket_rows.pair_row.Goals as goal

pub void_left_row-requires-clause-void : goal.void_left_row-requires-clause-void
void_left_row-requires-clause-void c =
    let void : weight_in c.args.p.now c.args.a.now ≡ any = search rules in
    subst (λ q. weight_in q c.args.a.now ≡ any) (c.requires.presentation ∙ sym c.in_ok-left.ensures.grows.presentation) void

pub void_right_row-requires-clause-void : goal.void_right_row-requires-clause-void
void_right_row-requires-clause-void c =
    let void : weight_in c.args.p.now c.args.b.now ≡ any = search rules in
    subst (λ q. weight_in q c.args.b.now ≡ any) (c.requires.presentation ∙ sym c.in_ok-right.ensures.grows.presentation) void
