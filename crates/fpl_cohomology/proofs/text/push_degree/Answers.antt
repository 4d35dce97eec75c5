use Rattle.std.proofs.Common.{◌++◌, ◌∙◌, ap, length}
use Rattle.fpl_cohomology.specs.Text.{degree_head, form_lines}
use Rattle.fpl_cohomology.proofs.Lines.{behind_head}
use Rattle.fpl_cohomology.proofs.text.push_degree.Goals as goal

pub returns : goal.returns
returns g c =
    behind_head c.push_form_lines.result c.args.out.now.items (degree_head c.args.word.now c.args.w (length c.args.rows.now))
    (form_lines c.args.forms.now c.args.rows.now) c.push_degree_head.new.out.items c.push_form_lines.new.out.items (c.in_ok-push_degree_head.ensures
    ∙ ap (λ n. c.args.out.now.items ++ degree_head c.args.word.now c.args.w n) c.len.ensures.value)
    c.push_form_lines.ensures
