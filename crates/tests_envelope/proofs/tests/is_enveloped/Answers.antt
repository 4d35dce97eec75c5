use Rattle.std.proofs.Common.{sym, ◌∙◌}
use Rattle.fpl_envelope_text.proofs.Enveloped.{enveloped}
use Rattle.tests_envelope.proofs.tests.is_enveloped.Goals as goal

pub returns-in-Prime : goal.returns-in-Prime
returns-in-Prime c =
    λ t. enveloped c.args.p.now c.args.table.now.weight c.args.table.now c.in-Prime.field-0 c.requires.sound c.requires.standard c.weight-weight.ensures.shape
    (sym c.field.ensures ∙ sym c.kind.ensures ∙ c.in-Prime.is)
