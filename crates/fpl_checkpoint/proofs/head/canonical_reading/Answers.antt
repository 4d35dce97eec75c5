use Rattle.std.proofs.Common.{◌∙◌}
use Rattle.std.proofs.lemmas.Bool.{false≢true}
use Rattle.fpl_checkpoint.proofs.Texts.{not_canonical, not_read, same_bytes}
use Rattle.fpl_checkpoint.proofs.head.canonical_reading.Goals as goal

pub returns-else-eq-clause-text : goal.returns-else-eq-clause-text
returns-else-eq-clause-text c =
    not_canonical c.args.text.now c.in_ok-canonical-in-Ok.canonical.items c.in-Ok.p c.in-Ok.ensures.read c.in_ok-canonical-in-Ok.ensures
    (λ e. false≢true (c.if-eq.ensures ∙ same_bytes c.as_slice.result.now c.args.text.now (c.as_slice.ensures.value ∙ e)))

pub returns-in-Err-Refused-clause-text : goal.returns-in-Err-Refused-clause-text
returns-in-Err-Refused-clause-text c = not_read c.args.text.now c.in-Err-Refused.field-0-0 c.in-Err-Refused.field-0-1
    (rw c.in-Err-Refused.field-0-is at c.in-Err-Refused.ensures.read)
