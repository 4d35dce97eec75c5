use Rattle.std.proofs.Common.{◌≤◌, ◌<◌, ◌+◌, ◌-◌, length, refl, ap, ◌∙◌, arith}
use Rattle.fpl_table.specs.Plain.{plain_basis}
use Rattle.fpl_envelope.specs.Counts.{words_in, heads_in}
use Rattle.fpl_envelope.proofs.Before.{before_is}
use Rattle.fpl_envelope.proofs.counts.Counts.before.Goals as goal

pub returns-clause-within : goal.returns-clause-within
returns-clause-within g c =
    (before_is c.args.table.now c.basis.ensures.shape (c.args.i - 1) c.args.at.weight c.args.at.number
    ((plain_basis c.args.table.now (c.args.i - 1)).weight + c.args.at.weight) c.heads.result c.skipped.result (omega arith) c.requires.number
    c.requires.stands refl
    (c.heads.ensures.value ∙ ap (λ b. heads_in c.args.table.now (b.weight + c.args.at.weight) (c.args.i - 1)) c.basis.ensures.value)
    c.skipped.ensures.value).within

pub returns-clause-word : goal.returns-clause-word
returns-clause-word g c =
    (before_is c.args.table.now c.basis.ensures.shape (c.args.i - 1) c.args.at.weight c.args.at.number
    ((plain_basis c.args.table.now (c.args.i - 1)).weight + c.args.at.weight) c.heads.result c.skipped.result (omega arith) c.requires.number
    c.requires.stands refl
    (c.heads.ensures.value ∙ ap (λ b. heads_in c.args.table.now (b.weight + c.args.at.weight) (c.args.i - 1)) c.basis.ensures.value)
    c.skipped.ensures.value).word

pub overflow_add-result : goal.overflow_add-result
overflow_add-result g c =
    let within : c.heads.result + (c.args.at.number - c.skipped.result)
    < length (words_in c.args.table.now ((plain_basis c.args.table.now (c.args.i - 1)).weight + c.args.at.weight)) =
    (before_is c.args.table.now c.basis.ensures.shape (c.args.i - 1) c.args.at.weight c.args.at.number
    ((plain_basis c.args.table.now (c.args.i - 1)).weight + c.args.at.weight) c.heads.result c.skipped.result (omega arith) c.requires.number
    c.requires.stands refl
    (c.heads.ensures.value ∙ ap (λ b. heads_in c.args.table.now (b.weight + c.args.at.weight) (c.args.i - 1)) c.basis.ensures.value)
    c.skipped.ensures.value).within in
    let few : length (words_in c.args.table.now ((plain_basis c.args.table.now (c.args.i - 1)).weight + c.args.at.weight)) ≤ 2000000 =
    c.requires.counts.few ((plain_basis c.args.table.now (c.args.i - 1)).weight + c.args.at.weight) c.requires.weight in
    omega (arith, within, few)
