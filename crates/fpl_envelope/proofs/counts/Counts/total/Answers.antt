use Rattle.std.proofs.Common.{◌≤◌, length, ap, sym, ◌∙◌, subst, arith}
use Rattle.fpl_envelope.specs.Counts.{words_in, heads_in}
use Rattle.fpl_envelope.proofs.CountRows.{one_of_none, heads_total}
use Rattle.fpl_envelope.proofs.counts.Counts.total.Goals as goal

pub returns-then-w-eq0-clause-value : goal.returns-then-w-eq0-clause-value
returns-then-w-eq0-clause-value g c = sym (ap (λ w. length (words_in c.args.table.now w)) c.if-w-eq0.true ∙ one_of_none c.args.table.now)

pub returns-clause-value : goal.returns-clause-value
returns-clause-value g c =
    c.heads.ensures.value ∙ ap (heads_in c.args.table.now c.args.w) c.basis_len.ensures.value
    ∙ heads_total c.args.table.now c.basis_len.ensures.shape c.args.w (omega arith)

pub returns-clause-few : goal.returns-clause-few
returns-clause-few g c = subst (λ n. n ≤ 2000000) (sym (returns-clause-value g c)) (c.requires.counts.few c.args.w c.requires.weight)
