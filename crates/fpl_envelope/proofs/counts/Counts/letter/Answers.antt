use Rattle.std.proofs.Common.{◌≡◌, ◌<◌, ◌-◌, length, ap, sym, ◌∙◌, subst, arith}
use Rattle.fpl_envelope.specs.Counts.{heads_in, words_in}
use Rattle.fpl_envelope.proofs.CountRows.{heads_total, heads_some}
use Rattle.fpl_envelope.proofs.counts.Counts.letter.Goals as goal

pub loop-at-init : goal.loop-at-init
loop-at-init g c =
    let T = c.args.table.now in
    let all : heads_in T c.args.at.weight c.basis_len-i.result ≡ length (words_in T c.args.at.weight) =
    ap (heads_in T c.args.at.weight) c.basis_len-i.ensures.value ∙ heads_total T c.basis_len-i.ensures.shape c.args.at.weight (omega arith) in
    let high : c.args.at.number < heads_in T c.args.at.weight c.basis_len-i.result = subst (λ n. c.args.at.number < n) (sym all) c.requires.number in
    record { some = heads_some T c.basis_len-i.ensures.shape c.args.at.weight c.basis_len-i.result c.args.at.number high; most = omega arith; high = high }

pub loop-at-preserved : goal.loop-at-preserved
loop-at-preserved g c =
    let T = c.args.table.now in
    let high : c.args.at.number < heads_in T c.args.at.weight (c.loop-at.i - 1) = subst (λ n. c.args.at.number < n) c.heads.ensures.value c.loop-at-test.true in
    record { some = heads_some T c.heads.ensures.shape c.args.at.weight (c.loop-at.i - 1) c.args.at.number high; most = omega arith; high = high }
