use Rattle.std.proofs.Common.{◌≡◌, ◌+◌, ◌-◌, length, ap, ◌∙◌, arith}
use Rattle.fpl_numbers.specs.declared.number.Kind.{Kind}
use Rattle.fpl_numbers.specs.Numbers.{negative_of}
use Rattle.fpl_table.specs.Plain.{plain_basis, nothing, plus, minus}
use Rattle.fpl_envelope.specs.Action.{multiple, acted}
use Rattle.fpl_envelope.proofs.Adding.{part, adds_none, adds_same}
use Rattle.fpl_envelope.proofs.Bracketing.{found, pair_at, terms_at, bracket_plus, bracket_minus, bracket_none}
use Rattle.fpl_envelope.proofs.acting.add_bracket.Goals as goal

pub add_combined-requires-clause-terms : goal.add_combined-requires-clause-terms
add_combined-requires-clause-terms g c =
    let T = c.args.table.now in
    let shape = c.basis_len-count.ensures.shape in
    let whole : (plain_basis T (c.args.i - 1)).weight + (plain_basis T (c.args.j - 1)).weight + c.args.at.weight ≡ c.args.w = c.requires.weight in
    let most = c.requires.counts.within in
    terms_at T c.requires.table shape c.args.w c.args.i (c.args.i - 1) (c.args.j - 1) (c.in-Plus.k - 1) (c.in-Plus.l - 1) c.args.at.weight
    c.entry-entry.result.now c.args.level.now c.entry-entry.ensures.value c.entry-entry.ensures.row.elements (omega arith) c.requires.level (omega arith)
    (omega arith) (omega (arith, whole, most)) whole
    (pair_at T c.requires.table shape (c.args.i - 1) (c.args.j - 1) (plus (c.in-Plus.k - 1) (c.in-Plus.l - 1)) c.in-Plus.ensures.value (omega arith)
    (omega arith))

pub add_combined-requires-in-Minus-clause-terms : goal.add_combined-requires-in-Minus-clause-terms
add_combined-requires-in-Minus-clause-terms g c =
    let T = c.args.table.now in
    let shape = c.basis_len-count.ensures.shape in
    let whole : (plain_basis T (c.args.i - 1)).weight + (plain_basis T (c.args.j - 1)).weight + c.args.at.weight ≡ c.args.w = c.requires.weight in
    let most = c.requires.counts.within in
    terms_at T c.requires.table shape c.args.w c.args.i (c.args.i - 1) (c.args.j - 1) (c.in-Minus.k - 1) (c.in-Minus.l - 1) c.args.at.weight
    c.entry-opposite.result.now c.args.level.now c.entry-opposite.ensures.value c.entry-opposite.ensures.row.elements (omega arith) c.requires.level
    (omega arith) (omega arith) (omega (arith, whole, most)) whole
    (pair_at T c.requires.table shape (c.args.i - 1) (c.args.j - 1) (minus (c.in-Minus.k - 1) (c.in-Minus.l - 1)) c.in-Minus.ensures.value (omega arith)
    (omega arith))

pub returns-in-Zero-clause-adds : goal.returns-in-Zero-clause-adds
returns-in-Zero-clause-adds g c =
    let T = c.args.table.now in
    let shape = c.basis_len-count.ensures.shape in
    let whole : (plain_basis T (c.args.i - 1)).weight + (plain_basis T (c.args.j - 1)).weight + c.args.at.weight ≡ c.args.w = c.requires.weight in
    let most = c.requires.counts.within in
    adds_none T c.args.w _ c.args.sum.now.row
    (λ f. bracket_none T c.requires.table shape (c.args.i - 1) (c.args.j - 1) c.args.at.weight c.args.at.number (g.F.Field.number c.args.c) f
    (found T c.requires.table shape (c.args.i - 1) (c.args.j - 1) nothing c.in-Zero.ensures.value (omega (arith, whole, most))))

pub returns-in-Plus-clause-adds : goal.returns-in-Plus-clause-adds
returns-in-Plus-clause-adds g c =
    let T = c.args.table.now in
    let shape = c.basis_len-count.ensures.shape in
    let whole : (plain_basis T (c.args.i - 1)).weight + (plain_basis T (c.args.j - 1)).weight + c.args.at.weight ≡ c.args.w = c.requires.weight in
    let most = c.requires.counts.within in
    adds_same T c.args.w (multiple T (g.F.Field.number c.args.c) (part T (λ t f. acted T t c.args.at.weight c.args.at.number f) c.entry-entry.result.now
    (length T.basis))) _
    c.args.sum.now.row c.add_combined.new.sum.row c.add_combined.ensures.adds
    (λ f. ap (λ r. multiple T (g.F.Field.number c.args.c) (part T (λ t f. acted T t c.args.at.weight c.args.at.number f) r
    (length T.basis)) f) c.entry-entry.ensures.value
    ∙ bracket_plus T c.requires.table shape (c.args.i - 1) (c.args.j - 1) (c.in-Plus.k - 1) (c.in-Plus.l - 1) c.args.at.weight c.args.at.number
    (g.F.Field.number c.args.c) f
    (found T c.requires.table shape (c.args.i - 1) (c.args.j - 1) (plus (c.in-Plus.k - 1) (c.in-Plus.l - 1)) c.in-Plus.ensures.value (omega
    (arith, whole, most))))

pub returns-in-Minus-clause-adds : goal.returns-in-Minus-clause-adds
returns-in-Minus-clause-adds g c =
    let T = c.args.table.now in
    let shape = c.basis_len-count.ensures.shape in
    let whole : (plain_basis T (c.args.i - 1)).weight + (plain_basis T (c.args.j - 1)).weight + c.args.at.weight ≡ c.args.w = c.requires.weight in
    let most = c.requires.counts.within in
    adds_same T c.args.w (multiple T (g.F.Field.number c.neg-negated.result) (part T
    (λ t f. acted T t c.args.at.weight c.args.at.number f) c.entry-opposite.result.now (length T.basis))) _
    c.args.sum.now.row c.add_combined-in-Minus.new.sum.row c.add_combined-in-Minus.ensures.adds
    (λ f. ap (λ r. multiple T (g.F.Field.number c.neg-negated.result) (part T (λ t f. acted T t c.args.at.weight c.args.at.number f) r (length T.basis)) f)
    c.entry-opposite.ensures.value
    ∙ bracket_minus T c.requires.table shape (c.args.i - 1) (c.args.j - 1) (c.in-Minus.k - 1) (c.in-Minus.l - 1) c.args.at.weight c.args.at.number
    (g.F.Field.number c.args.c) (g.F.Field.number c.neg-negated.result) f c.requires.factor
    (c.neg-negated.ensures.value ∙ ap (λ (k : Kind). negative_of k (g.F.Field.number c.args.c)) c.field.ensures)
    (found T c.requires.table shape (c.args.i - 1) (c.args.j - 1) (minus (c.in-Minus.k - 1) (c.in-Minus.l - 1)) c.in-Minus.ensures.value
    (omega (arith, whole, most))))
