use Rattle.std.proofs.Common.{◌≡◌, List, ℕ, sym, ap, ◌∙◌, subst, arith}
use Rattle.fpl_numbers.specs.declared.number.Num.{Num}
use Rattle.math_words.specs.Action.{straight}
use Rattle.fpl_envelope.specs.Action.{Adds, StandsFor, multiple, row_value, field_in, math_in, number_in}
use Rattle.fpl_envelope.specs.Polys.{word_of, weight_in, part_of}
use Rattle.fpl_envelope.proofs.Adding.{adds_row, adds_same}
use Rattle.fpl_envelope.proofs.Parts.{part_at}
use Rattle.fpl_envelope.proofs.straightening.add_term.Goals as goal

pub returns-clause-adds : goal.returns-clause-adds
returns-clause-adds g c =
    let T = c.args.table.now in
    let same : weight_in T c.term.inside.word ≡ c.args.w = omega arith in
    subst (λ (t : List ℕ × Num). Adds T c.args.w (part_of T c.args.w t) c.args.sum.now.row c.add_row.new.sum.row) c.term.view_is
    (adds_same T c.args.w (multiple T (g.F.Field.number c.term.inside.number) (row_value T c.args.w c.in_ok-form.form.row))
    (part_of T c.args.w (c.term.inside.word, g.F.Field.number c.term.inside.number)) c.args.sum.now.row c.add_row.new.sum.row
    (adds_row T c.args.w c.args.sum.now.kind (g.F.Field.number c.term.inside.number) c.in_ok-form.form.row c.args.sum.now.row c.add_row.new.sum.row
    c.requires.sum.kind c.add_row.ensures.value)
    (λ f. ap ((field_in T).times (number_in T (g.F.Field.number c.term.inside.number)))
    ((subst (λ w. StandsFor T w (λ f. straight (field_in T) (math_in T) (word_of c.term.inside.word) f) c.in_ok-form.form.row) same
    c.in_ok-form.ensures.value).value f)
    ∙ sym (part_at T c.args.w c.term.inside.word (g.F.Field.number c.term.inside.number) f same)))
