use Rattle.std.proofs.Common.{sym, ◌∙◌}
use Rattle.fpl_reader.proofs.Readings.{read_err, refused_lexically, refused_for_depth, tokens_few, text_utf8}
use Rattle.fpl_reader.proofs.reading.read_text.Goals as goal

pub returns-in-Some : goal.returns-in-Some
returns-in-Some c = read_err c.args.text.now c.lexical_refusal.result
    (refused_lexically c.args.text.now c.in-Some.e c.lexical_refusal.result c.in-Some.ensures c.lexical_refusal.ensures)

pub depth_fault-requires-clause-few : goal.depth_fault-requires-clause-few
depth_fault-requires-clause-few c = tokens_few c.args.text.now c.in_default.ensures c.requires

pub returns-in-Some-depth_fault : goal.returns-in-Some-depth_fault
returns-in-Some-depth_fault c = rw c.refused.ensures (refused_for_depth c.args.text.now c.in-Some-depth_fault.place c.in_default.ensures
    (sym c.in-Some-depth_fault.ensures))

pub refuse_sentence-requires-clause-few : goal.refuse_sentence-requires-clause-few
refuse_sentence-requires-clause-few c = tokens_few c.args.text.now c.in_default.ensures c.requires

pub generators-requires-clause-texts : goal.generators-requires-clause-texts
generators-requires-clause-texts c = text_utf8 c.args.text.now c.as_slice.result.now c.in_default.ensures (c.as_slice.ensures ∙ c.in_ok-survey.ensures.declared)

pub read_sentence-requires-clause-few : goal.read_sentence-requires-clause-few
read_sentence-requires-clause-few c = tokens_few c.args.text.now c.in_default.ensures c.requires
