use Rattle.std.proofs.Common.{[], ◌<◌, length, sym, ap, ◌∙◌, arith}
use Rattle.std.specs.Prelude.{is_some}
use Rattle.fpl_reader.proofs.Twice.{twice_by-same, name_twice-by, has, has_none, has_more, twice_more}
use Rattle.fpl_reader.proofs.declarations.name_twice.Goals as goal

pub loop-d-init : goal.loop-d-init
loop-d-init c = name_twice-by c.args.text.now [] c.args.names.now ∙ twice_by-same c.args.text.now _ (has c.new-seen.result) c.args.names.now
    (has_none c.new-seen.result c.new-seen.ensures.empty)

pub loop-d-preserved : goal.loop-d-preserved
loop-d-preserved c =
    let more = has_more c.bytes.result.now c.loop-d.seen c.insert.new.self c.in_ok-insert.ensures.updates in
    let inside : c.loop-d.d-index < length c.args.names.now = omega arith in
    c.loop-d.invariant
    ∙ twice_more c.args.text.now c.bytes.result.now (has c.loop-d.seen) (has c.insert.new.self) c.args.names.now c.loop-d.d-index _ inside c.bytes.ensures
    (sym (c.if-is_some.ensures ∙ ap is_some c.in_ok-insert.ensures.old)) more
