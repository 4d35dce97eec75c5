use Rattle.std.proofs.Common.{◌+◌, length, arith}
use Rattle.fpl_syntax.specs.Sight.{sight}
use Rattle.fpl_reader.specs.Texts.{text_tokens}
use Rattle.fpl_reader.proofs.Parsing.{parse_more, place_more, count_more, fault_here, fault_end}
use Rattle.fpl_reader.proofs.sentence.parse_text.Goals as goal

pub loop-token-preserved : goal.loop-token-preserved
loop-token-preserved c =
    let step = rw c.in-Ok-Some.field-0-is at c.in-Ok-Some.ensures.next in
    let text = c.args.scope.now.text.now in
    let old = c.loop-token.stream in
    let new = c.next.new.self in (
      parse_more text (sight c.args.scope.now) c.loop-token.claims.items c.step_state.new.claims.items c.loop-token.state c.in-Ok-Some.next
          c.loop-token.k c.in-Some.token old new c.terminal_of.result c.in-Some.ensures c.terminal_of.ensures step c.loop-token.invariant.0,
      place_more text c.loop-token.k c.in-Some.token old new (text_tokens text) c.in-Some.ensures c.loop-token.invariant.1,
      count_more c.loop-token.k (1 + length (text_tokens text)) c.in-Some.token old new c.in-Some.ensures c.loop-token.invariant.2,
      omega arith,
    )

pub returns-in-Ok-None-clause-fault : goal.returns-in-Ok-None-clause-fault
returns-in-Ok-None-clause-fault c =
    let step = rw c.in-Ok-None.field-0-is at c.in-Ok-None.ensures.next in
    fault_here c.args.scope.now.text.now (sight c.args.scope.now) c.loop-token.claims.items c.loop-token.state c.loop-token.k c.in-Some.token
    c.loop-token.stream c.next.new.self c.terminal_of.result _ c.syntax.result
    c.in-Some.ensures c.terminal_of.ensures step c.loop-token.invariant.0 c.loop-token.invariant.1 c.syntax.ensures

pub returns-in-None-clause-fault : goal.returns-in-None-clause-fault
returns-in-None-clause-fault c =
    fault_end c.args.scope.now.text.now (sight c.args.scope.now) c.loop-token.claims.items c.loop-token.state c.loop-token.k c.loop-token.stream _
    c.syntax-in-None.result
    c.in_default.ensures.0 (c.in-None.ensures c.loop-token.k) c.loop-token.invariant.0 c.loop-token.invariant.1 c.syntax-in-None.ensures
