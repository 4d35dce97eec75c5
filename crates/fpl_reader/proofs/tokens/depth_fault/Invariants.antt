use Rattle.std.proofs.Common.{◌≡◌, ◌<◌, ◌+◌, ◌^◌, length}
use Rattle.fpl_reader.specs.Texts.{text_tokens}
use Rattle.fpl_reader.specs.Reading.{too_deep}
use Rattle.fpl_reader.proofs.tokens.depth_fault.Given as goal

abbrev pub invariant-loop-token : goal.invariant-loop-token
invariant-loop-token l = (too_deep 0 0 (text_tokens l.text) ≡ too_deep l.opened l.closed l.stream) × (l.opened + length l.stream < 2 ^ 32) ×
    (l.closed + length l.stream < 2 ^ 32)

abbrev pub decreases-loop-token : goal.decreases-loop-token
decreases-loop-token l = length l.stream
