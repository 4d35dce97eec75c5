use Rattle.std.proofs.Common.{take, ◌≤◌}
use Rattle.fpl_outside.specs.Outside.{Takes}
use Rattle.fpl_reply.specs.Line.{pieces_text}
use Rattle.fpl_reply.proofs.pieces.put_pieces.Given as goal

abbrev pub invariant-loop-piece : goal.invariant-loop-piece
invariant-loop-piece g l = record {
  taken : Takes (g.E.Sink.taken l.initial.err) (g.E.Sink.taken l.err) (pieces_text (take l.piece-index l.pieces));
  later : g.E.Sink.faults l.initial.err ≤ g.E.Sink.faults l.err;
}
