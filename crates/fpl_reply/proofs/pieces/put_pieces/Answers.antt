use Rattle.fpl_reply.proofs.Lines.{on_err, piece_part}
use Rattle.fpl_reply.proofs.pieces.put_pieces.Goals as goal

pub returns-in_err-put_piece-clause-part : goal.returns-in_err-put_piece-clause-part
returns-in_err-put_piece-clause-part g c =
    on_err _ _ (piece_part _ _ _ c.args.pieces.now c.loop-piece.piece-index _ c.loop-piece-test.true c.loop-piece.invariant.taken
    c.in_err-put_piece.ensures.part)
