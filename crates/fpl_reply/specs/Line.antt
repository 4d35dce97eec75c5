-- The pieces of a line.
--   piece_text: the text of a piece
--   pieces_text: the texts of pieces, one after another
use Rattle.std.specs.Prelude.{ℕ, List, [], ◌++◌, fold, decimal}
use Rattle.fpl_spelling.specs.Spelling.{number_text}
use Rattle.fpl_reply.specs.declared.pieces.Piece.{Piece}
use Rattle.fpl_reply.specs.declared.pieces.Piece.TheVariants.{Text, Count, Number}

abbrev pub piece_text : Piece → List ℕ
piece_text (Text text) = text.now
piece_text (Count n) = decimal n
piece_text (Number c) = number_text c

abbrev pub pieces_text : List Piece → List ℕ
pieces_text pieces = fold (λ text piece. text ++ piece_text piece) [] pieces
