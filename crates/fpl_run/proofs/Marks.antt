-- A text that begins with the mark of a checkpoint has no presentation, since no piece of a text begins so.
use Rattle.std.proofs.Common.{◌≡◌, ℕ, ◌++◌, List, [], ◌∷◌, length, Ok, IsTrue, refl, sym, ap, ◌∙◌, subst, arith}
use Rattle.std.specs.Prelude.{slice_index}
use Rattle.fpl_alphabet.specs.Bytes.{is_blank, is_letter, is_digit, is_mark}
use Rattle.fpl_lex.specs.declared.token.Token.{Token}
use Rattle.fpl_lex.specs.Cut.{Form, blank, comment, word, number, mark, other, Piece, IsPiece, IsCut, reading_from}
use Rattle.fpl_model.specs.declared.presentation.Presentation.{Presentation}
use Rattle.fpl_reader.specs.Reading.{HasPresentation}
use Rattle.fpl_run.specs.Read.{IsMarked}
use Rattle.fpl_checkpoint.specs.Heads.{checkpoint_mark}

odd_piece : (f : Form) (bs after : List ℕ) → IsPiece f bs after → slice_index (bs ++ after) 0 ≡ checkpoint_mark → f ≡ other
odd_piece blank [] after h e = absurd h
odd_piece blank (b ∷ []) after h e = let no : IsTrue (is_blank checkpoint_mark) = subst (λ x. IsTrue (is_blank x)) e h in cc
odd_piece blank (b ∷ c ∷ bs) after h e = absurd h
odd_piece comment [] after h e = absurd h
odd_piece comment (b ∷ bs) after h e = absurd (omega (arith, h.0, e))
odd_piece word [] after h e = absurd h
odd_piece word (b ∷ bs) after h e = let no : IsTrue (is_letter checkpoint_mark) = subst (λ x. IsTrue (is_letter x)) e h.0 in cc
odd_piece number [] after h e = absurd h
odd_piece number (b ∷ bs) after h e = let no : IsTrue (is_digit checkpoint_mark) = subst (λ x. IsTrue (is_digit x)) e h.0 in cc
odd_piece mark [] after h e = absurd h
odd_piece mark (b ∷ []) after h e = let no : IsTrue (is_mark checkpoint_mark) = subst (λ x. IsTrue (is_mark x)) e h in cc
odd_piece mark (b ∷ c ∷ bs) after h e = absurd h
odd_piece other bs after h e = refl

no_reading : (at : ℕ) (p : Piece) (ps : List Piece) (ts : List Token) → p.form ≡ other → reading_from at (p ∷ ps) ≡ Ok ts → ⊥
no_reading at p ps ts e r = cc (rw e at r)

no_cut : (text : List ℕ) (ps : List Piece) (ts : List Token) → IsMarked text → IsCut text ps → reading_from 0 ps ≡ Ok ts → ⊥
no_cut text [] ts m cut r = omega (arith, ap length cut, m.0)
no_cut text (p ∷ ps) ts m cut r =
    let first : slice_index (p.bytes ++ cut.0) 0 ≡ checkpoint_mark = sym (ap (λ t. slice_index t 0) cut.1) ∙ m.1 in
    no_reading 0 p ps ts (odd_piece p.form p.bytes cut.0 cut.2 first) r

pub no_mark : (bytes : List ℕ) (p : Presentation) → HasPresentation bytes p → IsMarked bytes → ⊥
no_mark bytes p h m = no_cut bytes h.lexed.pieces h.tokens m h.lexed.cut h.lexed.read
