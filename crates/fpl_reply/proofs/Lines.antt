-- Pieces put one after another.
use Rattle.std.proofs.Common.{List, ℕ, ◌+◌, ◌<◌, [], ◌∷◌, ◌++◌, ◌≡◌, length, take, drop, get_or, fold, Ok, Err, refl, sym, ap, ◌∙◌, append_assoc, arith}
use Rattle.std.proofs.lemmas.List.{append-nil, take-append-drop}
use Rattle.std.proofs.lemmas.Grind.{fold-append, take_at_read}
use Rattle.std.specs.Prelude.{OnOk, OnErr, nat_eq, false, codes, decimal}
use Rattle.fpl_spelling.specs.Spelling.{below_text}
use Rattle.std.specs.declared.option.Option.{Option}
use Rattle.std.specs.declared.result.Result.{Result}
use Rattle.fpl_outside.specs.Outside.{Takes}
use Rattle.fpl_outside.specs.Whole.{WrotePrefix}
use Rattle.fpl_outside.proofs.Pieces.{takes_more, wrote_front, wrote_after}
use Rattle.fpl_reply.specs.declared.pieces.Piece.{Piece}
use Rattle.fpl_reply.specs.Line.{piece_text, pieces_text}

pub on_err : {T E : Type 0} (r : Result T E) (P : Type 0) → P → OnErr r P
on_err (Ok x) P p = tt
on_err (Err e) P p = p

-- a second piece after a first one that was taken
pub on_ok_after : {T E : Type 0} (r : Result T E) (a b c : Option (List ℕ)) (u v : List ℕ) → Takes a b u → OnOk r (Takes b c v) → OnOk r (Takes a c (u ++ v))
on_ok_after (Ok x) a b c u v t h = takes_more a b c u v t h
on_ok_after (Err e) a b c u v t h = tt

pub on_err_after : {T E : Type 0} (r : Result T E) (a b c : Option (List ℕ)) (u v : List ℕ) → Takes a b u → OnErr r (WrotePrefix b c v) →
    OnErr r (WrotePrefix a c (u ++ v))
on_err_after (Ok x) a b c u v t h = tt
on_err_after (Err e) a b c u v t h = wrote_after a b c u v t h

pub below_other : (d : ℕ) → (d ≡ 1 → ⊥) → below_text d ≡ codes "/" ++ decimal d
below_other d h = let e : nat_eq d 1 ≡ false = grind arith in rw e refl

texts_from : (before : List ℕ) (ps : List Piece) → fold (λ text piece. text ++ piece_text piece) before ps ≡ before ++ pieces_text ps
texts_from before [] = sym (append-nil before)
texts_from before (p ∷ ps) = texts_from (before ++ piece_text p) ps ∙ append_assoc before (piece_text p) (pieces_text ps) ∙
    ap (λ x. before ++ x) (sym (texts_from (piece_text p) ps))

texts_more : (ps : List Piece) (i : ℕ) (d : Piece) → i < length ps → pieces_text (take (i + 1) ps) ≡ pieces_text (take i ps) ++ piece_text (get_or ps i d)
texts_more ps i d l = ap pieces_text (take_at_read ps i d l).1 ∙ fold-append (λ text piece. text ++ piece_text piece) [] (take i ps) (get_or ps i d ∷ [])

texts_split : (ps : List Piece) (n : ℕ) → pieces_text ps ≡ pieces_text (take n ps) ++ pieces_text (drop n ps)
texts_split ps n =
    ap pieces_text (sym (take-append-drop n ps)) ∙ fold-append (λ text piece. text ++ piece_text piece) [] (take n ps) (drop n ps) ∙
    texts_from (pieces_text (take n ps)) (drop n ps)

-- a prefix of the piece at a place, after those before it
pub piece_part : (a b c : Option (List ℕ)) (ps : List Piece) (i : ℕ) (d : Piece) → i < length ps → Takes a b (pieces_text (take i ps)) →
    WrotePrefix b c (piece_text (get_or ps i d)) → WrotePrefix a c (pieces_text ps)
piece_part a b c ps i d l t h =
    rw (texts_split ps (i + 1), texts_more ps i d l)
    (wrote_front a c (pieces_text (take i ps) ++ piece_text (get_or ps i d)) (pieces_text (drop (i + 1) ps))
    (wrote_after a b c (pieces_text (take i ps)) (piece_text (get_or ps i d)) t h))
