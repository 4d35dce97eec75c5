-- The tokens that a stream has left.
use Rattle.std.proofs.Common.{◌≡◌, ℕ, List, [], ◌∷◌, ◌++◌, Result, refl, sym, ap, append_assoc}
use Rattle.std.specs.Prelude.{Ok, Err, None}
use Rattle.fpl_lex.specs.declared.token.Token.{Token}
use Rattle.fpl_lex.specs.declared.fault.LexError.{LexError}
use Rattle.fpl_lex.specs.Cut.{joined}
use Rattle.fpl_lex.specs.Machine.{IsNext}
use Rattle.fpl_reader.specs.Stream.{tokens_or_none, tokens_left}

pub none_left : (text : List ℕ) (at : ℕ) → IsNext text at (Ok None) → tokens_left text at ≡ []
none_left text at h = ap tokens_or_none h

pub joined_more : (ts : List Token) (t : Token) (r : Result (List Token) LexError) → joined (Ok ts) (joined (Ok (t ∷ [])) r) ≡ joined (Ok (ts ++ t ∷ [])) r
joined_more ts t (Ok us) = ap Ok (sym (append_assoc ts (t ∷ []) us))
joined_more ts t (Err e) = refl
