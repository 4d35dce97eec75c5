-- The lines of a text, one after the other.
use Rattle.std.proofs.Common.{◌≡◌, ℕ, suc, ◌+◌, ◌-◌, List, ◌++◌, ap, sym, ◌∙◌, append_assoc, arith}
use Rattle.fpl_print.specs.TableText.{text_of}

-- what three calls append
pub three_pieces : (o w x z a b c : List ℕ) → w ≡ o ++ a → x ≡ w ++ b → z ≡ x ++ c → z ≡ o ++ (a ++ b ++ c)
three_pieces o w x z a b c e f g =
    g ∙ ap (λ t. t ++ c) (f ∙ ap (λ t. t ++ b) e ∙ append_assoc o a b) ∙ append_assoc o (a ++ b) c

-- one more line of a text
pub text_step : (start out next : List ℕ) (n : ℕ) (f : ℕ → List ℕ) → out ≡ start ++ text_of n f → next ≡ out ++ f (n + 1 - 1) →
    next ≡ start ++ text_of (n + 1) f
text_step start out next n f so_far is =
    let here : n + 1 - 1 ≡ n = omega arith in
    let more : n + 1 ≡ suc n = omega arith in
    is ∙ ap (λ m. out ++ f m) here ∙ ap (λ o. o ++ f n) so_far ∙ append_assoc start (text_of n f) (f n) ∙ ap (λ m. start ++ text_of m f) (sym more)
