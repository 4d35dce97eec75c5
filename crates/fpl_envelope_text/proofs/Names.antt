-- Words by their letters from 1, and lines one after the other.
use Rattle.std.proofs.Common.{ℕ, zero, suc, ◌+◌, ◌<◌, ◌≤◌, ◌≡◌, List, [], ◌∷◌, ◌++◌, length, map, get_or, drop, true, refl, sym, ap, ap₂, ◌∙◌, arith, append_assoc, append-nil, drop-cons}
use Rattle.math_linear.specs.Lists.{joined}
use Rattle.fpl_envelope_text.specs.Texts.{Line, word_text, product_line, product_lines}
use Rattle.fpl_envelope_text.specs.Lists.{name_at}

-- the name past the last word
pub no_name : (words : List (List ℕ)) (s : ℕ) (out : List ℕ) → length words ≤ s → out ≡ out ++ name_at words s
no_name words s out l = sym (append-nil out) ∙ ap (λ t. out ++ word_text t) (sym (none_there words s l))
  where
    none_there : (words : List (List ℕ)) (s : ℕ) → length words ≤ s → get_or words s [] ≡ []
    none_there [] s l = refl
    none_there (t ∷ ts) zero l = absurd (omega arith)
    none_there (t ∷ ts) (suc s) l = none_there ts s (omega arith)

pub lines_joined : (ms ns : List Line) → product_lines (ms ++ ns) ≡ product_lines ms ++ product_lines ns
lines_joined [] ns = refl
lines_joined (m ∷ ms) ns = ap (λ t. product_line m ++ t) (lines_joined ms ns) ∙ sym (append_assoc (product_line m) (product_lines ms) (product_lines ns))

pub map_joined : {A B : Type 0} (g : A → B) (n : ℕ) (f : ℕ → List A) → map g (joined n f) ≡ joined n (λ i. map g (f i))
unfolding joined
map_joined g zero f = refl
map_joined g (suc n) f = map_append g (joined n f) (f n) ∙ ap (λ xs. xs ++ map g (f n)) (map_joined g n f)
  where
    map_append : {A B : Type 0} (g : A → B) (xs ys : List A) → map g (xs ++ ys) ≡ map g xs ++ map g ys
    map_append g [] ys = refl
    map_append g (x ∷ xs) ys = ap (λ zs. g x ∷ zs) (map_append g xs ys)

-- the lines of one list more
pub lists_step : (start out next : List ℕ) (n : ℕ) (f : ℕ → List Line) → out ≡ start ++ product_lines (joined n f) → next ≡ out ++ product_lines (f n) →
    next ≡ start ++ product_lines (joined (n + 1) f)
unfolding joined
lists_step start out next n f so_far is =
    is ∙ ap (λ o. o ++ product_lines (f n)) so_far ∙ append_assoc start (product_lines (joined n f)) (product_lines (f n))
    ∙ ap (λ t. start ++ t) (sym (lines_joined (joined n f) (f n)))
    ∙ ap (λ m. start ++ product_lines (joined m f)) (let e : suc n ≡ n + 1 = omega arith in e)

pub lists_none : (start : List ℕ) (f : ℕ → List Line) → start ≡ start ++ product_lines (joined 0 f)
unfolding joined
lists_none start f = sym (append-nil start)
