-- A front of a text stays one when more is appended.
use Rattle.std.proofs.Common.{◌≡◌, ℕ, Bool, true, false, List, ◌++◌, length, take, drop, refl, ap, sym, subst, ◌∙◌, append_assoc}
use Rattle.std.specs.Prelude.{if◌then◌else◌}
use Rattle.std.specs.Io.{StartsWith}
use Rattle.std.proofs.lemmas.List.{take_at, take-append-drop}
use Rattle.fpl_spelling.specs.Fronts.{IsFrontOf}

-- a text that starts with a front is the front and a rest
rest_of : (front text : List ℕ) → StartsWith text front → text ≡ front ++ drop (length front) text
rest_of front text h = sym (take-append-drop (length front) text) ∙ ap (λ xs. xs ++ drop (length front) text) h

front_more : (front old text : List ℕ) → IsFrontOf front old → IsFrontOf front (old ++ text)
unfolding IsFrontOf
front_more front old text h =
    let all : old ++ text ≡ front ++ (drop (length front) old ++ text) =
    ap (λ xs. xs ++ text) (rest_of front old h) ∙ append_assoc front (drop (length front) old) text in
    subst (λ xs. take (length front) xs ≡ front) (sym all) (take_at front (drop (length front) old ++ text) (length front) refl)

-- what a call leaves that appends all or nothing
pub front_if : (b : Bool) (front old text new : List ℕ) → new ≡ (if b then old ++ text else old) → IsFrontOf front old → IsFrontOf front new
front_if true front old text new e h = subst (IsFrontOf front) (sym e) (front_more front old text h)
front_if false front old text new e h = subst (IsFrontOf front) (sym e) h
