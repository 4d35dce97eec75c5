-- Sums as lists of members, and two lists member by member.
use Rattle.std.proofs.Common.{◌≡◌, ◌<◌, ℕ, List, [], ◌∷◌, length, map, get_or, refl, ap, sym, ◌∙◌}
use Rattle.std.proofs.lemmas.List.{get_or-map}
use Rattle.math_algebra.specs.Tree.{Tree, Trees, end, more, trees}

list_of : {N : Type 0} → Trees N → List (Tree N)
list_of end = []
list_of (more e es) = e ∷ list_of es

list_trees : {N : Type 0} (es : List (Tree N)) → list_of (trees es) ≡ es
unfolding list_of
list_trees [] = refl
list_trees (e ∷ es) = ap (λ l. e ∷ l) (list_trees es)

pub trees_apart : {N : Type 0} (es fs : List (Tree N)) → trees es ≡ trees fs → es ≡ fs
trees_apart es fs h = sym (list_trees es) ∙ ap list_of h ∙ list_trees fs

pub member_same : {A B : Type 0} (f : A → B) (xs ys : List A) (i : ℕ) (x y : A) → i < length xs → i < length ys → map f xs ≡ map f ys →
    f (get_or xs i x) ≡ f (get_or ys i y)
member_same f xs ys i x y l k h = sym (get_or-map f xs i x (f x) l) ∙ ap (λ zs. get_or zs i (f x)) h ∙ get_or-map f ys i y (f x) k
