-- A name that isn't there has no bytes.
use Rattle.std.proofs.Common.{◌≡◌, ℕ, zero, suc, List, [], ◌∷◌, None, map, get_or, refl}
use Rattle.std.specs.Prelude.{slice_get}

pub name_past : {A : Type 0} (name : A → List ℕ) (xs : List A) (k : ℕ) → slice_get xs k ≡ None → get_or (map name xs) k [] ≡ []
name_past name [] k e = refl
name_past name (x ∷ xs) zero e = cc
name_past name (x ∷ xs) (suc k) e = name_past name xs k e
