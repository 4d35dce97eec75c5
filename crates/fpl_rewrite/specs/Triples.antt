-- The Jacobi identities that are still to come, from a triple of places on. Places count from 0.
--
--   from_to f s n            the lists f s, .., f (n - 1), one after the other
--   triple_at T i j k        the origin of a triple, where it is one of the weight
--   thirds_from T i j k      those of the triples (i, j, k), (i, j, k + 1), ..
--   seconds_from T i j k     and then those of (i, j', ..) for each j' after j
--   firsts_from T i j k      and then those of (i', .., ..) for each i' after i
use Rattle.std.specs.Prelude.{ℕ, zero, suc, ◌+◌, ◌-◌, List, [], ◌∷◌, ◌++◌, length, cond, nat_lt}
use Rattle.fpl_log.specs.declared.step.Origin.{Origin}
use Rattle.fpl_log.specs.declared.step.Origin.TheVariants.{Jacobi}
use Rattle.fpl_table.specs.Plain.{PlainTable}
use Rattle.fpl_rewrite.specs.Origins.{is_triple}

unfoldable pub onward : {A : Type 0} → (ℕ → List A) → ℕ → ℕ → List A
onward f s zero = []
onward f s (suc count) = f s ++ onward f (s + 1) count

abbrev pub from_to : {A : Type 0} → (ℕ → List A) → ℕ → ℕ → List A
from_to f s n = onward f s (n - s)

abbrev pub triple_at : PlainTable → ℕ → ℕ → ℕ → List Origin
triple_at T i j k = cond (is_triple T i j k) (Jacobi (i + 1) (j + 1) (k + 1) ∷ []) []

unfoldable pub thirds_from : PlainTable → ℕ → ℕ → ℕ → List Origin
thirds_from T i j k = from_to (triple_at T i j) k (length T.basis)

unfoldable pub seconds_from : PlainTable → ℕ → ℕ → ℕ → List Origin
seconds_from T i j k =
    cond (nat_lt j (length T.basis)) (thirds_from T i j k) []
    ++ from_to (λ later. thirds_from T i later later) (j + 1) (length T.basis)

unfoldable pub firsts_from : PlainTable → ℕ → ℕ → ℕ → List Origin
firsts_from T i j k =
    cond (nat_lt i (length T.basis)) (seconds_from T i j k) []
    ++ from_to (λ later. seconds_from T later later later) (i + 1) (length T.basis)
