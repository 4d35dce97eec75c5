-- The cubes, ascending.
use Rattle.std.proofs.Common.{◌≡◌, ◌≢◌, ◌<◌, ◌≤◌, ◌+◌, ◌-◌, ◌*◌, ◌%◌, ℕ, suc, List, [], ◌∷◌, ◌++◌, length, max, Bool, true, false, cond, refl, ap, ◌∙◌, arith}
use Rattle.std.proofs.lemmas.Bool.Decides.{nat_tests}
use Rattle.math_algebra.specs.Symbols.{is_odd}
use Rattle.fpl_log.specs.declared.step.Origin.{Origin}
use Rattle.fpl_log.specs.declared.step.Origin.TheVariants.{Cube}
use Rattle.fpl_table.specs.Plain.{PlainTable, plain_basis, through}
use Rattle.fpl_table.specs.Shape.{HasShape}
use Rattle.fpl_rewrite.specs.Origins.{is_three, cubes_of}
use Rattle.fpl_rewrite.specs.Triples.{from_to}
use Rattle.fpl_rewrite.specs.Cursor.{cube_at, cubes_from}
use Rattle.fpl_rewrite.proofs.Onward.{joined_is, from_to_step, from_to_next, from_to_skip, from_to_none}
use Rattle.fpl_rewrite.proofs.Thirds.{light_through, heavy_past}

pub cubes_are : (T : PlainTable) → cubes_of T ≡ cubes_from T 0
unfolding cubes_from
cubes_are T = ap (λ xs. cond (is_three T.kind) xs []) (joined_is (cube_at T) (length T.basis))

cube_none : (T : PlainTable) (i : ℕ) → (is_odd (plain_basis T i).parity ≡ true → 3 * (plain_basis T i).weight ≡ suc T.weight → ⊥) → cube_at T i ≡ []
cube_none T i not = grind (arith, nat_tests)

cube_here : (T : PlainTable) (i : ℕ) → is_odd (plain_basis T i).parity ≡ true → 3 * (plain_basis T i).weight ≡ suc T.weight → cube_at T i ≡ Cube (i + 1) ∷ []
cube_here T i odd e = grind (arith, nat_tests)

either_none : (b : Bool) → cond {A = List Origin} b [] [] ≡ []
either_none true = refl
either_none false = refl

pub cubes_without : (T : PlainTable) (i : ℕ) → is_three T.kind ≡ false → cubes_from T i ≡ []
unfolding cubes_from
cubes_without T i e = rw e refl

pub cubes_indivisible : (T : PlainTable) (i w : ℕ) → w ≡ suc T.weight → w % 3 ≢ 0 → cubes_from T i ≡ []
unfolding cubes_from
cubes_indivisible T i w is e =
    ap (λ xs. cond (is_three T.kind) xs []) (from_to_none (cube_at T) i (length T.basis) (λ x l m. cube_none T x (λ _ three. omega arith)))
    ∙ either_none (is_three T.kind)

-- basis elements of weight v stand together
pub cubes_start : (T : PlainTable) (i v low : ℕ) → 3 * v ≡ suc T.weight → low ≡ through T (v - 1) → cubes_from T i ≡ cubes_from T (max i low)
unfolding cubes_from
cubes_start T i v low e is =
    ap (λ xs. cond (is_three T.kind) xs [])
    (from_to_skip (cube_at T) i (max i low) (length T.basis) (omega arith)
    (λ x l m lt. cube_none T x (λ _ three. let h = light_through T (v - 1) x (omega arith) in omega arith)))

pub cubes_next : (T : PlainTable) (i : ℕ) → is_odd (plain_basis T i).parity ≡ false → cubes_from T i ≡ cubes_from T (i + 1)
unfolding cubes_from
cubes_next T i e = ap (λ xs. cond (is_three T.kind) xs []) (from_to_next (cube_at T) i (length T.basis) (λ lt. cube_none T i (λ odd _. cc)))

pub cubes_found : (T : PlainTable) (i v : ℕ) → HasShape T → is_three T.kind ≡ true → 3 * v ≡ suc T.weight → through T (v - 1) ≤ i → i < through T v →
    i < length T.basis → is_odd (plain_basis T i).parity ≡ true →
    cubes_from T i ≡ Cube (i + 1) ∷ cubes_from T (i + 1)
unfolding cubes_from
cubes_found T i v shape three e low high lt odd =
    let light = light_through T v i high in
    let heavy = heavy_past T (v - 1) i shape low lt in
    rw three (from_to_step (cube_at T) i (length T.basis) lt ∙ ap (λ u. u ++ from_to (cube_at T) (i + 1) (length T.basis)) (cube_here T i odd (omega arith)))

pub cubes_end : (T : PlainTable) (i v : ℕ) → HasShape T → 3 * v ≡ suc T.weight → through T v ≤ i → cubes_from T i ≡ []
unfolding cubes_from
cubes_end T i v shape e past =
    ap (λ xs. cond (is_three T.kind) xs []) (from_to_none (cube_at T) i (length T.basis) (λ x l m. cube_none T x
    (λ _ three. let h = heavy_past T v x shape (omega arith) m in omega arith)))
    ∙ either_none (is_three T.kind)
