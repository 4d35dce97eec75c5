-- The test for a parity of an expression, whatever its numbers are.
--
--   has_parity, have_parity   whether an expression, and each of a list, has a parity: for expressions over P the test for HasParity
use Rattle.std.specs.Prelude.{Bool, true, ◌&&◌, ◌||◌}
use Rattle.math_algebra.specs.Tree.{Tree, Trees, gen, none, sum_of, multiple, bracket_of, end, more, Parity, even, odd, parity_sum, Presentation, generator}
use Rattle.math_algebra.specs.Degrees.{is_void, same_parity}

module _ {N : Type 0} (P : Presentation N) where
  unfoldable mutual
    pub has_parity : Tree N → Parity → Bool
    has_parity (gen g) s = same_parity (generator P g).parity s
    has_parity none s = true
    has_parity (sum_of es) s = have_parity es s
    has_parity (multiple c e) s = has_parity e s
    has_parity (bracket_of e f) s = (is_void e || is_void f) || ((has_parity e even && has_parity f s) || (has_parity e odd && has_parity f (parity_sum odd s)))

    pub have_parity : Trees N → Parity → Bool
    have_parity end s = true
    have_parity (more e es) s = has_parity e s && have_parity es s
