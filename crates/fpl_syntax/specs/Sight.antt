-- The scope that code has.
--
--   word_of text start end    the bytes of a word
--   number_from n names word  the number of a name in a list whose first has the number n, or 0 where it isn't there
--   sight                     the scope, in which names stand for the generators of a list
use Rattle.std.specs.Prelude.{ℕ, ◌+◌, List, [], ◌∷◌, nat_le, ◌&&◌, length, slice_range, if◌then◌else◌}
use Rattle.std.specs.Str.{bytes_eq}
use Rattle.fpl_model.specs.declared.presentation.Generator.{Generator}
use Rattle.fpl_syntax.specs.declared.scope.Scope as declared
use Rattle.fpl_syntax.specs.Grammar.{Scope}

abbrev pub word_of : List ℕ → ℕ → ℕ → List ℕ
word_of text start end = if nat_le start end && nat_le end (length text) then slice_range text start end else []

abbrev pub number_from : ℕ → List Generator → List ℕ → ℕ
number_from n [] word = 0
number_from n (g ∷ gs) word = if bytes_eq g.name word then n else number_from (n + 1) gs word

abbrev pub sight : declared.Scope → Scope
sight s = record { kind = s.kind; number = λ w. number_from 1 s.generators.now (word_of s.text.now w.start w.end) }
