-- A written name is read as the name of its generator.
use Rattle.std.proofs.Common.{◌≡◌, ◌≢◌, ℕ, zero, suc, ◌+◌, ◌<◌, List, [], ◌∷◌, map, get_or, length, Bool, true, false, if◌then◌else◌, refl, ap, sym, ◌∙◌, arith}
use Rattle.std.specs.Prelude.{codes, Contains}
use Rattle.std.specs.Str.{bytes_eq}
use Rattle.std.proofs.lemmas.Bool.{false_from_ne_true}
use Rattle.std.proofs.lemmas.Slice.Eq.{bytes_eq-Decides}
use Rattle.fpl_alphabet.specs.Bytes.{reserved}
use Rattle.fpl_model.specs.declared.presentation.Generator.{Generator}
use Rattle.fpl_syntax.specs.declared.terminal.Terminal.{Terminal}
use Rattle.fpl_syntax.specs.declared.terminal.Terminal.TheVariants as terminal
use Rattle.fpl_syntax.specs.Sight.{number_from}
use Rattle.fpl_reader.specs.Terminals.{word_terminal}

pub differs : (word other : List ℕ) → (other ≡ word → ⊥) → bytes_eq word other ≡ false
differs word other d = false_from_ne_true (bytes_eq word other) (λ e. d (sym ((bytes_eq-Decides word other).0 e)))

pub same_bytes : (word : List ℕ) → bytes_eq word word ≡ true
same_bytes word = (bytes_eq-Decides word word).1 refl

step : (t : Bool) (a b c : Terminal) → t ≡ false → b ≡ c → (if t then a else b) ≡ c
step true a b c e h = cc
step false a b c e h = h

-- a word that is not reserved is a name
pub name_terminal : (word : List ℕ) (start end : ℕ) → (Contains reserved word → ⊥) → word_terminal word start end ≡
    terminal.Name (record { start = start; end = end; rationals = bytes_eq word (codes "Q") })
name_terminal word start end free =
    step (bytes_eq word (codes "field")) _ _ _ (differs word (codes "field") (λ e. free (0, omega arith, e)))
    (step (bytes_eq word (codes "even")) _ _ _ (differs word (codes "even") (λ e. free (1, omega arith, e)))
    (step (bytes_eq word (codes "odd")) _ _ _ (differs word (codes "odd") (λ e. free (2, omega arith, e)))
    (step (bytes_eq word (codes "relation")) _ _ _ (differs word (codes "relation") (λ e. free (3, omega arith, e)))
    (step (bytes_eq word (codes "ideal")) _ _ _ (differs word (codes "ideal") (λ e. free (4, omega arith, e)))
    (step (bytes_eq word (codes "equal")) _ _ _ (differs word (codes "equal") (λ e. free (5, omega arith, e))) refl)))))

abbrev pub names : List Generator → List (List ℕ)
names gs = map (λ g. g.name) gs

abbrev pub AreDistinct : List Generator → Type 0
AreDistinct gs = (i j : ℕ) → i < j → j < length gs → get_or (names gs) i [] ≢ get_or (names gs) j []

distinct_rest : (g : Generator) (gs : List Generator) → AreDistinct (g ∷ gs) → AreDistinct gs
distinct_rest g gs d i j l m = d (suc i) (suc j) (omega arith) (omega arith)

number_if : (t : Bool) (n m k : ℕ) → t ≡ false → m ≡ k → (if t then n else m) ≡ k
number_if true n m k e h = cc
number_if false n m k e h = h

-- a name is found where it stands
pub number_there : (k : ℕ) (gs : List Generator) (i : ℕ) → AreDistinct gs → i < length gs → number_from k gs (get_or (names gs) i []) ≡ k + i
number_there k [] i d l = absurd (omega arith)
number_there k (g ∷ gs) zero d l = ap (λ (b : Bool). if b then k else number_from (k + 1) gs g.name) (same_bytes g.name)
    ∙ (let e : k ≡ k + 0 = omega arith in e)
number_there k (g ∷ gs) (suc i) d l =
    number_if (bytes_eq g.name (get_or (names gs) i [])) k _ _ (differs g.name (get_or (names gs) i []) (λ e. d 0 (suc i) (omega arith) l (sym e)))
    (number_there (k + 1) gs i (distinct_rest g gs d) (omega arith) ∙ (let e : k + 1 + i ≡ k + suc i = omega arith in e))
