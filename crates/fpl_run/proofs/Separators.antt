-- Bytes have at most one first separating line, one text before it, and one list of matrices after it.
use Rattle.std.proofs.Common.{◌≡◌, ℕ, ◌<◌, ◌≤◌, ◌-◌, List, take, length, Ok, Err, refl, sym, ap, ◌∙◌, subst, arith}
use mathlib.Core.Path.{ap₂}
use native.Mathlib.Decide.{dec_lt}
use Rattle.std.proofs.lemmas.List.{length-take}
use Rattle.std.specs.declared.result.Result.{Result}
use Rattle.fpl_model.specs.declared.presentation.Presentation.{Presentation}
use Rattle.fpl_matrices.specs.declared.fault.MapError.{MapError}
use Rattle.fpl_matrices.specs.Matrices.{Assigned, IsFirstBroken}
use Rattle.fpl_matrices.specs.MapText.{map_of}
use Rattle.fpl_matrices.specs.Laws.{NoneBroken}
use Rattle.fpl_ranks.specs.Texts.{broken_text}
use Rattle.fpl_reply.specs.declared.outcome.Refusal.{Refusal}
use Rattle.fpl_reply.specs.Outcome.{refusal_text}
use Rattle.fpl_reply.specs.Reply.{Reply, done, refused}
use Rattle.fpl_run.specs.declared.task.Way.{Way}
use Rattle.fpl_run.specs.declared.task.Way.TheVariants.{Show, Write, Check, Rank, Prove}
use Rattle.fpl_run.specs.Separator.{IsFirstSeparator, HasNoSeparator, after_separator, IsTextBefore, IsTextOf}
use Rattle.fpl_run.specs.Separator.IsTextBefore.{before, whole}
use Rattle.fpl_run.specs.Matrices.{HasMatrices, MapFails}
use Rattle.fpl_run.specs.Matrices.MapFails.{syntax_fails, size_fails, number_fails, parity_fails}
use Rattle.fpl_run.specs.Read.{IsMapped, IsNotMapped}
use Rattle.fpl_run.specs.Read.IsNotMapped.{no_matrices, map_fails, relation_breaks}

first_one : (bytes : List ℕ) (a b : ℕ) → IsFirstSeparator bytes a → IsFirstSeparator bytes b → a ≡ b
first_one bytes a b f g = go (dec_lt a b) (dec_lt b a)
  where
    go : Dec (a < b) → Dec (b < a) → a ≡ b
    go (yes l) m = absurd (g.before a l f.is)
    go (no n) (yes l) = absurd (f.before b l g.is)
    go (no n) (no m) = omega (arith, n, m)

texts_before_one : (bytes t u : List ℕ) → IsTextBefore bytes t → IsTextBefore bytes u → t ≡ u
texts_before_one bytes _ _ (before a f) (before b g) = ap (λ n. take n bytes) (first_one bytes a b f g)
texts_before_one bytes _ _ (before a f) (whole none) = absurd (none a f.is)
texts_before_one bytes _ _ (whole none) (before b g) = absurd (none b g.is)
texts_before_one bytes _ _ (whole none) (whole more) = refl

pub texts_one : (way : Way) (bytes t u : List ℕ) → IsTextOf way bytes t → IsTextOf way bytes u → t ≡ u
texts_one (Show v) bytes t u e k = e ∙ sym k
texts_one Write bytes t u e k = e ∙ sym k
texts_one Check bytes t u e k = e ∙ sym k
texts_one Rank bytes t u e k = texts_before_one bytes t u e k
texts_one Prove bytes t u e k = e ∙ sym k

before_shorter : (bytes text : List ℕ) → IsTextBefore bytes text → length text ≤ length bytes
before_shorter bytes _ (before at f) = let e = length-take at bytes in omega (arith, e)
before_shorter bytes _ (whole none) = omega arith

pub text_shorter : (way : Way) (bytes text : List ℕ) → IsTextOf way bytes text → length text ≤ length bytes
text_shorter (Show v) bytes text e = omega (arith, ap length e)
text_shorter Write bytes text e = omega (arith, ap length e)
text_shorter Check bytes text e = omega (arith, ap length e)
text_shorter Rank bytes text e = before_shorter bytes text e
text_shorter Prove bytes text e = omega (arith, ap length e)

given_one : (r : Result Assigned MapError) (a b : Assigned) → r ≡ Ok a → r ≡ Ok b → a ≡ b
given_one r a b e k = let same : Ok a ≡ Ok b = sym e ∙ k in cc

errors_one : (r : Result Assigned MapError) (a b : MapError) → r ≡ Err a → r ≡ Err b → a ≡ b
errors_one r a b e k = let same : Err a ≡ Err b = sym e ∙ k in cc

given_or_error : (r : Result Assigned MapError) (a : Assigned) (b : MapError) → r ≡ Ok a → r ≡ Err b → ⊥
given_or_error r a b e k = let no : Ok a ≡ Err b = sym e ∙ k in cc

fails_one : (e : MapError) (i j : ℕ) (why more : Refusal) → MapFails e i why → MapFails e j more → refused i (refusal_text why) ≡ refused j (refusal_text more)
fails_one _ _ _ _ _ (syntax_fails place) (syntax_fails _) = refl
fails_one _ _ _ _ _ (size_fails place) (size_fails _) = refl
fails_one _ _ _ _ _ (number_fails place) (number_fails _) = refl
fails_one _ _ _ _ _ (parity_fails place) (parity_fails _) = refl

module _ (bytes : List ℕ) (p : Presentation) where
  there : (a b : ℕ) → IsFirstSeparator bytes a → IsFirstSeparator bytes b → (r : Result Assigned MapError) → map_of p bytes (after_separator bytes b) ≡ r →
      map_of p bytes (after_separator bytes a) ≡ r
  there a b f g r e = ap (λ n. map_of p bytes (after_separator bytes n)) (first_one bytes a b f g) ∙ e

  pub matrices_one : (a b : Assigned) → HasMatrices bytes p a → HasMatrices bytes p b → a ≡ b
  matrices_one a b h k = given_one (map_of p bytes (after_separator bytes h.0)) a b h.2 (there h.0 k.0 h.1 k.1 (Ok b) k.2)

  pub given_fails : (a : Assigned) → HasMatrices bytes p a → (at : ℕ) → IsFirstSeparator bytes at → (e : MapError) →
      map_of p bytes (after_separator bytes at) ≡ Err e → ⊥
  given_fails a h at first e fails =
      given_or_error (map_of p bytes (after_separator bytes h.0)) a e h.2 (there h.0 at h.1 first (Err e) fails)

  least_one : (a : Assigned) (i j : ℕ) → IsFirstBroken p a i → IsFirstBroken p a j → i ≡ j
  least_one a i j h k = go (dec_lt i j) (dec_lt j i)
    where
      go : Dec (i < j) → Dec (j < i) → i ≡ j
      go (yes l) m = absurd (h.broken (k.before (i - 1) (let one = h.least in omega (arith, l, one))))
      go (no n) (yes l) = absurd (k.broken (h.before (j - 1) (let one = k.least in omega (arith, l, one))))
      go (no n) (no m) = omega (arith, n, m)

  -- matrices for which all relations hold, and none for which one doesn't
  pub mapped_or_not : (limit : ℕ) (a : Assigned) (r : Reply) → IsMapped bytes p a → IsNotMapped limit bytes p r → ⊥
  mapped_or_not limit a _ h (no_matrices none) = none h.given.0 h.given.1.is
  mapped_or_not limit a _ h (map_fails at first e fails place why k) =
      given_fails a h.given at first e fails
  mapped_or_not limit a _ h (relation_breaks b given k breaks) =
      let hold : NoneBroken p b = subst (NoneBroken p) (matrices_one a b h.given given) h.hold in
      breaks.broken (hold (k - 1) (let one = breaks.least in let most = breaks.most in omega (arith, one, most)))

  pub not_mapped_one : (limit : ℕ) (q r : Reply) → IsNotMapped limit bytes p q → IsNotMapped limit bytes p r → q ≡ r
  not_mapped_one limit _ _ (no_matrices none) (no_matrices more) = refl
  not_mapped_one limit _ _ (no_matrices none) (map_fails at first e fails place why k) = absurd (none at first.is)
  not_mapped_one limit _ _ (no_matrices none) (relation_breaks b given k breaks) = absurd (none given.0 given.1.is)
  not_mapped_one limit _ _ (map_fails at first e fails place why k) (no_matrices none) = absurd (none at first.is)
  not_mapped_one limit _ _ (map_fails at first e fails place why k) (map_fails at' first' e' fails' place' why' k') =
      let same : e ≡ e' = errors_one (map_of p bytes (after_separator bytes at)) e e' fails (there at at' first first' (Err e') fails') in
      fails_one e' place place' why why' (subst (λ x. MapFails x place why) same k) k'
  not_mapped_one limit _ _ (map_fails at first e fails place why k) (relation_breaks b given j breaks) =
      absurd (given_fails b given at first e fails)
  not_mapped_one limit _ _ (relation_breaks b given j breaks) (no_matrices none) = absurd (none given.0 given.1.is)
  not_mapped_one limit _ _ (relation_breaks b given j breaks) (map_fails at first e fails place why k) =
      absurd (given_fails b given at first e fails)
  not_mapped_one limit _ _ (relation_breaks b given j breaks) (relation_breaks a also k more) =
      let same : b ≡ a = matrices_one b a given also in
      ap (λ n. done (broken_text p.field limit n)) (least_one a j k (subst (λ x. IsFirstBroken p x j) same breaks) more)
