-- A word letter by letter, from 1 in code and from 0 in the mathematics.
use Rattle.std.proofs.Common.{ℕ, suc, ◌<◌, ◌≡◌, List, [], ◌∷◌, ◌++◌, length, map, get_or, refl, sym, ap, ◌∙◌, subst, arith}
use Rattle.std.proofs.lemmas.List.{append-nil}
use Rattle.fpl_numbers.specs.Kinds.{field_of}
use Rattle.fpl_table.specs.Plain.{PlainTable, table_in}
use Rattle.plain_envelope.proofs.Listing.{no_letters}
use Rattle.fpl_envelope.specs.Counts.{words_in, word_in, IsRest}

push_append : (xs : List ℕ) (y : ℕ) (ys : List ℕ) → (xs ++ (y ∷ [])) ++ ys ≡ xs ++ (y ∷ ys)
push_append [] y ys = refl
push_append (x ∷ xs) y ys = ap (λ zs. x ∷ zs) (push_append xs y ys)

pub word_step : (T : PlainTable) (i w k v r : ℕ) → IsRest T i w k v r → (letters all : List ℕ) (l : ℕ) → suc i ≡ l → all ≡ letters ++ map suc (word_in T w k) →
    all ≡ (letters ++ (l ∷ [])) ++ map suc (word_in T v r)
word_step T i w k v r h letters all l d e =
    e ∙ ap (λ u. letters ++ map suc u) h.word ∙ ap (λ x. letters ++ (x ∷ map suc (word_in T v r))) d ∙ sym (push_append letters l (map suc (word_in T v r)))

word_none : (T : PlainTable) (r : ℕ) → r < length (words_in T 0) → word_in T 0 r ≡ []
word_none T r l =
    let one : words_in T 0 ≡ ([] ∷ []) = no_letters (field_of T.kind) (table_in T.kind T) in
    let few : r < 1 = subst (λ us. r < length us) one l in
    let first : r ≡ 0 = omega arith in
    ap (λ us. get_or us r []) one ∙ ap (λ r. get_or ([] ∷ []) r []) first

pub word_done : (T : PlainTable) (v r : ℕ) (letters all : List ℕ) → v ≡ 0 → r < length (words_in T v) → all ≡ letters ++ map suc (word_in T v r) → letters ≡ all
word_done T v r letters all d l e =
    sym (e ∙ ap (λ u. letters ++ map suc u) (ap (λ v. word_in T v r) d ∙ word_none T r (subst (λ v. r < length (words_in T v)) d l)) ∙ append-nil letters)
