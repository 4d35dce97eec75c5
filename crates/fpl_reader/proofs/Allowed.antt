-- What holds of fields and declarations that are allowed.
use Rattle.std.proofs.Common.{◌≡◌, ℕ, zero, suc, ◌<◌, ◌≤◌, List, [], ◌∷◌, length, map, Bool, true, false, ◌&&◌, IsTrue, if◌then◌else◌, refl, arith}
use Rattle.std.specs.Prelude.{None, Some, All, slice_get, nat_le}
use Rattle.std.specs.List.{list_all}
use Rattle.std.specs.Option.{option_map}
use Rattle.std.specs.Str.{IsUtf8, IsAscii}
use Rattle.std.specs.declared.option.Option.{Option}
use Rattle.std.proofs.lemmas.Bool.{leb-true, and_parts}
use Rattle.std.proofs.lemmas.Str.{IsUtf8-from_ascii}
use Rattle.std.proofs.lemmas.List.Elements.{All-nil, All-cons}
use Rattle.fpl_alphabet.specs.Bytes.{is_letter, is_word_byte, is_word}
use Rattle.fpl_model.specs.Sound.{HaveWeights}
use Rattle.fpl_syntax.specs.declared.terminal.Numeral.{Numeral}
use Rattle.fpl_numbers.specs.Numbers.{is_listed}
use Rattle.fpl_syntax.specs.Kinds.{is_field}
use Rattle.fpl_reader.specs.declared.survey.FieldName.{FieldName}
use Rattle.fpl_reader.specs.declared.survey.FieldName.TheVariants as field_name
use Rattle.fpl_reader.specs.declared.survey.FieldStatement.{FieldStatement}
use Rattle.fpl_reader.specs.declared.survey.DeclaredName.{DeclaredName}
use Rattle.fpl_reader.specs.Reading.{name_of, weight_or_one, generator_of, kind_named, kind_of, bad_prime_named, bad_prime, bad_weight_given, bad_weight, too_many}
use Rattle.fpl_reader.proofs.DeclaredNames.{AreNames}
use Rattle.fpl_reader.proofs.Terms.{or_else-none}

weight_given : (w : Option Numeral) → bad_weight_given w ≡ None → (1 ≤ weight_or_one w) × (weight_or_one w ≤ 1000)
weight_given None e = (omega arith, omega arith)
weight_given (Some n) e = by_test (nat_le 1 n.value) (nat_le n.value 1000) refl refl e
  where
    by_test : (s t : Bool) → nat_le 1 n.value ≡ s → nat_le n.value 1000 ≡ t → (if s && t then None else Some n.place) ≡ None → (1 ≤ n.value) × (n.value ≤ 1000)
    by_test true true h k e = (leb-true 1 n.value h, leb-true n.value 1000 k)
    by_test true false h k e = cc
    by_test false t h k e = cc

pub have_weights : (text : List ℕ) (ds : List DeclaredName) → bad_weight ds ≡ None → HaveWeights (map (generator_of text) ds)
have_weights text [] e = All-nil (λ g. (1 ≤ g.weight) × (g.weight ≤ 1000))
have_weights text (d ∷ ds) e =
    let h = or_else-none (bad_weight_given d.weight) (bad_weight ds) e in
    All-cons (λ g. (1 ≤ g.weight) × (g.weight ≤ 1000)) (generator_of text d) (map (generator_of text) ds) (weight_given d.weight h.0) (have_weights text ds h.1)

short : {A : Type 0} (xs : List A) (n : ℕ) → slice_get xs n ≡ None → length xs ≤ n
short [] n e = omega arith
short (x ∷ xs) zero e = cc
short (x ∷ xs) (suc n) e = let h = short xs n e in omega arith

mapped_none : {A B : Type 0} (f : A → B) (o : Option A) → option_map f o ≡ None → o ≡ None
mapped_none f None e = refl
mapped_none f (Some x) e = cc

pub few_names : (ds : List DeclaredName) → too_many ds ≡ None → length ds ≤ 64
few_names ds e = short ds 64 (mapped_none _ (slice_get ds 64) e)

listed_named : (f : FieldName) → bad_prime_named f ≡ None → IsTrue (is_field (kind_named f))
listed_named field_name.Rationals e = refl
listed_named (field_name.Prime n) e = by_test (is_listed n.value) refl e
  where
    by_test : (t : Bool) → is_listed n.value ≡ t → (if t then None else Some n.place) ≡ None → is_listed n.value ≡ true
    by_test true h e = h
    by_test false h e = cc

pub known_kind : (fs : List FieldStatement) → bad_prime fs ≡ None → IsTrue (is_field (kind_of fs))
known_kind [] e = refl
known_kind (f ∷ fs) e = listed_named f.name e

-- names are text

ascii_byte : (b : ℕ) → is_word_byte b ≡ true → b < 128
ascii_byte b e = grind arith

ascii_letter : (b : ℕ) → is_letter b ≡ true → b < 128
ascii_letter b e = grind arith

ascii_all : (bs : List ℕ) → list_all is_word_byte bs ≡ true → IsAscii bs
ascii_all [] e i = omega arith
ascii_all (b ∷ bs) e zero = ascii_byte b (and_parts _ _ e).0
ascii_all (b ∷ bs) e (suc i) = ascii_all bs (and_parts _ _ e).1 i

ascii_word : (bs : List ℕ) → is_word bs ≡ true → IsAscii bs
ascii_word [] e i = cc
ascii_word (b ∷ bs) e zero = ascii_letter b (and_parts _ _ e).0
ascii_word (b ∷ bs) e (suc i) = ascii_all bs (and_parts _ _ e).1 i

pub names_utf8 : (text : List ℕ) (ds : List DeclaredName) → AreNames text ds → All (λ d. IsUtf8 (name_of text d)) ds
names_utf8 text [] h = All-nil (λ d. IsUtf8 (name_of text d))
names_utf8 text (d ∷ ds) (h, hs) = All-cons (λ d. IsUtf8 (name_of text d)) d ds (IsUtf8-from_ascii (name_of text d)
    (ascii_word (name_of text d) h.spelled)) (names_utf8 text ds hs)
