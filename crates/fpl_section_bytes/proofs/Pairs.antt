-- Fields that stand one after another, and what is made of them.
use Rattle.std.proofs.Common.{◌≡◌, ℕ, List, ◌++◌, Result, Ok, ap, subst, ◌∙◌, append_assoc}
use Rattle.fpl_bytes.specs.declared.fault.BadBytes.{BadBytes}
use Rattle.fpl_bytes.specs.Codes.{IsBytes, Takes, IsCode}
use Rattle.fpl_bytes.specs.Reading.{◌>>=◌}
use Rattle.fpl_bytes.proofs.Steps.{bind_ok, ok_is, Takes-then}

-- what is made of two fields
abbrev made : {A B C : Type 0} → (A → B → C) → A → B × List ℕ → Result (C × List ℕ) BadBytes
made make a b = Ok (make a b.0, b.1)

abbrev both_at : {A B C : Type 0} → (List ℕ → Result (A × List ℕ) BadBytes) → (List ℕ → Result (B × List ℕ) BadBytes) → (A → B → C) → List ℕ →
    Result (C × List ℕ) BadBytes
both_at read read_next make bytes = read bytes >>= λ a. read_next a.1 >>= made make a.0

-- what two fields took, and what is made of them
module _ {A B C : Type 0} (spell : A → List ℕ) (read : List ℕ → Result (A × List ℕ) BadBytes) (Fits : A → Type 0) (first : IsCode spell read Fits)
    (spell_next : B → List ℕ) (read_next : List ℕ → Result (B × List ℕ) BadBytes) (FitsNext : B → Type 0) (second : IsCode spell_next read_next FitsNext)
    (make : A → B → C) where
  pub record BothTaken (bytes : List ℕ) (x : C) (rest : List ℕ) : Type 0 where
    pub left : A
    pub right : B
    pub text : Takes bytes (spell left ++ spell_next right) rest
    pub left_fits : Fits left
    pub right_fits : FitsNext right
    pub value : make left right ≡ x

  pub both_take : (bytes : List ℕ) (x : C) (rest : List ℕ) → IsBytes bytes → both_at read read_next make bytes ≡ Ok (x, rest) → BothTaken bytes x rest
  both_take bytes x rest fits e =
      let p = bind_ok (read bytes) (λ a. read_next a.1 >>= made make a.0) (x, rest) e in
      let q = bind_ok (read_next p.0.1) (made make p.0.0) (x, rest) p.2 in
      let t = first.takes bytes p.0.0 p.0.1 fits p.1 in
      let u = second.takes p.0.1 q.0.0 q.0.1 t.0.rest_fits q.1 in
      let same = ok_is (make p.0.0 q.0.0, q.0.1) (x, rest) q.2 in
      record {
        left = p.0.0;
        right = q.0.0;
        text = subst (λ (r : List ℕ). Takes bytes (spell p.0.0 ++ spell_next q.0.0) r) (ap (λ (y : C × List ℕ). y.1) same)
            (Takes-then bytes (spell p.0.0) p.0.1 (spell_next q.0.0) q.0.1 t.0 u.0);
        left_fits = t.1;
        right_fits = u.1;
        value = ap (λ (y : C × List ℕ). y.0) same;
      }

  pub both_again : (a : A) (b : B) (rest : List ℕ) → Fits a → FitsNext b → both_at read read_next make ((spell a ++ spell_next b) ++ rest) ≡ Ok (make a b, rest)
  both_again a b rest fits fits_next =
      let regrouped : (spell a ++ spell_next b) ++ rest ≡ spell a ++ (spell_next b ++ rest) = append_assoc (spell a) (spell_next b) rest in
      ap (both_at read read_next make) regrouped
      ∙ ap (λ (r : Result (A × List ℕ) BadBytes). r >>= λ a. read_next a.1 >>= made make a.0) (first.again a (spell_next b ++ rest) fits)
      ∙ ap (λ (r : Result (B × List ℕ) BadBytes). r >>= made make a) (second.again b rest fits_next)

abbrev three_at : {A B C D : Type 0} → (List ℕ → Result (A × List ℕ) BadBytes) → (List ℕ → Result (B × List ℕ) BadBytes) →
    (List ℕ → Result (C × List ℕ) BadBytes) → (A → B → C → D) → List ℕ → Result (D × List ℕ) BadBytes
three_at read read_next read_last make bytes = read bytes >>= λ a. both_at read_next read_last (make a.0) a.1

module _ {A B C D : Type 0} (spell : A → List ℕ) (read : List ℕ → Result (A × List ℕ) BadBytes) (Fits : A → Type 0) (first : IsCode spell read Fits)
    (spell_next : B → List ℕ) (read_next : List ℕ → Result (B × List ℕ) BadBytes) (FitsNext : B → Type 0) (second : IsCode spell_next read_next FitsNext)
    (spell_last : C → List ℕ) (read_last : List ℕ → Result (C × List ℕ) BadBytes) (FitsLast : C → Type 0) (third : IsCode spell_last read_last FitsLast)
    (make : A → B → C → D) where
  pub record ThreeTaken (bytes : List ℕ) (x : D) (rest : List ℕ) : Type 0 where
    pub left : A
    pub middle : B
    pub right : C
    pub text : Takes bytes (spell left ++ (spell_next middle ++ spell_last right)) rest
    pub left_fits : Fits left
    pub middle_fits : FitsNext middle
    pub right_fits : FitsLast right
    pub value : make left middle right ≡ x

  pub three_take : (bytes : List ℕ) (x : D) (rest : List ℕ) → IsBytes bytes → three_at read read_next read_last make bytes ≡ Ok (x, rest) →
      ThreeTaken bytes x rest
  three_take bytes x rest fits e =
      let p = bind_ok (read bytes) (λ a. both_at read_next read_last (make a.0) a.1) (x, rest) e in
      let t = first.takes bytes p.0.0 p.0.1 fits p.1 in
      let u = both_take spell_next read_next FitsNext second spell_last read_last FitsLast third (make p.0.0) p.0.1 x rest t.0.rest_fits p.2 in
      record {
        left = p.0.0;
        middle = u.left;
        right = u.right;
        text = Takes-then bytes (spell p.0.0) p.0.1 (spell_next u.left ++ spell_last u.right) rest t.0 u.text;
        left_fits = t.1;
        middle_fits = u.left_fits;
        right_fits = u.right_fits;
        value = u.value;
      }

  pub three_again : (a : A) (b : B) (c : C) (rest : List ℕ) → Fits a → FitsNext b → FitsLast c →
      three_at read read_next read_last make ((spell a ++ (spell_next b ++ spell_last c)) ++ rest) ≡ Ok (make a b c, rest)
  three_again a b c rest fits fits_next fits_last =
      let regrouped : (spell a ++ (spell_next b ++ spell_last c)) ++ rest ≡ spell a ++ ((spell_next b ++ spell_last c) ++ rest) =
      append_assoc (spell a) (spell_next b ++ spell_last c) rest in
      ap (three_at read read_next read_last make) regrouped
      ∙ ap (λ (r : Result (A × List ℕ) BadBytes). r >>= λ a. both_at read_next read_last (make a.0) a.1)
      (first.again a ((spell_next b ++ spell_last c) ++ rest) fits)
      ∙ both_again spell_next read_next FitsNext second spell_last read_last FitsLast third (make a) b c rest fits_next fits_last
