-- The expressions of a text nest no deeper than its marks.
use Rattle.std.proofs.Common.{◌≡◌, ℕ, ◌+◌, ◌≤◌, max, List, [], ◌∷◌, map, Bool, true, false, ◌==◌, ◌||◌, nat_lt, if◌then◌else◌, refl, arith}
use Rattle.std.specs.Prelude.{None, Some}
use Rattle.std.specs.declared.option.Option.{Option}
use Rattle.std.specs.Prelude.{codes}
use Rattle.std.specs.Str.{bytes_eq}
use Rattle.fpl_syntax.specs.Sight.{word_of}
use Rattle.std.proofs.lemmas.Bool.{ltb-false, eqb-true}
use Rattle.fpl_numbers.specs.declared.number.Num.{Num}
use Rattle.math_algebra.specs.Tree.{Tree, gen, none, sum_of, multiple, bracket_of, trees}
use Rattle.fpl_model.specs.declared.expr.Expr.{Expr}
use Rattle.fpl_model.specs.Meaning.{plain}
use Rattle.fpl_model.specs.Sound.{deep, deep_factor, deep_member, deep_members}
use Rattle.fpl_model.proofs.Plain.{plain-Gen, plain-Zero, plain-Sum, plain-Times, plain-Br}
use Rattle.fpl_lex.specs.declared.token.Token.{Token}
use Rattle.fpl_lex.specs.declared.token.TokenKind.{TokenKind}
use Rattle.fpl_lex.specs.declared.token.TokenKind.TheVariants as kinds
use Rattle.fpl_syntax.specs.declared.terminal.Terminal.{Terminal}
use Rattle.fpl_syntax.specs.declared.terminal.Terminal.TheVariants as mark
use Rattle.fpl_syntax.specs.declared.expression.Scale.{Scale}
use Rattle.fpl_syntax.specs.declared.expression.Scale.TheVariants.{One, Whole, Quotient}
use Rattle.fpl_syntax.specs.Grammar.{Scope, Sum, sum, Terms, end, further, term, Factor, name, zero as nought, bracket, group, spell_scale, sign_of, spell_lead, spell_sum, spell_terms, spell_factor, term_of, total, expression_of, further_of, factor_of}
use Rattle.fpl_reader.specs.Terminals.{word_terminal, mark_terminal, kind_terminal, terminal_of, terminals_of}
use Rattle.fpl_reader.specs.Reading.{opens, closes, too_deep}

-- how deep a parse tree nests

abbrev mutual
  pub nest_sum : Sum → ℕ
  nest_sum (sum plus (term negative scale f) ts) = max (nest_factor f) (nest_terms ts)

  pub nest_terms : Terms → ℕ
  nest_terms end = 0
  nest_terms (further (term negative scale f) ts) = max (nest_factor f) (nest_terms ts)

  pub nest_factor : Factor → ℕ
  nest_factor (name w) = 0
  nest_factor (nought place) = 0
  nest_factor (bracket a b) = max (nest_sum a) (nest_sum b) + 1
  nest_factor (group a) = nest_sum a + 1

deep-member : (t : Tree Num) → deep t ≤ deep_member t
deep-member (gen g) = omega arith
deep-member none = omega arith
deep-member (sum_of es) = omega arith
deep-member (multiple c e) = omega arith
deep-member (bracket_of a b) = omega arith

member-factor : (t : Tree Num) → deep_member t ≤ deep_factor t
member-factor (gen g) = omega arith
member-factor none = omega arith
member-factor (sum_of es) = omega arith
member-factor (multiple c e) = omega arith
member-factor (bracket_of a b) = omega arith

factor-deep : (t : Tree Num) → deep_factor t ≤ deep t + 1
factor-deep (gen g) = omega arith
factor-deep none = omega arith
factor-deep (sum_of es) = omega arith
factor-deep (multiple c e) = omega arith
factor-deep (bracket_of a b) = omega arith

module _ (scope : Scope) where
  deep_term : (negative : Bool) (scale : Scale) (e : Expr) → deep_member (plain (term_of scope negative scale e)) ≤ deep_factor (plain e)
  deep_term false One e = member-factor (plain e)
  deep_term true One e = rw plain-Times (omega arith)
  deep_term negative (Whole m) e = rw plain-Times (omega arith)
  deep_term negative (Quotient m d) e = rw plain-Times (omega arith)

  deep_total : (es : List Expr) → deep (plain (total es)) ≤ deep_members (trees (map plain es))
  deep_total [] = rw plain-Zero (omega arith)
  deep_total (e ∷ []) = let h = deep-member (plain e) in omega arith
  deep_total (e ∷ f ∷ es) = rw plain-Sum (omega arith)

  mutual
    pub deep_sum : (s : Sum) → deep (plain (expression_of scope s)) ≤ nest_sum s
    deep_sum (sum plus (term negative scale f) ts) =
        let h = deep_total (term_of scope negative scale (factor_of scope f) ∷ further_of scope ts) in
        let k = deep_term negative scale (factor_of scope f) in
        let l = deep_factors f in
        let m = deep_terms ts in
        omega arith

    deep_terms : (ts : Terms) → deep_members (trees (map plain (further_of scope ts))) ≤ nest_terms ts
    deep_terms end = omega arith
    deep_terms (further (term negative scale f) ts) =
        let k = deep_term negative scale (factor_of scope f) in
        let l = deep_factors f in
        let m = deep_terms ts in
        omega arith

    deep_factors : (f : Factor) → deep_factor (plain (factor_of scope f)) ≤ nest_factor f
    deep_factors (name w) = rw plain-Gen (omega arith)
    deep_factors (nought place) = rw plain-Zero (omega arith)
    deep_factors (bracket a b) = let h = deep_sum a in let k = deep_sum b in rw plain-Br (omega arith)
    deep_factors (group a) = let h = deep_sum a in let k = factor-deep (plain (expression_of scope a)) in omega arith

-- marks that are opened and closed

abbrev up : Terminal → ℕ → ℕ
up mark.OpenBracket n = n + 1
up mark.OpenGroup n = n + 1
up _ n = n

abbrev down : Terminal → ℕ → ℕ
down mark.CloseBracket n = n + 1
down mark.CloseGroup n = n + 1
down _ n = n

abbrev pub IsShallow : ℕ → ℕ → List Terminal → Type 0
IsShallow opened closed [] = Unit {0}
IsShallow opened closed (s ∷ ss) = (up s opened ≤ down s closed + 64) × IsShallow (up s opened) (down s closed) ss

-- after a part the marks are as before it, and the part nests no deeper than 64
abbrev Passes : ℕ → ℕ → ℕ → List Terminal → Type 0
Passes deepest opened closed after = (deepest + opened ≤ closed + 64) × (opened' : ℕ) × (closed' : ℕ) × (opened' + closed ≡ opened + closed') ×
    IsShallow opened' closed' after

scale_passes : (scale : Scale) (o c : ℕ) (after : List Terminal) → IsShallow o c (spell_scale scale after) → IsShallow o c after
scale_passes One o c after h = h
scale_passes (Whole n) o c after h = h.1.1
scale_passes (Quotient n d) o c after h = h.1.1.1.1

lead_passes : (plus negative : Bool) (o c : ℕ) (after : List Terminal) → IsShallow o c (spell_lead plus negative after) → IsShallow o c after
lead_passes plus true o c after h = h.1
lead_passes true false o c after h = h.1
lead_passes false false o c after h = h

sign_passes : (negative : Bool) (o c : ℕ) (after : List Terminal) → IsShallow o c (sign_of negative ∷ after) → IsShallow o c after
sign_passes true o c after h = h.1
sign_passes false o c after h = h.1

joins : (m n o c : ℕ) (middle after : List Terminal) → Passes m o c middle → ((o' c' : ℕ) → o' ≤ c' + 64 → IsShallow o' c' middle →
    Passes n o' c' after) → o ≤ c + 64 → Passes (max m n) o c after
joins m n o c middle after (l, o', c', e, h) next start =
    let k = next o' c' (omega arith) h in
    (omega (arith, k.0), k.1, k.2, omega (arith, k.3), k.4)

mutual
  pub sum_passes : (s : Sum) (o c : ℕ) (after : List Terminal) → o ≤ c + 64 → IsShallow o c (spell_sum s after) → Passes (nest_sum s) o c after
  sum_passes (sum plus (term negative scale f) ts) o c after start h =
      joins (nest_factor f) (nest_terms ts) o c (spell_terms ts after) after
      (factor_passes f o c (spell_terms ts after) start (scale_passes scale o c (spell_factor f (spell_terms ts after))
      (lead_passes plus negative o c (spell_scale scale (spell_factor f (spell_terms ts after))) h)))
      (λ o' c' start' h'. terms_pass ts o' c' after start' h') start

  terms_pass : (ts : Terms) (o c : ℕ) (after : List Terminal) → o ≤ c + 64 → IsShallow o c (spell_terms ts after) → Passes (nest_terms ts) o c after
  terms_pass end o c after start h = (omega arith, o, c, omega arith, h)
  terms_pass (further (term negative scale f) ts) o c after start h =
      joins (nest_factor f) (nest_terms ts) o c (spell_terms ts after) after
      (factor_passes f o c (spell_terms ts after) start (scale_passes scale o c (spell_factor f (spell_terms ts after))
      (sign_passes negative o c (spell_scale scale (spell_factor f (spell_terms ts after))) h)))
      (λ o' c' start' h'. terms_pass ts o' c' after start' h') start

  factor_passes : (f : Factor) (o c : ℕ) (after : List Terminal) → o ≤ c + 64 → IsShallow o c (spell_factor f after) → Passes (nest_factor f) o c after
  factor_passes (name w) o c after start h = (omega arith, o, c, omega arith, h.1)
  factor_passes (nought place) o c after start h = (omega arith, o, c, omega arith, h.1)
  factor_passes (bracket a b) o c after start (start', h) =
      let k = sum_passes a (o + 1) c (mark.Comma ∷ spell_sum b (mark.CloseBracket ∷ after)) start' h in
      let l = sum_passes b k.1 k.2 (mark.CloseBracket ∷ after) (omega (arith, k.3)) k.4.1 in
      (omega (arith, k.0, l.0, k.3), l.1, l.2 + 1, omega (arith, k.3, l.3), l.4.1)
  factor_passes (group a) o c after start (start', h) =
      let k = sum_passes a (o + 1) c (mark.CloseGroup ∷ after) start' h in
      (omega (arith, k.0), k.1, k.2 + 1, omega (arith, k.3), k.4.1)

-- from the tokens to their terminals

-- a mark that opens or closes, in either sense
abbrev Agrees : Terminal → TokenKind → Type 0
Agrees s k = (n : ℕ) → (up s n ≤ n + opens k) × (n + closes k ≤ down s n)

chosen : (b at : ℕ) (s t : Terminal) → (b ≡ at → Agrees s (kinds.Mark b)) → ((b == at) ≡ false → Agrees t (kinds.Mark b)) →
    Agrees (if b == at then s else t) (kinds.Mark b)
chosen b at s t h k = by_test (b == at) refl
  where
    by_test : (v : Bool) → (b == at) ≡ v → Agrees (if v then s else t) (kinds.Mark b)
    by_test true e = h (eqb-true b at e)
    by_test false e = k e

plain_mark : (b at : ℕ) (s : Terminal) → ((n : ℕ) → (up s n ≤ n + opens (kinds.Mark at)) × (n + closes (kinds.Mark at) ≤ down s n)) → b ≡ at →
    Agrees s (kinds.Mark b)
plain_mark b at s h e = λ n. rw e (h n)

close_least : (b n : ℕ) → n + closes (kinds.Mark b) ≤ n + 1
close_least b n = by_test (b == 93 || b == 41)
  where
    by_test : (t : Bool) → n + (if t then 1 else 0) ≤ n + 1
    by_test true = omega arith
    by_test false = omega arith

open_least : (b n : ℕ) → n ≤ n + opens (kinds.Mark b)
open_least b n = omega arith

choose : (t : Bool) (a b : Terminal) → Agrees a kinds.Word → Agrees b kinds.Word → Agrees (if t then a else b) kinds.Word
choose true a b h k = h
choose false a b h k = k

mark_agrees : (b : ℕ) → Agrees (mark_terminal b) (kinds.Mark b)
mark_agrees b =
    chosen b 59 _ _ (plain_mark b 59 mark.Semicolon (λ n. (omega arith, omega arith))) (λ _.
    chosen b 44 _ _ (plain_mark b 44 mark.Comma (λ n. (omega arith, omega arith))) (λ _.
    chosen b 58 _ _ (plain_mark b 58 mark.Colon (λ n. (omega arith, omega arith))) (λ _.
    chosen b 61 _ _ (plain_mark b 61 mark.Equals (λ n. (omega arith, omega arith))) (λ _.
    chosen b 43 _ _ (plain_mark b 43 mark.Plus (λ n. (omega arith, omega arith))) (λ _.
    chosen b 45 _ _ (plain_mark b 45 mark.Minus (λ n. (omega arith, omega arith))) (λ _.
    chosen b 42 _ _ (plain_mark b 42 mark.Star (λ n. (omega arith, omega arith))) (λ _.
    chosen b 47 _ _ (plain_mark b 47 mark.Slash (λ n. (omega arith, omega arith))) (λ _.
    chosen b 91 _ _ (plain_mark b 91 mark.OpenBracket (λ n. (omega arith, omega arith))) (λ _.
    chosen b 93 _ _ (plain_mark b 93 mark.CloseBracket (λ n. (omega arith, omega arith))) (λ _.
    chosen b 40 _ _ (plain_mark b 40 mark.OpenGroup (λ n. (omega arith, omega arith))) (λ _. λ n. (open_least b n, close_least b n))))))))))))

word_agrees : (word : List ℕ) (start stop : ℕ) → Agrees (word_terminal word start stop) kinds.Word
word_agrees word start stop =
    choose (bytes_eq word (codes "field")) _ _ (λ n. (omega arith, omega arith)) (
    choose (bytes_eq word (codes "even")) _ _ (λ n. (omega arith, omega arith)) (
    choose (bytes_eq word (codes "odd")) _ _ (λ n. (omega arith, omega arith)) (
    choose (bytes_eq word (codes "relation")) _ _ (λ n. (omega arith, omega arith)) (
    choose (bytes_eq word (codes "ideal")) _ _ (λ n. (omega arith, omega arith)) (
    choose (bytes_eq word (codes "equal")) _ _ (λ n. (omega arith, omega arith)) (λ n. (omega arith, omega arith)))))))

kind_agrees : (text : List ℕ) (start stop : ℕ) (k : TokenKind) → Agrees (kind_terminal text start stop k) k
kind_agrees text start stop kinds.Word = word_agrees (word_of text start stop) start stop
kind_agrees text start stop (kinds.Number v) = λ n. (omega arith, omega arith)
kind_agrees text start stop (kinds.Mark b) = mark_agrees b

up-least : (s : Terminal) (m n : ℕ) → m ≤ n → up s m ≤ up s n
up-least mark.OpenBracket m n h = omega arith
up-least mark.OpenGroup m n h = omega arith
up-least _ m n h = h

down-least : (s : Terminal) (m n : ℕ) → m ≤ n → down s m ≤ down s n
down-least mark.CloseBracket m n h = omega arith
down-least mark.CloseGroup m n h = omega arith
down-least _ m n h = h

deep_step : (t : Bool) (place : ℕ) (rest : Option ℕ) → (if t then Some place else rest) ≡ None → (t ≡ false) × (rest ≡ None)
deep_step true place rest e = cc
deep_step false place rest e = (refl, e)

pub tokens_shallow : (text : List ℕ) (ts : List Token) (o c o' c' : ℕ) → o' ≤ o → c ≤ c' → too_deep o c ts ≡ None → IsShallow o' c' (terminals_of text ts)
unfolding terminal_of
tokens_shallow text [] o c o' c' h k e = tt
tokens_shallow text (t ∷ ts) o c o' c' h k e =
    let s = kind_terminal text t.start t.end t.kind in
    let d = deep_step (nat_lt (c + closes t.kind + 64) (o + opens t.kind)) t.start _ e in
    let l = ltb-false (c + closes t.kind + 64) (o + opens t.kind) d.0 in
    let a = kind_agrees text t.start t.end t.kind in
    let u = up-least s o' o h in
    let v = down-least s c c' k in
    let p = (a o).0 in
    let q = (a c).1 in
    (omega arith, tokens_shallow text ts (o + opens t.kind) (c + closes t.kind) (up s o') (down s c') (omega arith) (omega arith) d.1)
