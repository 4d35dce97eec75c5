-- What is read of the last statement, and how a sentence may be completed.
use Rattle.std.proofs.Common.{◌≡◌, ℕ, List, [], ◌∷◌, ◌++◌, false, refl, ap}
use Rattle.fpl_model.specs.declared.presentation.Parity.{Parity}
use Rattle.fpl_syntax.specs.declared.terminal.Terminal.{Terminal}
use Rattle.fpl_syntax.specs.declared.terminal.Terminal.TheVariants as mark
use Rattle.fpl_syntax.specs.declared.terminal.Word.{Word}
use Rattle.fpl_syntax.specs.declared.terminal.Numeral.{Numeral}
use Rattle.fpl_syntax.specs.declared.terminal.ClaimKind.TheVariants.{Relation, Ideal, Equal}
use Rattle.fpl_syntax.specs.declared.parser.Claim.{Claim}
use Rattle.fpl_syntax.specs.Grammar.{Scope, Sum, Statement, field, declare, relation, equation, ideal, equal, Naming, rationals, prime, Declaration, plainly, weighted, spell_sum, naming_terminal, spell_declaration, spell_declarations, spell_statement, spelling, claims_in}
use Rattle.fpl_syntax.proofs.Stages.{Held, Inner, start, spell_held, spell_inner, complete, nought_sum, nought_terminal}

-- a side of a claim that is being read, with what was read before it
pub data Claiming : Type 0 where
  relating : ℕ → Claiming
  relating_to : ℕ → Sum → Claiming
  member : ℕ → Claiming
  asking : ℕ → Claiming
  asking_for : ℕ → Sum → Claiming

-- what is read of the last statement
pub data Tail : Type 0 where
  between : Tail
  in_field : ℕ → Tail
  field_named : ℕ → Naming → Tail
  declaring : Parity → List Declaration → Tail
  declared : Parity → List Declaration → Word → Tail
  weighing : Parity → List Declaration → Word → Tail
  weighed : Parity → List Declaration → Word → Numeral → Tail
  claiming : Claiming → List Held → Inner → Tail

abbrev pub spell_done : List Statement → List Terminal → List Terminal
spell_done [] after = after
spell_done (s ∷ ss) after = spell_statement s (spell_done ss after)

-- declarations, and then another
abbrev pub spell_before : List Declaration → List Terminal → List Terminal
spell_before [] after = after
spell_before (d ∷ ds) after = spell_declaration d (spell_declarations ds (mark.Comma ∷ after))

abbrev pub spell_claiming : Claiming → List Terminal → List Terminal
spell_claiming (relating place) after = mark.Claim Relation place ∷ after
spell_claiming (relating_to place a) after = mark.Claim Relation place ∷ spell_sum a (mark.Equals ∷ after)
spell_claiming (member place) after = mark.Claim Ideal place ∷ after
spell_claiming (asking place) after = mark.Claim Equal place ∷ after
spell_claiming (asking_for place a) after = mark.Claim Equal place ∷ spell_sum a (mark.Equals ∷ after)

abbrev pub spell_tail : Tail → List Terminal → List Terminal
spell_tail between after = after
spell_tail (in_field place) after = mark.Field place ∷ after
spell_tail (field_named place naming) after = mark.Field place ∷ naming_terminal naming ∷ after
spell_tail (declaring parity ds) after = mark.Declare parity ∷ spell_before ds after
spell_tail (declared parity ds w) after = mark.Declare parity ∷ spell_before ds (mark.Name w ∷ after)
spell_tail (weighing parity ds w) after = mark.Declare parity ∷ spell_before ds (mark.Name w ∷ mark.Colon ∷ after)
spell_tail (weighed parity ds w n) after = mark.Declare parity ∷ spell_before ds (mark.Name w ∷ mark.Colon ∷ mark.Number n ∷ after)
spell_tail (claiming c held inner) after = spell_claiming c (spell_held held (spell_inner inner after))

-- declarations with one more

abbrev pub declare_all : Parity → List Declaration → Declaration → Statement
declare_all parity [] last = declare parity last []
declare_all parity (d ∷ ds) last = declare parity d (ds ++ last ∷ [])

spell_declarations-append : (ds : List Declaration) (d : Declaration) (after : List Terminal) →
    spell_declarations (ds ++ d ∷ []) after ≡ spell_declarations ds (mark.Comma ∷ spell_declaration d after)
spell_declarations-append [] d after = refl
spell_declarations-append (plainly w ∷ ds) d after = ap (λ xs. mark.Comma ∷ mark.Name w ∷ xs) (spell_declarations-append ds d after)
spell_declarations-append (weighted w n ∷ ds) d after = ap (λ xs. mark.Comma ∷ mark.Name w ∷ mark.Colon ∷ mark.Number n ∷ xs)
    (spell_declarations-append ds d after)

pub declare_all-spelled : (parity : Parity) (ds : List Declaration) (d : Declaration) (after : List Terminal)
    → spell_statement (declare_all parity ds d) after ≡ mark.Declare parity ∷ spell_before ds (spell_declaration d (mark.Semicolon ∷ after))
declare_all-spelled parity [] d after = refl
declare_all-spelled parity (e ∷ ds) d after = ap (λ xs. mark.Declare parity ∷ spell_declaration e xs) (spell_declarations-append ds d (mark.Semicolon ∷ after))

pub spell_before-append : (ds : List Declaration) (d : Declaration) (after : List Terminal) → spell_before (ds ++ d ∷ []) after ≡
    spell_before ds (spell_declaration d (mark.Comma ∷ after))
spell_before-append [] d after = refl
spell_before-append (e ∷ ds) d after = ap (spell_declaration e) (spell_declarations-append ds d (mark.Comma ∷ after))

pub declare_all-none : (scope : Scope) (parity : Parity) (ds : List Declaration) (d : Declaration) → claims_in scope (declare_all parity ds d) ≡ []
declare_all-none scope parity [] d = refl
declare_all-none scope parity (e ∷ ds) d = refl

-- statements with one more

pub spell_done-append : (ss : List Statement) (s : Statement) (after : List Terminal) →
    spell_done (ss ++ s ∷ []) after ≡ spell_done ss (spell_statement s after)
spell_done-append [] s after = refl
spell_done-append (t ∷ ss) s after = ap (spell_statement t) (spell_done-append ss s after)

pub spell_done-spelling : (ss : List Statement) → spelling ss ≡ spell_done ss []
spell_done-spelling [] = refl
spell_done-spelling (s ∷ ss) = ap (spell_statement s) (spell_done-spelling ss)

-- how a sentence may be completed

complete_claim : (c : Claiming) (held : List Held) (inner : Inner) → (s : Statement) × (more : List Terminal) ×
    (spell_statement s [] ≡ spell_claiming c (spell_held held (spell_inner inner more)))
complete_claim (relating place) held inner =
    let r = complete held inner in (relation place r.0, r.1 ++ mark.Semicolon ∷ [], ap (λ xs. mark.Claim Relation place ∷ xs) (r.2 (mark.Semicolon ∷ [])))
complete_claim (relating_to place a) held inner =
    let r = complete held inner in (
      equation place a r.0,
      r.1 ++ mark.Semicolon ∷ [],
      ap (λ xs. mark.Claim Relation place ∷ spell_sum a (mark.Equals ∷ xs)) (r.2 (mark.Semicolon ∷ [])),
    )
complete_claim (member place) held inner =
    let r = complete held inner in (ideal place r.0, r.1 ++ mark.Semicolon ∷ [], ap (λ xs. mark.Claim Ideal place ∷ xs) (r.2 (mark.Semicolon ∷ [])))
complete_claim (asking place) held inner =
    let r = complete held inner in (
      equal place r.0 nought_sum,
      r.1 ++ mark.Equals ∷ nought_terminal ∷ mark.Semicolon ∷ [],
      ap (λ xs. mark.Claim Equal place ∷ xs) (r.2 (mark.Equals ∷ nought_terminal ∷ mark.Semicolon ∷ [])),
    )
complete_claim (asking_for place a) held inner =
    let r = complete held inner in (
      equal place a r.0,
      r.1 ++ mark.Semicolon ∷ [],
      ap (λ xs. mark.Claim Equal place ∷ spell_sum a (mark.Equals ∷ xs))
          (r.2 (mark.Semicolon ∷ [])),
    )

unfoldable some_word : Word
some_word = record { start = 0; end = 0; rationals = false }

pub complete_tail : (tail : Tail) → (ss : List Statement) × (more : List Terminal) × (spell_done ss [] ≡ spell_tail tail more)
complete_tail between = ([], [], refl)
complete_tail (in_field place) = (field place (prime (record { place = 0; value = 0 })) ∷ [], nought_terminal ∷ mark.Semicolon ∷ [], refl)
complete_tail (field_named place naming) = (field place naming ∷ [], mark.Semicolon ∷ [], refl)
complete_tail (declaring parity ds) = (
  declare_all parity ds (plainly some_word) ∷ [],
  mark.Name some_word ∷ mark.Semicolon ∷ [],
  declare_all-spelled parity ds (plainly some_word) [],
)
complete_tail (declared parity ds w) = (declare_all parity ds (plainly w) ∷ [], mark.Semicolon ∷ [], declare_all-spelled parity ds (plainly w) [])
complete_tail (weighing parity ds w) = (
  declare_all parity ds (weighted w (record { place = 0; value = 0 })) ∷ [],
  nought_terminal ∷ mark.Semicolon ∷ [],
  declare_all-spelled parity ds (weighted w (record { place = 0; value = 0 })) [],
)
complete_tail (weighed parity ds w n) = (declare_all parity ds (weighted w n) ∷ [], mark.Semicolon ∷ [], declare_all-spelled parity ds (weighted w n) [])
complete_tail (claiming c held inner) = let r = complete_claim c held inner in (r.0 ∷ [], r.1, r.2)
