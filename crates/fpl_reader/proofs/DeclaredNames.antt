-- The names that a text declares and uses are names.
use Rattle.std.proofs.Common.{◌≡◌, ℕ, zero, suc, ◌≤◌, List, [], ◌∷◌, ◌++◌, length, Bool, true, false, ◌==◌, IsTrue, if◌then◌else◌, refl, ap, sym, ◌∙◌, subst, arith, append_assoc}
use Rattle.std.specs.Prelude.{codes, Contains}
use Rattle.std.specs.Str.{bytes_eq}
use Rattle.std.specs.declared.option.Option.{Option}
use Rattle.std.proofs.lemmas.Slice.Eq.{bytes_eq-Decides}
use Rattle.fpl_alphabet.specs.Bytes.{is_word, most_name, reserved, IsName}
use Rattle.fpl_lex.specs.declared.token.Token.{Token}
use Rattle.fpl_lex.specs.declared.token.TokenKind.{TokenKind}
use Rattle.fpl_lex.specs.declared.token.TokenKind.TheVariants as kinds
use Rattle.fpl_syntax.specs.declared.terminal.Terminal.{Terminal}
use Rattle.fpl_syntax.specs.declared.terminal.Terminal.TheVariants as mark
use Rattle.fpl_syntax.specs.declared.terminal.Word.{Word}
use Rattle.fpl_syntax.specs.Sight.{word_of}
use Rattle.fpl_reader.specs.declared.survey.Event.{Event}
use Rattle.fpl_reader.specs.declared.survey.DeclaredName.{DeclaredName}
use Rattle.fpl_reader.specs.declared.survey.Track.{Track}
use Rattle.fpl_reader.specs.declared.survey.Track.TheVariants as track
use Rattle.fpl_reader.specs.Events.{declared_in, name_in}
use Rattle.fpl_reader.specs.Reading.{name_of}
use Rattle.fpl_reader.specs.Scan.{note, scan, event_list}
use Rattle.fpl_reader.specs.Terminals.{word_terminal, mark_terminal, kind_terminal, terminal_of, terminals_of}
use Rattle.fpl_reader.proofs.Words.{IsWordAt, AreWords}

-- a word is none of the reserved ones, where it differs from each
unequal : (word other : List ℕ) → bytes_eq word other ≡ false → other ≡ word → ⊥
unequal word other e same = let t = (bytes_eq-Decides word other).1 (sym same) in cc

free_of : (word : List ℕ) → bytes_eq word (codes "field") ≡ false → bytes_eq word (codes "even") ≡ false → bytes_eq word (codes "odd") ≡ false →
    bytes_eq word (codes "relation") ≡ false
    → bytes_eq word (codes "ideal") ≡ false → bytes_eq word (codes "equal") ≡ false → Contains reserved word → ⊥
free_of word a b c d e f (zero, inside, same) = unequal word (codes "field") a same
free_of word a b c d e f (suc zero, inside, same) = unequal word (codes "even") b same
free_of word a b c d e f (suc (suc zero), inside, same) = unequal word (codes "odd") c same
free_of word a b c d e f (suc (suc (suc zero)), inside, same) = unequal word (codes "relation") d same
free_of word a b c d e f (suc (suc (suc (suc zero))), inside, same) = unequal word (codes "ideal") e same
free_of word a b c d e f (suc (suc (suc (suc (suc zero)))), inside, same) = unequal word (codes "equal") f same
free_of word a b c d e f (suc (suc (suc (suc (suc (suc k))))), inside, same) = omega arith

pub declared_in-append : (es fs : List Event) → declared_in (es ++ fs) ≡ declared_in es ++ declared_in fs
declared_in-append [] fs = refl
declared_in-append (e ∷ es) fs = ap (λ ds. name_in e ++ ds) (declared_in-append es fs) ∙ sym (append_assoc (name_in e) (declared_in es) (declared_in fs))

module _ (text : List ℕ) where
  abbrev pub IsNameAt : Word → Type 0
  IsNameAt w = IsName (word_of text w.start w.end)

  abbrev pub IsFine : Terminal → Type 0
  IsFine (mark.Name w) = IsNameAt w
  IsFine _ = Unit {0}

  abbrev pub AreFine : List Terminal → Type 0
  AreFine [] = Unit {0}
  AreFine (s ∷ ss) = IsFine s × AreFine ss

  choose : (t : Bool) (a b : Terminal) → IsFine a → (t ≡ false → IsFine b) → IsFine (if t then a else b)
  choose true a b h k = h
  choose false a b h k = k refl

  word_fine : (word : List ℕ) (start end : ℕ) → IsTrue (is_word word) → length word ≤ most_name → word_of text start end ≡ word →
      IsFine (word_terminal word start end)
  word_fine word start end spelled short same =
      choose (bytes_eq word (codes "field")) _ _ tt (λ a.
      choose (bytes_eq word (codes "even")) _ _ tt (λ b.
      choose (bytes_eq word (codes "odd")) _ _ tt (λ c.
      choose (bytes_eq word (codes "relation")) _ _ tt (λ d.
      choose (bytes_eq word (codes "ideal")) _ _ tt (λ e.
      choose (bytes_eq word (codes "equal")) _ _ tt (λ f.
      subst IsName (sym same) (record { spelled = spelled; short = short; free = λ h. free_of word a b c d e f h })))))))

  mark_fine : (b : ℕ) → IsFine (mark_terminal b)
  mark_fine b =
      choose (b == 59) _ _ tt (λ _. choose (b == 44) _ _ tt
      (λ _. choose (b == 58) _ _ tt (λ _. choose (b == 61) _ _ tt (λ _. choose (b == 43) _ _ tt (λ _. choose (b == 45) _ _ tt (λ _.
      choose (b == 42) _ _ tt (λ _. choose (b == 47) _ _ tt
      (λ _. choose (b == 91) _ _ tt (λ _. choose (b == 93) _ _ tt (λ _. choose (b == 40) _ _ tt (λ _. tt)))))))))))

  kind_fine : (start end : ℕ) (kind : TokenKind) → IsWordAt text start end kind → IsFine (kind_terminal text start end kind)
  kind_fine start end kinds.Word h = word_fine (word_of text start end) start end h.0 h.1 refl
  kind_fine start end (kinds.Number n) h = tt
  kind_fine start end (kinds.Mark b) h = mark_fine b

  pub terminals_fine : (ts : List Token) → AreWords text ts → AreFine (terminals_of text ts)
  unfolding terminal_of
  terminals_fine [] h = tt
  terminals_fine (t ∷ ts) (h, hs) = (kind_fine t.start t.end t.kind h, terminals_fine ts hs)

  abbrev IsFineTrack : Track → Type 0
  IsFineTrack (track.Named parity w weight) = IsNameAt w
  IsFineTrack _ = Unit {0}

  abbrev pub AreNames : List DeclaredName → Type 0
  AreNames [] = Unit {0}
  AreNames (d ∷ ds) = IsName (name_of text d) × AreNames ds

  abbrev IsFineNote : Option Event × Track → Type 0
  IsFineNote s = AreNames (declared_in (event_list s.0)) × IsFineTrack s.1

  note_fine : (t : Track) (terminal : Terminal) → IsFineTrack t → IsFine terminal → IsFineNote (note t terminal)
  note_fine track.Outside (mark.Field place) h k = (tt, tt)
  note_fine track.Outside terminal h k = (tt, tt)
  note_fine (track.InField place) (mark.Name w) h k = (tt, tt)
  note_fine (track.InField place) terminal h k = (tt, tt)
  note_fine (track.Declaring parity) (mark.Name w) h k = (tt, k)
  note_fine (track.Declaring parity) terminal h k = (tt, tt)
  note_fine (track.Named parity w weight) mark.Comma h k = ((h, tt), tt)
  note_fine (track.Named parity w weight) mark.Semicolon h k = ((h, tt), tt)
  note_fine (track.Named parity w weight) terminal h k = (tt, h)
  note_fine track.InClaim (mark.Name w) h k = (tt, tt)
  note_fine track.InClaim terminal h k = (tt, tt)
  note_fine track.AfterSlash (mark.Number d) h k = (tt, tt)
  note_fine track.AfterSlash terminal h k = (tt, tt)

  AreNames-append : (ds fs : List DeclaredName) → AreNames ds → AreNames fs → AreNames (ds ++ fs)
  AreNames-append [] fs h k = k
  AreNames-append (d ∷ ds) fs (h, hs) k = (h, AreNames-append ds fs hs k)

  pub scan_fine : (t : Track) (terminals : List Terminal) → IsFineTrack t → AreFine terminals → AreNames (declared_in (scan t terminals))
  scan_fine t [] h k = tt
  scan_fine t (terminal ∷ terminals) h (k, ks) =
      let s = note_fine t terminal h k in
      subst AreNames (sym (declared_in-append (event_list (note t terminal).0) (scan (note t terminal).1 terminals)))
      (AreNames-append (declared_in (event_list (note t terminal).0)) (declared_in (scan (note t terminal).1 terminals)) s.0
      (scan_fine (note t terminal).1 terminals s.1 ks))
