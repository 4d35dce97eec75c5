-- The lines that are kept are a proof still, and none of them is idle.
use Rattle.std.proofs.Common.{ℕ, zero, suc, ◌≡◌, ◌≤◌, ◌<◌, ◌+◌, ◌-◌, List, [], ◌∷◌, length, map, get_or, slice_index, ap, subst, sym, ◌∙◌, refl, arith}
use Rattle.std.proofs.lemmas.List.{length-map}
use Rattle.std.proofs.lemmas.List.Elements.{All-weaker, All-get_or, All-from_get_or}
use Rattle.std.specs.List.{Contains}
use native.Mathlib.Decide.{dec_lt}
use Rattle.fpl_numbers.specs.declared.number.Kind.{Kind}
use Rattle.fpl_numbers.specs.Kinds.{field_of}
use Rattle.math_algebra.specs.Derives.{Expression}
use Rattle.math_proofs.specs.Rules.{Rule, same, empty, single, multiply, one, nought, spread, left_sum, right_sum, left_times, right_times, cube, turn, factor, exchange, flat, drop, collect, relation, chain, members, parts, swap, jacobi, IsInstance, IsProof, Cites}
use Rattle.math_proofs.specs.Rules as proofs
use Rattle.math_proofs.specs.Renumbering.{renumbered}
use Rattle.fpl_model.specs.declared.presentation.Presentation.{Presentation}
use Rattle.fpl_model.specs.Meaning.{plain, tree_in, presentation_in}
use Rattle.fpl_model.specs.Sound.{IsTerm}
use Rattle.fpl_lines.specs.declared.line.Line.{Line}
use Rattle.fpl_lines.specs.Meaning.{rule_in, line_in, lines_in, IsLine, AreLines}
use Rattle.fpl_forms.specs.Ledgers.{no_line}
use Rattle.fpl_forms.specs.Distinct.{line_number, HasSides, AreDistinct}
use Rattle.fpl_needed.specs.Needed.{cited, IsDistinctProof, last_line, NoneIsIdle}
use Rattle.fpl_needed.specs.Numbers.{IsWithin, CiteEarlier, IsAt, line_at, cited_at, IsMarked, numbered, number_in, AreKept, AreNumbers}
use Rattle.fpl_needed.proofs.Citing.{cited_told, cited_stay, Stays}
use Rattle.fpl_needed.proofs.Numbering.{IsMoved, moved_to, moved_from, rising, length-numbered}

at_lines : (k : Kind) (ls : List Line) (i : ℕ) → i < length ls → proofs.line_at (field_of k) (lines_in k ls) i ≡ line_in k (line_at ls i)
at_lines k [] i l = absurd (omega (arith, l))
at_lines k (x ∷ ls) zero l = refl
at_lines k (x ∷ ls) (suc i) l = at_lines k ls i (omega (arith, l))

number_at : (ls : List Line) (i : ℕ) → line_number ls (suc i) ≡ line_at ls i
number_at ls i = let e : suc i - 1 ≡ i = omega arith in ap (line_at ls) e

cited_renumbered : (f : ℕ → ℕ) (r : Rule) → cited (renumbered f r) ≡ map f (cited r)
cited_renumbered f same = refl
cited_renumbered f empty = refl
cited_renumbered f single = refl
cited_renumbered f multiply = refl
cited_renumbered f one = refl
cited_renumbered f nought = refl
cited_renumbered f spread = refl
cited_renumbered f left_sum = refl
cited_renumbered f right_sum = refl
cited_renumbered f left_times = refl
cited_renumbered f right_times = refl
cited_renumbered f cube = refl
cited_renumbered f (turn n) = refl
cited_renumbered f (factor n) = refl
cited_renumbered f (exchange k) = refl
cited_renumbered f (flat k) = refl
cited_renumbered f (drop k) = refl
cited_renumbered f (collect k) = refl
cited_renumbered f (relation k) = refl
cited_renumbered f (chain n m) = refl
cited_renumbered f (members n m) = refl
cited_renumbered f (parts ns) = refl
cited_renumbered f (swap s t) = refl
cited_renumbered f (jacobi s t) = refl

contains_map : (f : ℕ → ℕ) (cs : List ℕ) (c : ℕ) → Contains cs c → Contains (map f cs) (f c)
contains_map f cs c h = let l = h.1 in (h.0, omega (arith, l, length-map cs f), at cs h.0 h.1 h.2)
  where
    at : (cs : List ℕ) (k : ℕ) → k < length cs → get_or cs k c ≡ c → get_or (map f cs) k (f c) ≡ f c
    at [] k l e = absurd (omega (arith, l))
    at (x ∷ cs) zero l e = ap f e
    at (x ∷ cs) (suc k) l e = at cs k (omega (arith, l)) e

module _ (p : Presentation) where
  instance_at : (ls : List Line) → IsProof (field_of p.field) (presentation_in p) (lines_in p.field ls) → (i : ℕ) → i < length ls →
      IsInstance (field_of p.field) (presentation_in p) (Cites (field_of p.field) (lines_in p.field ls) i) (rule_in (line_at ls i).why)
      (tree_in p.field (line_at ls i).left) (tree_in p.field (line_at ls i).right)
  instance_at ls h i l =
      subst (λ (x : proofs.Line (field_of p.field)). IsInstance (field_of p.field) (presentation_in p) (Cites (field_of p.field) (lines_in p.field ls) i) x.why
      x.left_side x.right_side) (at_lines p.field ls i l) (h i (omega (arith, l, length-map ls (line_in p.field))))

  pub cite_earlier : (ls : List Line) → IsDistinctProof p ls → CiteEarlier ls
  cite_earlier ls h i l =
      cited_told (field_of p.field) (presentation_in p) (Cites (field_of p.field) (lines_in p.field ls) i) (IsWithin i)
      (λ c e f x. let a = x.counts in let b = x.before in (omega (arith, a), omega (arith, a, b)))
      (instance_at ls h.proof i l)

module _ (ls ms : List Line) (need : List ℕ) (m : IsMarked ls need 0)
    (kept : AreKept (number_in (numbered 0 need)) ls (numbered 0 need) ms) where
  abbrev Moved : ℕ → ℕ → Type 0
  Moved i j = IsMoved (number_in (numbered 0 need)) ls need ms 0 i j

  to : (i : ℕ) → i < length ls → IsAt need i → (j : ℕ) × Moved i j
  to i l a = moved_to (number_in (numbered 0 need)) 0 ls need ms kept i l a

  from : (j : ℕ) → j < length ms → (i : ℕ) × Moved i j
  from j l = moved_from (number_in (numbered 0 need)) 0 ls need ms kept j l

  forward : (i j k l : ℕ) → Moved i j → Moved k l → i < k → j < l
  forward i j k l a b before =
      let n = a.number in let o = b.number in let r = rising 0 need i k before a.marked b.marked in omega (arith, n, o, r)

  backward : (i j k l : ℕ) → Moved i j → Moved k l → j < l → i < k
  backward i j k l a b before = go (dec_lt i k) (dec_lt k i)
    where
      go : Dec (i < k) → Dec (k < i) → i < k
      go (yes h) d = h
      go (no h) (yes d) = let f = forward k l i j b a d in absurd (omega (arith, before, f))
      go (no h) (no d) =
          let e : i ≡ k = omega (arith, h, d) in
          let n = a.number in
          let o = b.number in
          let s = ap (slice_index (numbered 0 need)) e in
          absurd (omega (arith, before, n, o, s))

  last_moved : 1 ≤ length ls → Moved (length ls - 1) (length ms - 1)
  last_moved some = go r.0 r.1 (dec_lt r.0 (length ms - 1))
    where
      r : (j : ℕ) × Moved (length ls - 1) j
      r = to (length ls - 1) (omega (arith, some)) m.last

      go : (j : ℕ) → Moved (length ls - 1) j → Dec (j < length ms - 1) → Moved (length ls - 1) (length ms - 1)
      go j h (yes early) =
          let t = from (length ms - 1) (omega (arith, early)) in
          let b = backward (length ls - 1) j t.0 (length ms - 1) h t.1 early in
          let f = t.1.from in
          absurd (omega (arith, b, f))
      go j h (no late) = let t = h.to in let e : j ≡ length ms - 1 = omega (arith, t, late) in subst (λ j. Moved (length ls - 1) j) e h

  pub last_kept : 1 ≤ length ls → HasSides (last_line ms) (last_line ls).left (last_line ls).right
  last_kept some = let s = (last_moved some).same in (s.left, s.right)

  some_kept : 1 ≤ length ls → 1 ≤ length ms
  some_kept some = let t = (last_moved some).to in omega (arith, t)

  pub none_idle : NoneIsIdle ms
  none_idle n low high =
      let a = from (n - 1) (omega (arith, high)) in
      let b = from n high in
      let later = backward a.0 (n - 1) b.0 n a.1 b.1 (omega (arith, low)) in
      let inside = b.1.from in
      let u = m.used a.0 (omega (arith, later, inside)) a.1.marked in
      let t = to u.by u.within u.needed in
      let beyond = forward a.0 (n - 1) u.by t.0 a.1 t.1 u.after in
      let room = t.1.to in
      record {
        by = suc t.0;
        after = omega (arith, beyond, low);
        within = omega (arith, room);
        cites = cites n low a.0 (n - 1) (omega (arith, low)) a.1 u.by t.0 t.1 u.cites;
      }
    where
      cites : (n : ℕ) → 1 ≤ n → (i j : ℕ) → n ≡ suc j → Moved i j → (k l : ℕ) → Moved k l → Contains (cited_at ls k) (i + 1) →
          Contains (cited (rule_in (line_number ms (suc l)).why)) n
      cites n low i j is a k l b c =
          let f = number_in (numbered 0 need) in
          let o = a.number in
          let e : i + 1 - 1 ≡ i = omega arith in
          let value : f (i + 1) ≡ n = ap (slice_index (numbered 0 need)) e ∙ omega (arith, o, is) in
          let whole : cited (rule_in (line_number ms (suc l)).why) ≡ map f (cited_at ls k) =
          ap (λ (x : Line). cited (rule_in x.why)) (number_at ms l) ∙ ap cited b.same.why ∙ cited_renumbered f (rule_in (line_at ls k).why) in
          subst (λ xs. Contains xs n) (sym whole) (subst (Contains (map f (cited_at ls k))) value (contains_map f (cited_at ls k) (i + 1) c))

  distinct_kept : AreDistinct ls → AreDistinct ms
  distinct_kept h n o low before high e =
      let a = from (n - 1) (omega (arith, before, high)) in
      let b = from (o - 1) (omega (arith, before, high)) in
      let step = backward a.0 (n - 1) b.0 (o - 1) a.1 b.1 (omega (arith, low, before)) in
      let inside = b.1.from in
      h (suc a.0) (suc b.0) (omega arith) (omega (arith, step)) (omega (arith, inside)) (
        ap (λ (x : Line). x.left) (number_at ls a.0) ∙ sym a.1.same.left ∙ e.0 ∙ b.1.same.left ∙ sym (ap (λ (x : Line). x.left) (number_at ls b.0)),
        ap (λ (x : Line). x.right) (number_at ls a.0) ∙ sym a.1.same.right ∙ e.1 ∙ b.1.same.right ∙ sym (ap (λ (x : Line). x.right) (number_at ls b.0)),
      )

  module _ (p : Presentation) where
    over_kept : AreLines p ls → AreLines p ms
    over_kept h =
        All-from_get_or (IsLine p) ms no_line (λ j l.
        let a = from j l in
        let x = All-get_or (IsLine p) ls a.0 no_line a.1.from h in (
          subst (λ e. IsTerm p.field (length p.generators) (plain e)) (sym a.1.same.left) x.0,
          subst (λ e. IsTerm p.field (length p.generators) (plain e)) (sym a.1.same.right) x.1,
        ))

    abbrev Here : ℕ → ℕ → Expression (field_of p.field) → Expression (field_of p.field) → Type 0
    Here i c e g = Cites (field_of p.field) (lines_in p.field ls) i c e g

    abbrev There : ℕ → ℕ → Expression (field_of p.field) → Expression (field_of p.field) → Type 0
    There j c e g = Cites (field_of p.field) (lines_in p.field ms) j c e g

    cites_kept : (i j : ℕ) → Moved i j → (c : ℕ) → IsAt need (c - 1) → (e g : Expression (field_of p.field)) → Here i c e g →
        There j (number_in (numbered 0 need) c) e g
    cites_kept i j a c at e g x =
        let counts = x.counts in
        let before = x.before in
        let inside = a.from in
        let is : c - 1 ≡ x.which = omega (arith, counts) in
        let t = to x.which (omega (arith, before, inside)) (subst (IsAt need) is at) in
        let o = t.1.number in
        record {
          which = t.0;
          counts = ap (slice_index (numbered 0 need)) is ∙ omega (arith, o);
          before = forward x.which t.0 i j t.1 a before;
          its_left = ap (λ (l : proofs.Line (field_of p.field)). l.left_side) (at_lines p.field ms t.0 t.1.to) ∙ ap (tree_in p.field) t.1.same.left
              ∙ sym (ap (λ (l : proofs.Line (field_of p.field)). l.left_side) (at_lines p.field ls x.which t.1.from)) ∙ x.its_left;
          its_right = ap (λ (l : proofs.Line (field_of p.field)). l.right_side) (at_lines p.field ms t.0 t.1.to) ∙ ap (tree_in p.field) t.1.same.right
              ∙ sym (ap (λ (l : proofs.Line (field_of p.field)). l.right_side) (at_lines p.field ls x.which t.1.from)) ∙ x.its_right;
        }

    instance_kept : (i j : ℕ) → Moved i j → IsProof (field_of p.field) (presentation_in p) (lines_in p.field ls) →
        IsInstance (field_of p.field) (presentation_in p) (There j) (rule_in (line_at ms j).why) (tree_in p.field (line_at ms j).left)
        (tree_in p.field (line_at ms j).right)
    instance_kept i j a h =
        let f = number_in (numbered 0 need) in
        let stay = All-weaker (λ c. IsAt need (c - 1)) (Stays (field_of p.field) (presentation_in p) (Here i) (There j) f) (cites_kept i j a) (cited_at ls i)
        (m.closed i (omega arith) a.from a.marked) in
        let moved = cited_stay (field_of p.field) (presentation_in p) (Here i) (There j) f stay (instance_at p ls h i a.from) in
        subst (λ r. IsInstance (field_of p.field) (presentation_in p) (There j) r (tree_in p.field (line_at ms j).left) (tree_in p.field (line_at ms j).right))
        (sym a.same.why)
        (subst (λ e. IsInstance (field_of p.field) (presentation_in p) (There j) (renumbered f (rule_in (line_at ls i).why)) (tree_in p.field e)
        (tree_in p.field (line_at ms j).right)) (sym a.same.left)
        (subst (λ e. IsInstance (field_of p.field) (presentation_in p) (There j) (renumbered f (rule_in (line_at ls i).why))
        (tree_in p.field (line_at ls i).left) (tree_in p.field e)) (sym a.same.right) moved))

    proof_kept : IsProof (field_of p.field) (presentation_in p) (lines_in p.field ls) → IsProof (field_of p.field) (presentation_in p) (lines_in p.field ms)
    proof_kept h j l =
        let small : j < length ms = omega (arith, l, length-map ms (line_in p.field)) in
        let a = from j small in
        subst (λ (x : proofs.Line (field_of p.field)). IsInstance (field_of p.field) (presentation_in p) (There j) x.why x.left_side x.right_side)
        (sym (at_lines p.field ms j small)) (instance_kept a.0 j a.1 h)

    pub stays : IsDistinctProof p ls → IsDistinctProof p ms
    stays h = record { some = some_kept h.some; proof = proof_kept h.proof; over = over_kept h.over; distinct = distinct_kept h.distinct }

pub numbers_count : (ls : List Line) (new : List ℕ) → AreNumbers ls new → length new ≡ length ls
numbers_count ls new n = ap length n.are ∙ length-numbered 0 n.needed ∙ n.marked.count

-- the same of any numbers of the needed lines
module _ (ls ms : List Line) (new : List ℕ) (n : AreNumbers ls new) (kept : AreKept (number_in new) ls new ms) where
  numbers_kept : AreKept (number_in (numbered 0 n.needed)) ls (numbered 0 n.needed) ms
  numbers_kept = subst (λ xs. AreKept (number_in xs) ls xs ms) n.are kept

  pub kept_proof : (p : Presentation) → IsDistinctProof p ls → IsDistinctProof p ms
  kept_proof = stays ls ms n.needed n.marked numbers_kept

  pub kept_last : 1 ≤ length ls → HasSides (last_line ms) (last_line ls).left (last_line ls).right
  kept_last = last_kept ls ms n.needed n.marked numbers_kept

  pub kept_needed : NoneIsIdle ms
  kept_needed = none_idle ls ms n.needed n.marked numbers_kept
