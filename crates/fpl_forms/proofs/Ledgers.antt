-- What ledgers say, as they grow.
use Rattle.std.proofs.Common.{◌≡◌, ◌<◌, ◌+◌, ◌-◌, ◌++◌, ℕ, zero, suc, List, [], ◌∷◌, length, map, get_or, refl, ap, sym, subst, ◌∙◌, arith, All}
use Rattle.std.proofs.lemmas.List.{get_or_append_left, get_or-map, length-append, length-map, map-append, append-nil, append_assoc}
use Rattle.std.proofs.lemmas.List.Elements.{All-append, All-get_or}
use Rattle.fpl_numbers.specs.declared.number.Kind.{Kind}
use Rattle.fpl_numbers.specs.Kinds.{field_of}
use Rattle.math_proofs.specs.Renumbering.{RenumberedStays}
use Rattle.math_proofs.specs.Rules.{Cites, IsProof, IsInstance}
use Rattle.math_proofs.specs.Rules as proofs
use Rattle.fpl_model.specs.declared.expr.Expr.{Expr}
use Rattle.fpl_model.specs.Meaning.{tree_in, presentation_in}
use Rattle.fpl_lines.specs.declared.line.Line.{Line}
use Rattle.fpl_lines.specs.Meaning.{line_in, IsLine}
use Rattle.fpl_forms.specs.Ledgers.{PlainLedger, IsExpr, proof_in, IsSoundLedger, IsNextLine, Grows, no_line, line_of, left_of, right_of, Says, IsWithin, AreWithin}
use Rattle.fpl_forms.proofs.Lines.{proof_more}

pub all_one : {X : Type 0} (P : X → Type 0) (x : X) → P x → All P (x ∷ [])
all_one P x h zero d lt = h
all_one P x h (suc i) d lt = absurd (omega (arith, lt))

abbrev pub with_line : PlainLedger → Line → PlainLedger
with_line L l = record { presentation = L.presentation; prime = L.prime; lines = L.lines ++ l ∷ [] }

pub sound_more : ((k : Kind) → RenumberedStays (field_of k)) → (L : PlainLedger) (l : Line) → IsSoundLedger L → IsNextLine L l → IsSoundLedger (with_line L l)
sound_more stays L l s n =
    let k = L.presentation.field in
    let K = field_of k in
    let P = presentation_in L.presentation in
    record {
      field = s.field;
      listed = s.listed;
      proof = subst (IsProof K P) (sym (map-append (line_in k) L.lines (l ∷ [])))
          (proof_more K P (stays k) (proof_in L) (line_in k l) s.proof
          (subst (λ m. IsInstance K P (Cites K (proof_in L) m) (line_in k l).why (line_in k l).left_side (line_in k l).right_side)
          (sym (length-map L.lines (line_in k))) n.instance_of));
      over = All-append (IsLine L.presentation) L.lines (l ∷ []) s.over (all_one (IsLine L.presentation) l n.over);
    }

-- a line by number
module _ (L : PlainLedger) (n : ℕ) (w : IsWithin L n) where
  here : n - 1 < length L.lines
  here = omega (arith, w.0, w.1)

  pub cited : Cites (field_of L.presentation.field) (proof_in L) (length L.lines) n (tree_in L.presentation.field (left_of L n))
      (tree_in L.presentation.field (right_of L n))
  cited =
      let k = L.presentation.field in
      let at = get_or-map (line_in k) L.lines (n - 1) no_line (proofs.no_line (field_of k)) here in
      record {
        which = n - 1;
        counts = omega (arith, w.0);
        before = here;
        its_left = ap (λ l. l.left_side) at;
        its_right = ap (λ l. l.right_side) at;
      }

  pub sides_over : IsSoundLedger L → IsExpr L.presentation (left_of L n) × IsExpr L.presentation (right_of L n)
  sides_over s = All-get_or (IsLine L.presentation) L.lines (n - 1) no_line here s.over

pub grows_refl : (L : PlainLedger) → Grows L L
grows_refl L = record { presentation = refl; prime = refl; more = []; lines = sym (append-nil L.lines) }

pub grows_trans : {L M N : PlainLedger} → Grows L M → Grows M N → Grows L N
grows_trans {L} {M} {N} g h = record {
  presentation = h.presentation ∙ g.presentation;
  prime = h.prime ∙ g.prime;
  more = g.more ++ h.more;
  lines = h.lines ∙ ap (λ ls. ls ++ h.more) g.lines ∙ append_assoc L.lines g.more h.more;
}

module _ {L M : PlainLedger} (g : Grows L M) where
  pub grows_within : (n : ℕ) → IsWithin L n → IsWithin M n
  grows_within n w =
      let longer : length M.lines ≡ length L.lines + length g.more = ap length g.lines ∙ length-append L.lines g.more in
      (w.0, omega (arith, w.1, longer))

  pub grows_line : (n : ℕ) → IsWithin L n → line_of M n ≡ line_of L n
  grows_line n w =
      ap (λ ls. get_or ls (n - 1) no_line) g.lines ∙ get_or_append_left L.lines g.more no_line (n - 1) (omega (arith, w.0, w.1))

  pub grows_left : (n : ℕ) → IsWithin L n → left_of M n ≡ left_of L n
  grows_left n w = ap (λ l. l.left) (grows_line n w)

  pub grows_right : (n : ℕ) → IsWithin L n → right_of M n ≡ right_of L n
  grows_right n w = ap (λ l. l.right) (grows_line n w)

  pub grows_says : {n : ℕ} {e f : Expr} → Says L n e f → Says M n e f
  grows_says {n} s =
      let w = grows_within n (s.from_one, s.to_end) in
      record {
        from_one = w.0;
        to_end = w.1;
        left = grows_left n (s.from_one, s.to_end) ∙ s.left;
        right = grows_right n (s.from_one, s.to_end) ∙ s.right;
      }

  pub grows_all : (ns : List ℕ) → AreWithin L ns → AreWithin M ns
  grows_all ns h i d lt = grows_within (get_or ns i d) (h i d lt)

  pub grows_lefts : (ns : List ℕ) → AreWithin L ns → map (left_of M) ns ≡ map (left_of L) ns
  grows_lefts [] h = refl
  grows_lefts (n ∷ ns) h =
      ap (λ e. e ∷ map (left_of M) ns) (grows_left n (h zero n (omega arith))) ∙
      ap (λ es. left_of L n ∷ es) (grows_lefts ns (λ i d lt. h (suc i) d (omega (arith, lt))))

  pub grows_rights : (ns : List ℕ) → AreWithin L ns → map (right_of M) ns ≡ map (right_of L) ns
  grows_rights [] h = refl
  grows_rights (n ∷ ns) h =
      ap (λ e. e ∷ map (right_of M) ns) (grows_right n (h zero n (omega arith))) ∙
      ap (λ es. right_of L n ∷ es) (grows_rights ns (λ i d lt. h (suc i) d (omega (arith, lt))))
