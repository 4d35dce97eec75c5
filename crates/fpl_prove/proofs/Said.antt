-- The proof that the last line of a ledger gives.
use Rattle.std.specs.Prelude.{IsErrOf}
use Rattle.std.proofs.Common.{◌≡◌, ℕ, ◌<◌, ◌-◌, Err, List, length, take, get_or, sym, ap, subst, ◌∙◌, arith}
use Rattle.std.proofs.lemmas.List.{length-map, length-take-le, get_or-take}
use Rattle.fpl_numbers.specs.Kinds.{field_of}
use Rattle.math_proofs.specs.Rules.{IsProof}
use Rattle.fpl_model.specs.declared.expr.Expr.{Expr}
use Rattle.fpl_model.specs.declared.presentation.Presentation.{Presentation}
use Rattle.fpl_model.specs.declared.presentation.Equation.{Equation}
use Rattle.fpl_model.specs.Meaning.{presentation_in}
use Rattle.fpl_lines.specs.declared.line.Line.{Line}
use Rattle.fpl_lines.specs.Meaning.{line_in, lines_in, AreLines}
use Rattle.fpl_why.specs.Checking.{AreInstances}
use Rattle.fpl_forms.specs.Distinct.{line_number, HasSides, AreDistinct}
use Rattle.fpl_forms.specs.Ledgers.{PlainLedger, Says, no_line}
use Rattle.fpl_needed.specs.Needed.{IsDistinctProof, last_line, NoneIsIdle}
use Rattle.fpl_reasons.specs.Why.{IsProofOf}

instances : (p : Presentation) (ls : List Line) → IsProof (field_of p.field) (presentation_in p) (lines_in p.field ls) → AreInstances p ls
instances p ls proof m l = proof m (subst (λ n. m < n) (sym (length-map ls (line_in p.field))) l)

-- the first n lines, of which the last says something
pub whole : (L : PlainLedger) (n : ℕ) (e f : Expr) (ls : List Line) → Says L n e f → ls ≡ take n L.lines →
    IsProof (field_of L.presentation.field) (presentation_in L.presentation) (lines_in L.presentation.field ls) → AreLines L.presentation ls →
    AreDistinct ls → IsDistinctProof L.presentation ls
whole L n e f ls says is proof over distinct =
    let long : length ls ≡ n = ap length is ∙ length-take-le n L.lines says.to_end in
    record { some = omega (arith, long, says.from_one); proof = proof; over = over; distinct = distinct }

-- those of them that are needed, where the last says the two sides of a query
pub proof_of : (p : Presentation) (q : Equation) (L : PlainLedger) (n : ℕ) (ls ms : List Line) → L.presentation ≡ p → Says L n q.left q.right →
    ls ≡ take n L.lines → IsDistinctProof L.presentation ls → ((r : Presentation) → IsDistinctProof r ls → IsDistinctProof r ms) →
    HasSides (last_line ms) (last_line ls).left (last_line ls).right → NoneIsIdle ms → IsProofOf p q ms
proof_of p q L n ls ms e says is first stays last needed =
    let long : length ls ≡ n = ap length is ∙ length-take-le n L.lines says.to_end in
    let line : last_line ls ≡ get_or L.lines (n - 1) no_line =
    ap (λ m. line_number ls m) long ∙ ap (λ xs. get_or xs (n - 1) no_line) is ∙ get_or-take n L.lines (n - 1) no_line (omega (arith, says.from_one)) in
    let h : IsDistinctProof p ms = subst (λ r. IsDistinctProof r ms) e (stays L.presentation first) in
    record {
      over = h.over;
      accepted = instances p ms h.proof;
      distinct = h.distinct;
      some = h.some;
      proves = (last.0 ∙ ap (λ (l : Line). l.left) line ∙ says.left, last.1 ∙ ap (λ (l : Line). l.right) line ∙ says.right);
      needed = needed;
    }

-- an error in place of one value is that in place of another
pub same_error : {X Y E : Type 0} (x y : E) → IsErrOf {T = X} (Err x) y → IsErrOf {T = Y} (Err x) y
same_error x y e = let same : x ≡ y = cc in ap Err same
