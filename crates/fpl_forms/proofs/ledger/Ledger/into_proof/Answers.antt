use Rattle.std.proofs.Common.{◌≡◌, ◌≤◌, ◌∙◌, subst, sym, ap, take}
use Rattle.std.proofs.lemmas.List.{take-map, length-map}
use Rattle.fpl_numbers.specs.Kinds.{field_of}
use Rattle.math_proofs.specs.Rules.{IsProof}
use Rattle.fpl_model.specs.Meaning.{presentation_in}
use Rattle.fpl_lines.specs.Meaning.{line_in, lines_in, IsLine, AreLines}
use Rattle.fpl_forms.specs.Ledgers.{PlainLedger, IsSoundLedger, proof_in}
use Rattle.fpl_forms.proofs.Lines.{proof_first, all_first}
use Rattle.fpl_forms.proofs.ledger.Ledger.into_proof.Goals as goal

pub returns-clause-proof : goal.returns-clause-proof
returns-clause-proof c =
    let L = c.args.self in
    let n = c.args.n in
    let k = L.presentation.field in
    let P = presentation_in L.presentation in
    let sound = subst IsSoundLedger c.self.view_is c.self.invariant in
    let is : c.into_first.result ≡ take n L.lines = c.into_first.ensures.lines ∙ ap (λ (L : PlainLedger). take n L.lines) c.self.view_is in
    subst (λ ls. IsProof (field_of k) P (lines_in k ls)) (sym is)
    (subst (IsProof (field_of k) P) (take-map (line_in k) n L.lines)
    (proof_first (field_of k) P (c.lines_may_be_renumbered.ensures k) (proof_in L) n
    (subst (λ m. n ≤ m) (sym (length-map L.lines (line_in k))) c.requires) sound.proof))

pub returns-clause-over : goal.returns-clause-over
returns-clause-over c =
    let L = c.args.self in
    let n = c.args.n in
    let sound = subst IsSoundLedger c.self.view_is c.self.invariant in
    let is : c.into_first.result ≡ take n L.lines = c.into_first.ensures.lines ∙ ap (λ (L : PlainLedger). take n L.lines) c.self.view_is in
    subst (AreLines L.presentation) (sym is) (all_first (IsLine L.presentation) L.lines n c.requires sound.over)
