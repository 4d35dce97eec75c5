use Rattle.std.proofs.Common.{◌≡◌, List, length, reverse, sym, subst, ◌∙◌}
use Rattle.fpl_model.specs.declared.presentation.Presentation.{Presentation}
use Rattle.fpl_lines.specs.declared.line.Line.{Line}
use Rattle.fpl_forms.specs.Distinct.{HasSides}
use Rattle.fpl_needed.specs.Needed.{IsDistinctProof, NoneIsIdle, last_line}
use Rattle.fpl_needed.specs.Numbers.{CiteEarlier, AreNumbers, AreKept, number_in}
use Rattle.fpl_needed.proofs.Kept.{cite_earlier, numbers_count, kept_proof, kept_last, kept_needed}
use Rattle.fpl_needed.proofs.keeping.needed_lines.Goals as goal

pub numbers-requires-clause-cite : goal.numbers-requires-clause-cite
numbers-requires-clause-cite c = subst CiteEarlier (sym c.as_slice.ensures) (cite_earlier c.requires.0 c.args.proof c.requires.1)

pub taken-requires-clause-cite : goal.taken-requires-clause-cite
taken-requires-clause-cite c = cite_earlier c.requires.0 c.args.proof c.requires.1

pub taken-requires-clause-count : goal.taken-requires-clause-count
taken-requires-clause-count c =
    let n : AreNumbers c.args.proof c.in_ok-new.new.items = subst (λ ls. AreNumbers ls c.in_ok-new.new.items) c.as_slice.ensures c.in_ok-new.ensures in
    subst (λ xs. length xs ≡ length c.args.proof) (sym c.as_slice-2.ensures.value) (numbers_count c.args.proof c.in_ok-new.new.items n)

pub returns-clause-proof : goal.returns-clause-proof
returns-clause-proof c =
    let n : AreNumbers c.args.proof c.in_ok-new.new.items = subst (λ ls. AreNumbers ls c.in_ok-new.new.items) c.as_slice.ensures c.in_ok-new.ensures in
    let k : AreKept (number_in c.in_ok-new.new.items) c.args.proof c.in_ok-new.new.items (reverse c.in_ok-lines.lines.items) =
    subst (λ xs. AreKept (number_in xs) c.args.proof xs (reverse c.in_ok-lines.lines.items)) c.as_slice-2.ensures.value c.in_ok-lines.ensures in
    let is : c.from_vec.result ≡ reverse c.in_ok-lines.lines.items = c.from_vec.ensures ∙ c.reverse.ensures.items in
    subst (λ ls. (p : Presentation) → IsDistinctProof p c.args.proof → IsDistinctProof p ls) (sym is)
    (kept_proof c.args.proof (reverse c.in_ok-lines.lines.items) c.in_ok-new.new.items n k)

pub returns-clause-last : goal.returns-clause-last
returns-clause-last c =
    let n : AreNumbers c.args.proof c.in_ok-new.new.items = subst (λ ls. AreNumbers ls c.in_ok-new.new.items) c.as_slice.ensures c.in_ok-new.ensures in
    let k : AreKept (number_in c.in_ok-new.new.items) c.args.proof c.in_ok-new.new.items (reverse c.in_ok-lines.lines.items) =
    subst (λ xs. AreKept (number_in xs) c.args.proof xs (reverse c.in_ok-lines.lines.items)) c.as_slice-2.ensures.value c.in_ok-lines.ensures in
    let is : c.from_vec.result ≡ reverse c.in_ok-lines.lines.items = c.from_vec.ensures ∙ c.reverse.ensures.items in
    subst (λ (ls : List Line). HasSides (last_line ls) (last_line c.args.proof).left (last_line c.args.proof).right) (sym is)
    (kept_last c.args.proof (reverse c.in_ok-lines.lines.items) c.in_ok-new.new.items n k c.requires.1.some)

pub returns-clause-needed : goal.returns-clause-needed
returns-clause-needed c =
    let n : AreNumbers c.args.proof c.in_ok-new.new.items = subst (λ ls. AreNumbers ls c.in_ok-new.new.items) c.as_slice.ensures c.in_ok-new.ensures in
    let k : AreKept (number_in c.in_ok-new.new.items) c.args.proof c.in_ok-new.new.items (reverse c.in_ok-lines.lines.items) =
    subst (λ xs. AreKept (number_in xs) c.args.proof xs (reverse c.in_ok-lines.lines.items)) c.as_slice-2.ensures.value c.in_ok-lines.ensures in
    let is : c.from_vec.result ≡ reverse c.in_ok-lines.lines.items = c.from_vec.ensures ∙ c.reverse.ensures.items in
    subst NoneIsIdle (sym is) (kept_needed c.args.proof (reverse c.in_ok-lines.lines.items) c.in_ok-new.new.items n k)
