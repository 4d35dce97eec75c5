-- A presentation with one more claim.
use Rattle.std.proofs.Common.{◌≡◌, List, [], ◌∷◌, ◌++◌, Bool, true, false, if◌then◌else◌, refl, ap, sym, ◌∙◌}
use Rattle.std.proofs.lemmas.List.{map-append}
use Rattle.fpl_numbers.specs.declared.number.Kind.{Kind}
use Rattle.fpl_model.specs.declared.presentation.Generator.{Generator}
use Rattle.fpl_model.specs.declared.presentation.Equation.{Equation}
use Rattle.fpl_model.specs.declared.presentation.Presentation.{Presentation}
use Rattle.fpl_syntax.specs.declared.terminal.ClaimKind.{ClaimKind}
use Rattle.fpl_syntax.specs.declared.parser.Claim.{Claim}
use Rattle.fpl_reader.specs.Reading.{is_relation, is_ideal, is_equal, claimed_as, lefts, with_claim, with_claims}

joined_if : (t : Bool) (q : Equation) (a b c : List Equation) → a ≡ b ++ c → (if t then q ∷ a else a) ≡ (if t then q ∷ b else b) ++ c
joined_if true q a b c e = ap (λ qs. q ∷ qs) e
joined_if false q a b c e = e

claimed_as-append : (is : ClaimKind → Bool) (cs : List Claim) (c : Claim) → claimed_as is (cs ++ c ∷ []) ≡ claimed_as is cs ++ claimed_as is (c ∷ [])
claimed_as-append is [] c = refl
claimed_as-append is (d ∷ cs) c = joined_if (is d.kind) d.equation _ _ _ (claimed_as-append is cs c)

pub with_one_more : (kind : Kind) (gs : List Generator) (cs : List Claim) (c : Claim) (p q : Presentation) → p ≡ with_claims kind gs cs →
    q ≡ with_claim p c → q ≡ with_claims kind gs (cs ++ c ∷ [])
with_one_more kind gs cs c p q e h =
    h ∙ ap (λ p. with_claim p c) e
    ∙ ap (λ rs. record (with_claim (with_claims kind gs cs) c) { relations = rs }) (sym (claimed_as-append is_relation cs c))
    ∙ ap (λ is. record (with_claim (with_claims kind gs cs) c) { relations = claimed_as is_relation (cs ++ c ∷ []); ideals = is })
    (sym (ap lefts (claimed_as-append is_ideal cs c) ∙ map-append (λ (e : Equation). e.left) (claimed_as is_ideal cs) (claimed_as is_ideal (c ∷ []))))
    ∙ ap (λ qs. record (with_claims kind gs (cs ++ c ∷ [])) { queries = qs }) (sym (claimed_as-append is_equal cs c))
