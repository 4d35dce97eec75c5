use Rattle.std.proofs.Common.{◌≡◌, ◌<◌, ◌≤◌, ◌+◌, ◌-◌, ◌++◌, ◌∙◌, List, subst, sym, ap, ap₂, map, take, drop, length, arith, All}
use Rattle.std.proofs.Math.Seq.{take-length, drop-length}
use Rattle.std.proofs.lemmas.List.{append-nil}
use Rattle.fpl_model.specs.declared.expr.Expr.{Expr}
use Rattle.fpl_model.specs.declared.expr.Expr.TheVariants.{Sum}
use Rattle.fpl_forms.specs.declared.term.Term.{Term}
use Rattle.fpl_forms.specs.declared.term.Fact.{Fact}
use Rattle.fpl_forms.specs.Ledgers.{AreWithin, left_of, right_of}
use Rattle.fpl_forms.specs.Forms.{AreTermsOf, sum_expr}
use Rattle.fpl_forms.specs.Combining.{terms_of, joined, half_expr}
use Rattle.fpl_forms.proofs.Ledgers.{grows_trans}
use Rattle.fpl_forms.proofs.Moves.{grows_atoms}
use Rattle.fpl_forms.proofs.Gathering.{lines_within, lines_left, lines_right, all_terms, grows_works}
use Rattle.fpl_forms.proofs.Combined.{joined_more}
use Rattle.fpl_forms.proofs.ledger.Ledger.flatten.Goals as goal

pub parts-requires : goal.parts-requires
parts-requires c =
    subst (AreWithin c.args.self.now) (sym c.in_ok-lines.ensures) (lines_within c.args.self.now c.args.atoms.now c.args.facts.now c.requires.facts)

pub loop-at-init : goal.loop-at-init
loop-at-init c =
    let L = c.args.self.now in
    let P = c.parts.new.self in
    let g = c.in_ok-line.ensures.grows in
    let says = c.in_ok-line.ensures.says in
    let atoms = c.args.atoms.now in
    let facts = c.args.facts.now in
    let forms : List Expr = map (λ f. sum_expr atoms (terms_of f)) facts in
    record {
      grows = g;
      atoms = grows_atoms g atoms c.requires.atoms;
      facts = all_terms P atoms facts (grows_works g atoms facts c.requires.facts);
      small = omega arith;
      part = record {
        within = (says.from_one, says.to_end);
        right = says.right ∙ ap (λ es. Sum es) (ap (map (right_of L)) c.in_ok-lines.ensures ∙ lines_right L atoms facts c.requires.facts) ∙
            ap (λ es. Sum es) (sym (append-nil forms)) ∙ ap₂ (half_expr atoms) (sym (take-length facts)) (sym c.new.ensures.items);
        terms = subst (AreTermsOf P.prime (length atoms)) (sym c.new.ensures.items) (λ i d lt. absurd (omega (arith, lt)));
      };
      left = says.left ∙ ap (λ es. Sum es) (ap (map (left_of L)) c.in_ok-lines.ensures ∙ lines_left L atoms facts);
      terms = c.new.ensures.items ∙ sym (ap joined (drop-length facts));
    }

pub loop-at-preserved : goal.loop-at-preserved
loop-at-preserved c =
    let i = c.loop-at.invariant in
    let g = c.in_ok-part.ensures.grows in
    let atoms = c.args.atoms.now in
    let facts = c.args.facts.now in
    let f : Fact = c.index-facts-at.result in
    let at = c.loop-at.at - 1 in
    let some : 0 < c.loop-at.at = c.loop-at-test.true in
    let small : c.loop-at.at ≤ length facts = i.small in
    let lt : at < length facts = omega (arith, some, small) in
    let next : c.loop-at.at ≡ at + 1 = omega (arith, some) in
    record {
      grows = grows_trans i.grows g;
      atoms = grows_atoms g atoms i.atoms;
      facts = subst (λ q. All (λ f. AreTermsOf q (length atoms) (terms_of f)) facts) (sym g.prime) i.facts;
      small = omega (arith, lt);
      part = c.in_ok-part.ensures.part;
      left = c.in_ok-part.ensures.left ∙ i.left;
      terms = c.in_ok-part.ensures.terms ∙
          ap₂ (λ (f : Fact) (ts : List Term). terms_of f ++ ts) c.index-facts-at.is (i.terms ∙ ap (λ n. joined (drop n facts)) next) ∙
          sym (joined_more facts at f lt);
    }
