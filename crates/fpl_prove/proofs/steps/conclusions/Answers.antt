use Rattle.std.proofs.Common.{◌≡◌, ◌≤◌, ◌<◌, ◌+◌, ◌∙◌, ◌++◌, ◌∷◌, [], ℕ, suc, subst, sym, ap, arith, length, drop, List, All}
use Rattle.std.proofs.lemmas.List.{length-append}
use Rattle.std.proofs.lemmas.Option.{slice_get_within}
use Rattle.fpl_rows.proofs.Fits.{all_more}
use Rattle.fpl_log.proofs.TermsTaken.{past_end}
use Rattle.fpl_forms.specs.declared.term.Fact.{Fact}
use Rattle.fpl_forms.proofs.Ledgers.{grows_refl, grows_trans}
use Rattle.fpl_facts.specs.Facts.{IsZero}
use Rattle.fpl_prove.specs.Concluding.{IsStepFor, IsConclusionOf}
use Rattle.fpl_table_facts.proofs.Grown.{grows_known, grows_next}
use Rattle.fpl_prove.proofs.Reading.{grows_zeros}
use Rattle.fpl_prove.proofs.Concluded.{IsPart, first_part, is_step, next_part, part_here, last_part}
use Rattle.fpl_prove.proofs.steps.conclusions.Goals.{in-None, in-Some+in_ok-zero-in-Some+in_ok-push-in-Some}
use Rattle.fpl_prove.proofs.steps.conclusions.Goals as goal

pub loop-i-init : goal.loop-i-init
loop-i-init c =
    let L = c.args.ledger.now in
    let T = c.args.known.now.table in
    let n = c.args.next.now in
    let s = c.args.section.now in
    let none : [] ≡ c.new-zeros.result.items = sym c.new-zeros.ensures.items in
    record {
      presentation = c.requires.presentation;
      grows = grows_refl L;
      known = c.requires.known;
      next = c.requires.next;
      most = omega arith;
      zeros = subst (All (IsZero L n.trees.items)) none (λ i d l. absurd (omega (arith, l)));
      count = ap length (sym none);
      part = subst (IsPart L T n s.steps s.steps) none (first_part T n s c.requires.section L c.requires.concluded.0 c.requires.concluded.1);
    }

pub step_zero-requires-clause-step : goal.step_zero-requires-clause-step
step_zero-requires-clause-step c =
    let i = c.loop-i.invariant in
    let L = c.loop-i.ledger in
    let T = c.args.known.now.table in
    let n = c.args.next.now in
    let s = c.args.section.now in
    let zs = c.loop-i.zeros.items in
    let step = c.in-Some.step.now in
    subst (λ (fs : List Fact). IsStepFor T L.presentation (length fs) step) (sym c.deref.ensures.value)
    (is_step T n s c.requires.section L i.known.holds zs c.loop-i.i step c.in-Some.ensures (drop (suc c.loop-i.i) s.steps)
    (part_here L T n s.steps zs c.loop-i.i step c.in-Some.ensures i.part))

pub step_zero-requires-clause-zeros : goal.step_zero-requires-clause-zeros
step_zero-requires-clause-zeros c =
    subst (All (IsZero c.loop-i.ledger c.args.next.now.trees.items)) (sym c.deref.ensures.value) c.loop-i.invariant.zeros

pub loop-i-preserved : goal.loop-i-preserved
loop-i-preserved c =
    let i = c.loop-i.invariant in
    let L = c.loop-i.ledger in
    let T = c.args.known.now.table in
    let n = c.args.next.now in
    let s = c.args.section.now in
    let zs = c.loop-i.zeros.items in
    let k = c.loop-i.i in
    elim c.match-get.branch [
      | in-None w ↦ absurd (let l : length s.steps ≤ k = past_end s.steps k w.in-None.ensures in
          let h = c.loop-i-test.true in let e = c.len-i-end.ensures.value in omega (arith, l, h, e))
      | in-Some+in_ok-zero-in-Some+in_ok-push-in-Some w ↦
          let M = w.step_zero.new.ledger in
          let g = w.in_ok-zero-in-Some.ensures.grows in
          let f = w.in_ok-zero-in-Some.zero in
          let step = w.in-Some.step.now in
          let got = w.in-Some.ensures in
          let more : c.match-get.zeros.items ≡ zs ++ f ∷ [] = ap (λ v. v.items) w.zeros-is ∙ w.in_ok-push-in-Some.ensures.items in
          let made = subst (λ (fs : List Fact). IsConclusionOf L M T n fs step f) w.deref.ensures.value w.in_ok-zero-in-Some.ensures.concluded in
          let most : k < length s.steps = slice_get_within s.steps k step (sym got) in
          let one : suc k ≡ k + 1 = omega arith in
          let part = next_part T n s c.requires.section L i.known.holds zs k step got (drop (suc k) s.steps) (part_here L T n s.steps zs k step got i.part)
          M g f c.match-get.zeros.items more made in
          record {
            presentation = rw w.ledger-is (i.presentation ∙ sym g.presentation);
            grows = rw w.ledger-is (grows_trans i.grows g);
            known = rw w.ledger-is (grows_known g i.known);
            next = rw w.ledger-is (grows_next g i.next);
            most = omega (arith, most);
            zeros = rw w.ledger-is (subst (All (IsZero M n.trees.items)) (sym more)
                (all_more (IsZero M n.trees.items) zs f (grows_zeros g n.trees.items zs i.zeros) w.in_ok-zero-in-Some.ensures.zero));
            count = (let e = ap length more ∙ length-append zs (f ∷ []) in let l = i.count in omega (arith, e, l));
            part = rw w.ledger-is (subst (λ (j : ℕ). IsPart M T n s.steps (drop j s.steps) c.match-get.zeros.items) one part);
          }
    ]

pub returns-clause-zeros : goal.returns-clause-zeros
returns-clause-zeros c =
    last_part c.args.ledger.now c.loop-i.ledger c.loop-i.invariant.grows c.args.known.now.table c.args.next.now c.args.section.now c.loop-i.zeros.items
    c.loop-i.i
    (let h = c.loop-i-test.false in let e = c.len-i-end.ensures.value in omega (arith, h, e)) c.loop-i.invariant.part
