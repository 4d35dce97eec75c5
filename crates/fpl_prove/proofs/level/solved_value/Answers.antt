use Rattle.std.proofs.Common.{◌≡◌, ◌≤◌, ◌<◌, ◌-◌, ◌++◌, ◌∷◌, [], ◌∙◌, ℕ, ap, ap₂, sym, arith, subst, length, All}
use Rattle.fpl_numbers.specs.Numbers.{IsListed}
use Rattle.fpl_forms.specs.declared.term.Term.{Term}
use Rattle.fpl_forms.specs.Forms.{IsWork, tidied}
use Rattle.fpl_forms.specs.Combining.{multiplied}
use Rattle.fpl_forms.specs.Laws.{IsForm}
use Rattle.fpl_forms.proofs.Ledgers.{grows_trans, grows_left}
use Rattle.fpl_forms.proofs.Gathering.{all_as}
use Rattle.fpl_forms.proofs.Values.{combined_add_up}
use Rattle.fpl_prove.proofs.Solving.{grows_values, left_below}
use Rattle.fpl_prove.proofs.level.solved_value.Goals as goal

pub values_of-requires-clause-values : goal.values_of-requires-clause-values
values_of-requires-clause-values c =
    grows_values (grows_trans c.in_ok-unit.ensures.grows (grows_trans c.in_ok-off.ensures.grows c.in_ok-rest.ensures.grows)) c.args.basis.now c.args.trees.now
    c.args.values.now c.requires.values

pub values_of-requires-clause-terms : goal.values_of-requires-clause-terms
values_of-requires-clause-terms c =
    let q = c.args.ledger.now.prime in
    let q1 = c.unit.new.self.prime in
    let q2 = c.zero_times.new.ledger.prime in
    let s = c.args.s in
    let zs = c.args.zero.now.terms.items in
    let r = c.prime-minus_one.result in
    let g1 = c.in_ok-unit.ensures.grows in
    let g2 = c.in_ok-off.ensures.grows in
    let unit : Term = record { atom = s; number = 1 } in
    let before : s ≤ length c.args.values.now = c.requires.before in
    let is : c.deref.result.now ≡ tidied q (unit ∷ [] ++ multiplied q (q - 1) zs) =
    c.deref.ensures.value ∙ c.in_ok-rest.ensures.terms ∙ ap₂ (λ us vs. tidied q2 (us ++ vs)) c.in_ok-unit.ensures.terms c.in_ok-off.ensures.terms
    ∙ ap (λ (p : ℕ). tidied p (unit ∷ [] ++ multiplied q1 (r - 1) zs)) (g2.prime ∙ g1.prime)
    ∙ ap (λ (p : ℕ). tidied q (unit ∷ [] ++ multiplied p (r - 1) zs)) g1.prime
    ∙ ap (λ (r : ℕ). tidied q (unit ∷ [] ++ multiplied q (r - 1) zs)) c.prime-minus_one.ensures in
    subst (All (λ (t : Term). t.atom < length c.args.values.now)) (sym is)
    (all_as (λ (t : Term). t.atom < s) (λ (t : Term). t.atom < length c.args.values.now) (λ t l. omega (arith, l, before)) _
    (left_below q c.sound.ensures.listed (length c.args.trees.now) s zs c.requires.place c.requires.zero.work.terms c.requires.solved))

pub returns-clause-value : goal.returns-clause-value
returns-clause-value c =
    let g1 = c.in_ok-unit.ensures.grows in
    let g2 = c.in_ok-off.ensures.grows in
    let g3 = c.in_ok-rest.ensures.grows in
    let L = c.plus_zero.new.ledger in
    let unit = c.in_ok-unit in
    let basis = c.args.basis.now in
    let n = length basis in
    let fs = c.deref-2.result.now in
    let works = subst (All (IsWork L basis)) (sym c.deref-2.ensures.value) c.in_ok-facts.ensures.works in
    let listed = subst IsListed (sym (g3.prime ∙ g2.prime ∙ g1.prime)) c.sound.ensures.listed in
    let form = (combined_add_up L.prime (length c.args.trees.now) n c.in_ok-rest.rest.terms.items fs listed c.in_ok-rest.ensures.fact.work.terms
    (λ i d l. (works i d l).terms)).0 in
    record {
      fact = record {
        work = c.in_ok-value.ensures.work;
        left = c.in_ok-value.ensures.left ∙ c.in_ok-rest.ensures.fact.left ∙ grows_left g2 unit.unit.line unit.ensures.work.within ∙ unit.ensures.left;
      };
      form = subst (λ (q : ℕ). IsForm q n c.in_ok-value.value.terms.items) (sym c.in_ok-value.ensures.grows.prime)
          (subst (IsForm L.prime n) (sym c.in_ok-value.ensures.terms) form);
    }
