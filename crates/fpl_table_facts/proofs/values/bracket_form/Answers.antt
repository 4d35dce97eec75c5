use Rattle.std.proofs.Common.{◌≤◌, ◌+◌, List, length, map, ap₂, sym, subst, ◌∙◌, All}
use Rattle.fpl_numbers.specs.Numbers.{IsListed}
use Rattle.fpl_model.specs.declared.expr.Expr.TheVariants.{Br}
use Rattle.fpl_table.specs.Plain.{plain_basis}
use Rattle.fpl_forms.specs.declared.term.Term.{Term}
use Rattle.fpl_forms.specs.declared.term.Fact.{Fact}
use Rattle.fpl_forms.specs.Forms.{IsWork}
use Rattle.fpl_forms.specs.Laws.{IsForm, AreFactsOf}
use Rattle.fpl_forms.specs.Combining.{AreRows}
use Rattle.fpl_forms.proofs.Ledgers.{grows_left, grows_trans}
use Rattle.fpl_forms.proofs.Moves.{grows_terms}
use Rattle.fpl_forms.proofs.Gathering.{all_as, all_terms}
use Rattle.fpl_forms.proofs.Values.{bracketed_add_up}
use Rattle.fpl_table_facts.proofs.Grown.{grows_form, grows_known}
use Rattle.fpl_table_facts.proofs.Reached.{both_reached}
use Rattle.fpl_table_facts.proofs.Weights.{pair_weights}
use Rattle.fpl_table_facts.proofs.values.bracket_form.Goals as goal

pub products-requires-clause-weights : goal.products-requires-clause-weights
products-requires-clause-weights c =
    let L = c.args.ledger.now in
    let k = c.args.known.now in
    let T = k.table in
    let x = c.args.left.now in
    let y = c.args.right.now in
    let both = both_reached L.presentation T.weight c.args.a.now c.args.b.now c.requires.weight c.requires.some_a c.requires.some_b in
    let all = pair_weights L c.sound.ensures k c.requires.known c.args.a.now c.args.b.now x y c.requires.first c.requires.second c.requires.left
    c.requires.right both in
    subst (λ ss. All (λ (s : Term). All (λ (t : Term). (plain_basis T s.atom).weight + (plain_basis T t.atom).weight ≤ T.weight) c.deref-2.result.now) ss)
    (sym c.deref.ensures.value)
    (subst (λ ts. All (λ (s : Term). All (λ (t : Term). (plain_basis T s.atom).weight + (plain_basis T t.atom).weight ≤ T.weight) ts) x.terms.items)
    (sym c.deref-2.ensures.value) all)

pub returns-clause-form : goal.returns-clause-form
returns-clause-form c =
    let g = c.in_ok-rows.ensures.grows in
    let M = c.products.new.ledger in
    let n = length c.args.known.now.basis.items in
    let atoms = c.args.known.now.basis.items in
    let x = c.args.left.now in
    let y = c.args.right.now in
    let f = c.in_ok-fact in
    let rows : List (List Fact) = map (λ r. r.items) c.deref-5.result.now in
    let are : AreRows M atoms atoms c.deref.result.now c.deref-2.result.now rows =
    subst (λ rs. AreRows M atoms atoms c.deref.result.now c.deref-2.result.now (map (λ r. r.items) rs)) (sym c.deref-5.ensures.value) c.in_ok-rows.ensures.rows in
    let of : All (AreFactsOf M.prime n) rows =
    all_as (All (IsWork M atoms)) (AreFactsOf M.prime n) (λ r w. all_terms M atoms r w) rows are.works in
    record {
      fact = record {
        work = subst (λ es. IsWork c.bracket.new.self es f.fact) c.deref-4.ensures.value f.ensures.work;
        left = f.ensures.left ∙ ap₂ Br (grows_left g x.line c.requires.left.fact.work.within ∙ c.requires.left.fact.left)
            (grows_left g y.line c.requires.right.fact.work.within ∙ c.requires.right.fact.left);
      };
      form = grows_form f.ensures.grows n f.fact.terms.items
          (subst (IsForm M.prime n) (sym f.ensures.terms)
          (bracketed_add_up M.prime n n x.terms.items y.terms.items rows (subst IsListed (sym g.prime) c.sound.ensures.listed)
          (grows_terms g n x.terms.items c.requires.left.form.terms) (grows_terms g n y.terms.items c.requires.right.form.terms) of).0);
    }

pub returns-clause-known : goal.returns-clause-known
returns-clause-known c = grows_known (grows_trans c.in_ok-rows.ensures.grows c.in_ok-fact.ensures.grows) c.requires.known
