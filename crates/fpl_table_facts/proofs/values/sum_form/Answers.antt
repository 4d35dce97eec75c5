use Rattle.std.proofs.Common.{length, sym, subst}
use Rattle.fpl_forms.specs.Forms.{IsWork}
use Rattle.fpl_forms.specs.Laws.{IsForm}
use Rattle.fpl_forms.proofs.Gathering.{all_terms}
use Rattle.fpl_forms.proofs.Values.{joined_add_up}
use Rattle.fpl_table_facts.proofs.Grown.{grows_form, grows_known}
use Rattle.fpl_table_facts.proofs.values.sum_form.Goals as goal

pub returns-clause-form : goal.returns-clause-form
returns-clause-form c =
    let L = c.args.ledger.now in
    let f = c.in_ok-fact in
    let atoms = c.args.known.now.basis.items in
    record {
      fact = record {
        work = subst (λ atoms. IsWork c.sum.new.self atoms f.fact) c.deref.ensures.value f.ensures.work;
        left = f.ensures.left;
      };
      form = grows_form f.ensures.grows (length atoms) f.fact.terms.items
          (subst (IsForm L.prime (length atoms)) (sym f.ensures.terms)
          (joined_add_up L.prime (length atoms) c.args.facts.now c.sound.ensures.listed (all_terms L atoms c.args.facts.now c.requires.facts)).0);
    }

pub returns-clause-known : goal.returns-clause-known
returns-clause-known c = grows_known c.in_ok-fact.ensures.grows c.requires.known
