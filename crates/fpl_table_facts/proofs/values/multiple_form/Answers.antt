use Rattle.std.proofs.Common.{◌<◌, length, ap₂, sym, subst, ◌∙◌}
use Rattle.fpl_model.specs.declared.expr.Expr.TheVariants.{Times}
use Rattle.fpl_forms.specs.Forms.{IsWork}
use Rattle.fpl_forms.specs.Laws.{IsForm}
use Rattle.fpl_table_facts.proofs.Grown.{grows_form, grows_known}
use Rattle.fpl_table_facts.proofs.Levels.{multiplied_form}
use Rattle.fpl_table_facts.proofs.values.multiple_form.Goals as goal

pub returns-clause-form : goal.returns-clause-form
returns-clause-form c =
    let L = c.args.ledger.now in
    let f = c.in_ok-fact in
    let atoms = c.args.known.now.basis.items in
    let r = c.residue_part-residue in
    record {
      fact = record {
        work = subst (λ atoms. IsWork c.times.new.self atoms f.fact) c.deref.ensures.value f.ensures.work;
        left = f.ensures.left ∙ ap₂ Times r.ensures.value c.requires.factor.fact.left;
      };
      form = grows_form f.ensures.grows (length atoms) f.fact.terms.items
          (subst (IsForm L.prime (length atoms)) (sym f.ensures.terms)
          (multiplied_form L.prime (length atoms) r.result c.args.factor.now.terms.items c.sound.ensures.listed
          (subst (λ q. r.result < q) c.prime.ensures r.ensures.below) c.requires.factor.form));
    }

pub returns-clause-known : goal.returns-clause-known
returns-clause-known c = grows_known c.in_ok-fact.ensures.grows c.requires.known
