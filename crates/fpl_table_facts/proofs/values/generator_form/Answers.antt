use Rattle.std.proofs.Common.{ap, sym, ◌∙◌}
use Rattle.fpl_model.specs.Meaning.{generators_in}
use Rattle.fpl_table_facts.proofs.Reached.{reached_gen}
use Rattle.fpl_table_facts.proofs.Generators.{generator_within, generator_there}
use Rattle.fpl_table_facts.proofs.values.generator_form.Goals as goal

pub symbol_form-requires-clause-weight : goal.symbol_form-requires-clause-weight
symbol_form-requires-clause-weight c =
    let p = c.args.p.now in
    let T = c.args.known.now.table in
    let h = c.requires.known.holds in
    generator_within p T h.shape (h.generators ∙ ap generators_in (sym c.requires.presentation)) c.as_slice.result.now c.as_slice.ensures c.args.g
    c.index-as_slice-g.result (reached_gen p T.weight c.args.g c.requires.reached)

pub symbol_form-requires-clause-listed : goal.symbol_form-requires-clause-listed
symbol_form-requires-clause-listed c =
    let p = c.args.p.now in
    let T = c.args.known.now.table in
    let h = c.requires.known.holds in
    generator_there p T h.shape (h.generators ∙ ap generators_in (sym c.requires.presentation)) c.as_slice.result.now c.as_slice.ensures c.args.g
    c.index-as_slice-g.result (reached_gen p T.weight c.args.g c.requires.reached)
