use Rattle.fpl_print.proofs.Entries.{listed_entries}
use Rattle.fpl_print.proofs.table.symbols_of.Goals as goal

pub returns-clause-entries : goal.returns-clause-entries
returns-clause-entries g c = listed_entries c.args.table.now c.args.w c.in_ok-list.list.items c.requires c.in_ok-list.ensures.value
    c.in_ok-list.ensures.numbered
