use Rattle.std.proofs.Common.{◌≡◌, None, rules, sym}
use Rattle.std.specs.Prelude.{slice_get}
use Rattle.std.proofs.lemmas.List.{append-nil}
use Rattle.fpl_spelling.proofs.NamesPast.{name_past}
use Rattle.fpl_spelling.proofs.names.push_name.Goals as goal

pub returns-in-None-clause-text : goal.returns-in-None-clause-text
returns-in-None-clause-text c =
    let past : slice_get c.args.generators.now c.saturating_sub.result ≡ None = search rules in
    rw (← c.saturating_sub.ensures, name_past (λ g. g.name) c.args.generators.now c.saturating_sub.result past) (sym (append-nil c.args.out.now.items))
