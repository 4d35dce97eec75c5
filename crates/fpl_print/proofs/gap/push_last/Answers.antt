use Rattle.std.proofs.Common.{◌≡◌, ◌∙◌, ◌++◌, ap, sym, map, codes}
use Rattle.std.proofs.lemmas.List.{length-map}
use Rattle.std.proofs.lemmas.Result.{on_ok_weaker}
use Rattle.fpl_table.specs.Plain.{symbol_in}
use Rattle.fpl_print.specs.GapText.{items_text, bracket_item}
use Rattle.fpl_print.proofs.TextLines.{three_pieces}
use Rattle.fpl_print.proofs.gap.push_last.Goals as goal

pub returns : goal.returns
returns g c =
    let xs = map symbol_in c.args.valued.now in
    on_ok_weaker c.push_text-2.result
    (λ e. three_pieces _ _ _ _ _ _ _ c.in_ok-push_text.ensures c.in_ok-push_brackets.ensures e
    ∙ ap (λ n. c.args.out.now.items ++ (codes "  brackets := [" ++ items_text n (bracket_item c.args.table.now xs) ++ codes " ]\n);\n"))
    (sym (length-map c.args.valued.now symbol_in)))
    c.push_text-2.ensures
