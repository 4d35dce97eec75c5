use Rattle.std.proofs.Common.{◌≡◌, ◌++◌, arith, codes, map}
use Rattle.std.proofs.lemmas.Grind.{common_steps}
use Rattle.fpl_model.specs.Meaning.{plain}
use Rattle.fpl_model.specs.Mono.{expr_of}
use Rattle.fpl_print.specs.TableText.{tree_text}
use Rattle.fpl_print.proofs.Trees.{text_br}
use Rattle.fpl_print.proofs.table.+push_tree.Goals as goal

pub returns-in_ok-push_tree-in-Pair-2 : goal.returns-in_ok-push_tree-in-Pair-2
returns-in_ok-push_tree-in-Pair-2 t c =
    let names = map (λ g. g.name) c.args.generators.now in
    let text : tree_text names (plain (expr_of c.args.tree.now)) ≡ codes "[" ++ tree_text names (plain (expr_of c.in-Pair.left.value)) ++ codes "," ++
    tree_text names (plain (expr_of c.in-Pair.right.value)) ++ codes "]" = rw c.in-Pair.is (text_br names _ _) in
    rw text (grind (arith, common_steps))
