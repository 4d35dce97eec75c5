use Rattle.std.proofs.Common.{◌++◌, ap, ◌∙◌, append_assoc, codes, decimal}
use Rattle.fpl_ranks.proofs.texts.push_respected.Goals as goal

pub returns : goal.returns
returns c =
    c.in_ok-extend_from_slice-2.ensures.items
    ∙ ap (λ xs. xs ++ codes " respected\n") (c.in_ok-push_number.ensures.text ∙ ap (λ xs. xs ++ decimal c.args.count) c.in_ok-extend_from_slice.ensures.items)
    ∙ append_assoc (c.args.out.now.items ++ codes "relations ") (decimal c.args.count) (codes " respected\n")
    ∙ append_assoc c.args.out.now.items (codes "relations ") (decimal c.args.count ++ codes " respected\n")
