use Rattle.tests_why.proofs.needed.what_is_left.Goals as goal

pub needed_lines-requires : goal.needed_lines-requires
needed_lines-requires c = (c.args.p.now, c.in_ok-proof.ensures)
