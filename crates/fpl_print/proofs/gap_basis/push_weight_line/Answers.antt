use Rattle.std.proofs.Common.{◌≡◌, ◌++◌}
use Rattle.std.proofs.lemmas.Result.{on_ok_weaker}
use Rattle.fpl_print.proofs.TextLines.{three_pieces}
use Rattle.fpl_print.proofs.gap_basis.push_weight_line.Goals as goal

pub returns : goal.returns
returns g c = on_ok_weaker c.push_text-2.result (λ e. three_pieces _ _ _ _ _ _ _ c.in_ok-push_text.ensures c.in_ok-push_weights.ensures e) c.push_text-2.ensures
