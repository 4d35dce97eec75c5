use Rattle.std.proofs.Common.{◌≡◌, List, ℕ, slice_index, slice_set, ap, ◌∙◌, arith}
use Rattle.fpl_needed.specs.Numbers.{number_in}
use Rattle.fpl_needed.proofs.Steps.{mapped_more}
use Rattle.fpl_needed.proofs.renumbering.new_numbers.Goals as goal

pub loop-i-preserved : goal.loop-i-preserved
loop-i-preserved c =
    let f = number_in c.args.new.now in
    let put : c.new_number.result ≡ f (slice_index c.loop-i.lines c.loop-i.i) =
    c.new_number.ensures ∙ ap (λ (xs : List ℕ). f (slice_index xs c.loop-i.i)) c.as_slice.ensures in
    record {
      count = c.loop-i.invariant.count;
      front = c.set.ensures ∙ ap (slice_set c.loop-i.lines c.loop-i.i) put
          ∙ mapped_more f c.args.lines c.loop-i.lines c.loop-i.i (omega arith) c.loop-i.invariant.front;
    }
