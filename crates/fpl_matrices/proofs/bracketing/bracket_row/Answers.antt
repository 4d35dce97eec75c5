use Rattle.std.proofs.Common.{◌≡◌, ◌++◌, length, take, drop, ap, sym, subst, ◌∙◌, arith, add-one}
use Rattle.std.proofs.lemmas.Grind.{common_steps}
use Rattle.fpl_lanes.specs.Lanes.{AllBelow}
use Rattle.plain_matrices.specs.Plain.{size_of, with_summand, bracket_row}
use Rattle.fpl_matrices.proofs.Sound.{written}
use Rattle.fpl_matrices.proofs.bracketing.bracket_row.Goals as goal

pub loop-k-preserved : goal.loop-k-preserved
loop-k-preserved c =
    let x = c.args.x.now in
    let new = c.add_summand.new.out in
    let long : c.loop-k.out.len ≡ length c.add_summand.new.out = first_of (omega arith, grind (arith, common_steps)) in
    let w : take c.loop-k.out.len (new ++ drop (length new) c.loop-k.out.items) ≡ new = written new c.loop-k.out.items c.loop-k.out.len long in
    let size : length c.add_summand.new.out ≡ size_of c.args.x.now = first_of (omega arith, grind (arith, common_steps)) in
    record {
      value =
          w ∙ c.add_summand.ensures.value
          ∙ ap (with_summand x.prime x.even (size_of x) x.numbers c.args.turned.now.numbers c.args.y.now.numbers c.args.r c.loop-k.k)
          (c.deref_mut.ensures.value ∙ c.loop-k.invariant.value)
          ∙ ap (bracket_row x.prime x.even (size_of x) x.numbers c.args.turned.now.numbers c.args.y.now.numbers c.args.r) (sym (add-one c.loop-k.k));
      below = subst (AllBelow c.args.x.now.prime) (sym w) c.add_summand.ensures.below;
      whole = ap length w ∙ size;
    }
