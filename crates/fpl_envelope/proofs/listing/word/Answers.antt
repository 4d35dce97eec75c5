use Rattle.std.proofs.Common.{◌≡◌, ◌≤◌, ◌<◌, ◌-◌, ◌++◌, suc, length, map, ap, sym, ◌∙◌, arith}
use Rattle.fpl_envelope.specs.Counts.{word_in}
use Rattle.fpl_envelope.proofs.Spelled.{word_step, word_done}
use Rattle.fpl_envelope.proofs.listing.word.Goals as goal

pub loop-left-preserved : goal.loop-left-preserved
loop-left-preserved g c =
    let T = c.args.table.now in
    let next : suc (c.letter-letter.result - 1) ≡ c.letter-letter.result = (let some : 1 ≤ c.letter-letter.result =
    c.letter-letter.ensures.within.0 in omega arith) in
    record {
      weight = let less : c.rest-left.result.weight < c.loop-left.left.weight = c.rest-left.ensures.less in
          let within : c.loop-left.left.weight < length c.args.counts.now = c.loop-left.invariant.weight in omega arith;
      number = c.rest-left.ensures.within;
      word = word_step T (c.letter-letter.result - 1) c.loop-left.left.weight c.loop-left.left.number c.rest-left.result.weight
          c.rest-left.result.number c.rest-left.ensures
          c.loop-left.letters.items (map suc (word_in T c.args.at.weight c.args.at.number)) c.letter-letter.result next c.loop-left.invariant.word
          ∙ ap (λ xs. xs ++ map suc (word_in T c.rest-left.result.weight c.rest-left.result.number)) (sym c.in_ok-push.ensures.items);
    }

pub returns : goal.returns
returns g c =
    word_done c.args.table.now c.loop-left.left.weight c.loop-left.left.number c.loop-left.letters.items
    (map suc (word_in c.args.table.now c.args.at.weight c.args.at.number)) (omega arith) c.loop-left.invariant.number c.loop-left.invariant.word
