use Rattle.std.proofs.Common.{◌≡◌, ◌∙◌, arith}
use Rattle.std.proofs.lemmas.Grind.{common_steps}
use Rattle.plain_envelope.specs.Products.{even_words, odd_words}
use Rattle.fpl_envelope.specs.Counts.{words_in}
use Rattle.fpl_envelope.specs.Action.{math_in}
use Rattle.fpl_envelope_text.proofs.Words.{spelled_in_basis, evens_are, odds_are}
use Rattle.fpl_envelope_text.proofs.counting.push_weight_line.Goals as goal

pub counted-counts-requires : goal.counted-counts-requires
counted-counts-requires g c = spelled_in_basis c.args.table.now c.weight-most.ensures.shape c.args.w c.args.words.now c.requires

pub returns : goal.returns
returns g c =
    let T = c.args.table.now in
    let evens : c.counted-counts.result.evens ≡ even_words (math_in T) (words_in T c.args.w) =
    c.counted-counts.ensures.evens ∙ evens_are T c.args.w c.args.words.now c.requires in
    let odds : c.counted-counts.result.odds ≡ odd_words (math_in T) (words_in T c.args.w) =
    c.counted-counts.ensures.odds ∙ odds_are T c.args.w c.args.words.now c.requires in
    rw (← evens, ← odds) (grind (arith, common_steps))
