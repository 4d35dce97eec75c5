use Rattle.std.proofs.Common.{◌≡◌, ◌+◌, ◌*◌, ◌∙◌, Ok, map, ap, sym, subst, arith}
use mathlib.Core.Path.{ap₂}
use Rattle.std.specs.Prelude.{All}
use Rattle.fpl_ranks.specs.Ranks.{IsOver}
use Rattle.fpl_ranks.proofs.Weights.{over, given_is, through_more, rank_done, rank_stops}
use Rattle.fpl_ranks.proofs.ranking.rank.Goals as goal

pub part-weight-requires : goal.part-weight-requires
part-weight-requires g c =
    let up = through_more c.args.table.now c.through.ensures.shape c.args.w in
    let a = c.through.ensures.value in
    let b = c.through-2.ensures.value in
    let n = c.requires.matrices.count in
    let m = c.through-2.ensures.within in
    (omega (arith, up, a, b), omega (arith, n, m))

pub rows_of-requires : goal.rows_of-requires
rows_of-requires g c =
    let T = c.args.table.now in
    let up = through_more T c.through.ensures.shape c.args.w in
    let a = c.through.ensures.value in
    let b = c.through-2.ensures.value in
    let size : c.size-size.result ≡ c.args.a.now.even + c.args.a.now.odd = c.size-size.ensures ∙ ap₂ (λ x y. x + y) c.shape.ensures.even c.shape.ensures.odd in
    let places = c.size-size.result * c.size-size.result in
    subst (All (IsOver T.kind places)) (sym c.part-weight.ensures)
    (over c.args.a.now T c.args.matrices.now c.requires.matrices c.requires.whose c.through.ensures.shape c.through.result c.through-2.result places
    (omega (arith, up, a, b)) c.through-2.ensures.within (ap₂ (λ x y. x * y) size size))

pub returns-in-Ok-clause-value : goal.returns-in-Ok-clause-value
returns-in-Ok-clause-value g c =
    let T = c.args.table.now in
    let up = through_more T c.through.ensures.shape c.args.w in
    let b = c.through-2.ensures.value in
    let m = c.through-2.ensures.within in
    let size : c.size-size.result ≡ c.args.a.now.even + c.args.a.now.odd = c.size-size.ensures ∙ ap₂ (λ x y. x + y) c.shape.ensures.even c.shape.ensures.odd in
    rank_done c.args.a.now T c.args.w c.in-Ok.closed (map Ok c.in_ok-rows.rows) (c.size-size.result * c.size-size.result) (ap₂ (λ x y. x * y) size size)
    (given_is c.args.a.now T c.args.matrices.now c.requires.matrices c.args.w c.through.result c.through-2.result c.part-weight.result.now c.in_ok-rows.rows up
    (omega (arith, b, m)) c.through.ensures.value c.through-2.ensures.value c.part-weight.ensures c.in_ok-rows.ensures.value) c.in-Ok.ensures.value
    ∙ ap Ok (sym c.len.ensures.value)

pub returns-clause-value : goal.returns-clause-value
returns-clause-value g c =
    let T = c.args.table.now in
    let up = through_more T c.through.ensures.shape c.args.w in
    let b = c.through-2.ensures.value in
    let m = c.through-2.ensures.within in
    let size : c.size-size.result ≡ c.args.a.now.even + c.args.a.now.odd = c.size-size.ensures ∙ ap₂ (λ x y. x + y) c.shape.ensures.even c.shape.ensures.odd in
    rank_stops c.args.a.now T c.args.w c.in-Err.fault (map Ok c.in_ok-rows.rows) (c.size-size.result * c.size-size.result) (ap₂ (λ x y. x * y) size size)
    (given_is c.args.a.now T c.args.matrices.now c.requires.matrices c.args.w c.through.result c.through-2.result c.part-weight.result.now c.in_ok-rows.rows up
    (omega (arith, b, m)) c.through.ensures.value c.through-2.ensures.value c.part-weight.ensures c.in_ok-rows.ensures.value) c.in-Err.ensures.value
