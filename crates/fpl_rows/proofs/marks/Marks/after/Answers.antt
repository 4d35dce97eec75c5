use Rattle.std.proofs.Common.{◌≡◌, ◌<◌, ◌≤◌, ◌+◌, ◌∙◌, ap, sym, length, arith}
use native.Mathlib.Decide.{dec_lt}
use Rattle.fpl_rows.proofs.Bits.{length-bits, rest_skipped, none_here}
use Rattle.fpl_rows.proofs.marks.Marks.after.Goals as goal
use Rattle.fpl_rows.proofs.marks.Marks.after.Goals.{else-skip-lt64-via-then-skip-lt64+else-at-skip, else-skip-lt64-via-else-skip-lt64}

pub overflow_add-at : goal.overflow_add-at
overflow_add-at c =
    let long : length c.args.self.now ≡ c.self.inside.size = ap length (sym c.self.view_is) ∙ length-bits c.self.inside.words.items c.self.inside.size in
    let few = c.self.invariant.few in
    let r = c.requires.place in
    omega (arith, long, few, r)

pub overflow_add-at-then-skip-lt64 : goal.overflow_add-at-then-skip-lt64
overflow_add-at-then-skip-lt64 c =
    let long : length c.args.self.now ≡ c.self.inside.size = ap length (sym c.self.view_is) ∙ length-bits c.self.inside.words.items c.self.inside.size in
    let few = c.self.invariant.few in
    let r = c.requires.place in
    let most = c.start_in-skip.ensures.most in
    omega (arith, long, few, r, most)

pub overflow_add-at-else-skip-lt64 : goal.overflow_add-at-else-skip-lt64
overflow_add-at-else-skip-lt64 c =
    let long : length c.args.self.now ≡ c.self.inside.size = ap length (sym c.self.view_is) ∙ length-bits c.self.inside.words.items c.self.inside.size in
    let few = c.self.invariant.few in
    let r = c.requires.place in
    omega (arith, long, few, r)

pub returns-then-at-skip-clause-rest : goal.returns-then-at-skip-clause-rest
returns-then-at-skip-clause-rest c =
    rest_skipped c.args.self.now c.args.at.place c.args.at.rest c.args.at.end c.start_in-skip.result c.requires.rest c.start_in-skip.ensures.none

pub returns-else-skip-lt64-clause-none : goal.returns-else-skip-lt64-clause-none
returns-else-skip-lt64-clause-none c k a b =
    let out : c.start_in-skip.result < 64 → c.args.at.end ≤ c.args.at.place + 1 + c.start_in-skip.result = elim c.else-skip-lt64.branch [
      | else-skip-lt64-via-then-skip-lt64+else-at-skip w ↦ λ m. omega (arith, w.if-at-skip.false)
      | else-skip-lt64-via-else-skip-lt64 w ↦ λ m. absurd (omega (arith, m, w.if-skip-lt64.false))
    ] in
    let from = c.max.ensures in
    elim (dec_lt k c.args.at.end) [
      | yes l ↦ none_here c.args.self.now c.args.at.place c.args.at.rest c.args.at.end c.start_in-skip.result c.requires.rest
          c.start_in-skip.ensures.none c.start_in-skip.ensures.above out k a l
      | no l ↦ c.cursor_from.ensures.none k (omega (arith, from, a, l)) b
    ]
