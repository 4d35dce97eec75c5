use Rattle.std.proofs.Common.{◌≡◌, ◌-◌, ◌++◌, ◌∷◌, [], ℕ, List, length, drop, sym, ap, ap₂, ◌∙◌, arith}
use Rattle.std.proofs.lemmas.List.{append-nil, append_assoc}
use Rattle.fpl_numbers.specs.declared.number.Num.{Num}
use Rattle.fpl_rows.proofs.Firsts.{next_is_at}
use Rattle.fpl_envelope.specs.Counts.{words_in}
use Rattle.fpl_envelope.specs.Polys.{spelled, row_terms}
use Rattle.fpl_envelope.proofs.Terms.{row_next, row_end}
use Rattle.fpl_envelope.proofs.straightening.push_terms.Goals as goal

pub word-requires-clause-number : goal.word-requires-clause-number
word-requires-clause-number g c =
    let h = next_is_at c.args.row.now c.loop-s.after c.in-Some.s c.in-Some.ensures in
    let from = h.from_one in
    let end = h.to_end in
    let long : length c.args.row.now ≡ length (words_in c.args.table.now c.args.w) = c.requires.row in
    let same : c.from.result ≡ c.in-Some.s = c.from.ensures in
    omega (arith, from, end, long, same)

pub at-number-requires : goal.at-number-requires
at-number-requires g c = let h = next_is_at c.args.row.now c.loop-s.after c.in-Some.s c.in-Some.ensures in (h.from_one, h.to_end)

pub loop-s-preserved : goal.loop-s-preserved
loop-s-preserved g c =
    let h = next_is_at c.args.row.now c.loop-s.after c.in-Some.s c.in-Some.ensures in
    let same : c.from.result ≡ c.in-Some.s = c.from.ensures in
    record {
      within = h.to_end;
      left = ap (λ p. p ++ row_terms (spelled c.args.table.now c.args.w) c.in-Some.s (drop c.in-Some.s c.args.row.now))
          (c.in_ok-push.ensures.ok ∙ ap₂ (λ (u : List ℕ) (x : Num). c.loop-s.poly ++ (u, x) ∷ [])
          (c.in_ok-word.ensures ∙ ap (λ k. spelled c.args.table.now c.args.w (k - 1)) same) c.at-number.ensures)
          ∙ append_assoc c.loop-s.poly _ _
          ∙ ap (λ ts. c.loop-s.poly ++ ts) (sym (row_next (spelled c.args.table.now c.args.w) c.args.row.now c.loop-s.after c.in-Some.s c.in-Some.ensures))
          ∙ c.loop-s.invariant.left;
    }

pub returns : goal.returns
returns g c =
    sym (append-nil c.loop-s.poly)
    ∙ ap (λ ts. c.loop-s.poly ++ ts)
    (sym (row_end (spelled c.args.table.now c.args.w) c.args.row.now c.loop-s.after c.loop-s.invariant.within c.in_default.ensures))
    ∙ c.loop-s.invariant.left
