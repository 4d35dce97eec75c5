use Rattle.std.proofs.lemmas.Grind.{common_steps}
use Rattle.std.proofs.lemmas.List.{append-nil}
use Rattle.std.proofs.Common.{◌≡◌, ◌∙◌, ◌++◌, ◌+◌, ◌-◌, [], true, length, drop, ap, sym, subst, arith}
use Rattle.fpl_numbers.specs.declared.number.Num.{Num}
use Rattle.fpl_numbers.specs.Numbers.{IsElement, residue}
use Rattle.fpl_rows.proofs.Firsts.{next_is_at}
use Rattle.fpl_print.specs.Combinations.{terms_text, combination_text}
use Rattle.fpl_envelope_text.specs.Lists.{name_at}
use Rattle.fpl_print.proofs.Walks.{to_next, to_end, term_step}
use Rattle.fpl_envelope_text.proofs.forms.push_form.Goals as goal

pub at-requires : goal.at-requires
at-requires g c = let h = next_is_at c.args.row.now c.loop-s.after c.in-Some.s c.in-Some.ensures in (h.from_one, h.to_end)

pub loop-s-smaller : goal.loop-s-smaller
loop-s-smaller g c =
    let h = next_is_at c.args.row.now c.loop-s.after c.in-Some.s c.in-Some.ensures in
    let past = h.past in
    let end = h.to_end in
    omega (arith, past, end)

pub loop-s-preserved : goal.loop-s-preserved
loop-s-preserved g c =
    let h = next_is_at c.args.row.now c.loop-s.after c.in-Some.s c.in-Some.ensures in
    let from = h.from_one in
    let end = h.to_end in
    let place : c.in-Some.s - 1 + 1 ≡ c.in-Some.s = omega (arith, from) in
    let so_far = c.loop-s.invariant.left ∙ ap (λ w. c.loop-s.out.items ++ w)
    (to_next (name_at c.args.words.now) c.loop-s.first c.args.row.now c.loop-s.after c.in-Some.s c.in-Some.ensures) in
    record {
      within = end;
      left = term_step (name_at c.args.words.now) _ c.loop-s.out.items c.push_term.new.out.items c.loop-s.first c.in_ok-first.first c.args.row.now
          (c.in-Some.s - 1)
          (g.F.Field.number c.at.result) (residue 0) (omega (arith, from, end)) c.at.ensures c.in_ok-first.ensures.0 c.in_ok-first.ensures.1 so_far
          ∙ ap (λ n. c.push_term.new.out.items ++ terms_text (name_at c.args.words.now) c.in_ok-first.first n (drop n c.args.row.now)) place;
    }

pub push_term-requires : goal.push_term-requires
push_term-requires g c =
    let h = next_is_at c.args.row.now c.loop-s.after c.in-Some.s c.in-Some.ensures in
    let from = h.from_one in
    let end = h.to_end in
    record {
      element = subst (λ (n : Num). IsElement (g.F.Field.kind_of c.args.field.now) n) (sym c.at.ensures)
          (c.requires (c.in-Some.s - 1) (residue 0) (omega (arith, from, end)));
    }

pub returns-then-first : goal.returns-then-first
returns-then-first g c =
    let all : c.args.out.now.items ++ combination_text (name_at c.args.words.now) c.args.row.now ≡ c.loop-s.out.items ++
    terms_text (name_at c.args.words.now) true (length c.args.row.now) [] =
    c.loop-s.invariant.left ∙ ap (λ w. c.loop-s.out.items ++ w)
    (to_end (name_at c.args.words.now) c.loop-s.first c.args.row.now c.loop-s.after c.loop-s.invariant.within c.in_default.ensures)
    ∙ ap (λ b. c.loop-s.out.items ++ terms_text (name_at c.args.words.now) b (length c.args.row.now) []) c.if-first.true in
    grind (arith, common_steps, all)

pub returns : goal.returns
returns g c =
    sym (c.loop-s.invariant.left ∙ ap (λ w. c.loop-s.out.items ++ w)
    (to_end (name_at c.args.words.now) c.loop-s.first c.args.row.now c.loop-s.after c.loop-s.invariant.within c.in_default.ensures)
    ∙ ap (λ b. c.loop-s.out.items ++ terms_text (name_at c.args.words.now) b (length c.args.row.now) []) c.if-first.false ∙ append-nil c.loop-s.out.items)
