use Rattle.std.proofs.lemmas.Grind.{common_steps}
use Rattle.std.proofs.lemmas.List.{append-nil}
use Rattle.std.proofs.Common.{◌≡◌, ◌∙◌, ◌++◌, ◌+◌, ◌-◌, [], true, length, drop, ap, sym, subst, arith}
use Rattle.fpl_numbers.specs.declared.number.Num.{Num}
use Rattle.fpl_numbers.specs.Numbers.{IsElement, residue}
use Rattle.fpl_rows.proofs.Firsts.{next_is_at}
use Rattle.fpl_print.specs.Combinations.{terms_text, combination_text}
use Rattle.fpl_print.specs.TableText.{basis_name}
use Rattle.fpl_print.proofs.Walks.{to_next, to_end, term_step}
use Rattle.fpl_print.proofs.combinations.push_terms_by_position.Goals as goal

pub at-requires : goal.at-requires
at-requires g c = let h = next_is_at c.args.row.now c.loop-s.after c.in-Some.s c.in-Some.ensures in (h.from_one, h.to_end)

pub loop-s-smaller : goal.loop-s-smaller
loop-s-smaller g c =
    let h = next_is_at c.args.row.now c.loop-s.after c.in-Some.s c.in-Some.ensures in
    let past = h.past in
    let end = h.to_end in
    omega (arith, past, end)

pub loop-s-preserved : goal.loop-s-preserved
loop-s-preserved g c =
    let h = next_is_at c.args.row.now c.loop-s.after c.in-Some.s c.in-Some.ensures in
    let from = h.from_one in
    let end = h.to_end in
    let place : c.in-Some.s - 1 + 1 ≡ c.in-Some.s = omega (arith, from) in
    let so_far = c.loop-s.invariant.left ∙ ap (λ w. c.loop-s.out.items ++ w)
    (to_next basis_name c.loop-s.first c.args.row.now c.loop-s.after c.in-Some.s c.in-Some.ensures) in
    record {
      front = λ front h. c.in_ok-first.ensures.front front (c.loop-s.invariant.front front h);
      within = end;
      left = term_step basis_name _ c.loop-s.out.items c.push_term.new.out.items c.loop-s.first c.in_ok-first.first c.args.row.now (c.in-Some.s - 1)
          (g.F.Field.number c.at.result) (residue 0) (omega (arith, from, end)) c.at.ensures c.in_ok-first.ensures.text.0 c.in_ok-first.ensures.text.1 so_far
          ∙ ap (λ n. c.push_term.new.out.items ++ terms_text basis_name c.in_ok-first.first n (drop n c.args.row.now)) place;
    }

pub push_term-requires-clause-element : goal.push_term-requires-clause-element
push_term-requires-clause-element g c =
    let h = next_is_at c.args.row.now c.loop-s.after c.in-Some.s c.in-Some.ensures in
    let from = h.from_one in
    let end = h.to_end in
    subst (λ (n : Num). IsElement (g.F.Field.kind_of c.args.field.now) n) (sym c.at.ensures)
    (c.requires (c.in-Some.s - 1) (residue 0) (omega (arith, from, end)))

pub returns-clause-text : goal.returns-clause-text
returns-clause-text g c =
    sym (c.loop-s.invariant.left ∙ ap (λ w. c.loop-s.out.items ++ w)
    (to_end basis_name c.loop-s.first c.args.row.now c.loop-s.after c.loop-s.invariant.within c.in_default.ensures))
