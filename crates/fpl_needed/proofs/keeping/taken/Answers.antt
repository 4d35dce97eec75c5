use Rattle.std.proofs.Common.{◌≤◌, length, reverse, drop, slice_index, sym, subst, refl, arith}
use Rattle.std.proofs.lemmas.List.Elements.{All-weaker}
use Rattle.fpl_lines.specs.declared.line.Line.{Line}
use Rattle.fpl_lines.specs.Meaning.{rule_in}
use Rattle.fpl_needed.specs.Needed.{cited}
use Rattle.fpl_needed.specs.Numbers.{IsWithin, AreWithin, IsAt, cited_at, AreKept, number_in}
use Rattle.fpl_needed.proofs.Steps.{IsPopped, popped, keeps, leaves_out}
use Rattle.fpl_needed.proofs.keeping.taken.Goals as goal

pub renumbered-why-requires : goal.renumbered-why-requires
renumbered-why-requires c =
    let ls = c.args.proof in
    let rest = c.pop.new.self in
    let p : IsPopped ls rest c.in-Some.line = popped ls c.loop-line.proof rest c.in-Some.line c.loop-line.invariant.left c.in-Some.ensures in
    let inside = p.inside in
    let count = c.requires.count in
    subst (λ (l : Line). AreWithin (length c.args.new.now) (cited (rule_in l.why))) p.line
    (All-weaker (IsWithin (length rest)) (IsWithin (length c.args.new.now)) (λ n h. let a = h.0 in let b = h.1 in (a, omega (arith, b, inside, count)))
    (cited_at ls (length rest)) (c.requires.cite (length rest) inside))

pub loop-line-preserved-in-Continue-1 : goal.loop-line-preserved-in-Continue-1
loop-line-preserved-in-Continue-1 c =
    let ls = c.args.proof in
    let xs = c.args.new.now in
    let rest = c.pop.new.self in
    let l : Line = c.in-Some.line in
    let m : Line = record { left = l.left; right = l.right; why = c.renumbered-why.result } in
    let p : IsPopped ls rest l = popped ls c.loop-line.proof rest l c.loop-line.invariant.left c.in-Some.ensures in
    let at : IsAt xs (length rest) = subst (IsAt xs) c.len.ensures c.if-new-len-gt0.true in
    record {
      left = p.left;
      kept = subst (λ ms. AreKept (number_in xs) (drop (length rest) ls) (drop (length rest) xs) (reverse ms)) (sym c.in_ok-push.ensures.items)
          (keeps (number_in xs) ls c.loop-line.proof rest l p c.in-Some.ensures xs c.loop-line.lines.items c.loop-line.invariant.kept m at
          record { left = refl; right = refl; why = c.renumbered-why.ensures });
    }

pub loop-line-preserved-else-new-len-gt0 : goal.loop-line-preserved-else-new-len-gt0
loop-line-preserved-else-new-len-gt0 c =
    let ls = c.args.proof in
    let xs = c.args.new.now in
    let rest = c.pop.new.self in
    let l : Line = c.in-Some.line in
    let p : IsPopped ls rest l = popped ls c.loop-line.proof rest l c.loop-line.invariant.left c.in-Some.ensures in
    let none : slice_index xs (length rest) ≤ 0 = subst (λ n. slice_index xs n ≤ 0) c.len.ensures c.if-new-len-gt0.false in
    record {
      left = p.left;
      kept = leaves_out (number_in xs) ls c.loop-line.proof rest l p c.in-Some.ensures xs c.loop-line.lines.items c.loop-line.invariant.kept
          c.requires.count none;
    }

pub loop-line-preserved : goal.loop-line-preserved
loop-line-preserved c =
    let ls = c.args.proof in
    let xs = c.args.new.now in
    let rest = c.pop.new.self in
    let l : Line = c.in-Some.line in
    let p : IsPopped ls rest l = popped ls c.loop-line.proof rest l c.loop-line.invariant.left c.in-Some.ensures in
    let none : slice_index xs (length rest) ≤ 0 = subst (λ n. slice_index xs n ≤ 0) c.len.ensures c.if-new-len-gt0.false in
    record {
      left = p.left;
      kept = leaves_out (number_in xs) ls c.loop-line.proof rest l p c.in-Some.ensures xs c.loop-line.lines.items c.loop-line.invariant.kept
          c.requires.count none;
    }
