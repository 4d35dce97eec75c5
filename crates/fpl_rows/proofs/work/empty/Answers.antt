use Rattle.std.proofs.Common.{◌∙◌, ◌≡◌, arith, length, refl, true}
use Rattle.std.proofs.lemmas.List.{length-set}
use Rattle.std.proofs.lemmas.List.Elements.{All-set}
use Rattle.fpl_rows.proofs.Markings.{marked_wiped, wiped_to, all_wiped}
use Rattle.fpl_rows.proofs.work.empty.Goals as goal

pub loop-s-preserved : goal.loop-s-preserved
loop-s-preserved g c = record {
  same = length-set c.loop-s.sums c.loop-s.s.place c.blank-blank.result ∙ c.loop-s.invariant.same;
  marked = marked_wiped (g.F.Field.summed c.args.field.now) c.args.marks.now c.loop-s.sums c.loop-s.s.place c.blank-blank.result c.blank-blank.ensures.value
      c.loop-s.invariant.marked;
  room = All-set (λ s. g.F.Field.has_room c.args.field.now s ≡ true) c.loop-s.sums c.loop-s.s.place c.blank-blank.result c.blank-blank.ensures.room
      c.loop-s.invariant.room;
  before = wiped_to (g.F.Field.summed c.args.field.now) c.args.marks.now c.loop-s.sums c.loop-s.s.place c.after-s.result.place c.blank-blank.result
      c.blank-blank.ensures.value c.loop-s-test.true c.loop-s.invariant.marked c.loop-s.invariant.before
      (λ k a b. c.after-s.ensures.none k (omega (arith, a)) b);
  rest = c.after-s.ensures.rest;
}

pub after-s-requires-clause-rest : goal.after-s-requires-clause-rest
after-s-requires-clause-rest g c = c.loop-s.invariant.rest

pub loop-s-smaller : goal.loop-s-smaller
loop-s-smaller g c =
    let least = c.after-s.ensures.at_least in
    let long = length-set c.loop-s.sums c.loop-s.s.place c.blank-blank.result in
    omega (arith, least, long, c.loop-s-test.true)

pub loop-s-init : goal.loop-s-init
loop-s-init g c = record {
  same = refl;
  marked = c.requires.marked;
  room = c.requires.room;
  before = λ t b. c.requires.marked.nought t (c.cursor_from-s.ensures.none t (omega arith) b);
  rest = c.cursor_from-s.ensures.rest;
}

pub returns-clause-value : goal.returns-clause-value
returns-clause-value g c =
    all_wiped (g.F.Field.summed c.args.field.now) c.loop-s.sums c.loop-s.s.place (length c.args.sums.now) c.loop-s.invariant.same
    (let e = c.loop-s-test.false in omega (arith, e)) c.loop-s.invariant.before

pub returns-clause-room : goal.returns-clause-room
returns-clause-room g c = c.loop-s.invariant.room
