use Rattle.std.proofs.Common.{◌≡◌, ◌∙◌, List, Vec, Global, Bool, false, get_or, ap, sym, subst, refl, arith}
use Rattle.std.specs.Prelude.{Ok, Some, slice_get}
use mathlib.Core.Logic.{inl}
use Rattle.fpl_numbers.specs.declared.number.Num.{Num}
use Rattle.fpl_log.specs.declared.step.Origin.TheVariants.{Row}
use Rattle.plain_elimination.specs.Plain.{Elimination}
use Rattle.plain_elimination.proofs.RowSweeps.{got_is}
use Rattle.plain_spans.specs.Plain.{begin}
use Rattle.fpl_echelon.proofs.Contracts.{kind_in, size_in}
use Rattle.fpl_echelon.proofs.Spanning.{none_left}
use Rattle.fpl_ranks.proofs.Stops.{IsSettled, over_field, over_at, row_at, stopped_spans, whole_spans, made_next, insert_grows, settled_next, put_fault}
use Rattle.fpl_ranks.proofs.putting.put_all.Goals as goal
use Rattle.fpl_ranks.proofs.putting.put_all.Goals.{in-Some+in_ok-copy+in-Ok, in_default}

pub loop-k-init : goal.loop-k-init
loop-k-init g c = record {
  made = ap (λ (e : Elimination). Ok e) (sym c.requires.none);
  settled = λ s off. inl (c.requires.flags s off);
  kind = refl;
  size = refl;
  rises = omega arith;
}

pub put-requires : goal.put-requires
put-requires g c =
    let is : Some c.in_ok-copy.copy ≡ slice_get c.args.rows.now c.loop-k.k =
    subst (λ (r : List Num). Some r ≡ slice_get c.args.rows.now c.loop-k.k) (sym c.in_ok-copy.ensures) c.in-Some.ensures in
    row_at c.args.echelon.now.kind c.loop-k.echelon.kind c.args.echelon.now.size c.loop-k.echelon.size c.in_ok-copy.copy c.loop-k.invariant.kind
    c.loop-k.invariant.size (got_is c.args.echelon.now.kind c.args.echelon.now.size c.loop-k.k c.args.rows.now c.in_ok-copy.copy c.requires.rows is)

pub returns-then-are_down-clause-spans : goal.returns-then-are_down-clause-spans
returns-then-are_down-clause-spans g c =
    stopped_spans c.args.echelon.now.kind (over_field c.args.echelon.now.kind c.requires.over) c.args.echelon.now.size c.args.rows.now c.requires.rows
    c.loop-k.k c.loop-k.echelon c.loop-k.invariant.made
    (λ s. c.loop-k.invariant.settled s
    (ap (λ (fs : List Bool). get_or fs s false) (sym c.deref.ensures.value) ∙ c.are_down.ensures c.if-are_down.true s))

pub returns-in-Err-clause-fault : goal.returns-in-Err-clause-fault
returns-in-Err-clause-fault g c =
    put_fault c.loop-k.echelon c.in_ok-copy.copy c.in-Err.fault (over_at c.args.echelon.now.kind c.loop-k.echelon.kind c.loop-k.invariant.kind c.requires.over)
    c.in-Err.ensures.value

pub returns-clause-spans : goal.returns-clause-spans
returns-clause-spans g c =
    whole_spans c.args.echelon.now.kind (over_field c.args.echelon.now.kind c.requires.over) c.args.echelon.now.size c.args.rows.now c.requires.rows
    c.loop-k.k c.loop-k.echelon c.loop-k.invariant.made (let l = c.loop-k-test.false in let e = c.len-k-end.ensures.value in omega arith)

pub loop-k-preserved : goal.loop-k-preserved
loop-k-preserved g c =
    elim c.match-get.branch [
      | in-Some+in_ok-copy+in-Ok w ↦
          let is : Some w.in_ok-copy.copy ≡ slice_get c.args.rows.now c.loop-k.k =
          subst (λ (r : List Num). Some r ≡ slice_get c.args.rows.now c.loop-k.k) (sym w.in_ok-copy.ensures) w.in-Some.ensures in
          record {
            made = made_next c.args.rows.now c.loop-k.k w.in_ok-copy.copy (begin c.args.echelon.now.kind c.args.echelon.now.size) c.loop-k.echelon
                c.match-get.echelon is c.loop-k.invariant.made (w.in-Ok.ensures.value ∙ ap (λ (e : Elimination). Ok e) (sym w.echelon-is));
            settled = λ s off.
                subst (λ (e : Elimination). IsSettled c.args.echelon.now.kind c.args.rows.now e.held.pivots s) (sym w.echelon-is)
                (settled_next c.args.echelon.now.kind c.args.rows.now c.loop-k.echelon.held.pivots w.put.new.echelon.held.pivots _ c.loop-k.flags.items
                w.put.new.flags.items (insert_grows c.loop-k.echelon w.in_ok-copy.copy (Row 0) _ w.put.new.echelon.held w.in-Ok.ensures.held)
                w.in-Ok.ensures.flags
                c.loop-k.invariant.settled s (ap (λ (v : Vec Bool Global). get_or v.items s false) (sym w.flags-is) ∙ off));
            kind = ap kind_in w.echelon-is ∙ w.in-Ok.ensures.kind ∙ c.loop-k.invariant.kind;
            size = ap size_in w.echelon-is ∙ w.in-Ok.ensures.size ∙ c.loop-k.invariant.size;
            rises = (let a = w.steps-is in let b = w.in-Ok.ensures.step in let d = c.loop-k.invariant.rises in omega arith);
          }
      | in_default w ↦ absurd (none_left c.args.rows.now c.loop-k.k (let a = c.len-k-end.ensures.value in let l = c.loop-k-test.true in omega arith)
          w.in_default.ensures)
    ]
