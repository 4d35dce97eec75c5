use Rattle.std.proofs.Common.{ℕ, suc, ◌+◌, ◌≡◌, ◌∙◌, List, [], ◌∷◌, ap, ap₂, subst, sym, refl, length, Contains, Ok, true, arith}
use Rattle.fpl_log.specs.declared.step.Origin.{Origin}
use Rattle.fpl_rewrite.specs.Origins.{origins_of}
use Rattle.fpl_rewrite.specs.Cursor.{to_come}
use Rattle.plain_weights.specs.Weight.{begun}
use Rattle.plain_weights.specs.Lean.{gather_lean}
use Rattle.fpl_check.proofs.ListedOrigins.{contains_rest}
use Rattle.math_algebra.specs.Table.{Symbol}
use Rattle.plain_elimination.specs.Plain.{Elimination}
use Rattle.plain_sources.specs.Late.{is_late, IsCut}
use Rattle.plain_weights.proofs.Late.{late_add_nothing}
use Rattle.fpl_complete.proofs.Runs.{started, gather_stops, gather_next, gathered_more}
use Rattle.fpl_complete.proofs.gather.gather.Goals.{in-Some-pass_over, in-None-pass_over}
use Rattle.fpl_complete.proofs.gather.gather.Goals as goal

pub loop-origins-preserved : goal.loop-origins-preserved
loop-origins-preserved g c =
    let T = c.args.table.now in
    let p = c.args.p.now in
    let i = c.loop-origins.invariant in
    let os = to_come T p c.loop-origins.at in
    let rest = to_come T p c.next.new.self in
    let list : os ≡ c.in-Some.origin ∷ rest = c.in-Some.ensures.value in
    let long : length os ≡ suc (length rest) = ap (λ (xs : List Origin). length xs) list in
    record {
      empty = c.in-Ok-put.ensures.emptied ∙ i.empty;
      kind = c.in-Ok-put.ensures.kind ∙ i.kind;
      size = c.in-Ok-put.ensures.size ∙ i.size;
      weight = c.in-Some.ensures.weight ∙ i.weight;
      listed = λ o h. i.listed o (contains_rest os rest c.in-Some.origin o list h);
      done = gather_next T p os rest c.in-Some.origin c.loop-origins.echelon c.put.new.echelon
          (gather_lean T p (origins_of T p) (begun T)) list c.in-Ok-put.ensures.value i.done;
      bound = i.bound;
      reached = gathered_more T p i.reached.0 os rest c.in-Some.origin c.loop-origins.echelon c.put.new.echelon list i.reached.1 i.reached.2
          c.in-Ok-put.ensures.value;
      start = let s = c.in-Ok-put.ensures.step in let n = i.start in omega arith;
      told = let n = i.told in omega arith;
      count = let s = c.in-Ok-put.ensures.step in let n = i.count in omega arith;
    }

pub returns-in-Err-put-clause-most : goal.returns-in-Err-put-clause-most
returns-in-Err-put-clause-most g c =
    let T = c.args.table.now in
    let p = c.args.p.now in
    let os = to_come T p c.loop-origins.at in
    let rest = to_come T p c.next.new.self in
    let list : os ≡ c.in-Some.origin ∷ rest = c.in-Some.ensures.value in
    let long : length os ≡ suc (length rest) = ap (λ (xs : List Origin). length xs) list in
    let s = c.in-Err-put.ensures.most in
    let n = c.loop-origins.invariant.count in
    let b = c.loop-origins.invariant.start in
    (omega (arith, s.0), omega (arith, s.1))

pub loop-origins-init : goal.loop-origins-init
loop-origins-init g c =
    let T = c.args.table.now in
    let p = c.args.p.now in
    let all : to_come T p c.start-at.result ≡ origins_of T p = c.start-at.ensures.value in
    let long : length (to_come T p c.start-at.result) ≡ length (origins_of T p) = ap (λ (xs : List Origin). length xs) all in
    let here : c.in-Ok.echelon ≡ begun T =
    c.in-Ok.ensures ∙ started T p _ _ c.field.ensures (c.len.ensures.value ∙ ap (λ (xs : List Symbol). length xs) c.requires.symbols) in
    record {
      empty = c.in_ok-work.ensures.value;
      kind = ap (λ (e : Elimination). e.kind) here;
      size = ap (λ (e : Elimination). e.size) here;
      weight = c.start-at.ensures.weight ∙ ap (λ (w : ℕ). w + 1) c.weight.ensures.value;
      listed = λ o h. subst (λ (xs : List Origin). Contains xs o) all h;
      done = ap₂ (gather_lean T p) all here;
      bound = c.reach_of-bound.ensures;
      reached = ([], all, ap Ok (sym here));
      told = omega arith;
      start = omega arith;
      count = omega arith;
    }

pub put-requires-clause-listed : goal.put-requires-clause-listed
put-requires-clause-listed g c =
    c.loop-origins.invariant.listed c.in-Some.origin
    (subst (λ (xs : List Origin). Contains xs c.in-Some.origin) (sym c.in-Some.ensures.value) (0, omega arith, refl))

pub returns-in-Err-put-clause-value : goal.returns-in-Err-put-clause-value
returns-in-Err-put-clause-value g c =
    let T = c.args.table.now in
    let p = c.args.p.now in
    gather_stops T p (to_come T p c.loop-origins.at) (to_come T p c.next.new.self) c.in-Some.origin c.loop-origins.echelon c.in-Err-put.fault
    (gather_lean T p (origins_of T p) (begun T)) c.in-Some.ensures.value c.in-Err-put.ensures.value c.loop-origins.invariant.done

pub returns-then-is_late-clause-value : goal.returns-then-is_late-clause-value
returns-then-is_late-clause-value g c =
    let T = c.args.table.now in
    let p = c.args.p.now in
    let i = c.loop-origins.invariant in
    let bound = c.reach_of-bound.result in
    let os = to_come T p c.loop-origins.at in
    let rest = to_come T p c.next.new.self in
    let list : os ≡ c.in-Some.origin ∷ rest = c.in-Some.ensures.value in
    let late : true ≡ is_late bound c.in-Some.origin = c.if-is_late.ensures in
    let same : gather_lean T p (origins_of T p) (begun T) ≡ Ok c.loop-origins.echelon =
    sym i.done
    ∙ late_add_nothing p T bound c.requires.holds c.reach_of-bound.ensures i.reached.0 os i.reached.1 (subst (IsCut bound) (sym list) (sym late))
    c.loop-origins.echelon i.reached.2 in
    elim c.match-pass_over.branch [
      | in-Some-pass_over w ↦ rw w.result-is same
      | in-None-pass_over w ↦ rw w.result-is tt
    ]

pub returns-then-is_late-clause-origins : goal.returns-then-is_late-clause-origins
returns-then-is_late-clause-origins g c =
    let T = c.args.table.now in
    let p = c.args.p.now in
    let os = to_come T p c.loop-origins.at in
    let rest = to_come T p c.next.new.self in
    let list : os ≡ c.in-Some.origin ∷ rest = c.in-Some.ensures.value in
    let long : length os ≡ suc (length rest) = ap (λ (xs : List Origin). length xs) list in
    let told = c.loop-origins.invariant.told in
    elim c.match-pass_over.branch [
      | in-Some-pass_over w ↦ (let some = w.in-Some-pass_over.ensures.some in rw w.result-is (omega arith))
      | in-None-pass_over w ↦ rw w.result-is tt
    ]

pub returns-then-is_late-clause-step : goal.returns-then-is_late-clause-step
returns-then-is_late-clause-step g c =
    let T = c.args.table.now in
    let p = c.args.p.now in
    let os = to_come T p c.loop-origins.at in
    let rest = to_come T p c.next.new.self in
    let list : os ≡ c.in-Some.origin ∷ rest = c.in-Some.ensures.value in
    let long : length os ≡ suc (length rest) = ap (λ (xs : List Origin). length xs) list in
    let count = c.loop-origins.invariant.count in
    let tick = c.tick.ensures in
    elim c.match-pass_over.branch [
      | in-Some-pass_over w ↦ (let step = w.in-Some-pass_over.ensures.step in rw w.result-is (omega arith))
      | in-None-pass_over w ↦ rw w.result-is tt
    ]
