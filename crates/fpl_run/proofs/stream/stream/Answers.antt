use Rattle.std.proofs.Common.{◌≡◌, ℕ, suc, ◌≤◌, ◌<◌, ◌-◌, ◌+◌, ◌++◌, ◌∷◌, [], length, length-append, false, inl, refl, sym, ap, ◌∙◌, subst, arith, rules}
use Rattle.fpl_bytes.specs.declared.version.Version.TheVariants.{Two}
use Rattle.fpl_section_bytes.specs.Spelling.{section_bytes_of}
use Rattle.fpl_checkpoint.specs.Heads.{VERSION, head_bytes_of}
use Rattle.fpl_outside.specs.Outside.{Takes}
use Rattle.fpl_walk.specs.Walk.{Stage, Walked, walk_of, cost_of}
use Rattle.fpl_walk.specs.Stops.{stored_in}
use Rattle.fpl_run.specs.Task.{does_compute}
use Rattle.fpl_run.specs.Stream.{stream_text}
use Rattle.fpl_reply.specs.Put.{IsCut}
use Rattle.fpl_run.proofs.Walks.{step_raises, step_adds, walk_keeps, walk_left, cost_left, cost_stops, walk_over, cost_there, added_there, ended_there, failed_there, ended_here, failed_here}
use Rattle.fpl_run.proofs.Streams.{head_taken, section_taken}
use Rattle.fpl_run.proofs.Ends.{cost_begun}
use Rattle.fpl_run.proofs.Streaming.{LeavesStream, head_cut, section_cut, failed_streamed, limit_streamed, run_leaves}
use Rattle.fpl_run.proofs.Pacing.{begins_whole, begins_cut, paced_run}
use Rattle.fpl_run.proofs.stream.stream.Goals as goal

pub returns-in-Err-clause-reply : goal.returns-in-Err-clause-reply
returns-in-Err-clause-reply g c =
    let start = c.args.run.now in
    let at = stored_in start c.args.bytes.now in
    let w = walk_of (does_compute c.args.task.way) c.args.task.entries start.presentation at c.args.task.limit start.stage in
    let old = g.O.Sink.taken c.args.out.now in
    let new = g.O.Sink.taken c.put_head.new.out in
    let same : c.presentation.result.now ≡ start.presentation = c.presentation.ensures.same ∙ c.state.ensures.presentation in
    run_leaves c.args.task start c.args.bytes.now c.requires.way c.requires.begun old new _
    (subst (λ r. LeavesStream start.presentation w old new r) (sym c.outcome.ensures)
    (head_cut start.presentation w old new c.in-Err.cut (subst (λ q. IsCut (head_bytes_of VERSION q) old new c.in-Err.cut) same c.in-Err.ensures.puts)))

pub returns-in-Err-clause-paced : goal.returns-in-Err-clause-paced
returns-in-Err-clause-paced g c = inl refl

pub weights-init : goal.weights-init
weights-init g c =
    let start = c.args.run.now in
    let at = stored_in start c.args.bytes.now in
    let limit = c.args.task.limit in
    let computes = does_compute c.args.task.way in
    let weightless : start.stage.table.weight ≡ 0 = ap (λ (x : Stage). x.table.weight) c.requires.begun in
    let none : (n : ℕ) → n - start.stage.table.weight ≡ n = λ n. omega (arith, weightless) in
    let same : c.presentation.result.now ≡ start.presentation = c.presentation.ensures.same ∙ c.state.ensures.presentation in
    let old = g.O.Sink.taken c.args.out.now in
    let new = g.O.Sink.taken c.put_head.new.out in
    let empty : start.stage.sections ≡ [] = ap (λ (x : Stage). x.sections) c.requires.begun in
    record {
      presentation = refl;
      version = refl;
      within = omega (arith, weightless);
      long = ap length empty ∙ sym weightless;
      left = ap (λ n. walk_of computes c.args.task.entries start.presentation at n start.stage) (sym (none limit));
      taken = head_taken start.presentation old new start.stage.sections empty (subst (λ q. Takes old new (head_bytes_of VERSION q)) same
          c.in_default.ensures.puts);
      unhurt = c.in_default.ensures.later;
      later = omega arith;
      cost = λ n l. omega (arith, ap (λ m. cost_of computes c.args.task.entries start.presentation at m start.stage) (none n));
    }

pub weights-preserved : goal.weights-preserved
weights-preserved g c =
    let start = c.args.run.now in
    let run = c.weights.run in
    let new = c.add_weight.new.run in
    let i = c.weights.invariant in
    let n = c.in-Ok-true.ensures in
    let computes = does_compute c.args.task.way in
    let entries = c.args.task.entries in
    let limit = c.args.task.limit in
    let at = stored_in start c.args.bytes.now in
    let low : run.stage.table.weight < limit = omega (arith, c.weights-test.true, c.weight.ensures) in
    let step = added_there computes entries start run c.args.bytes.now i.presentation i.version c.in-Ok-true.field-0 new.stage c.in-Ok-true.field-0-test
    n.adds in
    let up = step_raises computes entries start.presentation at run.stage new.stage step in
    let added = step_adds computes entries start.presentation at run.stage new.stage step in
    let same = cost_there computes entries start run c.args.bytes.now i.presentation i.version in
    let kept : new.presentation ≡ start.presentation = n.presentation ∙ i.presentation in
    let before = g.O.Sink.taken c.weights.out in
    let after = g.O.Sink.taken c.put_last_section.new.out in
    let put : Takes before after (section_bytes_of Two start.presentation.field added.0) =
    subst (λ q. Takes before after (section_bytes_of Two q.field added.0)) kept
    (c.in_default-put_last_section.ensures.puts run.stage.sections added.0 added.1) in
    let more : length new.stage.sections ≡ length run.stage.sections + 1 = ap length added.1 ∙ length-append run.stage.sections (added.0 ∷ []) in
    record {
      presentation = kept;
      version = n.version ∙ i.version;
      within = omega (arith, up, low);
      long = omega (arith, more, i.long, up);
      left = i.left ∙ walk_left computes entries start.presentation at limit run.stage new.stage low step;
      taken = subst (λ ss. Takes (g.O.Sink.taken c.args.out.now) after (stream_text start.presentation ss)) (sym added.1)
          (section_taken start.presentation (g.O.Sink.taken c.args.out.now) before after run.stage.sections added.0 i.taken put);
      unhurt = omega (arith, i.unhurt, c.in_default-put_last_section.ensures.later);
      later = omega (arith, i.later, n.most.0);
      cost = λ m l.
          let rest = cost_left computes entries start.presentation at m run.stage new.stage (omega (arith, l, up)) step in
          omega (arith, i.cost m (omega (arith, l, up)), rest, same, n.most.1);
    }

pub returns-in-Ok-false-clause-reply : goal.returns-in-Ok-false-clause-reply
returns-in-Ok-false-clause-reply g c =
    let start = c.args.run.now in
    let run = c.weights.run in
    let i = c.weights.invariant in
    let computes = does_compute c.args.task.way in
    let entries = c.args.task.entries in
    let limit = c.args.task.limit in
    let at = stored_in start c.args.bytes.now in
    let low : run.stage.table.weight < limit = omega (arith, c.weights-test.true, c.weight.ensures) in
    let no : c.in-Ok-false.field-0 ≡ false = search rules in
    let over = ended_there computes entries start run c.args.bytes.now i.presentation i.version c.in-Ok-false.field-0 c.add_weight.new.run.stage no
    c.in-Ok-false.ensures.adds in
    run_leaves c.args.task start c.args.bytes.now c.requires.way c.requires.begun _ _ _
    (limit_streamed start.presentation _ _ _ run.stage (ended_here computes entries start.presentation at limit run.stage run.stage _ refl i.left low over.0)
    i.taken)

pub returns-in-Ok-false-clause-cost : goal.returns-in-Ok-false-clause-cost
returns-in-Ok-false-clause-cost g c =
    let start = c.args.run.now in
    let run = c.weights.run in
    let i = c.weights.invariant in
    let computes = does_compute c.args.task.way in
    let entries = c.args.task.entries in
    let at = stored_in start c.args.bytes.now in
    let low : run.stage.table.weight < c.args.task.limit = omega (arith, c.weights-test.true, c.weight.ensures) in
    let same = cost_there computes entries start run c.args.bytes.now i.presentation i.version in
    let rest = cost_stops computes entries start.presentation at c.args.task.limit run.stage low in
    let whole = cost_begun c.args.task start c.args.bytes.now c.requires.begun in
    omega (arith, i.cost c.args.task.limit i.within, rest, same, whole, c.in-Ok-false.ensures.most.1)

pub returns-in-Ok-false-clause-paced : goal.returns-in-Ok-false-clause-paced
returns-in-Ok-false-clause-paced g c =
    let start = c.args.run.now in
    let run = c.weights.run in
    let i = c.weights.invariant in
    let computes = does_compute c.args.task.way in
    let entries = c.args.task.entries in
    let limit = c.args.task.limit in
    let at = stored_in start c.args.bytes.now in
    let next : run.stage.table.weight < suc run.stage.table.weight = omega arith in
    let low : run.stage.table.weight < limit = omega (arith, c.weights-test.true, c.weight.ensures) in
    let same = cost_there computes entries start run c.args.bytes.now i.presentation i.version in
    let rest = cost_stops computes entries start.presentation at (suc run.stage.table.weight) run.stage next in
    let keeps = walk_keeps computes entries start.presentation at (limit - run.stage.table.weight) run.stage in
    let most : c.add_weight.new.steps ≤ c.args.steps.now + cost_of computes entries start.presentation at (suc run.stage.table.weight) start.stage =
    omega (arith, i.cost (suc run.stage.table.weight) (omega arith), rest, same, c.in-Ok-false.ensures.most.1) in
    paced_run c.args.task start c.args.bytes.now c.requires.begun _ _ run.stage.sections keeps.0
    (ap (λ (v : Walked). v.stage.sections) i.left ∙ keeps.1) (begins_whole _ _ _ i.taken) _ _
    (subst (λ k. c.add_weight.new.steps ≤ c.args.steps.now + cost_of computes entries start.presentation at (suc k) start.stage) (sym i.long) most)

pub returns-in-Err-add_weight-clause-reply : goal.returns-in-Err-add_weight-clause-reply
returns-in-Err-add_weight-clause-reply g c =
    let start = c.args.run.now in
    let run = c.weights.run in
    let i = c.weights.invariant in
    let computes = does_compute c.args.task.way in
    let entries = c.args.task.entries in
    let limit = c.args.task.limit in
    let at = stored_in start c.args.bytes.now in
    let low : run.stage.table.weight < limit = omega (arith, c.weights-test.true, c.weight.ensures) in
    let keeps = walk_keeps computes entries start.presentation at (limit - run.stage.table.weight) run.stage in
    let failed = failed_here computes entries start.presentation at limit run.stage run.stage _ refl i.left low _
    (failed_there computes entries start run c.args.bytes.now i.presentation i.version _ c.in-Err-add_weight.ensures.fails) in
    run_leaves c.args.task start c.args.bytes.now c.requires.way c.requires.begun _ _ _
    (failed_streamed start.presentation _ _ _ run.stage _ keeps.0 (ap (λ (v : Walked). v.stage.sections) i.left ∙ keeps.1) i.taken failed)

pub returns-in-Err-add_weight-clause-cost : goal.returns-in-Err-add_weight-clause-cost
returns-in-Err-add_weight-clause-cost g c =
    let start = c.args.run.now in
    let run = c.weights.run in
    let i = c.weights.invariant in
    let computes = does_compute c.args.task.way in
    let entries = c.args.task.entries in
    let at = stored_in start c.args.bytes.now in
    let low : run.stage.table.weight < c.args.task.limit = omega (arith, c.weights-test.true, c.weight.ensures) in
    let same = cost_there computes entries start run c.args.bytes.now i.presentation i.version in
    let rest = cost_stops computes entries start.presentation at c.args.task.limit run.stage low in
    let whole = cost_begun c.args.task start c.args.bytes.now c.requires.begun in
    omega (arith, i.cost c.args.task.limit i.within, rest, same, whole, c.in-Err-add_weight.ensures.most.1)

pub returns-in-Err-add_weight-clause-paced : goal.returns-in-Err-add_weight-clause-paced
returns-in-Err-add_weight-clause-paced g c =
    let start = c.args.run.now in
    let run = c.weights.run in
    let i = c.weights.invariant in
    let computes = does_compute c.args.task.way in
    let entries = c.args.task.entries in
    let limit = c.args.task.limit in
    let at = stored_in start c.args.bytes.now in
    let next : run.stage.table.weight < suc run.stage.table.weight = omega arith in
    let low : run.stage.table.weight < limit = omega (arith, c.weights-test.true, c.weight.ensures) in
    let same = cost_there computes entries start run c.args.bytes.now i.presentation i.version in
    let rest = cost_stops computes entries start.presentation at (suc run.stage.table.weight) run.stage next in
    let keeps = walk_keeps computes entries start.presentation at (limit - run.stage.table.weight) run.stage in
    let most : c.add_weight.new.steps ≤ c.args.steps.now + cost_of computes entries start.presentation at (suc run.stage.table.weight) start.stage =
    omega (arith, i.cost (suc run.stage.table.weight) (omega arith), rest, same, c.in-Err-add_weight.ensures.most.1) in
    paced_run c.args.task start c.args.bytes.now c.requires.begun _ _ run.stage.sections keeps.0
    (ap (λ (v : Walked). v.stage.sections) i.left ∙ keeps.1) (begins_whole _ _ _ i.taken) _ _
    (subst (λ k. c.add_weight.new.steps ≤ c.args.steps.now + cost_of computes entries start.presentation at (suc k) start.stage) (sym i.long) most)

pub returns-in-Err-put_last_section-clause-reply : goal.returns-in-Err-put_last_section-clause-reply
returns-in-Err-put_last_section-clause-reply g c =
    let start = c.args.run.now in
    let run = c.weights.run in
    let new = c.add_weight.new.run in
    let n = c.in-Ok-true.ensures in
    let i = c.weights.invariant in
    let computes = does_compute c.args.task.way in
    let entries = c.args.task.entries in
    let limit = c.args.task.limit in
    let at = stored_in start c.args.bytes.now in
    let low : run.stage.table.weight < limit = omega (arith, c.weights-test.true, c.weight.ensures) in
    let w = walk_of computes entries start.presentation at limit start.stage in
    let step = added_there computes entries start run c.args.bytes.now i.presentation i.version c.in-Ok-true.field-0 new.stage c.in-Ok-true.field-0-test
    n.adds in
    let added = step_adds computes entries start.presentation at run.stage new.stage step in
    let keeps = walk_keeps computes entries start.presentation at (limit - new.stage.table.weight) new.stage in
    let kept : new.presentation ≡ start.presentation = n.presentation ∙ i.presentation in
    let old = g.O.Sink.taken c.args.out.now in
    let before = g.O.Sink.taken c.weights.out in
    let after = g.O.Sink.taken c.put_last_section.new.out in
    let left : w ≡ walk_of computes entries start.presentation at (limit - new.stage.table.weight) new.stage =
    i.left ∙ walk_left computes entries start.presentation at limit run.stage new.stage low step in
    run_leaves c.args.task start c.args.bytes.now c.requires.way c.requires.begun old after _
    (subst (λ r. LeavesStream start.presentation w old after r) (sym c.outcome-in-Err-put_last_section.ensures)
    (section_cut start.presentation w old before after run.stage.sections added.0 keeps.0
    (ap (λ (v : Walked). v.stage.sections) left ∙ keeps.1 ∙ ap (λ ss. ss ++ keeps.0) added.1) i.taken c.in-Err-put_last_section.cut
    (subst (λ q. IsCut (section_bytes_of Two q.field added.0) before after c.in-Err-put_last_section.cut) kept
    (c.in-Err-put_last_section.ensures.puts run.stage.sections added.0 added.1))))

pub returns-in-Err-put_last_section-clause-cost : goal.returns-in-Err-put_last_section-clause-cost
returns-in-Err-put_last_section-clause-cost g c =
    let start = c.args.run.now in
    let run = c.weights.run in
    let i = c.weights.invariant in
    let computes = does_compute c.args.task.way in
    let entries = c.args.task.entries in
    let at = stored_in start c.args.bytes.now in
    let low : run.stage.table.weight < c.args.task.limit = omega (arith, c.weights-test.true, c.weight.ensures) in
    let same = cost_there computes entries start run c.args.bytes.now i.presentation i.version in
    let rest = cost_stops computes entries start.presentation at c.args.task.limit run.stage low in
    let whole = cost_begun c.args.task start c.args.bytes.now c.requires.begun in
    omega (arith, i.cost c.args.task.limit i.within, rest, same, whole, c.in-Ok-true.ensures.most.1)

pub returns-in-Err-put_last_section-clause-paced : goal.returns-in-Err-put_last_section-clause-paced
returns-in-Err-put_last_section-clause-paced g c =
    let start = c.args.run.now in
    let run = c.weights.run in
    let new = c.add_weight.new.run in
    let n = c.in-Ok-true.ensures in
    let i = c.weights.invariant in
    let computes = does_compute c.args.task.way in
    let entries = c.args.task.entries in
    let limit = c.args.task.limit in
    let at = stored_in start c.args.bytes.now in
    let next : run.stage.table.weight < suc run.stage.table.weight = omega arith in
    let low : run.stage.table.weight < limit = omega (arith, c.weights-test.true, c.weight.ensures) in
    let step = added_there computes entries start run c.args.bytes.now i.presentation i.version c.in-Ok-true.field-0 new.stage c.in-Ok-true.field-0-test
    n.adds in
    let added = step_adds computes entries start.presentation at run.stage new.stage step in
    let same = cost_there computes entries start run c.args.bytes.now i.presentation i.version in
    let rest = cost_stops computes entries start.presentation at (suc run.stage.table.weight) run.stage next in
    let keeps = walk_keeps computes entries start.presentation at (limit - run.stage.table.weight) run.stage in
    let most : c.add_weight.new.steps ≤ c.args.steps.now + cost_of computes entries start.presentation at (suc run.stage.table.weight) start.stage =
    omega (arith, i.cost (suc run.stage.table.weight) (omega arith), rest, same, n.most.1) in
    paced_run c.args.task start c.args.bytes.now c.requires.begun _ _ run.stage.sections keeps.0
    (ap (λ (v : Walked). v.stage.sections) i.left ∙ keeps.1)
    (begins_cut _ _ _ _ _ i.taken c.in-Err-put_last_section.cut (c.in-Err-put_last_section.ensures.puts run.stage.sections added.0 added.1)) _ _
    (subst (λ k. c.add_weight.new.steps ≤ c.args.steps.now + cost_of computes entries start.presentation at (suc k) start.stage) (sym i.long) most)

pub returns-clause-reply : goal.returns-clause-reply
returns-clause-reply g c =
    let start = c.args.run.now in
    let at = stored_in start c.args.bytes.now in
    let run = c.weights.run in
    let computes = does_compute c.args.task.way in
    let over : c.args.task.limit ≤ run.stage.table.weight = omega (arith, c.weights-test.false, c.weight.ensures) in
    run_leaves c.args.task start c.args.bytes.now c.requires.way c.requires.begun _ _ _
    (limit_streamed start.presentation _ _ _ run.stage
    (inl (c.weights.invariant.left ∙ walk_over computes c.args.task.entries start.presentation at c.args.task.limit run.stage over))
    c.weights.invariant.taken)

pub returns-clause-cost : goal.returns-clause-cost
returns-clause-cost g c =
    let start = c.args.run.now in
    let same = cost_begun c.args.task start c.args.bytes.now c.requires.begun in
    omega (arith, c.weights.invariant.cost c.args.task.limit c.weights.invariant.within, same)

pub returns-clause-paced : goal.returns-clause-paced
returns-clause-paced g c =
    let start = c.args.run.now in
    let run = c.weights.run in
    let i = c.weights.invariant in
    let computes = does_compute c.args.task.way in
    let entries = c.args.task.entries in
    let at = stored_in start c.args.bytes.now in
    let keeps = walk_keeps computes entries start.presentation at (c.args.task.limit - run.stage.table.weight) run.stage in
    let most : c.weights.steps ≤ c.args.steps.now + cost_of computes entries start.presentation at (suc run.stage.table.weight) start.stage =
    omega (arith, i.cost (suc run.stage.table.weight) (omega arith)) in
    paced_run c.args.task start c.args.bytes.now c.requires.begun _ _ run.stage.sections keeps.0
    (ap (λ (v : Walked). v.stage.sections) i.left ∙ keeps.1) (begins_whole _ _ _ i.taken) _ _
    (subst (λ k. c.weights.steps ≤ c.args.steps.now + cost_of computes entries start.presentation at (suc k) start.stage) (sym i.long) most)
