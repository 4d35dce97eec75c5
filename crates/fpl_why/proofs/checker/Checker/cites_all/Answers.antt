use Rattle.std.proofs.Common.{get_or, length, sym, ◌∙◌, arith}
use Rattle.fpl_why.specs.Checking.{kind_in, lines_of}
use Rattle.fpl_why.proofs.Lists.{terms_at}
use Rattle.fpl_why.proofs.Citing.{get_or_self, cited_differ, cited_stop, cited_on, cited_end}
use Rattle.fpl_why.proofs.checker.Checker.cites_all.Goals as goal

pub returns-then-es-cs : goal.returns-then-es-cs
returns-then-es-cs c =
    let self = c.args.self.now in
    cited_differ (kind_in self) (lines_of self) c.args.before c.args.cs.now c.args.es.now c.args.fs.now (λ h k. c.if-es-cs.true h)

pub returns-then-fs-cs : goal.returns-then-fs-cs
returns-then-fs-cs c =
    let self = c.args.self.now in
    cited_differ (kind_in self) (lines_of self) c.args.before c.args.cs.now c.args.es.now c.args.fs.now (λ h k. c.if-fs-cs.true k)

pub returns-then-not-cites : goal.returns-then-not-cites
returns-then-not-cites c =
    let self = c.args.self.now in
    let left = c.loop-i.invariant.left_long in
    let right = c.loop-i.invariant.right_long in
    cited_stop (kind_in self) (lines_of self) c.args.before c.args.cs.now c.args.es.now c.args.fs.now c.loop-i.i c.index-es-i.result c.index-fs-i.result
    (get_or c.args.cs.now c.loop-i.i 0)
    (omega arith) (omega arith) (omega arith) (get_or_self c.args.cs.now c.loop-i.i 0
    (omega arith)) c.index-es-i.is c.index-fs-i.is c.loop-i.invariant.same (sym c.cites.ensures ∙ c.if-not-cites.true)

pub loop-i-preserved : goal.loop-i-preserved
loop-i-preserved c =
    let self = c.args.self.now in
    let left = c.loop-i.invariant.left_long in
    let right = c.loop-i.invariant.right_long in
    record {
      left_long = left;
      right_long = right;
      same = cited_on (kind_in self)
          (lines_of self) c.args.before c.args.cs.now c.args.es.now c.args.fs.now c.loop-i.i c.index-es-i.result c.index-fs-i.result
          (get_or c.args.cs.now c.loop-i.i 0)
          (omega arith) (omega arith) (omega arith) (get_or_self c.args.cs.now c.loop-i.i 0
          (omega arith)) c.index-es-i.is c.index-fs-i.is c.loop-i.invariant.same (sym c.cites.ensures ∙ c.if-not-cites.false);
    }

pub returns : goal.returns
returns c =
    let self = c.args.self.now in
    let left = c.loop-i.invariant.left_long in
    let right = c.loop-i.invariant.right_long in
    cited_end (kind_in self) (lines_of self) c.args.before c.args.cs.now c.args.es.now c.args.fs.now c.loop-i.i (omega arith) (omega arith) (omega arith)
    c.loop-i.invariant.same

pub cites-requires-clause-left : goal.cites-requires-clause-left
cites-requires-clause-left c =
    let self = c.args.self.now in
    let left = c.loop-i.invariant.left_long in
    terms_at (kind_in self) (length self.presentation.now.generators) c.args.es.now c.loop-i.i c.index-es-i.result c.requires.members (omega arith)
    c.index-es-i.is

pub cites-requires-clause-right : goal.cites-requires-clause-right
cites-requires-clause-right c =
    let self = c.args.self.now in
    let right = c.loop-i.invariant.right_long in
    terms_at (kind_in self) (length self.presentation.now.generators) c.args.fs.now c.loop-i.i c.index-fs-i.result c.requires.right (omega arith)
    c.index-fs-i.is
