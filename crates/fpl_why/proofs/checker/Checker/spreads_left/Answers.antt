use Rattle.std.proofs.Common.{length, sym, ◌∙◌, arith}
use Rattle.math_algebra.specs.Tree.{bracket_of}
use Rattle.fpl_why.specs.Checking.{kind_in, tree}
use Rattle.fpl_why.proofs.Lists.{terms_at, spread_long, spread_stop, spread_on, spread_end}
use Rattle.fpl_why.proofs.checker.Checker.spreads_left.Goals as goal

pub returns-then-fs-es : goal.returns-then-fs-es
returns-then-fs-es c =
    let self = c.args.self.now in
    spread_long (kind_in self) (length self.presentation.now.generators) (λ e. bracket_of e (tree self c.args.g.now)) c.args.es.now c.args.fs.now
    (λ e. omega arith)

pub returns-then-not-is_bracket : goal.returns-then-not-is_bracket
returns-then-not-is_bracket c =
    let self = c.args.self.now in
    let long = c.loop-i.invariant.long in
    spread_stop (kind_in self) (length self.presentation.now.generators) (λ e. bracket_of e
    (tree self c.args.g.now)) c.args.es.now c.args.fs.now c.loop-i.i c.index-es-i.result c.index-fs-i.result
    (omega arith) (omega arith) c.index-es-i.is c.index-fs-i.is c.loop-i.invariant.same (sym c.is_bracket.ensures ∙ c.if-not-is_bracket.true)

pub loop-i-preserved : goal.loop-i-preserved
loop-i-preserved c =
    let self = c.args.self.now in
    let long = c.loop-i.invariant.long in
    record {
      long = long;
      same = spread_on (kind_in self) (length self.presentation.now.generators) (λ e. bracket_of e
          (tree self c.args.g.now)) c.args.es.now c.args.fs.now c.loop-i.i c.index-es-i.result c.index-fs-i.result
          (omega arith) (omega arith) c.index-es-i.is c.index-fs-i.is c.loop-i.invariant.same (sym c.is_bracket.ensures ∙ c.if-not-is_bracket.false);
    }

pub returns : goal.returns
returns c =
    let self = c.args.self.now in
    let long = c.loop-i.invariant.long in
    spread_end (kind_in self) (length self.presentation.now.generators) (λ e. bracket_of e
    (tree self c.args.g.now)) c.args.es.now c.args.fs.now c.loop-i.i (omega arith) (omega arith) c.loop-i.invariant.same

pub is_bracket-requires-clause-first : goal.is_bracket-requires-clause-first
is_bracket-requires-clause-first c =
    let self = c.args.self.now in
    terms_at (kind_in self) (length self.presentation.now.generators) c.args.es.now c.loop-i.i c.index-es-i.result c.requires.members (omega arith)
    c.index-es-i.is

pub is_bracket-requires-clause-right : goal.is_bracket-requires-clause-right
is_bracket-requires-clause-right c =
    let self = c.args.self.now in
    let long = c.loop-i.invariant.long in
    terms_at (kind_in self) (length self.presentation.now.generators) c.args.fs.now c.loop-i.i c.index-fs-i.result c.requires.right (omega arith)
    c.index-fs-i.is
