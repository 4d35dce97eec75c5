use Rattle.std.proofs.Common.{◌≡◌, ◌++◌, ◌+◌, drop}
use Rattle.fpl_reasons.specs.Why.{queries_text}
use Rattle.fpl_reasons.proofs.why.push_queries.Given as goal

-- what is out so far, then the text of the queries that are left, is the text of all
abbrev pub invariant-loop-n : goal.invariant-loop-n
invariant-loop-n l = l.initial.out.items ++ queries_text l.p 1 l.all ≡ l.out.items ++ queries_text l.p (l.n + 1) (drop l.n l.all)
