use Rattle.plain_tables.proofs.Holding.{push_holds}
use Rattle.fpl_check.proofs.LawsPassed.{accepted_closed, accepted_spans, conclusions_zero}
use Rattle.fpl_check.proofs.laws.accepted.Goals as goal

pub returns : goal.returns
returns c = record {
  spans = λ p T s rows holds section accepts. (accepted_closed p T s holds section rows accepts, accepted_spans p T s holds section rows accepts);
  next = λ p T s rows holds below few section accepts. push_holds p T rows holds below few (accepted_closed p T s holds section rows accepts)
      (accepted_spans p T s holds section rows accepts);
  zero = λ p T s conclusions holds section e tree standard. conclusions_zero p T s holds section conclusions e tree standard;
}
