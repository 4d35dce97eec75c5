-- The expression that a shared bracket tree stands for.
--
--   expr_of m   the same tree as an expression
use Rattle.fpl_model.specs.declared.expr.Expr.{Expr}
use Rattle.fpl_model.specs.declared.expr.Expr as expr
use Rattle.fpl_model.specs.declared.mono.Mono.{Mono}
use Rattle.fpl_model.specs.declared.mono.Mono as mono

abbrev pub expr_of : Mono → Expr
expr_of (mono.Gen n) = expr.Gen n
expr_of (mono.Pair' p l q r) = expr.Br (expr_of l) (expr_of r)
