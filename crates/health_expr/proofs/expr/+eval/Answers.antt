use Rattle.health_expr.proofs.Trees.{worth-Binary}
use Rattle.health_expr.proofs.expr.+eval.Goals as goal

pub Expr::eval-returns-in-Binary-clause-value : goal.Expr::eval-returns-in-Binary-clause-value
Expr::eval-returns-in-Binary-clause-value g t c =
    worth-Binary (g.V.Vars.worth c.args.vars.now) _ _ c.in-Binary.first c.in-Binary.rest _ _ c.in-Binary.is c.deref-in-Binary.ensures c.eval-in-Binary.ensures.value c.eval_rest.ensures.value
