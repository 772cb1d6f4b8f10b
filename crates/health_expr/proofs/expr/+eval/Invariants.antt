use Rattle.std.proofs.Common.{◌≡◌, drop}
use Rattle.health_expr.specs.TreeOf.{combined_all}
use Rattle.health_expr.specs.Value.{IsWithin}
use Rattle.health_expr.proofs.expr.+eval.Given as goal

abbrev pub invariant-eval_rest-loop-operator : goal.invariant-eval_rest-loop-operator
invariant-eval_rest-loop-operator g l =
    (combined_all (g.V.Vars.worth l.vars) l.value (drop l.operator-index l.operator-items) ≡ combined_all (g.V.Vars.worth l.vars) l.fn.first l.operator-items) × IsWithin l.value
