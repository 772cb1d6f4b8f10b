use Rattle.health_expr.proofs.SpelledTexts.{returned_spelling, returned_misfit, returned_too_deep, returned_too_wide}
use Rattle.health_expr.proofs.expr.Expr.read.Goals as goal

pub returns-clause-spelling : goal.returns-clause-spelling
returns-clause-spelling c = returned_spelling _ _ c.read.ensures

pub returns-clause-misfit : goal.returns-clause-misfit
returns-clause-misfit c = returned_misfit _ _ c.read.ensures

pub returns-clause-levels : goal.returns-clause-levels
returns-clause-levels c = returned_too_deep _ _ c.read.ensures

pub returns-clause-number : goal.returns-clause-number
returns-clause-number c = returned_too_wide _ _ c.read.ensures
