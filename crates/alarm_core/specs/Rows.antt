-- The words of a row of operators.
use Rattle.std.specs.Prelude.{List, [], ◌∷◌, ◌++◌}
use Rattle.health_expr.specs.declared.expr.Expr.{Expr}
use Rattle.health_expr.specs.declared.operator.Operator.{Operator}
use Rattle.health_expr.specs.TreeOf.{tree_of}
use Rattle.alarm_core.specs.declared.expr_words.Word.{Word}
use Rattle.alarm_core.specs.declared.expr_words.Word.TheVariants as word
use Rattle.alarm_core.specs.Same.{words}

-- each operator stands behind its right operand
abbrev pub row_words : List (Operator × Expr) → List Word
row_words [] = []
row_words (step ∷ steps) = words (tree_of step.1) ++ (word.Combined step.0 ∷ row_words steps)
