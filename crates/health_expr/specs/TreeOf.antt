-- The tree that an `Expr` stands for.
use Rattle.std.specs.Prelude.{ℕ, List, [], ◌∷◌, map}
use Rattle.health_expr.specs.declared.value.Value.{Value}
use Rattle.health_expr.specs.declared.operator.Operator.{Operator}
use Rattle.health_expr.specs.declared.expr.Expr.{Expr, fold-Expr}
use Rattle.health_expr.specs.declared.expr.Expr.TheOpen.{Expr-F}
use Rattle.health_expr.specs.Operators as of
use Rattle.health_expr.specs.Tree.{Tree, number, nan, infinity, name, prefixed, combined, chosen, worth}

-- operators that bind alike go to the left
abbrev pub chain : Tree → List (Operator × Tree) → Tree
chain left [] = left
chain left (step ∷ steps) = chain (combined step.0 left step.1) steps

-- one level, with each expression inside already seen as its tree
abbrev pub tree_step : Expr-F Tree → Tree
tree_step (Expr-F.Number units) = number units
tree_step Expr-F.Nan = nan
tree_step Expr-F.Infinity = infinity
tree_step (Expr-F.Name text) = name text
tree_step (Expr-F.Prefix prefix operand) = prefixed prefix operand.value
tree_step (Expr-F.Binary first rest) = chain first.value rest.items
tree_step (Expr-F.Choice condition first second) = chosen condition.value first.value second.value

abbrev pub tree_of : Expr → Tree
tree_of = fold-Expr Tree tree_step

-- the operators and the trees of a row
abbrev pub row_of : List (Operator × Expr) → List (Operator × Tree)
row_of = map (λ step. (step.0, tree_of step.1))

-- what operators make of a value and of expressions, from the left
abbrev pub combined_all : (List ℕ → Value) → Value → List (Operator × Expr) → Value
combined_all named left [] = left
combined_all named left (step ∷ steps) = combined_all named (of.combined step.0 left (worth named (tree_of step.1))) steps
