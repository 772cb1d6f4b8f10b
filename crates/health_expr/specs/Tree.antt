-- An expression as a tree, and what it is worth.
use Rattle.std.specs.Prelude.{ℕ, List, false, if◌then◌else◌, ℤ}
use Rattle.health_expr.specs.declared.value.Value.{Value}
use Rattle.health_expr.specs.declared.value.Value.TheVariants.{Nan, Inf}
use Rattle.health_expr.specs.declared.operator.Prefix.{Prefix}
use Rattle.health_expr.specs.declared.operator.Operator.{Operator}
use Rattle.health_expr.specs.Value.{fixed}
use Rattle.health_expr.specs.Arithmetic.{is_true}
use Rattle.health_expr.specs.Operators as of

pub data Tree : Type 0 where
  -- of ten-millionths
  number : (units : ℤ) → Tree
  nan : Tree
  infinity : Tree
  name : (name : List ℕ) → Tree
  prefixed : (prefix : Prefix) (operand : Tree) → Tree
  combined : (operator : Operator) (left right : Tree) → Tree
  chosen : (condition first second : Tree) → Tree

-- what a tree is worth, where each name is worth what `named` says
abbrev pub worth : (List ℕ → Value) → Tree → Value
worth named (number units) = fixed units
worth named nan = Nan
worth named infinity = Inf false
worth named (name text) = named text
worth named (prefixed prefix operand) = of.prefixed prefix (worth named operand)
worth named (combined operator left right) = of.combined operator (worth named left) (worth named right)
worth named (chosen condition first second) = if is_true (worth named condition) then worth named first else worth named second
