use Rattle.std.proofs.Common.{◌≡◌, ℕ, ◌+◌, ◌-◌, ◌*◌, ◌≤◌, length}
use Rattle.health_expr.specs.Grammar.{operand, row, steps}
use Rattle.health_expr.specs.TreeOf.{tree_of, row_of, chain}
use Rattle.health_expr.proofs.parser.+parser.Given as goal

-- a place one level deeper comes later than all that is read at this one
abbrev pub decreases-operand : goal.decreases-operand
decreases-operand l = l.levels * 40 + 1

abbrev pub decreases-with_prefix : goal.decreases-with_prefix
decreases-with_prefix l = l.levels * 40 + 31

abbrev pub decreases-size : goal.decreases-size
decreases-size l = l.levels * 40 + 32

abbrev pub decreases-parenthesized : goal.decreases-parenthesized
decreases-parenthesized l = l.levels * 40 + 31

abbrev pub decreases-row : goal.decreases-row
decreases-row l = l.levels * 40 + l.loose * 2 + 2

abbrev pub decreases-steps : goal.decreases-steps
decreases-steps l = l.levels * 40 + l.loose * 2 + 1

abbrev pub decreases-expression : goal.decreases-expression
decreases-expression l = l.levels * 40 + 30

abbrev pub decreases-chosen : goal.decreases-chosen
decreases-chosen l = l.levels * 40 + 31

-- what is left to read, behind the chain so far, is what was to be read
abbrev pub invariant-steps-loop-operator : goal.invariant-steps-loop-operator
invariant-steps-loop-operator l =
    ((count : ℕ) × (length l.words ≤ count)
    × (steps count l.loose (row (l.loose - 1) (operand l.levels)) (chain (tree_of l.fn.left) (row_of l.rest.items)) l.words
    ≡ steps (length l.fn.words) l.loose (row (l.loose - 1) (operand l.levels)) (tree_of l.fn.left) l.fn.words))
    × (length l.words ≤ length l.fn.words) × (tree_of l.left ≡ tree_of l.fn.left)

abbrev pub decreases-steps-loop-operator : goal.decreases-steps-loop-operator
decreases-steps-loop-operator l = length l.words
