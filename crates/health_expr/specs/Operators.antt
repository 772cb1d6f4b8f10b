-- What each operator makes of the values of its operands.
use Rattle.std.specs.Prelude.{not, ◌&&◌, ◌||◌}
use Rattle.health_expr.specs.declared.value.Value.{Value}
use Rattle.health_expr.specs.declared.operator.Prefix.{Prefix}
use Rattle.health_expr.specs.declared.operator.Prefix.TheVariants.{Not, Minus, Plus, Abs}
use Rattle.health_expr.specs.declared.operator.Operator.{Operator}
use Rattle.health_expr.specs.declared.operator.Operator.TheVariants.{Or, And, Equal, NotEqual, Less, AtMost, Greater, AtLeast, Add, Subtract, Multiply, Divide}
use Rattle.health_expr.specs.Value.{truth}
use Rattle.health_expr.specs.Arithmetic.{is_true, negated, size, sum, difference, product, quotient, equal, less, at_most}

abbrev pub prefixed : Prefix → Value → Value
prefixed Not a = truth (not (is_true a))
prefixed Minus a = negated a
prefixed Plus a = a
prefixed Abs a = size a

abbrev pub combined : Operator → Value → Value → Value
combined Or a b = truth (is_true a || is_true b)
combined And a b = truth (is_true a && is_true b)
combined Equal a b = truth (equal a b)
combined NotEqual a b = truth (not (equal a b))
combined Less a b = truth (less a b)
combined AtMost a b = truth (at_most a b)
combined Greater a b = truth (less b a)
combined AtLeast a b = truth (at_most b a)
combined Add a b = sum a b
combined Subtract a b = difference a b
combined Multiply a b = product a b
combined Divide a b = quotient a b
