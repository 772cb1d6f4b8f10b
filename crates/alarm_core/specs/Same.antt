-- Whether two alarms say the same.
use Rattle.std.specs.Prelude.{ℕ, ◌==◌, Bool, true, false, ◌&&◌, List, [], ◌∷◌, ◌++◌}
use Rattle.std.specs.Bool.{beq}
use Rattle.std.specs.Cmp.Lexicographic.{pointwise}
use Rattle.std.specs.Option.{option_eq}
use Rattle.std.specs.Ordering.{int_eq}
use Rattle.std.specs.Str.{bytes_eq}
use Rattle.health_config.specs.Entity.{Alarm}
use Rattle.health_config.specs.declared.lookup.Lookup.{Lookup}
use Rattle.health_config.specs.declared.lookup.Method.{Method}
use Rattle.health_config.specs.declared.lookup.Method.TheVariants as method
use Rattle.health_expr.specs.declared.operator.Operator.{Operator}
use Rattle.health_expr.specs.declared.operator.Operator.TheVariants as operator
use Rattle.health_expr.specs.declared.operator.Prefix.{Prefix}
use Rattle.health_expr.specs.declared.operator.Prefix.TheVariants as prefix
use Rattle.health_expr.specs.Tree.{Tree, number, nan, infinity, name, prefixed, combined, chosen}
use Rattle.alarm_core.specs.declared.expr_words.Word.{Word}
use Rattle.alarm_core.specs.declared.expr_words.Word.TheVariants as word

-- ---- expressions

-- the words of an expression: what takes operands stands behind them, so that no parentheses are needed
abbrev pub words : Tree → List Word
words (number units) = word.Number units ∷ []
words nan = word.Nan ∷ []
words infinity = word.Infinity ∷ []
words (name text) = word.Name text ∷ []
words (prefixed prefix operand) = words operand ++ word.Prefixed prefix ∷ []
words (combined operator left right) = words left ++ (words right ++ word.Combined operator ∷ [])
words (chosen condition first second) = words condition ++ (words first ++ (words second ++ word.Chosen ∷ []))

abbrev pub prefix_number : Prefix → ℕ
prefix_number prefix.Not = 0
prefix_number prefix.Minus = 1
prefix_number prefix.Plus = 2
prefix_number prefix.Abs = 3

abbrev pub operator_number : Operator → ℕ
operator_number operator.Or = 0
operator_number operator.And = 1
operator_number operator.Equal = 2
operator_number operator.NotEqual = 3
operator_number operator.Less = 4
operator_number operator.AtMost = 5
operator_number operator.Greater = 6
operator_number operator.AtLeast = 7
operator_number operator.Add = 8
operator_number operator.Subtract = 9
operator_number operator.Multiply = 10
operator_number operator.Divide = 11

abbrev pub same_word : Word → Word → Bool
same_word (word.Number one) (word.Number other) = int_eq one other
same_word word.Nan word.Nan = true
same_word word.Infinity word.Infinity = true
same_word (word.Name one) (word.Name other) = bytes_eq one other
same_word (word.Prefixed one) (word.Prefixed other) = prefix_number one == prefix_number other
same_word (word.Combined one) (word.Combined other) = operator_number one == operator_number other
same_word word.Chosen word.Chosen = true
same_word _ _ = false

-- expressions are the same where they have the same words
unfoldable pub same_tree : Tree → Tree → Bool
same_tree one other = pointwise same_word (words one) (words other)

-- ---- lookups

abbrev pub method_number : Method → ℕ
method_number method.Average = 0
method_number method.Min = 1
method_number method.Max = 2
method_number method.Sum = 3
method_number method.Count = 4
method_number method.AnomalyRate = 5

unfoldable pub same_lookup : Lookup → Lookup → Bool
same_lookup one other =
    (method_number one.method == method_number other.method)
    && ((one.after == other.after)
    && ((one.before == other.before)
    && (beq one.absolute other.absolute
    && (beq one.percentage other.percentage
    && (beq one.min2max other.min2max
    && option_eq (pointwise bytes_eq) one.dims other.dims)))))

-- ---- alarms

unfoldable pub same_texts : Alarm → Alarm → Bool
same_texts one other =
    bytes_eq one.name other.name
    && (bytes_eq one.on other.on
    && (bytes_eq one.units other.units
    && (bytes_eq one.info other.info
    && bytes_eq one.to other.to)))

unfoldable pub same_numbers : Alarm → Alarm → Bool
same_numbers one other =
    beq one.template other.template
    && ((one.every == other.every)
    && (option_eq int_eq one.green other.green
    && (option_eq int_eq one.red other.red
    && beq one.no_clear other.no_clear)))

unfoldable pub same_delay : Alarm → Alarm → Bool
same_delay one other =
    (one.up == other.up)
    && ((one.down == other.down)
    && (int_eq one.multiplier other.multiplier
    && option_eq ◌==◌ one.max other.max))

unfoldable pub same_trees : Alarm → Alarm → Bool
same_trees one other =
    option_eq same_tree one.calc other.calc
    && (option_eq same_tree one.warn other.warn
    && option_eq same_tree one.crit other.crit)

-- they differ in no field
unfoldable pub is_same : Alarm → Alarm → Bool
is_same one other =
    same_texts one other
    && (same_numbers one other
    && (same_delay one other
    && (option_eq same_lookup one.lookup other.lookup
    && same_trees one other)))
