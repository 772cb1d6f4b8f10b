-- The grammar: the tree that words are, or the first fault in them.
use Rattle.std.specs.Prelude.{ℕ, zero, suc, ◌==◌, Bool, true, false, if◌then◌else◌, List, length, Option, Some, None, Result, Ok, Err, ℤ}
use Rattle.fixed_num.specs.declared.units.NumberFault.{NumberFault}
use Rattle.fixed_num.specs.UnitsText.{units_read}
use Rattle.health_expr.specs.declared.parser.TheConstants.{LEVELS}
use Rattle.health_expr.specs.declared.fault.ExprFault.{ExprFault}
use Rattle.health_expr.specs.declared.fault.ExprFault.TheVariants.{Syntax, TooDeep, NumberTooWide}
use Rattle.health_expr.specs.declared.operator.Prefix.{Prefix}
use Rattle.health_expr.specs.declared.operator.Prefix.TheVariants as prefix
use Rattle.health_expr.specs.declared.operator.Operator.{Operator}
use Rattle.health_expr.specs.declared.operator.Operator.TheVariants as operator
use Rattle.health_expr.specs.declared.word.Kind.{Kind}
use Rattle.health_expr.specs.declared.word.Kind.TheVariants.{End, Number, Name, Nan, Infinity, Abs, Open, Close, Question, Colon, Not, Plus, Minus, Star, Slash, Or, And, Equal, NotEqual, Less, AtMost, Greater, AtLeast}
use Rattle.health_expr.specs.Tree.{Tree, number, nan, infinity, name, prefixed, combined, chosen}
use Rattle.health_expr.specs.Words.{Placed, words_of, first, after, sees}

-- ---- tables

-- how many kinds of operators bind at least as tightly: from 1, the tightest, to 6
abbrev pub looseness : Operator → ℕ
looseness operator.Multiply = 1
looseness operator.Divide = 1
looseness operator.Add = 2
looseness operator.Subtract = 2
looseness operator.Less = 3
looseness operator.AtMost = 3
looseness operator.Greater = 3
looseness operator.AtLeast = 3
looseness operator.Equal = 4
looseness operator.NotEqual = 4
looseness operator.And = 5
looseness operator.Or = 6

abbrev pub operator_of : Kind → Option Operator
operator_of Star = Some operator.Multiply
operator_of Slash = Some operator.Divide
operator_of Plus = Some operator.Add
operator_of Minus = Some operator.Subtract
operator_of Less = Some operator.Less
operator_of AtMost = Some operator.AtMost
operator_of Greater = Some operator.Greater
operator_of AtLeast = Some operator.AtLeast
operator_of Equal = Some operator.Equal
operator_of NotEqual = Some operator.NotEqual
operator_of And = Some operator.And
operator_of Or = Some operator.Or
operator_of _ = None

-- what an operand may begin with
abbrev pub begins_operand : Kind → Bool
begins_operand Number = true
begins_operand Name = true
begins_operand Nan = true
begins_operand Infinity = true
begins_operand Abs = true
begins_operand Open = true
begins_operand Not = true
begins_operand Plus = true
begins_operand Minus = true
begins_operand _ = false

-- ---- what is read

-- a tree and the words behind it, or a fault
abbrev pub Outcome : Type 0
Outcome = Result (Tree × List Placed) ExprFault

abbrev pub Reader : Type 0
Reader = List Placed → Outcome

infixl 10 ◌>>=◌
abbrev pub ◌>>=◌ : Outcome → (Tree → Reader) → Outcome
(Ok read) >>= f = f read.0 read.1
(Err fault) >>= f = Err fault

-- the next word does not fit
abbrev pub misfit : Reader
misfit words = Err (Syntax (first words).place)

-- a word of this kind, and what is read behind it
abbrev pub behind : Kind → Reader → Reader
behind kind f words = if sees kind words then f (after words) else misfit words

-- ---- operands

-- where one level too many is open, whatever would fit is too deep
unfoldable pub blocked : Reader
blocked words = if begins_operand (first words).kind then Err TooDeep else misfit words

-- a number that is not read has more than seven decimals, or is above the limit
abbrev pub number_by : Result ℤ NumberFault → Reader
number_by (Ok units) words = Ok (number units, after words)
number_by (Err fault) words = Err NumberTooWide

-- an expression in parentheses, where so many levels may open
unfoldable pub parenthesized : ℕ → Reader → Reader
parenthesized levels inner words =
    behind Open (λ words. if levels == 0 then Err TooDeep else (inner words >>= λ tree. behind Close (λ words. Ok (tree, words)))) words

-- a prefix, and the operand behind it
unfoldable pub with_prefix : Prefix → Reader → Reader
with_prefix prefix operand words = operand words >>= λ tree words. Ok (prefixed prefix tree, words)

-- an operand, by the kind of its first word, where so many levels may open; one level deeper stand
-- the operand of a prefix and an expression in parentheses
abbrev pub operand_by : ℕ → (operand expression : Reader) → Kind → Reader
operand_by levels operand expression Number words = number_by (units_read (first words).said) words
operand_by levels operand expression Name words = Ok (name (first words).said, after words)
operand_by levels operand expression Nan words = Ok (nan, after words)
operand_by levels operand expression Infinity words = Ok (infinity, after words)
operand_by levels operand expression Abs words = with_prefix prefix.Abs (parenthesized levels expression) (after words)
operand_by levels operand expression Open words = parenthesized levels expression words
operand_by levels operand expression Not words = with_prefix prefix.Not operand (after words)
operand_by levels operand expression Plus words = with_prefix prefix.Plus operand (after words)
operand_by levels operand expression Minus words = with_prefix prefix.Minus operand (after words)
operand_by levels operand expression _ words = misfit words

unfoldable pub operand_at : ℕ → (operand expression : Reader) → Reader
operand_at levels operand expression words = operand_by levels operand expression (first words).kind words

-- ---- operators

-- the operator of this looseness
abbrev pub if_loose : ℕ → Option Operator → Option Operator
if_loose loose None = None
if_loose loose (Some operator) = if looseness operator == loose then Some operator else None

unfoldable pub operator_at : ℕ → List Placed → Option Operator
operator_at loose words = if_loose loose (operator_of (first words).kind)

abbrev pub step : (Tree → Reader) → Reader → Tree → Option Operator → Reader
step more tighter left None words = Ok (left, words)
step more tighter left (Some operator) words = tighter (after words) >>= λ right. more (combined operator left right)

-- operators of one looseness and their right operands, taken from the left; the first number bounds
-- how many, and that of the words is always enough
unfoldable pub steps : ℕ → ℕ → Reader → Tree → Reader
steps zero loose tighter left words = Ok (left, words)
steps (suc count) loose tighter left words = step (steps count loose tighter) tighter left (operator_at loose words) words

-- operands between operators of at most this looseness
unfoldable pub row : ℕ → Reader → Reader
row zero operand words = operand words
row (suc tighter) operand words =
    row tighter operand words >>= λ left words. steps (length words) (suc tighter) (row tighter operand) left words

-- ---- expressions

-- what is chosen between, one level deeper
unfoldable pub chosen_by : Tree → Reader → Reader
chosen_by condition expression words =
    expression words >>= λ first. behind Colon (λ words. expression words >>= λ second words. Ok (chosen condition first second, words))

-- a row, and behind a `?` what is chosen between
unfoldable pub choice : (operand expression : Reader) → Reader
choice operand expression words =
    row 6 operand words >>= λ condition words. if sees Question words then chosen_by condition expression (after words) else Ok (condition, words)

-- The number is one more than how many levels may still open: where it is 0, one is open too many.
unfoldable mutual
  pub operand : ℕ → Reader
  operand zero words = blocked words
  operand (suc levels) words = operand_at levels (operand levels) (expression levels) words

  pub expression : ℕ → Reader
  expression zero words = blocked words
  expression (suc levels) words = choice (operand_at levels (operand levels) (expression levels)) (expression levels) words

-- nothing may follow an expression
abbrev pub whole : Outcome → Result Tree ExprFault
whole (Ok read) = if sees End read.1 then Ok read.0 else Err (Syntax (first read.1).place)
whole (Err fault) = Err fault

-- the tree that a text is, or its first fault; 64 levels may be open at a place
unfoldable pub tree_read : List ℕ → Result Tree ExprFault
tree_read text = whole (expression (suc LEVELS) (words_of text))
