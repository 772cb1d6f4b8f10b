-- A tree as text, with parentheses where they are needed.
use Rattle.std.specs.Prelude.{◌≢◌, ℕ, suc, ◌-◌, ◌≤◌, max, Bool, true, false, nat_lt, List, [], ◌∷◌, ◌++◌, codes, All, ℤ, pos, negsuc, ⊤}
use Rattle.fixed_num.specs.Units.{limit}
use Rattle.fixed_num.specs.UnitsText.{units_text}
use Rattle.health_expr.specs.declared.operator.Prefix.TheVariants as prefix
use Rattle.health_expr.specs.declared.operator.Operator.{Operator}
use Rattle.health_expr.specs.declared.operator.Operator.TheVariants as operator
use Rattle.health_expr.specs.declared.word.Kind.{Kind}
use Rattle.health_expr.specs.declared.word.Kind.TheVariants.{Number, Name, Nan, Infinity, Abs, Open, Close, Question, Colon, Not, Plus, Minus, Star, Slash, Or, And, Equal, NotEqual, Less, AtMost, Greater, AtLeast}
use Rattle.health_expr.specs.Grammar.{looseness}
use Rattle.health_expr.specs.Tree.{Tree, number, nan, infinity, name, prefixed, combined, chosen}

-- a word, what it says, and its bytes
pub record Lexeme : Type 0 where
  pub kind : Kind
  pub said : List ℕ
  pub bytes : List ℕ

-- ---- words

abbrev pub plain : Kind → List ℕ → Lexeme
plain kind bytes = record { kind = kind; said = []; bytes = bytes }

abbrev pub open_word : Lexeme
open_word = plain Open (codes "(")

abbrev pub close_word : Lexeme
close_word = plain Close (codes ")")

abbrev pub question_word : Lexeme
question_word = plain Question (codes "?")

abbrev pub colon_word : Lexeme
colon_word = plain Colon (codes ":")

abbrev pub operator_word : Operator → Lexeme
operator_word operator.Or = plain Or (codes "||")
operator_word operator.And = plain And (codes "&&")
operator_word operator.Equal = plain Equal (codes "==")
operator_word operator.NotEqual = plain NotEqual (codes "!=")
operator_word operator.Less = plain Less (codes "<")
operator_word operator.AtMost = plain AtMost (codes "<=")
operator_word operator.Greater = plain Greater (codes ">")
operator_word operator.AtLeast = plain AtLeast (codes ">=")
operator_word operator.Add = plain Plus (codes "+")
operator_word operator.Subtract = plain Minus (codes "-")
operator_word operator.Multiply = plain Star (codes "*")
operator_word operator.Divide = plain Slash (codes "/")

abbrev pub number_word : ℤ → Lexeme
number_word units = record { kind = Number; said = units_text units; bytes = units_text units }

abbrev pub name_word : List ℕ → Lexeme
name_word text = record { kind = Name; said = text; bytes = 36 ∷ 123 ∷ (text ++ 125 ∷ []) }

-- ---- the words of a tree

-- in parentheses, where they are needed
abbrev pub enclosed : Bool → List Lexeme → List Lexeme
enclosed true words = open_word ∷ (words ++ close_word ∷ [])
enclosed false words = words

-- the words of a tree where only operators up to this looseness may stand bare: 0 is the place of an
-- operand, and 7 that of an expression, in which a choice may stand bare too
abbrev pub words_in : ℕ → Tree → List Lexeme
words_in loose (number units) = number_word units ∷ []
words_in loose nan = plain Nan (codes "nan") ∷ []
words_in loose infinity = plain Infinity (codes "inf") ∷ []
words_in loose (name text) = name_word text ∷ []
words_in loose (prefixed prefix.Not operand) = plain Not (codes "!") ∷ words_in 0 operand
words_in loose (prefixed prefix.Minus operand) = plain Minus (codes "-") ∷ words_in 0 operand
words_in loose (prefixed prefix.Plus operand) = plain Plus (codes "+") ∷ words_in 0 operand
words_in loose (prefixed prefix.Abs operand) = plain Abs (codes "abs") ∷ enclosed true (words_in 7 operand)
words_in loose (combined operator left right) =
    enclosed (nat_lt loose (looseness operator)) (words_in (looseness operator) left ++ operator_word operator ∷ words_in (looseness operator - 1) right)
words_in loose (chosen condition first second) =
    enclosed (nat_lt loose 7) (words_in 6 condition ++ question_word ∷ (words_in 7 first ++ colon_word ∷ words_in 7 second))

-- each word behind a blank
abbrev pub text_of_words : List Lexeme → List ℕ
text_of_words [] = []
text_of_words (word ∷ words) = 32 ∷ (word.bytes ++ text_of_words words)

abbrev pub text_of : Tree → List ℕ
text_of tree = text_of_words (words_in 7 tree)

-- ---- what can be written

abbrev pub opened : Bool → ℕ → ℕ
opened true levels = suc levels
opened false levels = levels

-- how many levels are open at most in the text of a tree
abbrev pub levels_in : ℕ → Tree → ℕ
levels_in loose (number units) = 0
levels_in loose nan = 0
levels_in loose infinity = 0
levels_in loose (name text) = 0
levels_in loose (prefixed prefix.Not operand) = suc (levels_in 0 operand)
levels_in loose (prefixed prefix.Minus operand) = suc (levels_in 0 operand)
levels_in loose (prefixed prefix.Plus operand) = suc (levels_in 0 operand)
levels_in loose (prefixed prefix.Abs operand) = suc (levels_in 7 operand)
levels_in loose (combined operator left right) =
    opened (nat_lt loose (looseness operator)) (max (levels_in (looseness operator) left) (levels_in (looseness operator - 1) right))
levels_in loose (chosen condition first second) =
    opened (nat_lt loose 7) (max (levels_in 6 condition) (suc (max (levels_in 7 first) (levels_in 7 second))))

-- a number of the language has no sign, and is within the limit
abbrev pub IsLiteral : ℤ → Type 0
IsLiteral (pos units) = units ≤ limit
IsLiteral (negsuc units) = ⊥

-- numbers are those of the language, and no name has a `}`
abbrev pub IsWritable : Tree → Type 0
IsWritable (number units) = IsLiteral units
IsWritable nan = ⊤
IsWritable infinity = ⊤
IsWritable (name text) = All (λ byte. byte ≢ 125) text
IsWritable (prefixed prefix operand) = IsWritable operand
IsWritable (combined operator left right) = IsWritable left × IsWritable right
IsWritable (chosen condition first second) = IsWritable condition × IsWritable first × IsWritable second
