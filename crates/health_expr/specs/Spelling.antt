-- How words spell a tree: the forms of the language, and the levels of each place.
use Rattle.std.specs.Prelude.{◌≡◌, ℕ, suc, ◌-◌, ◌≤◌, List, [], ◌∷◌, ◌++◌, length, map, Option, Some, None, Ok, ℤ}
use Rattle.std.specs.List.{AllByRecursion}
use Rattle.fixed_num.specs.UnitsText.{units_read}
use Rattle.health_expr.specs.declared.parser.TheConstants.{LEVELS}
use Rattle.health_expr.specs.declared.operator.Prefix.{Prefix}
use Rattle.health_expr.specs.declared.operator.Prefix.TheVariants as prefix
use Rattle.health_expr.specs.declared.operator.Operator.{Operator}
use Rattle.health_expr.specs.declared.word.Kind.{Kind}
use Rattle.health_expr.specs.declared.operator.Operator.TheVariants as operator
use Rattle.health_expr.specs.declared.word.Kind.TheVariants.{Number, Name, Nan, Infinity, Abs, Open, Close, Question, Colon, Not, Plus, Minus, Star, Slash, Or, And, Equal, NotEqual, Less, AtMost, Greater, AtLeast}
use Rattle.health_expr.specs.Tree as tree
use Rattle.health_expr.specs.Tree.{Tree}
use Rattle.health_expr.specs.Words.{Placed, end_at, words_of}

-- a word of a text, and how many levels hold its place
pub record Spelled : Type 0 where
  pub word : Placed
  pub levels : ℕ

abbrev pub at : Placed → ℕ → Spelled
at word levels = record { word = word; levels = levels }

abbrev pub placed_in : List Spelled → List Placed
placed_in = map (λ spelled. spelled.word)

abbrev pub levels_of : List Spelled → List ℕ
levels_of = map (λ spelled. spelled.levels)

-- which prefix a word is
abbrev pub prefix_of : Kind → Option Prefix
prefix_of Not = Some prefix.Not
prefix_of Minus = Some prefix.Minus
prefix_of Plus = Some prefix.Plus
prefix_of _ = None

-- The word that joins two operands is this operator, and so loosely it binds them: products the tightest,
-- then sums, orders, equality, `and`, and `or`.
pub data Joins : ℕ → Kind → Operator → Type 0 where
  times : Joins 1 Star operator.Multiply
  over : Joins 1 Slash operator.Divide
  plus : Joins 2 Plus operator.Add
  minus : Joins 2 Minus operator.Subtract
  less : Joins 3 Less operator.Less
  at_most : Joins 3 AtMost operator.AtMost
  greater : Joins 3 Greater operator.Greater
  at_least : Joins 3 AtLeast operator.AtLeast
  equal : Joins 4 Equal operator.Equal
  not_equal : Joins 4 NotEqual operator.NotEqual
  and_also : Joins 5 And operator.And
  or_else : Joins 6 Or operator.Or

-- These words spell this tree, where so many levels hold them all. The first number says which
-- operators may stand bare: those of this looseness or less. 0 is the place of an operand, and 7 that
-- of an expression, in which a choice may stand bare too. A level is an open parenthesis, the operand
-- of a prefix, or the second or third operand of a choice.
pub data Spells : ℕ → ℕ → Tree → List Spelled → Type 0 where
  number : (levels : ℕ) (word : Placed) (units : ℤ)
      → word.kind ≡ Number → units_read word.said ≡ Ok units
      → Spells 0 levels (tree.number units) (at word levels ∷ [])
  nan : (levels : ℕ) (word : Placed) → word.kind ≡ Nan → Spells 0 levels tree.nan (at word levels ∷ [])
  infinity : (levels : ℕ) (word : Placed) → word.kind ≡ Infinity → Spells 0 levels tree.infinity (at word levels ∷ [])
  name : (levels : ℕ) (word : Placed) → word.kind ≡ Name → Spells 0 levels (tree.name word.said) (at word levels ∷ [])
  -- a prefix and an operand
  prefixed : (levels : ℕ) (word : Placed) (prefix : Prefix) (operand : Tree) (words : List Spelled)
      → prefix_of word.kind ≡ Some prefix → Spells 0 (suc levels) operand words
      → Spells 0 levels (tree.prefixed prefix operand) (at word levels ∷ words)
  -- an expression in parentheses
  enclosed : (levels : ℕ) (open_word close_word : Placed) (inner : Tree) (words : List Spelled)
      → open_word.kind ≡ Open → close_word.kind ≡ Close → Spells 7 (suc levels) inner words
      → Spells 0 levels inner (at open_word (suc levels) ∷ (words ++ at close_word (suc levels) ∷ []))
  -- `abs` and an expression in parentheses
  size : (levels : ℕ) (word open_word close_word : Placed) (inner : Tree) (words : List Spelled)
      → word.kind ≡ Abs → open_word.kind ≡ Open → close_word.kind ≡ Close → Spells 7 (suc levels) inner words
      → Spells 0 levels (tree.prefixed prefix.Abs inner) (at word levels ∷ at open_word (suc levels) ∷ (words ++ at close_word (suc levels) ∷ []))
  -- where looser operators may stand bare, tighter ones may
  tighter : (loose levels : ℕ) (inner : Tree) (words : List Spelled)
      → Spells loose levels inner words → Spells (suc loose) levels inner words
  -- a sum is a sum, `+` or `-`, and a product; and so the operators of each looseness
  combined : (loose levels : ℕ) (word : Placed) (operator : Operator) (left right : Tree) (one two : List Spelled)
      → Joins loose word.kind operator → Spells loose levels left one → Spells (loose - 1) levels right two
      → Spells loose levels (tree.combined operator left right) (one ++ at word levels ∷ two)
  -- a condition with no bare choice, `?`, an expression, `:`, and an expression
  chosen : (levels : ℕ) (question colon : Placed) (condition first second : Tree) (one two three : List Spelled)
      → question.kind ≡ Question → colon.kind ≡ Colon
      → Spells 6 levels condition one → Spells 7 (suc levels) first two → Spells 7 (suc levels) second three
      → Spells 7 levels (tree.chosen condition first second) (one ++ at question levels ∷ (two ++ at colon levels ∷ three))

-- at most 64 levels may hold a place
abbrev pub IsLow : Spelled → Type 0
IsLow spelled = spelled.levels ≤ LEVELS

-- the words of a text, all of it, spell a tree, and no place in it is too deep
pub record IsSpelling (text : List ℕ) (inner : Tree) : Type 0 where
  pub words : List Spelled
  pub spells : Spells 7 0 inner words
  pub all : words_of text ≡ placed_in words ++ end_at (length text) ∷ []
  pub low : AllByRecursion IsLow words
