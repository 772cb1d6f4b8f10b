-- The first fault of a text, by what may follow the words before it.
use Rattle.std.specs.Prelude.{◌≡◌, ℕ, ◌<◌, ◌≤◌, List, [], ◌∷◌, ◌++◌, map, Err}
use Rattle.std.specs.List.{AllByRecursion}
use Rattle.fixed_num.specs.declared.units.NumberFault.TheVariants.{TooWide}
use Rattle.fixed_num.specs.UnitsText.{units_read}
use Rattle.health_expr.specs.declared.parser.TheConstants.{LEVELS}
use Rattle.health_expr.specs.declared.word.Kind.{Kind}
use Rattle.health_expr.specs.declared.word.Kind.TheVariants.{End, Number}
use Rattle.health_expr.specs.Spelling.{Spelled, placed_in, Spells, IsLow}
use Rattle.health_expr.specs.Tree.{Tree}
use Rattle.health_expr.specs.Words.{Placed, words_of}

abbrev pub kinds : List Placed → List Kind
kinds = map (λ word. word.kind)

-- words of these kinds begin some spelling, of any depth; the text's end is its last word
pub record GoesOn (begun : List Kind) : Type 0 where
  pub tree : Tree
  pub words : List Spelled
  pub more : List Kind
  pub spells : Spells 7 0 tree words
  pub begins : kinds (placed_in words) ++ End ∷ [] ≡ begun ++ more

-- these words begin some spelling, and none of them is too deep
pub record IsBegun (before : List Placed) : Type 0 where
  pub tree : Tree
  pub front : List Spelled
  pub more : List Spelled
  pub spells : Spells 7 0 tree (front ++ more)
  pub begins : placed_in front ≡ before
  pub low : AllByRecursion IsLow front

-- and so with a word of this kind behind them, which so many levels hold
pub record Reaches (before : List Placed) (kind : Kind) (levels : ℕ) : Type 0 where
  pub tree : Tree
  pub front : List Spelled
  pub next : Spelled
  pub more : List Spelled
  pub spells : Spells 7 0 tree (front ++ next ∷ more)
  pub begins : placed_in front ≡ before
  pub low : AllByRecursion IsLow front
  pub kind_is : next.word.kind ≡ kind
  pub levels_are : next.levels ≡ levels

-- a word of a text, and the words before it
pub record Splits (text : List ℕ) (before : List Placed) (word : Placed) : Type 0 where
  pub behind : List Placed
  pub words : words_of text ≡ before ++ word ∷ behind

-- ---- faults

-- at this place stands the first word that does not fit: the words before it begin a spelling, and with
-- a word of its kind behind them they begin none
pub record IsMisfit (text : List ℕ) (place : ℕ) : Type 0 where
  pub before : List Placed
  pub word : Placed
  pub splits : Splits text before word
  pub place_is : place ≡ word.place
  pub fits : IsBegun before
  pub never : GoesOn (kinds before ++ word.kind ∷ []) → ⊥

-- a word fits, and more than 64 levels hold its place; the words before it have no fault
pub record IsTooDeep (text : List ℕ) : Type 0 where
  pub before : List Placed
  pub word : Placed
  pub splits : Splits text before word
  pub levels : ℕ
  pub fits : Reaches before word.kind levels
  pub deep : LEVELS < levels

-- a number fits that has more than seven decimals or is past the limit, at a place that is not too deep; the
-- words before it have no fault
pub record IsTooWide (text : List ℕ) : Type 0 where
  pub before : List Placed
  pub word : Placed
  pub splits : Splits text before word
  pub levels : ℕ
  pub fits : Reaches before word.kind levels
  pub low : levels ≤ LEVELS
  pub number : word.kind ≡ Number
  pub wide : units_read word.said ≡ Err TooWide
