-- Which names some words use, marked by number, and how many bytes of a frame these take.
use Rattle.std.specs.Prelude.{◌≡◌, ℕ, ◌+◌, ◌*◌, ◌<◌, ◌≤◌, Bool, false, List, length, slice_index, slice_index_or, sum_by, Option, Some, None}
use Rattle.replication.specs.declared.beats.SeriesWord.{SeriesWord}
use Rattle.replication.specs.declared.marks.Marks.{Marks}
use Rattle.replication.specs.declared.names.Names.{Names}
use Rattle.replication.specs.Bytes.{chart_size, dimension_size}
use Rattle.replication.specs.Names.{uses, uses_chart}
use Rattle.replication.specs.Places.{select, place}

-- a mark for each of n places: whether it passes the test
pub record AreMarks (test : ℕ → Bool) (n : ℕ) (marks : List Bool) : Type 0 where
  pub long : length marks ≡ n
  pub each : (k : ℕ) → k < n → slice_index_or marks k false ≡ test k

-- the new place of each of n places
pub record ArePlaces (test : ℕ → Bool) (n : ℕ) (places : List ℕ) : Type 0 where
  pub long : length places ≡ n
  pub each : (k : ℕ) → k < n → slice_index places k ≡ place test k

-- no new place is above the old one
abbrev pub AreSmall : List ℕ → Type 0
AreSmall places = (k : ℕ) → slice_index places k ≤ k

-- the marks of what the words use
pub record AreMarksOf (names : Names) (words : List SeriesWord) (marks : Marks) : Type 0 where
  pub dimensions : AreMarks (uses words) (length names.dimensions) marks.dimensions.items
  pub charts : AreMarks (uses_chart names words) (length names.charts) marks.charts.items

-- there is a mark for each name
pub record IsAsLongAs (names : Names) (marks : Marks) : Type 0 where
  pub dimensions : length marks.dimensions.items ≡ length names.dimensions
  pub charts : length marks.charts.items ≡ length names.charts

-- how many bytes the words and the names that they use take
abbrev pub words_size : Names → List SeriesWord → ℕ
words_size names words =
    8 * length words + sum_by dimension_size (select (uses words) 0 names.dimensions) + sum_by chart_size (select (uses_chart names words) 0 names.charts)

-- what is left of some room, where what took `before` takes `after` now: None where this is too much
abbrev pub IsLeft : ℕ → ℕ → ℕ → Option ℕ → Type 0
IsLeft before after room None = room + before < after
IsLeft before after room (Some left) = left + after ≡ room + before
