use Rattle.std.specs.Prelude.{◌≡◌, ◌<◌, ℕ, true, List, [], ◌∷◌, length, filter_map, All, Option, IfSome}
use Rattle.std.specs.List.{enumerate_from}
use Rattle.std.specs.Option.{option_map}
use Rattle.storage_number.specs.Word.{is_word}
use Rattle.algorithms.specs.declared.last.Last.{Last}
use Rattle.algorithms.specs.Words.{packed}
use Rattle.history.specs.declared.beat.OpenBeat.{OpenBeat}
use Rattle.history.specs.declared.beat.OpenDim.{OpenDim}
use Rattle.history.specs.History.{Beat, collected, registry_of}
use Rattle.history.specs.Points.{last_set, word_at}
use Rattle.history.specs.Registry.{Registry}
use Rattle.beat_points.specs.declared.series_word.SeriesWord.{SeriesWord}
use Rattle.beat_points.specs.LastRows.{AreLastOf}

-- the points that a beat gives: the word of each dimension of the registry that has one, by the number of
-- its series
abbrev pub beat_points : Registry → List Beat → ℕ → OpenBeat → List SeriesWord
beat_points registry h moment beat =
    filter_map (λ (place : ℕ × OpenDim). option_map (λ (word : ℕ). record { series = place.0; word = word }) (word_at packed registry h moment beat place.1)) (enumerate_from 0 registry.dimensions)

-- each point is of a series that the registry has, and its word is a storage number
abbrev pub ArePointsIn : Registry → List SeriesWord → Type 0
ArePointsIn registry points = All (λ (point : SeriesWord). (point.series < length registry.dimensions) × (is_word point.word ≡ true)) points

-- each series is below those after it
abbrev pub AreRising : List SeriesWord → Type 0
AreRising [] = Unit {0}
AreRising (point ∷ points) = All (λ (later : SeriesWord). point.series < later.series) points × AreRising points

-- each value that a history collected lies before this moment
abbrev pub IsBefore : List Beat → ℕ → Type 0
IsBefore h moment = (chart id : List ℕ) → IfSome (last_set h chart id) (λ last. last.moment < moment)

-- A beat at this moment follows a history with these last rows, and the registry has the definitions of
-- both.
pub record IsNext (registry : Registry) (lasts : List (Option Last)) (h : List Beat) (moment : ℕ) (beat : OpenBeat) : Type 0 where
  pub registry_is : registry ≡ registry_of (collected moment beat ∷ h)
  pub lasts_are : AreLastOf lasts h
  pub before : IsBefore h moment
