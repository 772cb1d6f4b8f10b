-- The beats that are kept, by the items that are.
use Rattle.std.specs.Prelude.{◌==◌, if◌then◌else◌, List, [], ◌∷◌, ◌++◌, map}
use Rattle.std.specs.Option.{option_map_or}
use Rattle.beat_tiers.specs.declared.item.BeatPoint.{BeatPoint}
use Rattle.beat_tiers.specs.declared.item.Item.{Item}
use Rattle.beat_tiers.specs.declared.item.Stepped.{Stepped}
use Rattle.beat_tiers.specs.declared.kept.Kept.{Kept}
use Rattle.beat_tiers.specs.declared.kept.KeptBeat.{KeptBeat}
use Rattle.beat_tiers.specs.declared.kept.KeptPoint.{KeptPoint}
use Rattle.beat_tiers.specs.Beats.{TierBeat}
use Rattle.beat_tiers.specs.declared.parts.KeptItems.{KeptItems}
use Rattle.beat_tiers.specs.Segments.{items_of}

abbrev pub point_of_item : Item Stepped → KeptPoint
point_of_item item = record { series = item.series; word = item.value.word }

abbrev pub beat_of_item : Item Stepped → KeptBeat
beat_of_item item = record { moment = item.place; points = point_of_item item ∷ [] }

-- an item goes in front of the points of the first beat, where that has its moment
abbrev pub before_beats : Item Stepped → List KeptBeat → List KeptBeat
before_beats item [] = beat_of_item item ∷ []
before_beats item (beat ∷ beats) =
    if item.place == beat.moment then record beat { points = point_of_item item ∷ beat.points } ∷ beats
    else beat_of_item item ∷ beat ∷ beats

-- the beats that gave these items
abbrev pub beats_in : List (Item Stepped) → List KeptBeat
beats_in [] = []
beats_in (item ∷ items) = before_beats item (beats_in items)

-- how many beats gave what has expired, and the beats that gave what is kept
abbrev pub kept_in : KeptItems Stepped → Kept
kept_in segments = record { before = segments.before; beats = beats_in (items_of segments) }

-- ---- of a beat

abbrev pub kept_point_of : BeatPoint → KeptPoint
kept_point_of point = record { series = point.series; word = point.word }

-- what is answered of a beat that is kept
abbrev pub kept_beat_of : TierBeat → KeptBeat
kept_beat_of beat = record { moment = option_map_or (λ moment. moment) beat.moment 0; points = map kept_point_of beat.points }

-- ---- one item after the other

-- an item goes behind the points of the last beat, where that has its moment
abbrev pub behind_beats : List KeptBeat → Item Stepped → List KeptBeat
behind_beats [] item = beat_of_item item ∷ []
behind_beats (beat ∷ []) item =
    if beat.moment == item.place then record beat { points = beat.points ++ point_of_item item ∷ [] } ∷ []
    else beat ∷ beat_of_item item ∷ []
behind_beats (beat ∷ next ∷ beats) item = beat ∷ behind_beats (next ∷ beats) item

abbrev pub behind_all : List KeptBeat → List (Item Stepped) → List KeptBeat
behind_all beats [] = beats
behind_all beats (item ∷ items) = behind_all (behind_beats beats item) items
