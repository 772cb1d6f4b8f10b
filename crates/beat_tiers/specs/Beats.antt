-- What tiers have of beats, by the whole list of them. A list of beats has the latest first.
use Rattle.std.specs.Prelude.{◌≡◌, ℕ, ◌+◌, ◌*◌, ◌^◌, ◌<◌, ◌≤◌, ◌==◌, Bool, true, nat_le, nat_lt, List, [], ◌∷◌, find, Option, None}
use Rattle.std.specs.List.{filter_map, range_with_len}
use Rattle.std.specs.Option.{option_and_then, option_map, option_map_or}
use Rattle.tier_settings.specs.declared.limits.TheConstants.{MOST_SERIES}
use Rattle.fixed_num.specs.declared.units.Record.{Record}
use Rattle.storage_number.specs.declared.point.Point.{Point as Value}
use Rattle.storage_number.specs.Word.{point_of}
use Rattle.tier_rollup.specs.declared.point.Point.{Point}
use Rattle.tier_rollup.specs.Buckets.{Added, bucket_record}
use Rattle.beat_tiers.specs.declared.item.BeatPoint.{BeatPoint}

-- what tiers see of a beat: its moment, if it has one, and its points
pub record TierBeat : Type 0 where
  pub moment : Option ℕ
  pub points : List BeatPoint

-- the last moment, or 0
abbrev pub last : List TierBeat → ℕ
last [] = 0
last (beat ∷ beats) = option_map_or (λ moment. moment) beat.moment (last beats)

abbrev pub is_series : ℕ → BeatPoint → Bool
is_series series point = point.series == series

-- the point of a series in a beat
abbrev pub point_in : ℕ → TierBeat → Option Point
point_in series beat =
    option_and_then (λ moment. option_map (λ (point : BeatPoint). record { moment = moment; word = point.word }) (find (is_series series) beat.points))
    beat.moment

-- the points of a series, the latest first
abbrev pub series_points : List TierBeat → ℕ → List Point
series_points beats series = filter_map (point_in series) beats

-- a point as one that a record takes in, where its word is a storage number
abbrev pub value_of : Point → Option Added
value_of point =
    option_map (λ (value : Value). record { moment = point.moment; units = value.units; anomalous = value.anomalous })
    (point_of point.word)

-- the record of a bucket of a series, closed or not, if it has points
abbrev pub record_of : ℕ → ℕ → List TierBeat → ℕ → Option Record
record_of width bucket beats series = bucket_record width bucket (filter_map value_of (series_points beats series))

-- a bucket is over: no later beat has a moment in it
abbrev pub is_closed : ℕ → ℕ → List TierBeat → Bool
is_closed width bucket beats = nat_le ((bucket + 1) * width) (last beats)

-- the numbers of series are below this
unfoldable pub series_limit : ℕ
series_limit = MOST_SERIES

-- every number that a series may have
abbrev pub all_series : List ℕ
all_series = range_with_len 0 series_limit

-- the records of a bucket, by series
abbrev pub records_in : ℕ → ℕ → List TierBeat → List (ℕ × Record)
records_in width bucket beats = filter_map (λ series. option_map (λ one. (series, one)) (record_of width bucket beats series)) all_series

-- A beat may follow others: its moment is above the last one, its points have the order of their series, each once and
-- below 65,536, and there are none without a moment.
abbrev pub AreAbove : ℕ → List BeatPoint → Type 0
AreAbove least [] = Unit {0}
AreAbove least (point ∷ points) = (least ≤ point.series) × (point.series < MOST_SERIES) × AreAbove (point.series + 1) points

pub record Follows (beat : TierBeat) (beats : List TierBeat) : Type 0 where
  pub later : option_map_or (λ moment. nat_lt (last beats) moment) beat.moment true ≡ true
  pub short : option_map_or (λ moment. nat_lt moment (2 ^ 32)) beat.moment true ≡ true
  pub timed : beat.moment ≡ None → beat.points ≡ []
  pub points : AreAbove 0 beat.points
