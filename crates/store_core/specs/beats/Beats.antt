-- Beats as the records of a journal: which of them are in form, how they are spelt, and what bytes read as.
use Rattle.std.specs.Prelude.{◌≡◌, ℕ, zero, suc, ◌<◌, ◌≤◌, ◌^◌, Bool, true, false, ◌&&◌, nat_le, nat_lt, List, [], ◌∷◌, ◌++◌, length, map, Option, Some, None, Ok, Err, if◌then◌else◌}
use Rattle.std.specs.List.{list_all}
use Rattle.tier_settings.specs.declared.limits.TheConstants.{LONGEST_STEP, MOST_SERIES}
use Rattle.journal_core.specs.declared.journal.TheConstants.{RECORD_LIMIT}
use Rattle.storage_number.specs.Word.{is_word}
use Rattle.field_codec.specs.Reading.{ReadOf, read_as, read_u32, read_bytes}
use Rattle.field_codec.specs.Spelling.{u32_bytes, sized_bytes, list_bytes}
use Rattle.field_codec.specs.Lists.{◌>>◌, read_list, IsShortListOf}
use Rattle.entry_codec.specs.Lists.{is_ascending}
use Rattle.store_core.specs.declared.beats.beat.Beat.{Beat}
use Rattle.beat_tiers.specs.declared.item.BeatPoint.{BeatPoint}

-- ---- moments

-- the moment as a number, which is 0 where there is none
abbrev pub moment_number : Option ℕ → ℕ
moment_number None = 0
moment_number (Some moment) = moment

abbrev pub moment_of : ℕ → Option ℕ
moment_of zero = None
moment_of (suc less) = Some (suc less)

unfoldable pub read_moment : List ℕ → ReadOf (Option ℕ)
read_moment bytes = read_as moment_of (read_u32 bytes)

unfoldable pub moment_bytes : Option ℕ → List ℕ
moment_bytes moment = u32_bytes (moment_number moment)

-- a moment is 1 to 2^32 - 1
abbrev pub IsMoment : Option ℕ → Type 0
IsMoment None = Unit {0}
IsMoment (Some moment) = (0 < moment) × (moment < 2 ^ 32)

-- ---- points

abbrev pub point_of : (ℕ × ℕ) × ℕ → BeatPoint
point_of ((series, step), word) = record { series = series; step = step; word = word }

unfoldable pub read_point : List ℕ → ReadOf BeatPoint
read_point bytes = read_as point_of (read_u32 bytes >> read_u32 >> read_u32)

unfoldable pub point_bytes : BeatPoint → List ℕ
point_bytes p = u32_bytes p.series ++ u32_bytes p.step ++ u32_bytes p.word

-- the numbers of a point are as small as their spelling allows
pub record IsPoint (p : BeatPoint) : Type 0 where
  pub series : p.series < 2 ^ 32
  pub step : p.step < 2 ^ 32
  pub word : p.word < 2 ^ 32

-- a series is below MOST_SERIES, a step is 1 to LONGEST_STEP, and a word is a storage number
abbrev pub is_point : BeatPoint → Bool
is_point p = nat_lt p.series MOST_SERIES && nat_le 1 p.step && nat_le p.step LONGEST_STEP && is_word p.word

abbrev pub series_of : BeatPoint → ℕ
series_of p = p.series

-- a beat without a moment has no points
abbrev pub is_timed : Option ℕ → List BeatPoint → Bool
is_timed None [] = true
is_timed None (p ∷ points) = false
is_timed (Some moment) points = true

-- ---- beats

-- the moment, the points and the note
abbrev pub beat_of : (Option ℕ × List BeatPoint) × List ℕ → Beat
beat_of ((moment, points), note) = record { moment = moment; points = points; note = note }

unfoldable pub read_fields : List ℕ → ReadOf Beat
read_fields bytes = read_as beat_of (read_moment bytes >> read_list read_point >> read_bytes)

unfoldable pub beat_bytes : Beat → List ℕ
beat_bytes b = moment_bytes b.moment ++ list_bytes point_bytes b.points ++ sized_bytes b.note

-- the record of a journal can hold it
abbrev pub FitsARecord : Beat → Type 0
FitsARecord b = length (beat_bytes b) ≤ RECORD_LIMIT

-- its numbers and lists are as short as their spelling allows
pub record IsShort (b : Beat) : Type 0 where
  pub moment : IsMoment b.moment
  pub points : IsShortListOf IsPoint b.points
  pub note : length b.note < 2 ^ 32

-- the series rise strictly, each point is one of a beat, and there are none without a moment
abbrev pub has_form : Beat → Bool
has_form b = is_ascending (map series_of b.points) && list_all is_point b.points && is_timed b.moment b.points

-- the beats that a journal may keep
pub record InForm (b : Beat) : Type 0 where
  pub short : IsShort b
  pub form : has_form b ≡ true

-- the beat, where nothing follows it and it has the form
abbrev pub whole_beat : ReadOf Beat → Option Beat
whole_beat (Ok (beat, [])) = if has_form beat then Some beat else None
whole_beat (Ok (beat, byte ∷ rest)) = None
whole_beat (Err fault) = None

-- the beat in form that has these bytes, if there is one
unfoldable pub beat_in : List ℕ → Option Beat
beat_in bytes = whole_beat (read_fields bytes)
