-- The Data that a child answers to an Ask.
use Rattle.std.specs.Prelude.{ℕ, zero, suc, ◌==◌, ◌-◌, ◌<◌, nat_le, max, List, [], ◌∷◌, length, take, map, Option, Some, None, if◌then◌else◌}
use Rattle.std.specs.List.{AllByRecursion}
use Rattle.replication.specs.declared.answer.TheConstants.{BEAT_LIMIT, DATA_LIMIT}
use Rattle.replication.specs.declared.ask.Ask.{Ask}
use Rattle.replication.specs.declared.beats.Beat.{Beat}
use Rattle.replication.specs.declared.beats.SeriesWord.{SeriesWord}
use Rattle.replication.specs.declared.message.Data.{Data}
use Rattle.replication.specs.declared.names.DimName.{DimName}
use Rattle.replication.specs.declared.names.Names.{Names}
use Rattle.replication.specs.Bytes.{data_bytes}
use Rattle.replication.specs.Copies.{above, latest}
use Rattle.replication.specs.Names.{beat_moment, words_of, uses, used_names, placed_beat}

-- above which moment a child with this floor has all: `prev`, or one below the floor
abbrev pub from_of : ℕ → ℕ → ℕ
from_of floor prev = max prev (floor - 1)

-- the Data with these beats
abbrev pub data_with : ℕ → ℕ → ℕ → Names → List Beat → Data
data_with child floor prev names beats = record {
  child = child;
  prev = prev;
  from = from_of floor prev;
  upto = latest beat_moment (from_of floor prev) beats;
  floor = floor;
  names = used_names names (words_of beats);
  beats = map (placed_beat (uses (words_of beats))) beats;
}

-- how many beats, at most n, the longest prefix has whose Data's body has at most 2^20 bytes
unfoldable pub longest : (List Beat → Data) → List Beat → ℕ → ℕ
longest make beats zero = 0
longest make beats (suc n) = if nat_le (length (data_bytes (make (take (suc n) beats)))) DATA_LIMIT then suc n else longest make beats n

-- the longest prefix with at most 64 beats and 2^20 bytes, but at least one beat
abbrev pub prefix : (List Beat → Data) → List Beat → List Beat
prefix make beats = take (max 1 (longest make beats BEAT_LIMIT)) beats

-- the Data with that prefix, if there is a beat
abbrev pub with_prefix : (List Beat → Data) → List Beat → Option Data
with_prefix make [] = None
with_prefix make (beat ∷ beats) = Some (make (prefix make (beat ∷ beats)))

-- what a child with these names and beats answers
abbrev pub data_of : ℕ → ℕ → Names → List Beat → Ask → Option Data
data_of child floor names beats ask =
    if child == ask.child
    then with_prefix (data_with child floor ask.last names) (above beat_moment (from_of floor ask.last) beats)
    else None

-- ---- what a child has
-- each dimension has its chart among the names
abbrev pub AreNames : Names → Type 0
AreNames names = AllByRecursion (λ (dimension : DimName). dimension.chart < length names.charts) names.dimensions

-- each word is of one of so many series
abbrev pub AreOfSeries : ℕ → List SeriesWord → Type 0
AreOfSeries series words = AllByRecursion (λ (word : SeriesWord). word.series < series) words

abbrev pub AreBeatsOf : ℕ → List Beat → Type 0
AreBeatsOf series beats = AllByRecursion (λ (beat : Beat). AreOfSeries series beat.words) beats

abbrev pub HaveWords : List Beat → Type 0
HaveWords beats = AllByRecursion (λ (beat : Beat). 0 < length beat.words) beats

-- each dimension has its chart among the names, each word is of a dimension among them, and each beat has a word
pub record IsWhole (sent : Data) : Type 0 where
  pub names : AreNames sent.names
  pub series : AreBeatsOf (length sent.names.dimensions) sent.beats
  pub words : HaveWords sent.beats
