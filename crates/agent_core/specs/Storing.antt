-- How an agent stores the beats of a Data, one after the other.
use Rattle.std.specs.Prelude.{◌≡◌, ℕ, ◌<◌, true, List, [], ◌∷◌, map, slice_get, Option, Some}
use Rattle.std.specs.List.{list_all}
use Rattle.std.specs.Option.{option_and_then, option_map}
use Rattle.host_model.specs.Past.{Event}
use Rattle.history.specs.declared.numbered.NumberedBeat.{NumberedBeat}
use Rattle.history.specs.declared.numbered.NumberedChart.{NumberedChart}
use Rattle.history.specs.declared.numbered.NumberedDimension.{NumberedDimension}
use Rattle.history.specs.History.{Beat, collected, copied, health, missing, last, registry_of, Copy, Word}
use Rattle.history.specs.Numbered.{numbered_charts, numbered_dimensions}
use Rattle.history.specs.Registry.{Registry, series_of, with_definitions}
use Rattle.beat_points.specs.declared.series_word.SeriesWord.{SeriesWord}
use Rattle.entry_codec.specs.declared.entry.Copied.{Copied}
use Rattle.entry_codec.specs.declared.entry.Entry.TheVariants as entry
use Rattle.entry_codec.specs.declared.words.CopiedWord.{CopiedWord}
use Rattle.entry_codec.specs.Entries.{entry_bytes}
use Rattle.tier_settings.specs.declared.settings.Settings.{Settings}
use Rattle.beat_entries.specs.Copied.{definitions_of, told_chart, told_dimension, told_word}
use Rattle.alarm_events.specs.declared.event.Event.{Event as AlarmEvent}
use Rattle.replication.specs.declared.beats.Beat.{Beat as SentBeat}
use Rattle.replication.specs.declared.beats.SeriesWord.{SeriesWord as SentWord}
use Rattle.replication.specs.declared.message.Data.{Data}
use Rattle.replication.specs.declared.named.NamedPoint.{NamedPoint}
use Rattle.replication.specs.declared.names.ChartName.{ChartName}
use Rattle.replication.specs.declared.names.DimName.{DimName}
use Rattle.replication.specs.declared.names.Names.{Names}
use Rattle.replication.specs.Copies.{gap_between, RisesFrom}
use Rattle.replication.specs.Names.{beat_moment, named_beat, named_beats}
use Rattle.link_frames.specs.DataForm.{has_rising_places, has_storage_numbers, AreApart}
use Rattle.store_core.specs.declared.beats.beat.Beat.{Beat as StoreBeat}
use Rattle.store_core.specs.Store.{StoreState}
use Rattle.agent_core.specs.declared.left.Left.{Left}
use Rattle.agent_core.specs.Copying.{copied_beats, copied_of, definitions_in, events_onto, gap_beat, nothing_defined, numbered_words}
use Rattle.agent_core.specs.Kept.{copied_point, onto, CopyFollows}
use Rattle.agent_core.specs.Stands.{HoldsHistory}
use Rattle.agent_core.specs.Left.{IsLeftBy}
use Rattle.agent_core.specs.Roles.{may_copy, role_of}

-- a point by name as the word of its series, if the registry has that
abbrev pub numbered_point : Registry → NamedPoint → Option SeriesWord
numbered_point registry point = option_map (λ series. record { series = series; word = point.word }) (series_of registry point.chart point.dimension)

-- the series that the name of a dimension means, if its chart has a name and the registry has it
abbrev pub series_named : Registry → Names → DimName → Option ℕ
series_named registry names dimension = option_and_then (λ (chart : ChartName). series_of registry chart.id dimension.id) (slice_get names.charts dimension.chart)

-- the series of the names of dimensions, by place
abbrev pub named_series : Registry → Names → List (Option ℕ)
named_series registry names = map (series_named registry names) names.dimensions

-- a word by the series of the name at its place, if that has one
abbrev pub series_word : List (Option ℕ) → SentWord → Option SeriesWord
series_word series word = option_map (λ (number : ℕ). record { series = number; word = word.word }) (option_and_then (λ (found : Option ℕ). found) (slice_get series word.series))

-- the word of a series as that of a point, and of an entry
abbrev pub point_word : Word → SeriesWord
point_word word = record { series = word.series; word = word.word }

abbrev pub entry_word : SeriesWord → CopiedWord
entry_word word = record { series = word.series; word = word.word }

-- ---- one beat

-- the words of a beat of a Data, by the numbers of a registry that has its series
abbrev pub sent_words : Registry → Data → SentBeat → List Word
sent_words registry message beat = numbered_words registry (named_beat message.names beat).points

-- the entry of such a beat that defines these
abbrev pub sent_entry : Registry → Data → List NumberedChart → List NumberedDimension → SentBeat → Copied
sent_entry registry message charts dimensions beat = record {
  child = message.child;
  moment = beat.moment;
  charts = map told_chart charts;
  dimensions = map told_dimension dimensions;
  words = map told_word (sent_words registry message beat);
}

-- what a store keeps of it
abbrev pub sent_kept : Registry → Data → List NumberedChart → List NumberedDimension → SentBeat → StoreBeat
sent_kept registry message charts dimensions beat = record {
  moment = Some beat.moment;
  points = map (copied_point registry) (sent_words registry message beat);
  note = entry_bytes (entry.Copied (sent_entry registry message charts dimensions beat));
}

-- a beat that defines these and has no rows
abbrev pub defining : List NumberedChart → List NumberedDimension → NumberedBeat
defining charts dimensions = record { moment = 0; charts = charts; dimensions = dimensions; rows = [] }

-- the beat of a Data is this copy of a history, by the numbers of a registry that has its definitions
pub record IsSentAs (registry : Registry) (message : Data) (charts : List NumberedChart) (dimensions : List NumberedDimension) (beat : SentBeat) (g : List Beat) (copy : Copy) : Type 0 where
  pub child : copy.child ≡ message.child
  pub moment : copy.moment ≡ beat.moment
  pub words : copy.words ≡ sent_words registry message beat
  pub charts_are : charts ≡ numbered_charts registry (definitions_of copy)
  pub dimensions_are : dimensions ≡ numbered_dimensions registry (definitions_of copy)
  pub follows : CopyFollows g copy
  pub registry_is : registry ≡ registry_of (copied copy ∷ g)

-- ---- one beat after the other

-- a copied beat or a gap may follow the history
abbrev pub MayTake : List Beat → Beat → Type 0
MayTake g (collected moment beat) = ⊥
MayTake g (copied copy) = CopyFollows g copy
MayTake g (health text) = ⊥
MayTake g (missing gap) = (may_copy (role_of g) ≡ true) × (last g < gap.to)

-- each of the beats may follow those before it
abbrev pub MayTakeAll : List Beat → List Beat → Type 0
MayTakeAll g [] = Unit {0}
MayTakeAll g (beat ∷ more) = MayTake g beat × MayTakeAll (beat ∷ g) more

-- the copies of beats of a Data that define nothing
abbrev pub later_copies : Registry → Data → List SentBeat → List Beat
later_copies registry message beats = map (copied_of message.child registry nothing_defined) (named_beats message.names beats)

-- the store may take each of these beats of a Data
pub record AreSent (last : ℕ) (message : Data) (beats : List SentBeat) : Type 0 where
  pub names : AreApart message.names
  pub places : list_all has_rising_places beats ≡ true
  pub words : list_all has_storage_numbers beats ≡ true
  pub rises : RisesFrom beat_moment last beats

-- the gap before the beats of a Data, if there is one
abbrev pub gap_beats : Data → List Beat
gap_beats message = map (gap_beat message.child) (gap_between message.prev message.from)

-- the copies of these beats of a Data, by a registry with its definitions, which the first of them has
abbrev pub sent_copies : Registry → Data → List SentBeat → List Beat
sent_copies registry message beats = copied_beats message.child registry (definitions_in message.names) (named_beats message.names beats)

-- a registry with what the names of a Data define
abbrev pub with_names : Registry → Data → Registry
with_names registry message = let defines = definitions_in message.names in with_definitions registry defines.charts defines.dimensions

-- ---- what was added

-- The store holds the history with these beats, the oldest first, on top of it; they left this, and these are the events
-- of all of them.
pub record HasAdded (past : List Event) (store : StoreState) (left : Left) (set : Settings) (h more : List Beat) (events : List AlarmEvent) : Type 0 where
  pub holds : HoldsHistory past store set (onto h more)
  pub left_by : IsLeftBy set (onto h more) left
  pub events_are : events ≡ events_onto set h more
