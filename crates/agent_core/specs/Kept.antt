-- How a store keeps the beats of a history. A history has its newest beat first, and so has the store.
use Rattle.std.specs.Prelude.{◌≡◌, ℕ, ◌<◌, true, List, [], ◌∷◌, length, map, find, slice_get, Some, None, is_some}
use Rattle.std.specs.Option.{option_map_or, option_and_then}
use Rattle.history.specs.declared.beat.OpenBeat.{OpenBeat}
use Rattle.history.specs.declared.beat.OpenDim.{OpenDim}
use Rattle.history.specs.declared.chart.ChartDef.{ChartDef}
use Rattle.history.specs.History.{Beat, collected, copied, health, missing, child, last, registry_of, Copy, Gap, Word}
use Rattle.history.specs.declared.numbered.NumberedBeat.{NumberedBeat}
use Rattle.history.specs.Registry.{Registry, is_chart, with_definitions}
use Rattle.history.specs.Regular.{IsRegular}
use Rattle.beat_points.specs.declared.series_word.SeriesWord.{SeriesWord}
use Rattle.beat_points.specs.Points.{beat_points}
use Rattle.entry_codec.specs.declared.entry.Entry.{Entry}
use Rattle.entry_codec.specs.declared.entry.Entry.TheVariants as entry
use Rattle.entry_codec.specs.Entries.{entry_bytes, HasSpelling}
use Rattle.beat_entries.specs.Copied.{copied_entry_of, MayCopy}
use Rattle.beat_entries.specs.Taking.{IsJudged}
use Rattle.history.specs.Numbered.{numbered_beat}
use Rattle.store_core.specs.declared.beats.beat.Beat.{Beat as StoreBeat}
use Rattle.beat_tiers.specs.declared.item.BeatPoint.{BeatPoint}
use Rattle.agent_core.specs.Health.{health_refusal}
use Rattle.agent_core.specs.Roles.{may_copy, role_of}
use Rattle.agent_core.specs.Rules.{beat_refusal, IsOpenBeat}

-- the update_every of the chart of the dimension with this number
abbrev pub step_of : Registry → ℕ → ℕ
step_of registry series =
    option_map_or (λ (chart : ChartDef). chart.update_every)
    (option_and_then (λ (dimension : OpenDim). find (is_chart dimension.chart) registry.charts) (slice_get registry.dimensions series)) 1

-- a word of a beat as the point of its series
abbrev pub point_of : Registry → SeriesWord → BeatPoint
point_of registry point = record { series = point.series; step = step_of registry point.series; word = point.word }

-- the points that a beat gives after a history: the registry has the definitions of both
abbrev pub stored_points : Registry → List Beat → ℕ → OpenBeat → List BeatPoint
stored_points registry h moment beat = map (point_of registry) (beat_points registry h moment beat)

-- the entry of a beat, as bytes
abbrev pub note_of : Registry → ℕ → OpenBeat → List ℕ
note_of registry moment beat = entry_bytes (entry.Collected (numbered_beat registry moment beat))

-- what the store keeps of a beat that was collected after a history
abbrev pub kept_of : List Beat → ℕ → OpenBeat → StoreBeat
kept_of h moment beat =
    let registry = registry_of (collected moment beat ∷ h) in
    record { moment = Some moment; points = stored_points registry h moment beat; note = note_of registry moment beat }

-- the beat may be handed in, and the history does not refuse it
pub record Follows (h : List Beat) (moment : ℕ) (beat : OpenBeat) : Type 0 where
  pub is_open : IsOpenBeat beat
  pub accepted : beat_refusal (registry_of h) (is_some (child h)) (last h) moment beat ≡ None

-- a registry has nothing against a beat of this moment, which is this by the numbers that it has once the registry takes it
pub record IsJudgedAt (registry : Registry) (moment : ℕ) (beat : OpenBeat) (numbered : NumberedBeat) : Type 0 where
  pub moment_is : numbered.moment ≡ moment
  pub judged : IsJudged registry beat numbered

-- a registry has taken a beat of this moment, and this is the beat by its numbers
pub record IsTakenBeat (before : Registry) (moment : ℕ) (beat : OpenBeat) (after : Registry) (numbered : NumberedBeat) : Type 0 where
  pub applied : after ≡ with_definitions before beat.charts beat.dimensions
  pub numbered_is : numbered ≡ numbered_beat after moment beat
  pub regular : IsRegular after beat

-- what a store keeps of a beat that was collected after a history: its moment, its points and its entry
pub record IsCollectedOf (h : List Beat) (moment : ℕ) (beat : OpenBeat) (kept : StoreBeat) : Type 0 where
  pub follows : Follows h moment beat
  pub is_kept : kept ≡ kept_of h moment beat
  -- the entry has a spelling
  pub spelt : HasSpelling (entry.Collected (numbered_beat (registry_of (collected moment beat ∷ h)) moment beat))

-- ---- copies, gaps and configurations

-- the copied beat may follow the history: this has collected nothing, and the beat is later and has a word
pub record CopyFollows (h : List Beat) (copy : Copy) : Type 0 where
  pub role : may_copy (role_of h) ≡ true
  pub later : last h < copy.moment
  pub some : 0 < length copy.words
  pub may : MayCopy h copy

-- the point of a copied word
abbrev pub copied_point : Registry → Word → BeatPoint
copied_point registry word = record { series = word.series; step = step_of registry word.series; word = word.word }

-- the entry of a copied beat that follows a history
abbrev pub copied_entry : List Beat → Copy → Entry
copied_entry h copy = entry.Copied (copied_entry_of (registry_of (copied copy ∷ h)) copy)

-- what a store keeps of a copied beat: its moment, its words as points, and its entry
pub record IsCopyOf (h : List Beat) (copy : Copy) (kept : StoreBeat) : Type 0 where
  pub follows : CopyFollows h copy
  pub is_kept : kept ≡ record {
    moment = Some copy.moment;
    points = map (copied_point (registry_of (copied copy ∷ h))) copy.words;
    note = entry_bytes (copied_entry h copy);
  }
  pub spelt : HasSpelling (copied_entry h copy)

abbrev pub gap_entry : Gap → Entry
gap_entry gap = entry.Gap (record { child = gap.child; from = gap.from; to = gap.to })

-- what a store keeps of a gap, where nothing was collected: the moment of its end, and its entry
pub record IsGapOf (h : List Beat) (gap : Gap) (kept : StoreBeat) : Type 0 where
  pub role : may_copy (role_of h) ≡ true
  -- it begins where the history ends
  pub from : gap.from ≡ last h
  pub later : last h < gap.to
  pub is_kept : kept ≡ record { moment = Some gap.to; points = []; note = entry_bytes (gap_entry gap) }
  pub spelt : HasSpelling (gap_entry gap)

-- what a store keeps of a configuration: its entry. Nothing refuses its text.
pub record IsHealthOf (text : List ℕ) (kept : StoreBeat) : Type 0 where
  pub accepted : health_refusal text ≡ None
  pub is_kept : kept ≡ record { moment = None; points = []; note = entry_bytes (entry.Health text) }
  pub spelt : HasSpelling (entry.Health text)

-- ---- histories

-- what a store keeps of a beat that follows a history
abbrev pub IsBeatOf : List Beat → Beat → StoreBeat → Type 0
IsBeatOf h (collected moment beat) kept = IsCollectedOf h moment beat kept
IsBeatOf h (copied copy) kept = IsCopyOf h copy kept
IsBeatOf h (health text) kept = IsHealthOf text kept
IsBeatOf h (missing gap) kept = IsGapOf h gap kept

-- a store keeps these beats for this history
abbrev pub AreBeatsOf : List Beat → List StoreBeat → Type 0
AreBeatsOf [] [] = Unit {0}
AreBeatsOf (beat ∷ h) (kept ∷ beats) = IsBeatOf h beat kept × AreBeatsOf h beats
AreBeatsOf h beats = ⊥

-- a history with these beats, the oldest first, on top of it
abbrev pub onto : List Beat → List Beat → List Beat
onto g [] = g
onto g (beat ∷ more) = onto (beat ∷ g) more
