-- What a call that takes a beat answers, and what it is given once nothing stands against the beat.
use Rattle.std.specs.Prelude.{◌≡◌, ℕ, [], Option, Some, None}
use Rattle.history.specs.declared.beat.OpenBeat.{OpenBeat}
use Rattle.history.specs.declared.fault.BlockFault.{BlockFault}
use Rattle.history.specs.declared.numbered.NumberedBeat.{NumberedBeat}
use Rattle.history.specs.Numbered.{numbered_beat}
use Rattle.history.specs.Registry.{Registry}
use Rattle.beat_entries.specs.declared.beat_fault.BeatFault.{BeatFault}
use Rattle.beat_entries.specs.declared.beat_fault.BeatFault.TheVariants.{Refused, Memory}
use Rattle.beat_entries.specs.declared.definitions.NumberedDefinitions.{NumberedDefinitions}
use Rattle.beat_entries.specs.Rules.{content_refusal, with_beat, IsOpenBeat}

-- The beat is not taken for this reason. Memory runs out only where nothing stands against the beat.
abbrev pub IsFaultOf : Option BlockFault → BeatFault → Type 0
IsFaultOf reason (Refused why) = reason ≡ Some why
IsFaultOf reason Memory = reason ≡ None

-- the registry has nothing against this beat, which is this one by the numbers that it has once the registry takes its
-- definitions
pub record IsJudged (registry : Registry) (beat : OpenBeat) (numbered : NumberedBeat) : Type 0 where
  pub is_open : IsOpenBeat beat
  pub content : content_refusal registry numbered.moment beat ≡ None
  pub numbered_is : numbered ≡ numbered_beat (with_beat registry beat) numbered.moment beat

-- the numbered beat of this moment that has these definitions and no rows
abbrev pub without_rows : ℕ → NumberedDefinitions → NumberedBeat
without_rows moment made = record { moment = moment; charts = made.charts; dimensions = made.dimensions; rows = [] }
