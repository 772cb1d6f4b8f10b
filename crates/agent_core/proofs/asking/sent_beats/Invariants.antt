use Rattle.std.proofs.Common.{map}
use Rattle.std.specs.List.{AllByRecursion}
use Rattle.link_frames.specs.Fields.{FitsBeat}
use Rattle.agent_core.specs.Asking.{IsSendable}
use Rattle.agent_core.specs.Copies.{sent_beat}
use Rattle.agent_core.proofs.SentBeats.{AllBeatsSoFar, StillRise}
use Rattle.agent_core.proofs.asking.sent_beats.Given as goal

abbrev pub invariant-loop-beat : goal.invariant-loop-beat
invariant-loop-beat l = record {
  sendable : AllByRecursion (IsSendable l.series) l.beats;
  fits : AllByRecursion FitsBeat l.beats;
  rises : StillRise l.beats l.kept l.beat-index;
  all : AllByRecursion (IsSendable l.series) (map sent_beat l.kept) → AllBeatsSoFar l.series l.beats l.kept l.beat-index;
}
