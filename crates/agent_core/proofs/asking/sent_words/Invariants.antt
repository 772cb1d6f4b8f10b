use Rattle.std.proofs.Common.{map}
use Rattle.agent_core.specs.Asking.{AreSendable}
use Rattle.agent_core.specs.Copies.{sent_word}
use Rattle.agent_core.proofs.SentBeats.{AllSoFar, SoFar}
use Rattle.agent_core.proofs.asking.sent_words.Given as goal

abbrev pub invariant-loop-point : goal.invariant-loop-point
invariant-loop-point l = record {
  taken : SoFar l.series l.least l.words;
  all : AreSendable l.series (map sent_word l.points) → AllSoFar l.series l.least l.words l.points l.point-index;
}
