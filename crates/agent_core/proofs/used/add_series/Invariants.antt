use Rattle.std.proofs.Common.{◌≡◌, ◌++◌, map, take}
use Rattle.link_frames.specs.DataForm.{place_of}
use Rattle.agent_core.proofs.used.add_series.Given as goal

abbrev pub invariant-loop-word : goal.invariant-loop-word
invariant-loop-word l = l.numbers.items ≡ l.initial.numbers.items ++ map place_of (take l.word-index l.words)
