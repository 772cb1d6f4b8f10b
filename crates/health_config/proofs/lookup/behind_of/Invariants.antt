use Rattle.std.proofs.Common.{◌≡◌, false, length}
use denote.Shadow.{shadow}
use denote.Text.{Utf8}
use Rattle.simple_pattern.specs.Words.{words}
use Rattle.health_config.specs.Lookup.{behind_of}
use Rattle.health_config.proofs.lookup.behind_of.Given as goal

abbrev pub invariant-loop-word : goal.invariant-loop-word
invariant-loop-word l = record {
  same : behind_of (words false l.ahead) ≡ behind_of (words false l.fn.text);
  text : shadow (Utf8 l.ahead);
}

abbrev pub decreases-loop-word : goal.decreases-loop-word
decreases-loop-word l = length (words false l.ahead)
