use Rattle.std.proofs.Common.{◌≡◌, map, take}
use Rattle.alarm_core.specs.Charts.{words_of}
use Rattle.alarm_core.proofs.charts.have_words.Given as goal

abbrev pub invariant-loop-chart : goal.invariant-loop-chart
invariant-loop-chart l = map words_of (take l.chart l.registry.charts) ≡ take l.chart l.words
