use Rattle.std.proofs.Common.{◌≡◌, map, take}
use Rattle.alarm_core.specs.Charts.{words_of}
use Rattle.alarm_core.proofs.charts.all_words.Given as goal

abbrev pub invariant-loop-chart : goal.invariant-loop-chart
invariant-loop-chart l = l.words ≡ map words_of (take l.chart l.registry.charts)
