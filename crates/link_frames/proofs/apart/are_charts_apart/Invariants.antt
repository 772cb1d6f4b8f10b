use Rattle.std.proofs.Common.{take}
use Rattle.std.specs.List.{IsDistinct}
use Rattle.link_frames.specs.DataForm.{same_chart}
use Rattle.link_frames.proofs.ApartLaw.{HasIds}
use Rattle.link_frames.proofs.apart.are_charts_apart.Given as goal

abbrev pub invariant-loop-chart : goal.invariant-loop-chart
invariant-loop-chart l = record {
  apart : IsDistinct same_chart (take l.chart-index l.charts);
  seen : HasIds l.seen (take l.chart-index l.charts);
}
