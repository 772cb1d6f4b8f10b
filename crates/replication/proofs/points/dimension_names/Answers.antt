use Rattle.std.proofs.Common.{ℕ, List, not, arith}
use Rattle.std.specs.Str.{bytes_eq}
use Rattle.std.proofs.lemmas.List.Sums.{prefix_len-le-length}
use Rattle.replication.proofs.points.dimension_names.Goals as goal

pub overflow_cast-chart_place : goal.overflow_cast-chart_place
overflow_cast-chart_place c =
    omega (arith, prefix_len-le-length (λ (chart : List ℕ). not (bytes_eq c.point-item.result.chart chart)) c.args.charts.now, c.chart_place.ensures, c.requires)
