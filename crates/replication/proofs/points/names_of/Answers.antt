use Rattle.std.proofs.Common.{length, ap, ◌∙◌, arith}
use Rattle.replication.proofs.PointsCode.{length-charts_of}
use Rattle.replication.proofs.points.names_of.Goals as goal

pub dimension_names-requires : goal.dimension_names-requires
dimension_names-requires c = omega (arith, ap length (c.as_slice-ids.ensures.value ∙ c.in_ok-charts.ensures), length-charts_of c.args.points.now, c.requires)
