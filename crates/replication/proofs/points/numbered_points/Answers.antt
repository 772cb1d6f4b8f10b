use Rattle.std.proofs.Common.{not, arith}
use Rattle.std.proofs.lemmas.List.Sums.{prefix_len-le-length}
use Rattle.replication.specs.declared.named.NamedPoint.{NamedPoint}
use Rattle.replication.specs.Points.{has_name_of}
use Rattle.replication.proofs.points.numbered_points.Goals as goal

pub overflow_cast-name_place : goal.overflow_cast-name_place
overflow_cast-name_place c =
    omega (arith, prefix_len-le-length (λ (name : NamedPoint). not (has_name_of c.point-item.result name)) c.args.names.now, c.name_place.ensures, c.requires)
