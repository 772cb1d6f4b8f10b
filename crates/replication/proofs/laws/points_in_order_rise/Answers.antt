use Rattle.replication.proofs.OrderLaws.{in_order-rises, in_order-find}
use Rattle.replication.proofs.laws.points_in_order_rise.Goals as goal

pub returns-clause-rises : goal.returns-clause-rises
returns-clause-rises c = in_order-rises

pub returns-clause-last : goal.returns-clause-last
returns-clause-last c = in_order-find
