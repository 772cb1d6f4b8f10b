use Rattle.std.proofs.Common.{ap}
use Rattle.health_expr.specs.Words.{Placed}
use Rattle.health_expr.proofs.WordsLemmas.{known}
use Rattle.health_expr.proofs.cursor.Words.place.Goals as goal

pub returns : goal.returns
returns c = ap (λ (w : Placed). w.place) (known c.self.inside _ c.self.view_is c.self.invariant)
