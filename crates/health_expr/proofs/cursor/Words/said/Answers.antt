use Rattle.std.proofs.Common.{ap, ◌∙◌}
use Rattle.health_expr.specs.Words.{Placed}
use Rattle.health_expr.proofs.WordsLemmas.{known}
use Rattle.health_expr.proofs.cursor.Words.said.Goals as goal

pub returns : goal.returns
returns c = c.self.invariant.next.said ∙ ap (λ (w : Placed). w.said) (known c.self.inside _ c.self.view_is c.self.invariant)
