use Rattle.std.proofs.Common.{◌<◌, List, length, arith, subst, sym}
use Rattle.health_expr.specs.Words.{Placed}
use Rattle.health_expr.proofs.WordsLemmas.{behind, shorter}
use Rattle.health_expr.proofs.cursor.Words.pass.Goals as goal

pub invariant_of-self : goal.invariant_of-self
invariant_of-self c =
    let next = behind c.self.inside _ _ c.self.view_is c.self.invariant c.requires c.without_blanks-ahead.ensures in
    let fits = c.self.invariant.fits in
    let within = next.0 in
    record { no_blank = next.2; next = c.first_word-self-inside.ensures; fits = omega arith }

pub returns-clause-next : goal.returns-clause-next
returns-clause-next c = (behind c.self.inside _ _ c.self.view_is c.self.invariant c.requires c.without_blanks-ahead.ensures).1

pub returns-clause-shorter : goal.returns-clause-shorter
returns-clause-shorter c =
    let next = behind c.self.inside _ _ c.self.view_is c.self.invariant c.requires c.without_blanks-ahead.ensures in
    subst (λ (ws : List Placed). length ws < length c.args.self.now) (sym next.1) (shorter c.args.self.now c.requires)
