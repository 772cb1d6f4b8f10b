use Rattle.std.proofs.Common.{rules, ap, sym, ◌∙◌}
use denote.Enum.Bare.{sameb, same_true}
use Rattle.health_expr.specs.contracts.word.Kind.{the_type}
use Rattle.health_expr.specs.declared.word.Kind.{Kind}
use Rattle.health_expr.specs.Words.{Placed, sees}
use Rattle.health_expr.proofs.WordsLemmas.{known}
use Rattle.health_expr.proofs.cursor.Words.sees.Goals as goal

pub returns-clause-value : goal.returns-clause-value
unfolding sees
returns-clause-value c =
    c.eq.ensures ∙ ap (λ (k : Kind). sameb the_type k c.args.kind) (c.self.invariant.next.kind ∙ ap (λ (w : Placed). w.kind) (known c.self.inside _ c.self.view_is c.self.invariant))

pub returns-clause-same : goal.returns-clause-same
returns-clause-same c = λ is.
    sym (c.self.invariant.next.kind ∙ ap (λ (w : Placed). w.kind) (known c.self.inside _ c.self.view_is c.self.invariant)) ∙ same_true the_type (search rules) _ _ (sym c.eq.ensures ∙ is)
