use Rattle.std.proofs.Common.{ℕ, List, sym, ap, subst, ◌∙◌}
use Rattle.history.specs.Refusal.{refusal}
use Rattle.history.specs.declared.line.Line.{Line}
use Rattle.history.specs.declared.line.Line.TheVariants as line
use Rattle.collect_block.specs.Feed.{CountsAt}
use Rattle.collect_block.proofs.feed.Feed.refusal.Goals as goal

pub returns-in-Chart-clause-reason : goal.returns-in-Chart-clause-reason
returns-in-Chart-clause-reason c = λ every past is counts.
    let counted = subst (λ (said : Line). CountsAt said c.args.self.now c.args.registry.now) c.in-Chart.is counts in
    c.chart_refusal.ensures every past c.args.copies c.args.last is counted ∙ ap (refusal c.args.registry.now every past c.args.copies c.args.last) (sym c.in-Chart.is)

pub returns-in-Dimension-clause-reason : goal.returns-in-Dimension-clause-reason
returns-in-Dimension-clause-reason c = λ every past is counts.
    let counted = subst (λ (said : Line). CountsAt said c.args.self.now c.args.registry.now) c.in-Dimension.is counts in
    c.dimension_refusal.ensures.reason every past c.args.copies c.args.last is counted ∙ ap (refusal c.args.registry.now every past c.args.copies c.args.last) (sym c.in-Dimension.is)

pub returns-in-Begin-clause-reason : goal.returns-in-Begin-clause-reason
returns-in-Begin-clause-reason c = λ every past is counts.
    c.begin_refusal.ensures every past c.args.copies c.args.last is
    ∙ ap (λ (chart : List ℕ). refusal c.args.registry.now every past c.args.copies c.args.last (line.Begin chart)) c.as_str.ensures
    ∙ ap (refusal c.args.registry.now every past c.args.copies c.args.last) (sym c.in-Begin.is)

pub returns-in-Set-clause-reason : goal.returns-in-Set-clause-reason
returns-in-Set-clause-reason c = λ every past is counts.
    c.set_refusal.ensures.reason every past c.args.copies c.args.last c.in-Set.value c.in-Set.anomalous is
    ∙ ap (λ (id : List ℕ). refusal c.args.registry.now every past c.args.copies c.args.last (line.Set id c.in-Set.value c.in-Set.anomalous)) c.as_str-in-Set.ensures
    ∙ ap (refusal c.args.registry.now every past c.args.copies c.args.last) (sym c.in-Set.is)

pub returns-in-End-clause-reason : goal.returns-in-End-clause-reason
returns-in-End-clause-reason c = λ every past is counts.
    c.end_refusal.ensures.reason c.args.registry.now every past c.args.copies c.args.last is ∙ ap (refusal c.args.registry.now every past c.args.copies c.args.last) (sym c.in-End.is)
