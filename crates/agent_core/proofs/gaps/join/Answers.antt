use Rattle.std.proofs.Common.{◌++◌, [], ◌∷◌, ap, ◌∙◌, append_assoc}
use Rattle.agent_core.proofs.GapLists.{met, unmet}
use Rattle.agent_core.proofs.gaps.join.Goals as goal

pub returns-then-last-gap : goal.returns-then-last-gap
returns-then-last-gap c = c.in_ok-push-2.ensures.items ∙ met c.args.spans.now.items c.pop.new.self.items c.in-Some.last c.args.gap c.in-Some.ensures.items c.if-last-gap.true

pub returns : goal.returns
returns c =
    let last = c.in-Some.last in
    let gap = c.args.gap in
    c.in_ok-push-4.ensures.items ∙ ap (λ items. items ++ gap ∷ []) c.in_ok-push-3.ensures.items ∙ append_assoc c.pop.new.self.items (last ∷ []) (gap ∷ [])
    ∙ unmet c.args.spans.now.items c.pop.new.self.items last gap c.in-Some.ensures.items c.if-last-gap.false
