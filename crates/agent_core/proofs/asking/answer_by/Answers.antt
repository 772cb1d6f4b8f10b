use Rattle.std.proofs.Common.{◌∙◌}
use Rattle.std.proofs.lemmas.Result.{IfOk-weaker}
use Rattle.agent_core.proofs.AskLemmas.{answer-form}
use Rattle.agent_core.proofs.asking.answer_by.Goals as goal

pub returns-clause-answered : goal.returns-clause-answered
returns-clause-answered c =
    IfOk-weaker c.answer.result _ _ (λ answer is sendable. is ∙ c.in_ok-names.ensures.same sendable c.args.child c.args.floor c.args.ask) c.answer.ensures

pub returns-clause-form : goal.returns-clause-form
returns-clause-form c =
    IfOk-weaker c.answer.result _ _ (λ answer is.
    answer-form c.in_ok-names.names c.in_ok-names.beats c.in_ok-names.ensures.rules c.args.child c.args.floor c.args.ask answer c.ranges.child.fits c.ranges.floor.fits c.requires.small is) c.answer.ensures
