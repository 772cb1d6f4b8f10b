use Rattle.std.proofs.Common.{sym, ap, ◌∙◌}
use Rattle.std.proofs.lemmas.Result.{IfOk-weaker}
use Rattle.query_text.specs.Asked.{query_read}
use Rattle.agent_core.specs.Answers.{reply_to}
use Rattle.agent_core.proofs.AnswerLemmas.{reply-by, reply-refused}
use Rattle.agent_core.proofs.answering.reply.Goals as goal

pub returns-in-Ok-clause-answered : goal.returns-in-Ok-clause-answered
returns-in-Ok-clause-answered g c =
    let registry = c.args.registry.now in
    let text = c.args.text.now in
    IfOk-weaker c.reply_to.result _ _ (λ reply answers set h has same.
    answers set h has same ∙ ap (reply_to set h) (sym c.in-Ok.ensures.request) ∙ reply-by set h registry text same) c.reply_to.ensures.answered

pub returns-in-Err-clause-answered : goal.returns-in-Err-clause-answered
returns-in-Err-clause-answered g c =
    let registry = c.args.registry.now in
    let text = c.args.text.now in
    IfOk-weaker c.refusal_line.result _ _ (λ reply line set h has same.
    reply-refused set h (query_read registry text) c.in-Err.fault reply c.in-Err.ensures.fault line ∙ reply-by set h registry text same) c.refusal_line.ensures.text
