use Rattle.std.proofs.lemmas.Result.{IfOk-weaker}
use Rattle.store_core.proofs.AnswerLemmas.{answer_is}
use Rattle.store_core.proofs.view.answer_by.Goals as goal

pub returns-clause-answered : goal.returns-clause-answered
returns-clause-answered g c =
    IfOk-weaker c.answer.result _ _ (λ table was set beats has. answer_is c.args.store.now set beats has c.args.request.now table was) c.answer.ensures.answered
