use Rattle.std.proofs.Common.{Err, ap, ◌∙◌}
use Rattle.std.proofs.lemmas.Result.{err_from_is_err_and}
use Rattle.agent_core.proofs.OpenFaults.{points-short}
use Rattle.agent_core.proofs.answering.table_of.Goals as goal

pub returns-clause-answered : goal.returns-clause-answered
returns-clause-answered g c = c.in_ok-answer_by.ensures.answered

pub returns-in_err-answer_by-clause-memory : goal.returns-in_err-answer_by-clause-memory
returns-in_err-answer_by-clause-memory g c =
    let error = err_from_is_err_and c.from_residual.result c.from_residual.ensures.1 in
    rw (error.1, error.2) (points-short c.in_err-answer_by.field-0.0 (λ disk. c.answer_by.ensures.no_disk (c.in_err-answer_by.was ∙ ap Err disk)))
