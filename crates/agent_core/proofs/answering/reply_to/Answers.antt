use Rattle.std.proofs.Common.{ap, ◌∙◌}
use Rattle.query_text.specs.Told.{table_text}
use Rattle.agent_core.specs.Answers.{tier_beats}
use Rattle.agent_core.proofs.AnswerLemmas.{table-is}
use Rattle.agent_core.proofs.answering.reply_to.Goals as goal

pub returns-clause-answered : goal.returns-clause-answered
returns-clause-answered g c set h has same =
    let registry = c.args.registry.now in
    let request = c.args.request.now in
    c.in_ok-write_table.ensures.text ∙ ap (table_text registry request) (c.in_ok-table.ensures.answered set (tier_beats h) has) ∙ table-is set h registry request same
