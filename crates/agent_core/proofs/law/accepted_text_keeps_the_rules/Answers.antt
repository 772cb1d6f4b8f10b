use Rattle.agent_core.proofs.ClosedLemmas.{text-closed, text-line, text-within}
use Rattle.agent_core.proofs.law.accepted_text_keeps_the_rules.Goals as goal

pub returns-clause-closed : goal.returns-clause-closed
returns-clause-closed c every h past moment within = text-closed every h within past moment

pub returns-clause-line : goal.returns-clause-line
returns-clause-line c every h past line within = text-line every h within past line

pub returns-clause-within : goal.returns-clause-within
returns-clause-within c every h past within = text-within every h within past
