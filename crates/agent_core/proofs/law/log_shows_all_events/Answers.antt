use Rattle.agent_core.proofs.CallLemmas.{log-shows}
use Rattle.agent_core.proofs.law.log_shows_all_events.Goals as goal

pub returns : goal.returns
returns c = log-shows
