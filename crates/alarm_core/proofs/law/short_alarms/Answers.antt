use Rattle.alarm_core.proofs.ShortLemmas.{nothing_short, configured_short, stepped_short}
use Rattle.alarm_core.proofs.law.short_alarms.Goals as goal

pub returns-clause-nothing : goal.returns-clause-nothing
returns-clause-nothing c = nothing_short

pub returns-clause-configured : goal.returns-clause-configured
returns-clause-configured c = configured_short

pub returns-clause-stepped : goal.returns-clause-stepped
returns-clause-stepped c = stepped_short
