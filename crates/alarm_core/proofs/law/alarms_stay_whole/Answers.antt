use Rattle.alarm_core.proofs.AgainLemmas.{kept_again, whole_nothing, whole_configured, whole_stepped}
use Rattle.alarm_core.proofs.LogLemmas.{calls_shown, calls_numbered}
use Rattle.alarm_core.proofs.SameLemmas.{alarms_alike}
use Rattle.alarm_core.proofs.law.alarms_stay_whole.Goals as goal

pub returns-clause-log : goal.returns-clause-log
returns-clause-log c = calls_shown

pub returns-clause-ids : goal.returns-clause-ids
returns-clause-ids c = calls_numbered

pub returns-clause-same : goal.returns-clause-same
returns-clause-same c = alarms_alike

pub returns-clause-whole_nothing : goal.returns-clause-whole_nothing
returns-clause-whole_nothing c = whole_nothing

pub returns-clause-whole_configured : goal.returns-clause-whole_configured
returns-clause-whole_configured c = whole_configured

pub returns-clause-whole_stepped : goal.returns-clause-whole_stepped
returns-clause-whole_stepped c = whole_stepped

pub returns-clause-kept_again : goal.returns-clause-kept_again
returns-clause-kept_again c = kept_again
