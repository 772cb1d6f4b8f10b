use Rattle.alarm_core.proofs.NameLemmas.{before_raw_is}
use Rattle.alarm_core.proofs.variable.before_raw.Goals as goal

pub returns : goal.returns
returns c = before_raw_is c.args.name.now c.strip_suffix.result c.strip_suffix.ensures.cases
