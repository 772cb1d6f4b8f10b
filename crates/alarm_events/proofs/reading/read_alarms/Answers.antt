use Rattle.std.proofs.Common.{arith}
use Rattle.alarm_events.proofs.AlarmsLaw.{found_fits, found_spelling}
use Rattle.alarm_events.proofs.reading.read_alarms.Goals as goal

pub returns-clause-fits : goal.returns-clause-fits
returns-clause-fits c = found_fits c.args.bytes.now c.take_whole.result (λ place. omega (arith, c.type_inv.bytes place)) c.take_whole.ensures.value

pub returns-clause-spelling : goal.returns-clause-spelling
returns-clause-spelling c = found_spelling c.args.bytes.now c.take_whole.result (λ place. omega (arith, c.type_inv.bytes place)) c.take_whole.ensures.value
