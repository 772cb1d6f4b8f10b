use Rattle.std.proofs.Common.{ap, ◌∙◌}
use Rattle.alarm_events.specs.Alarms.{read_alarms}
use Rattle.alarm_events.proofs.AlarmsLaw.{reads_back}
use Rattle.alarm_events.proofs.writing.write_alarms.Goals as goal

pub returns-in-Ok-clause-reads_back : goal.returns-in-Ok-clause-reads_back
returns-in-Ok-clause-reads_back c =
    ap read_alarms c.in-Ok.ensures.spelling ∙ reads_back c.args.kept.now c.in-Ok.ensures.written
