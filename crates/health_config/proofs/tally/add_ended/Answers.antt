use Rattle.std.proofs.Common.{◌+◌, not, refl, ap, ◌∙◌}
use Rattle.health_config.specs.Draft.{draft_of}
use Rattle.health_config.proofs.ConfigLemmas.{ended_adds}
use Rattle.health_config.proofs.tally.add_ended.Goals as goal

pub returns-clause-ok : goal.returns-clause-ok
returns-clause-ok c =
    ended_adds c.args.line c.args.name c.args.template (draft_of c.args.draft) c.args.tally.now
    (record { alarms = c.push_alarm.new.alarms; skipped = c.args.tally.now.skipped + c.args.draft.skipped }) c.alarm.result
    (c.is_none.ensures ∙ ap not c.if-is_none.false) c.alarm.ensures c.in_ok-push_alarm.ensures.ok refl
