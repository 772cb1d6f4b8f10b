use Rattle.std.proofs.Common.{map, sym, ◌∙◌}
use Rattle.health_config.specs.Entity.{alarm_of}
use Rattle.alarm_core.specs.Beats.{beat_of}
use Rattle.alarm_core.proofs.RunLemmas.{none_steps, undue_steps}
use Rattle.alarm_core.proofs.beats.step_run.Goals as goal

pub returns-in_default-clause-steps : goal.returns-in_default-clause-steps
returns-in_default-clause-steps g c = λ series tells.
    none_steps (beat_of c.args.sight.now ((g.P.Points.tiers c.args.points.now).floor 0) series) (map alarm_of c.args.alarms.now) c.args.place c.args.states.now c.args.told.now
    (sym c.in_default.ensures) c.requires

pub returns-then-not-is_in_new_span-clause-steps : goal.returns-then-not-is_in_new_span-clause-steps
returns-then-not-is_in_new_span-clause-steps g c = λ series tells.
    undue_steps (beat_of c.args.sight.now ((g.P.Points.tiers c.args.points.now).floor 0) series) (map alarm_of c.args.alarms.now) c.args.place
    (alarm_of c.in-Some.alarm.now) c.args.states.now c.args.told.now (sym c.in-Some.ensures) (sym c.is_in_new_span.ensures ∙ c.if-not-is_in_new_span.true) c.requires
