use Rattle.link_session.proofs.StepLaw.{receives-steps, sends-steps, steps-sound}
use Rattle.link_session.proofs.law.sessions_are_steps.Goals as goal

pub returns-clause-sends : goal.returns-clause-sends
returns-clause-sends c set child parent floors messages frames = sends-steps set child floors parent messages frames

pub returns-clause-receives : goal.returns-clause-receives
returns-clause-receives c set other child parent held floors messages frames sent before after = receives-steps set other child floors messages parent held frames sent before after

pub returns-clause-copy : goal.returns-clause-copy
returns-clause-copy c set steps kept = (steps-sound set steps kept).copy

pub returns-clause-told : goal.returns-clause-told
returns-clause-told c set steps kept = (steps-sound set steps kept).told
