use Rattle.std.proofs.Common.{◌∷◌, ap, subst, ◌∙◌}
use Rattle.std.proofs.lemmas.Result.{IfOk-weaker}
use Rattle.alarm_core.specs.Course.{Outcome}
use Rattle.agent_core.specs.Alarms.{IsSteppingOf}
use Rattle.agent_core.specs.Answers.{tier_beats}
use Rattle.agent_core.proofs.AlarmLemmas.{beat-outcome, config-outcome, left-followed, none-outcome}
use Rattle.agent_core.proofs.Outcomes.{on_ok}
use Rattle.agent_core.proofs.alarming.follow.Goals as goal

pub returns-in-Beat-clause-left_by : goal.returns-in-Beat-clause-left_by
returns-in-Beat-clause-left_by g c =
    on_ok _ _ c.step.result c.step.ensures.held (λ now set h beat has awaits does.
    left-followed set h beat c.args.left.now awaits c.step.new.alarms
    (now set (tier_beats (beat ∷ h)) has ∙ ap (λ (o : Outcome). o.held) (beat-outcome set h beat c.args.left.now awaits c.in-Beat.moment c.in-Beat.defines (subst (IsSteppingOf beat) c.in-Beat.is does))))

pub returns-in-Beat-clause-events : goal.returns-in-Beat-clause-events
returns-in-Beat-clause-events g c =
    IfOk-weaker c.step.result _ _ (λ events told set h beat has awaits does.
    told set (tier_beats (beat ∷ h)) has ∙ ap (λ (o : Outcome). o.events) (beat-outcome set h beat c.args.left.now awaits c.in-Beat.moment c.in-Beat.defines (subst (IsSteppingOf beat) c.in-Beat.is does))) c.step.ensures.events

pub returns-in-Configuration-clause-left_by : goal.returns-in-Configuration-clause-left_by
returns-in-Configuration-clause-left_by g c =
    on_ok _ _ c.configure.result c.configure.ensures.held (λ now set h beat has awaits does.
    left-followed set h beat c.args.left.now awaits c.configure.new.self
    (now ∙ ap (λ (o : Outcome). o.held) (config-outcome set h beat c.args.left.now awaits c.in-Configuration.config (subst (IsSteppingOf beat) c.in-Configuration.is does))))

pub returns-in-Configuration-clause-events : goal.returns-in-Configuration-clause-events
returns-in-Configuration-clause-events g c =
    IfOk-weaker c.configure.result _ _ (λ events told set h beat has awaits does.
    told ∙ ap (λ (o : Outcome). o.events) (config-outcome set h beat c.args.left.now awaits c.in-Configuration.config (subst (IsSteppingOf beat) c.in-Configuration.is does))) c.configure.ensures.events

pub returns-in-Nothing-clause-left_by : goal.returns-in-Nothing-clause-left_by
returns-in-Nothing-clause-left_by g c set h beat has awaits does =
    left-followed set h beat c.args.left.now awaits c.args.left.now.alarms (ap (λ (o : Outcome). o.held) (none-outcome set h beat c.args.left.now awaits (subst (IsSteppingOf beat) c.in-Nothing.is does)))

pub returns-in-Nothing-clause-events : goal.returns-in-Nothing-clause-events
returns-in-Nothing-clause-events g c set h beat has awaits does =
    c.new.ensures ∙ ap (λ (o : Outcome). o.events) (none-outcome set h beat c.args.left.now awaits (subst (IsSteppingOf beat) c.in-Nothing.is does))
