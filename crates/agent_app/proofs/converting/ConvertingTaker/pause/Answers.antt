use Rattle.std.proofs.Common.{ap, refl}
use Rattle.agent_app.proofs.ConvertingLemmas.{pauses-fault, pauses-told}
use Rattle.agent_app.proofs.converting.ConvertingTaker.pause.Goals as goal

pub returns-in-Ok-clause-pauses : goal.returns-in-Ok-clause-pauses
returns-in-Ok-clause-pauses g c = (
  (λ begin faults prefix before.
      pauses-told _ g.H.Host.honest prefix _ _ _ _ before _ _ _ refl c.in-Ok.ensures.emptied c.in-Ok.ensures.told
      (λ none. let same = (c.tell_waiting.ensures.silent none).1 in (ap (λ h. (g.H.Host.seen h).past) same, ap (λ h. (g.H.Host.seen h).tell_faults) same)) (c.in-Ok.ensures.cause.stays (λ e. cc))),
  c.tell_waiting.ensures.disk,
  c.in-Ok.ensures.emptied,
)

pub returns-in-Err-clause-pauses : goal.returns-in-Err-clause-pauses
returns-in-Err-clause-pauses g c = (
  (λ begin faults prefix before.
      pauses-fault _ g.H.Host.honest prefix _ _ _ _ before _ _ _ c.in-Err.ensures.torn
      (λ none. let same = (c.tell_waiting.ensures.silent none).1 in (ap (λ h. (g.H.Host.seen h).past) same, ap (λ h. (g.H.Host.seen h).tell_faults) same)) c.tell_waiting.ensures.cause.later (c.in-Err.ensures.cause.failed refl)),
  c.tell_waiting.ensures.disk,
  tt,
)
