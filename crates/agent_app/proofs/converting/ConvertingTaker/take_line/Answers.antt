use Rattle.std.proofs.Common.{◌∷◌, refl}
use Rattle.agent_app.proofs.ConvertingLemmas.{no_memory, takes-over, takes-read, takes-refused}
use Rattle.agent_app.proofs.converting.ConvertingTaker.take_line.Goals as goal

pub returns-in-Ok-clause-takes : goal.returns-in-Ok-clause-takes
returns-in-Ok-clause-takes g c = (
  (λ begin faults prefix before at.
      takes-read _ g.H.Host.honest prefix _ _ _ _ before _ c.args.line.now c.requires.short (c.in-Ok.ensures before.said before.has)),
  refl,
)

pub returns-in-Err-Refused-clause-takes : goal.returns-in-Err-Refused-clause-takes
returns-in-Err-Refused-clause-takes g c = (
  (λ begin faults prefix before at ended next more.
      let stop = rw c.in-Err-Refused.field-0-is at (c.in-Err-Refused.ensures before.said before.has) in
      takes-refused _ g.H.Host.honest prefix _ _ _ _ before _ c.args.number c.in-Err-Refused.refusal c.args.line.now _ _ ended next more at c.requires.short stop.0 stop.1 c.refuse.ensures),
  refl,
)

pub returns-in-Err-Disabled-clause-takes : goal.returns-in-Err-Disabled-clause-takes
returns-in-Err-Disabled-clause-takes g c = (
  (λ begin faults prefix before at ended next more.
      let stop = rw c.in-Err-Disabled.field-0-is at (c.in-Err-Disabled.ensures before.said before.has) in
      takes-over _ g.H.Host.honest prefix _ _ _ _ before _ c.args.line.now _ _ ended next more c.requires.short stop.0 stop.1 (c.close.ensures _ stop.2)),
  refl,
)

pub returns-in-Err-Memory-clause-takes : goal.returns-in-Err-Memory-clause-takes
returns-in-Err-Memory-clause-takes g c = (
  (λ begin faults prefix before at ended next more.
      no_memory _ g.H.Host.honest prefix _ _ _ _ before _ _ ended c.args.line.now (next ∷ more) refl),
  refl,
)
