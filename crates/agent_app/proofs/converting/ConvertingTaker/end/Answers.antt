use Rattle.std.proofs.Common.{refl}
use Rattle.agent_app.proofs.ConvertingLemmas.{ends-over, ends-unfinished}
use Rattle.agent_app.proofs.converting.ConvertingTaker.end.Goals as goal

pub returns-in-Ok : goal.returns-in-Ok
returns-in-Ok g c = record {
  ends = (
    (λ begin faults prefix before at.
        ends-over _ g.H.Host.honest prefix _ _ _ _ before _ c.args.rest.now _ c.requires.short (c.in-Ok.ensures before.said before.has) (c.close.ensures before.said before.has)),
    refl,
  );
}

pub returns-in-Err : goal.returns-in-Err
returns-in-Err g c = record {
  ends = (
    (λ begin faults prefix before at.
        let stop = c.in-Err.ensures before.said before.has in
        ends-unfinished _ g.H.Host.honest prefix _ _ _ _ before _ c.args.lines c.args.rest.now _ at c.requires.short stop.0 (rw stop.1 at c.refuse.ensures)),
    refl,
  );
}
