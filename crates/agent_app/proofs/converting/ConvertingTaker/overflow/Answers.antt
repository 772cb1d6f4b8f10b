use Rattle.std.proofs.Common.{refl}
use Rattle.agent_app.proofs.ConvertingLemmas.{overflows-long}
use Rattle.agent_app.proofs.converting.ConvertingTaker.overflow.Goals as goal

pub returns : goal.returns
returns g c = record {
  overflows = (
    (λ begin faults prefix before at ended long more over.
        overflows-long _ g.H.Host.honest prefix _ _ _ _ before _ c.args.number _ ended long more at over c.refuse.ensures),
    refl,
  );
}
