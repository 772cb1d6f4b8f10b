use Rattle.agent_core.proofs.LastSeenLemmas.{only-defined, seen-collected}
use Rattle.agent_core.proofs.last_seen.see_collected.Goals as goal

pub returns-clause-seen : goal.returns-clause-seen
returns-clause-seen c =
    λ h beats lasts opened are last was same regular is stored.
    seen-collected c.args.registry.now h (only-defined h beats are) lasts last c.args.latest.now _ was c.args.beat.now c.args.points.now opened same regular is stored
    c.in_ok-see_rows.ensures c.in_ok-see_values.ensures c.in_ok-see_points.ensures
