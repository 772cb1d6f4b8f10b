use Rattle.std.proofs.Common.{sym, subst}
use Rattle.host_model.specs.Seen.{Seen}
use Rattle.agent_app.specs.Convert.{LeavesDisk}
use Rattle.std.proofs.lemmas.Result.{err_from_is_err_and}
use Rattle.agent_app.proofs.ConvertingLemmas.{prefix_told}
use Rattle.agent_app.proofs.LeavesLemmas.{leaves-none, told-leaves, torn-leaves}
use Rattle.agent_app.proofs.converting.tell_waiting.Goals as goal
use Rattle.agent_app.proofs.converting.tell_waiting.Goals.{then-not-is_empty+in_ok-tell, else-not-is_empty}

pub returns-in_err-tell-clause-torn : goal.returns-in_err-tell-clause-torn
returns-in_err-tell-clause-torn g c =
    let p = err_from_is_err_and c.from_residual.result c.from_residual.ensures.1 in
    rw p.1 (λ honest. rw (← c.as_bytes.ensures.value) (prefix_told c.as_bytes.result.now _ _ (c.in_err-tell.ensures.torn honest)))

pub returns-in_err-tell-clause-disk : goal.returns-in_err-tell-clause-disk
returns-in_err-tell-clause-disk g c =
    let host : Seen = g.H.Host.seen c.args.host.now in
    let host' : Seen = g.H.Host.seen c.tell.new.self in
    torn-leaves g.H.Host.honest host host' c.as_bytes.result.now (λ honest. c.in_err-tell.ensures.torn honest) c.tell.ensures.disk

pub returns-clause-disk : goal.returns-clause-disk
returns-clause-disk g c =
    let host : Seen = g.H.Host.seen c.args.host.now in
    elim c.if-not-is_empty.branch [
      | then-not-is_empty+in_ok-tell w ↦
          let host' : Seen = g.H.Host.seen w.tell.new.self in
          subst (λ h. LeavesDisk g.H.Host.honest host (g.H.Host.seen h)) (sym w.host-is)
          (told-leaves g.H.Host.honest host host' w.as_bytes.result.now (λ honest. w.in_ok-tell.ensures.done honest) w.tell.ensures.disk)
      | else-not-is_empty w ↦
          subst (λ h. LeavesDisk g.H.Host.honest host (g.H.Host.seen h)) (sym w.host-is) (leaves-none g.H.Host.honest host)
    ]
