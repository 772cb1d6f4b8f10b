-- What a call of an agent that stores a beat leaves of its store and of the host.
use Rattle.std.specs.Prelude.{◌≡◌, None, Result, IfErr, IsErrOf, OnOk}
use Rattle.host_model.specs.Cause.{HasCause}
use Rattle.host_model.specs.Seen.{Seen}
use Rattle.store_core.specs.disk.Holds.{OnlyOwn}
use Rattle.store_core.specs.Store.{IsReady, IsReplayed, StoreState}
use Rattle.agent_core.specs.declared.fault.AgentFault.{AgentFault}
use Rattle.agent_core.specs.declared.fault.AgentFault.TheVariants.{DiskFault}
use Rattle.agent_core.specs.Faults.{IsSpending}

-- a call on a store that is of use left it and the host so with this result, whatever the store has stored
pub record KeepsStore {T : Type 0} (honest : Type 0) (host : Seen) (store : StoreState) (result : Result T AgentFault) (host' : Seen) (store' : StoreState) : Type 0 where
  -- what a later call requires: at Ok the store is still of use
  pub ready : IsReady honest host'.past store'
  pub replayed : IsReplayed store'
  pub going : OnOk result (store'.fault ≡ None)
  pub settings : store'.body.settings ≡ store.body.settings
  -- the disk failed, or memory ran out
  pub faults : IfErr result IsSpending
  -- the disk fails exactly where the host counted a failure
  pub cause : HasCause host.disk_faults host'.disk_faults (IsErrOf result DiskFault)
  -- nothing happens to a file that is not the store's own, and nothing is told
  pub only_here : honest → OnlyOwn host.past host'.past
  pub tells : host'.tell_faults ≡ host.tell_faults
