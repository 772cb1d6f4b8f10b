-- A store that nothing happened to is as ready on a host that went through nothing.
use Rattle.std.proofs.Common.{◌≡◌, List, sym, subst}
use Rattle.host_model.specs.declared.memory_host.MemoryHost.{MemoryHost}
use Rattle.host_model.specs.MemoryHost.{state_of}
use Rattle.host_model.specs.Past.{Event}
use Rattle.store_core.specs.Store.{IsReady, StoreState}
use Rattle.store_cases.specs.Ready.{IsGoingOn}

pub going-same : (host next : MemoryHost) (store after : StoreState) → after ≡ store → (state_of next).past ≡ (state_of host).past → IsGoingOn host store → IsGoingOn next after
going-same host next store after same_store same_past going =
    subst (IsGoingOn next) (sym same_store) (subst (λ (past : List Event). IsReady (Unit {0}) past store) (sym same_past) going.0, going.1)
