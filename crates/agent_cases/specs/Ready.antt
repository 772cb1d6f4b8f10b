-- Which stores may be called.
use Rattle.host_model.specs.declared.memory_host.MemoryHost.{MemoryHost}
use Rattle.host_model.specs.MemoryHost.{state_of}
use Rattle.store_core.specs.Store.{IsReady, StoreState}

-- what a call of a store requires of this host
abbrev pub IsReadyOn : MemoryHost → StoreState → Type 0
IsReadyOn host store = IsReady (Unit {0}) (state_of host).past store
