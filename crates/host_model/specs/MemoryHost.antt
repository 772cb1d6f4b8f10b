use Rattle.host_model.specs.declared.memory_host.MemoryHost.{MemoryHost}
use Rattle.host_model.specs.HostState.{HostState}
use Rattle.host_model.specs.Entry.{past_of}

-- what contracts see of a host in memory
abbrev pub state_of : MemoryHost → HostState
state_of host = record {
  past = past_of host.entries.items;
  calls = host.calls;
  fails = host.fails;
  fuse = host.fuse;
  disk_faults = host.disk_faults;
  tell_faults = host.tell_faults;
  reads = host.reads;
  refusals = host.refusals;
}
