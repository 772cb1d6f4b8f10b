-- The status of a command whose database was not opened, or did not do what it was asked to do.
use Rattle.host_model.specs.declared.status.Status.{Status}
use Rattle.host_model.specs.declared.status.Status.TheVariants.{DiskFault, NotADatabase, Damaged, Memory}
use Rattle.plugin_text.specs.declared.refusal.Refusal.TheVariants as refusal
use Rattle.store_core.specs.declared.fault.Why.TheVariants as why
use Rattle.agent_core.specs.declared.fault.AgentFault.{AgentFault}
use Rattle.agent_core.specs.declared.fault.AgentFault.TheVariants as agent_fault
use Rattle.agent_core.specs.declared.fault.OpenFault.{OpenFault}
use Rattle.agent_core.specs.declared.fault.OpenFault.TheVariants as open_fault
use Rattle.agent_app.specs.Convert.{refusal_status}
use Rattle.agent_app.specs.Health.{fault_status}

-- the status of a command whose database was not opened
abbrev pub opening_status : OpenFault → Status
opening_status open_fault.DiskFault = DiskFault
opening_status open_fault.NotADatabase = NotADatabase
opening_status (open_fault.Damaged part) = Damaged part
opening_status open_fault.Memory = Memory

-- the status of a command that a fault of its agent ended; what the history does not take came in no line
abbrev pub agent_status : AgentFault → Status
agent_status (agent_fault.Refused reason) = refusal_status 0 (refusal.Block reason)
agent_status (agent_fault.Health reason) = fault_status reason
agent_status agent_fault.DiskFault = DiskFault
agent_status (agent_fault.Reopen why.Disk) = DiskFault
agent_status (agent_fault.Reopen why.Memory) = Memory
agent_status agent_fault.Memory = Memory
