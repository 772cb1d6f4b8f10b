-- Why a call on alarms gave no answer.
use Rattle.query_engine.specs.declared.fault.PointFault.{PointFault}
use Rattle.query_engine.specs.declared.fault.PointFault.TheVariants as point
use Rattle.alarm_core.specs.declared.fault.AlarmFault.{AlarmFault}
use Rattle.alarm_core.specs.declared.fault.AlarmFault.TheVariants.{Disk, Memory}

-- a fault of points is handed on
abbrev pub fault_of : PointFault → AlarmFault
fault_of point.Disk = Disk
fault_of point.Memory = Memory
