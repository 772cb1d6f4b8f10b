use Rattle.std.specs.Prelude.{ℕ}
use Rattle.host_model.specs.declared.status.Status.{Status}
use Rattle.host_model.specs.declared.status.Status.TheVariants.{Ok as Done, Usage, Refused, ReadFault, TellFault, DiskFault, LinkFault, NotADatabase, Exists, Damaged, PeerRefused, LinkEnded, SpawnFault, Disabled, InputLimit, Limit, Memory}

-- the exit status of the program
abbrev pub number_of : Status → ℕ
number_of Done = 0
number_of Usage = 1
number_of (Refused line number) = 2
number_of ReadFault = 3
number_of TellFault = 4
number_of DiskFault = 5
number_of LinkFault = 6
number_of NotADatabase = 7
number_of Exists = 7
number_of (Damaged place) = 8
number_of (PeerRefused kind) = 9
number_of LinkEnded = 10
number_of SpawnFault = 11
number_of Disabled = 12
number_of InputLimit = 13
number_of (Limit line number) = 14
number_of Memory = 15
