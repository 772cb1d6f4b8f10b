use Rattle.std.specs.Prelude.{ℕ}
use Rattle.std.specs.Option.{option_map_or}
use Rattle.history.specs.declared.fault.BlockFault.{BlockFault}
use Rattle.history.specs.declared.fault.BlockFault.TheVariants.{NoChart, NoDimension, NoBlock, OpenBlock, SecondBlock, OffGrid, MomentOrder, Unfinished, MixedRoles, GridChanged, TooManyCharts, TooManyDimensions, Memory}
use Rattle.plugin_text.specs.Fault.{fault_number}
use Rattle.plugin_text.specs.declared.refusal.Refusal.{Refusal}
use Rattle.plugin_text.specs.declared.refusal.Refusal.TheVariants as refusal

-- the number that a refusal by a line's place is told by; out of memory is none
abbrev pub block_number : BlockFault → ℕ
block_number NoChart = 21
block_number NoDimension = 22
block_number NoBlock = 23
block_number OpenBlock = 24
block_number SecondBlock = 25
block_number OffGrid = 26
block_number (MomentOrder last) = 27
block_number Unfinished = 28
block_number MixedRoles = 29
block_number GridChanged = 31
block_number TooManyCharts = 32
block_number TooManyDimensions = 33
block_number Memory = 0

-- the number that a refusal is told by
abbrev pub refusal_number : Refusal → ℕ
refusal_number (refusal.Line fault) = option_map_or (λ (number : ℕ). number) (fault_number fault) 0
refusal_number (refusal.Block fault) = block_number fault
