-- Why what the files of a database hold is not read.
use Rattle.std.proofs.Common.{◌≡◌, ◌⊎◌, ℕ, inr, refl}
use Rattle.store_core.specs.declared.fault.OpenFault.{OpenFault}
use Rattle.store_core.specs.declared.fault.OpenFault.TheVariants.{DiskFault, NotADatabase, Damaged, Memory}
use Rattle.store_core.specs.Faults.{IsReadFault}

-- where no part is bad, memory was short
pub read-whole : (fault : OpenFault) → IsReadFault fault → ((part : ℕ) → fault ≡ Damaged part → ⊥) → (fault ≡ DiskFault) ⊎ (fault ≡ Memory)
read-whole DiskFault is whole = absurd is
read-whole NotADatabase is whole = absurd is
read-whole (Damaged part) is whole = absurd (whole part refl)
read-whole Memory is whole = inr refl
