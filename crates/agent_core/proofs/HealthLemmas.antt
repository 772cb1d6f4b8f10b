-- A health text that is read is short, and nothing refuses it.
use Rattle.std.proofs.Common.{◌≡◌, ℕ, ◌≤◌, Bool, true, false, nat_lt, List, length, None, Ok, Err, Result, refl, ap, if◌then◌else◌}
use Rattle.std.proofs.lemmas.Bool.{ltb-false}
use Rattle.health_config.specs.declared.config.TheConstants.{TEXT_LIMIT}
use Rattle.health_config.specs.declared.fault.ConfigFault.TheVariants.{TextTooLong}
use Rattle.health_config.specs.Config.{config_read, Configuration}
use Rattle.agent_core.specs.Health.{fault_in, health_refusal}

first-case : {A E : Type 0} (b : Bool) (fault : E) (rest : Result A E) (value : A) → (if b then Err fault else rest) ≡ Ok value → b ≡ false
first-case true fault rest value e = cc
first-case false fault rest value e = refl

pub read-short : (text : List ℕ) (config : Configuration) → config_read text ≡ Ok config → length text ≤ TEXT_LIMIT
unfolding config_read
read-short text config reads = ltb-false TEXT_LIMIT (length text) (first-case (nat_lt TEXT_LIMIT (length text)) TextTooLong _ config reads)

pub read-accepted : (text : List ℕ) (config : Configuration) → config_read text ≡ Ok config → health_refusal text ≡ None
read-accepted text config reads = ap fault_in reads
