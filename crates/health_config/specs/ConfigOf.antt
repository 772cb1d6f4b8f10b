-- What a `Config` shows.
use Rattle.std.specs.Prelude.{ℕ, List}
use Rattle.health_config.specs.declared.config.Config.{Config}
use Rattle.health_config.specs.declared.entity.Entity.{Entity}
use Rattle.health_config.specs.Config.{Configuration, tally_of}

-- its alarms, with expressions as their trees, and how many keys were skipped
abbrev pub configuration_of : Config → Configuration
configuration_of config = tally_of config.tally

-- its alarms as they are kept
abbrev pub entities_of : Config → List Entity
entities_of config = config.tally.alarms

-- the text that was read
abbrev pub text_of : Config → List ℕ
text_of config = config.text
