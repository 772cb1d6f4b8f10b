-- What the code has of the numbers of a chart's dimensions, one dimension after the other.
use Rattle.std.specs.Prelude.{◌≡◌, ℕ, Bool, true, false, if◌then◌else◌, List, filter, Option, ℤ}
use Rattle.std.specs.Option.{option_map}
use Rattle.fixed_num.specs.declared.units.Record.{Record}
use Rattle.health_config.specs.declared.lookup.Lookup.{Lookup}
use Rattle.history.specs.Registry.{Registry}
use Rattle.tier_rollup.specs.Growing.{single}
use Rattle.tier_rollup.specs.declared.point.Point.{Point}
use Rattle.query_engine.specs.Joining.{joined, HaveRoom}
use Rattle.alarm_core.specs.declared.gather.Gathered.{Gathered}
use Rattle.alarm_core.specs.Lookups.{is_taken, numbers, come_to}

-- the record of one number, where there is one
abbrev pub one_of : Option ℤ → Option Record
one_of number = option_map (λ number. single number false) number

-- one more number fits into what was gathered
pub record HasRoomFor (percentage : Bool) (number : Option ℤ) (before : Gathered) : Type 0 where
  pub taken : HaveRoom before.taken (one_of number)
  pub all : percentage ≡ true → HaveRoom before.all (one_of number)

-- the number of one more dimension was added: to the taken ones where it is taken, and to all where a
-- percentage asks for them
pub record Adds (taken_too percentage : Bool) (number : Option ℤ) (before after : Gathered) : Type 0 where
  pub taken : after.taken ≡ (if taken_too then joined before.taken (one_of number) else before.taken)
  pub all : percentage ≡ true → after.all ≡ joined before.all (one_of number)

-- what was gathered is what the numbers of these series come to
pub record IsGathered (registry : Registry) (lookup : Lookup) (start stop : ℕ) (told : ℕ → List Point) (series : List ℕ) (gathered : Gathered) : Type 0 where
  pub taken : gathered.taken ≡ come_to (numbers lookup start stop told (filter (is_taken registry lookup) series))
  pub all : lookup.percentage ≡ true → gathered.all ≡ come_to (numbers lookup start stop told series)
