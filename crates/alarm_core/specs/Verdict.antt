-- What an alarm is worth, and the status that it has by that.
use Rattle.std.specs.Prelude.{Bool, true, false, not, ◌||◌, if◌then◌else◌, Option, unwrap_or}
use Rattle.std.specs.Option.{option_map_or, option_map}
use Rattle.health_expr.specs.declared.value.Value.{Value}
use Rattle.health_expr.specs.declared.value.Value.TheVariants.{Nan, Inf, Fixed}
use Rattle.health_expr.specs.Arithmetic.{is_true}
use Rattle.health_expr.specs.Tree.{Tree, worth}
use Rattle.alarm_events.specs.declared.status.Status.{Status}
use Rattle.alarm_events.specs.declared.status.Status.TheVariants.{Undefined, Clear, Warning, Critical}
use Rattle.alarm_core.specs.Seen.{Seen}
use Rattle.alarm_core.specs.Variables.{variable}

abbrev pub is_nan : Value → Bool
is_nan Nan = true
is_nan (Inf negative) = false
is_nan (Fixed units) = false

abbrev pub is_number : Value → Bool
is_number Nan = false
is_number (Inf negative) = false
is_number (Fixed units) = true

-- ---- the value

-- what an expression is worth, where `$this` is worth so much
abbrev pub worth_at : Seen → Value → Tree → Value
worth_at scene this tree = worth (variable scene this) tree

-- What an alarm is worth, where it looked this up and was worth so much before. `calc` says it, and there
-- `$this` is what was looked up, or without a lookup the value before. Without `calc` it is what was
-- looked up, and with neither nan.
abbrev pub value_at : Seen → Option Value → Value → Value
value_at scene found before =
    option_map_or (worth_at scene (unwrap_or found before)) scene.alarm.calc (unwrap_or found Nan)

-- ---- the status

-- a condition is there and true
abbrev pub holds : Option Value → Bool
holds condition = option_map_or is_true condition false

-- a condition is there and not nan
abbrev pub is_told : Option Value → Bool
is_told condition = option_map_or (λ value. not (is_nan value)) condition false

-- the status of a value, by what `warn` and `crit` are worth
abbrev pub status_for : Value → Option Value → Option Value → Status
status_for value warn crit =
    if not (is_number value) then Undefined
    else (if holds crit then Critical
    else (if holds warn then Warning
    else (if is_told warn || is_told crit then Clear
    else Undefined)))

-- the status of an alarm that is worth so much: there `$this` is that value, and `$status` the one before
abbrev pub status_at : Seen → Value → Status
status_at scene value =
    status_for value (option_map (worth_at scene value) scene.alarm.warn) (option_map (worth_at scene value) scene.alarm.crit)
