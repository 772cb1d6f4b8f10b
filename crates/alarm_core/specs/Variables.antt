-- What the variables of an alarm's expressions are worth.
use Rattle.std.specs.Prelude.{ℕ, ◌*◌, ◌==◌, if◌then◌else◌, List, slice_get, slice_index, slice_index_or, codes, Option, Some, None, unwrap_or, option_and_then, ℤ, pos, ◌-ℤ◌, ◌*ℤ◌}
use Rattle.std.specs.Option.{option_map_or, option_or, option_map}
use Rattle.std.specs.Str.{bytes_eq}
use Rattle.fixed_num.specs.Units.{one}
use Rattle.health_expr.specs.declared.value.Value.{Value}
use Rattle.health_expr.specs.declared.value.Value.TheVariants.{Nan, Inf, Fixed}
use Rattle.health_expr.specs.Value.{fixed}
use Rattle.history.specs.Registry.{Registry}
use Rattle.tier_rollup.specs.declared.point.Point.{Point}
use Rattle.storage_number.specs.declared.point.Point.{Point as Read}
use Rattle.storage_number.specs.Word.{point_of}
use Rattle.alarm_events.specs.declared.status.Status.{Status}
use Rattle.alarm_events.specs.declared.status.Status.TheVariants.{Removed, Undefined, Uninitialized, Clear, Warning, Critical}
use Rattle.alarm_events.specs.Status.{number}
use Rattle.alarm_core.specs.declared.latest.Latest.{Latest}
use Rattle.alarm_core.specs.Seen.{Seen}
use Rattle.alarm_core.specs.Series.{meant, before_raw}

-- ---- numbers

abbrev pub whole : ℕ → Value
whole number = Fixed (pos (number * one))

-- a number, where there is one
abbrev pub or_nan : Option ℤ → Value
or_nan units = option_map_or (λ units. Fixed units) units Nan

-- a moment, where there was one
abbrev pub moment_or_nan : ℕ → Value
moment_or_nan moment = if moment == 0 then Nan else whole moment

-- a value past the limit of expressions is the infinity of its sign
abbrev pub capped : Value → Value
capped Nan = Nan
capped (Inf negative) = Inf negative
capped (Fixed units) = fixed units

-- ---- statuses

-- `$CLEAR` is 1
abbrev pub status_worth : Status → Value
status_worth status = Fixed ((pos (number status) -ℤ pos 2) *ℤ pos one)

abbrev pub status_named : List ℕ → Option Status
status_named name =
    if bytes_eq name (codes "REMOVED") then Some Removed
    else (if bytes_eq name (codes "UNDEFINED") then Some Undefined
    else (if bytes_eq name (codes "UNINITIALIZED") then Some Uninitialized
    else (if bytes_eq name (codes "CLEAR") then Some Clear
    else (if bytes_eq name (codes "WARNING") then Some Warning
    else (if bytes_eq name (codes "CRITICAL") then Some Critical
    else None)))))

-- ---- dimensions

-- what a point is worth, where its word is a storage number
abbrev pub point_worth : Option Point → Value
point_worth point = option_map_or (λ (read : Read). Fixed read.units) (option_and_then (λ (point : Point). point_of point.word) point) Nan

-- what a collected value is worth
abbrev pub raw_worth : Option ℤ → Value
raw_worth value = option_map_or (λ value. Fixed (value *ℤ pos one)) value Nan

abbrev pub last_value : Latest → ℕ → Value
last_value latest series = point_worth (slice_index_or latest.points series None)

abbrev pub last_raw : Latest → ℕ → Value
last_raw latest series = raw_worth (slice_index_or latest.raws series None)

-- the last collected value of the dimension that is named before `_raw`
abbrev pub raw_named : Registry → Latest → ℕ → List ℕ → Value
raw_named registry latest chart name = option_map_or (last_raw latest) (option_and_then (meant registry chart) (before_raw name)) Nan

-- the last point's value of the dimension of this name, else what it says with `_raw` at its end
abbrev pub dimension_worth : Registry → Latest → ℕ → List ℕ → Value
dimension_worth registry latest chart name =
    option_map_or (last_value latest) (meant registry chart name) (raw_named registry latest chart name)

-- ---- the whole

abbrev pub update_every : Registry → ℕ → Value
update_every registry chart = option_map_or (λ def. whole def.update_every) (slice_get registry.charts chart) Nan

-- the names that stand for no status and no dimension
abbrev pub word_worth : Seen → Value → List ℕ → Option Value
word_worth scene this name =
    if bytes_eq name (codes "this") then Some this
    else (if bytes_eq name (codes "status") then Some (status_worth scene.status)
    else (if bytes_eq name (codes "now") then Some (whole scene.moment)
    else (if bytes_eq name (codes "update_every") then Some (update_every scene.registry scene.chart)
    else (if bytes_eq name (codes "last_collected_t") then Some (moment_or_nan (slice_index scene.latest.charts scene.chart))
    else (if bytes_eq name (codes "green") then Some (or_nan scene.alarm.green)
    else (if bytes_eq name (codes "red") then Some (or_nan scene.alarm.red)
    else None))))))

-- what a name is worth: one of those, else a status, else a dimension of the chart
abbrev pub named : Seen → Value → List ℕ → Value
named scene this name =
    unwrap_or (option_or (word_worth scene this name) (option_map status_worth (status_named name)))
    (dimension_worth scene.registry scene.latest scene.chart name)

abbrev pub variable : Seen → Value → List ℕ → Value
variable scene this name = capped (named scene this name)
