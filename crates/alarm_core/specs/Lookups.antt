-- What an alarm looks up.
use Rattle.std.specs.Prelude.{ℕ, ◌+◌, ◌-◌, ◌*◌, Bool, true, false, not, ◌||◌, nat_lt, if◌then◌else◌, min, List, filter, map, slice_get, Option, Some, None, ℤ, pos, ◌-ℤ◌, ◌*ℤ◌, unsigned_abs, unwrap_or}
use Rattle.std.specs.List.{filter_map}
use Rattle.std.specs.Option.{option_map, option_map_or}
use Rattle.fixed_num.specs.declared.units.Record.{Record}
use Rattle.fixed_num.specs.Rounding.{nearest}
use Rattle.fixed_num.specs.Units.{one, limit}
use Rattle.simple_pattern.specs.Pattern.{decision}
use Rattle.health_expr.specs.declared.value.Value.{Value}
use Rattle.health_expr.specs.declared.value.Value.TheVariants.{Nan, Inf, Fixed}
use Rattle.health_expr.specs.Value.{fixed, is_zero}
use Rattle.health_config.specs.declared.lookup.Lookup.{Lookup}
use Rattle.health_config.specs.declared.lookup.Method.{Method}
use Rattle.health_config.specs.declared.lookup.Method.TheVariants as method
use Rattle.health_config.specs.declared.number.TheConstants.{LONGEST_DURATION}
use Rattle.history.specs.declared.dimension.DimDef.{DimDef}
use Rattle.history.specs.Registry.{Registry}
use Rattle.tier_rollup.specs.Buckets.{Added, record_of}
use Rattle.tier_rollup.specs.declared.point.Point.{Point}
use Rattle.query_engine.specs.declared.request.Group.{Group}
use Rattle.query_engine.specs.declared.request.Group.TheVariants.{Average, Min, Max, Sum, Count, AnomalyRate}
use Rattle.query_engine.specs.Points.{values}
use Rattle.query_engine.specs.Windows.{members_between, group_of}
use Rattle.alarm_core.specs.Series.{series_of_chart}

-- ---- the window

-- the most seconds of a window: no configuration says more
abbrev pub longest_window : ℕ
longest_window = LONGEST_DURATION

-- the moment behind a window's last, which lies so many seconds before now
abbrev pub stop_of : Lookup → ℕ → ℕ
stop_of lookup moment = moment + 1 - lookup.before

-- a window that reaches below 0 starts at 0
abbrev pub start_of : Lookup → ℕ → ℕ
start_of lookup moment = stop_of lookup moment - min lookup.after longest_window

-- ---- one dimension

abbrev pub sized : Bool → Added → Added
sized absolute point = record point { units = if absolute then pos (unsigned_abs point.units) else point.units }

-- each method is a group of queries
abbrev pub group : Method → Group
group method.Average = Average
group method.Min = Min
group method.Max = Max
group method.Sum = Sum
group method.Count = Count
group method.AnomalyRate = AnomalyRate

-- the points of a window, without signs where only sizes count
abbrev pub members : Bool → ℕ → ℕ → List Point → List Added
members absolute start stop points = map (sized absolute) (members_between start stop (values points))

-- the number of a dimension, by all of its points; it has none where no point lies in the window
abbrev pub number : Lookup → ℕ → ℕ → List Point → Option ℤ
number lookup start stop points = option_map (group_of (group lookup.method)) (record_of (members lookup.absolute start stop points))

-- ---- several dimensions

abbrev pub accepts : List (List ℕ) → List ℕ → Bool
accepts pattern name = unwrap_or (decision pattern name) false

-- without a pattern all dimensions count that are not hidden
abbrev pub is_accepted : Option (List (List ℕ)) → DimDef → Bool
is_accepted None def = not def.hidden
is_accepted (Some pattern) def = accepts pattern def.id || accepts pattern def.name

abbrev pub is_taken : Registry → Lookup → ℕ → Bool
is_taken registry lookup series =
    option_map_or (λ dimension. is_accepted lookup.dims dimension.def) (slice_get registry.dimensions series) false

-- the numbers of those that have one
abbrev pub numbers : Lookup → ℕ → ℕ → (ℕ → List Point) → List ℕ → List ℤ
numbers lookup start stop told series = filter_map (λ one. number lookup start stop (told one)) series

abbrev pub as_point : ℤ → Added
as_point number = record { moment = 0; units = number; anomalous = false }

-- the sum of numbers, the least of them and the greatest
abbrev pub come_to : List ℤ → Option Record
come_to numbers = record_of (map as_point numbers)

-- ---- the result

-- their sum, or how far the greatest lies above the least
abbrev pub together : Bool → Record → ℤ
together false numbers = numbers.sum
together true numbers = numbers.max -ℤ numbers.min

abbrev pub is_past : ℤ → Bool
is_past number = nat_lt limit (unsigned_abs number)

-- a number as the share of another, in percent
abbrev pub percent : ℤ → ℤ → Value
percent number all =
    if is_zero all then Fixed (pos 0)
    else (if is_past number || is_past all then Inf false
    else fixed (nearest (pos (100 * one) *ℤ number) all))

abbrev pub sum_of : Option Record → ℤ
sum_of numbers = option_map_or (λ (numbers : Record). numbers.sum) numbers (pos 0)

-- the result, by the numbers of the dimensions that are taken and of all
abbrev pub result : Lookup → Option Record → Option Record → Value
result lookup None all = Nan
result lookup (Some taken) all =
    if lookup.percentage then percent (together lookup.min2max taken) (sum_of all) else fixed (together lookup.min2max taken)

-- what is looked up in some of a chart's series, those that are taken of all of them
abbrev pub looked_up_in : Registry → List ℕ → Lookup → ℕ → ℕ → (ℕ → List Point) → Value
looked_up_in registry series lookup start stop told =
    result lookup (come_to (numbers lookup start stop told (filter (is_taken registry lookup) series))) (come_to (numbers lookup start stop told series))

-- what an alarm of a chart looks up at a moment: nothing where its window starts below the floor
abbrev pub looked_up : Registry → ℕ → Lookup → ℕ → ℕ → (ℕ → List Point) → Value
looked_up registry chart lookup moment floor told =
    if nat_lt (start_of lookup moment) floor then Nan
    else looked_up_in registry (series_of_chart registry chart) lookup (start_of lookup moment) (stop_of lookup moment) told
