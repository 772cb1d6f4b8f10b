-- Which alarms are computed for which charts.
use Rattle.std.specs.Prelude.{ℕ, Bool, false, not, ◌&&◌, ◌||◌, nat_lt, if◌then◌else◌, List, length, filter, map, take, slice_get}
use Rattle.std.specs.Bool.{beq}
use Rattle.std.specs.List.{flat_map, list_any, range_with_len, position_or_len, before_first, after_first}
use Rattle.std.specs.Option.{option_map_or}
use Rattle.std.specs.Str.{bytes_eq}
use Rattle.fixed_num.specs.UnitsText.{is_dot}
use Rattle.health_config.specs.Entity.{Alarm}
use Rattle.history.specs.declared.chart.ChartDef.{ChartDef}
use Rattle.alarm_core.specs.declared.pairs.Pair.{Pair}
use Rattle.alarm_core.specs.declared.pairs.TheConstants.{MOST_PAIRS}

-- ---- an alarm and a chart

abbrev pub has_dot : List ℕ → Bool
has_dot text = nat_lt (position_or_len is_dot text) (length text)

-- a text is the type of a chart, a dot and its name; the type is its id up to the first dot
abbrev pub is_type_and_name : List ℕ → ChartDef → Bool
is_type_and_name text def =
    has_dot text && (bytes_eq (before_first is_dot text) (before_first is_dot def.id) && bytes_eq (after_first is_dot text) def.name)

abbrev pub says : Alarm → ChartDef → Bool
says entity def =
    if entity.template then bytes_eq entity.on def.context else (bytes_eq entity.on def.id || is_type_and_name entity.on def)

-- an alarm is on a chart that it says; an empty text says none
abbrev pub is_on : Alarm → ChartDef → Bool
is_on entity def = nat_lt 0 (length entity.on) && says entity def

-- ---- which of a name

-- the alarms of this number are on the chart
abbrev pub is_on_at : List Alarm → ChartDef → ℕ → Bool
is_on_at entities def e = option_map_or (λ entity. is_on entity def) (slice_get entities e) false

-- of two of one name an alarm goes before a template, and of one kind the first goes before
abbrev pub goes_before : ℕ → Alarm → ℕ → Alarm → Bool
goes_before f other e entity =
    bytes_eq other.name entity.name && (if beq other.template entity.template then nat_lt f e else entity.template)

abbrev pub goes_before_at : List Alarm → ℕ → ℕ → Bool
goes_before_at entities f e =
    option_map_or (λ entity. option_map_or (λ other. goes_before f other e entity) (slice_get entities f) false) (slice_get entities e) false

-- an alarm is computed for a chart that it is on, unless one that goes before it is on the chart too
abbrev pub is_computed : List Alarm → ChartDef → ℕ → Bool
is_computed entities def e =
    is_on_at entities def e
    && not (list_any (λ f. goes_before_at entities f e && is_on_at entities def f) (range_with_len 0 (length entities)))

-- ---- all of them

abbrev pub is_pair : List Alarm → List ChartDef → ℕ → ℕ → Bool
is_pair entities charts e chart = option_map_or (λ def. is_computed entities def e) (slice_get charts chart) false

-- the charts of an alarm, in the order of their numbers
abbrev pub pairs_of : List Alarm → List ChartDef → ℕ → List Pair
pairs_of entities charts e =
    map (λ chart. record { alarm = e; chart = chart }) (filter (is_pair entities charts e) (range_with_len 0 (length charts)))

-- at most so many are computed
abbrev pub most_pairs : ℕ
most_pairs = MOST_PAIRS

unfoldable pub first_pairs : List Pair → List Pair
first_pairs pairs = take most_pairs pairs

-- alarms in the order of their text, each with its charts
abbrev pub wanted : List Alarm → List ChartDef → List Pair
wanted entities charts = first_pairs (flat_map (pairs_of entities charts) (range_with_len 0 (length entities)))
