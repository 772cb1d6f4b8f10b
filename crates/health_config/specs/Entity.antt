-- An alarm of an entity's lines.
use Rattle.std.specs.Prelude.{ℕ, ◌==◌, ◌^◌, Bool, false, ◌||◌, nat_lt, if◌then◌else◌, List, [], length, Option, Some, None, unwrap_or, Result, Ok, Err, ℤ, pos}
use Rattle.std.specs.List.{list_any}
use Rattle.std.specs.Option.{option_map, option_or}
use Rattle.std.specs.Str.{is_utf8}
use Rattle.words.specs.Words.{is_blank}
use Rattle.health_expr.specs.Tree.{Tree}
use Rattle.health_expr.specs.TreeOf.{tree_of}
use Rattle.health_config.specs.declared.entity.Entity.{Entity}
use Rattle.health_config.specs.declared.entity.TheConstants.{NAME_LIMIT}
use Rattle.health_config.specs.declared.fault.ValueFault.{ValueFault}
use Rattle.health_config.specs.declared.fault.ValueFault.TheVariants.{Bad, NoName}
use Rattle.health_config.specs.declared.lookup.Lookup.{Lookup}
use Rattle.health_config.specs.declared.lookup.LookupLine.{LookupLine}
use Rattle.health_config.specs.Delay as of_delay
use Rattle.health_config.specs.Draft.{Draft}
use Rattle.health_config.specs.Key.{key_value}

-- an alarm, with expressions as their trees
pub record Alarm : Type 0 where
  pub name : List ℕ
  pub template : Bool
  pub on : List ℕ
  pub lookup : Option Lookup
  pub calc : Option Tree
  pub warn : Option Tree
  pub crit : Option Tree
  pub every : ℕ
  pub green : Option ℤ
  pub red : Option ℤ
  pub units : List ℕ
  pub info : List ℕ
  pub to : List ℕ
  pub up : ℕ
  pub down : ℕ
  pub multiplier : ℤ
  pub max : Option ℕ
  pub no_clear : Bool

-- an entity of the code, seen with trees
abbrev pub alarm_of : Entity → Alarm
alarm_of entity = record {
  name = entity.name;
  template = entity.template;
  on = entity.on;
  lookup = entity.lookup;
  calc = option_map tree_of entity.calc;
  warn = option_map tree_of entity.warn;
  crit = option_map tree_of entity.crit;
  every = entity.every;
  green = entity.green;
  red = entity.red;
  units = entity.units;
  info = entity.info;
  to = entity.to;
  up = entity.up;
  down = entity.down;
  multiplier = entity.multiplier;
  max = entity.max;
  no_clear = entity.no_clear;
}

-- ---- the name

-- 1 to NAME_LIMIT bytes without a blank
abbrev pub name_read : List ℕ → Result (List ℕ) ValueFault
name_read value =
    if length value == 0 then Err NoName
    else (if nat_lt NAME_LIMIT (length value) || list_any is_blank value then Err Bad
    else Ok value)

abbrev pub name_by : Option (List ℕ × List ℕ) → Result (List ℕ) ValueFault
name_by None = Err Bad
name_by (Some said) = name_read said.1

-- the name that the first line of an entity gives
unfoldable pub name : List ℕ → Result (List ℕ) ValueFault
name line = if is_utf8 line then name_by (key_value line) else Err Bad

-- ---- the alarm

-- how often an alarm is computed: as `every` says, else as its lookup says, else as often as that span is long
abbrev pub lookup_every : LookupLine → ℕ
lookup_every line = unwrap_or line.every line.lookup.after

abbrev pub every : Draft → Option ℕ
every draft = option_or draft.every (option_map lookup_every draft.lookup)

-- the alarm of what is set, computed so often
abbrev pub alarm_with : List ℕ → Bool → Draft → ℕ → Alarm
alarm_with name template draft every =
    let delay = unwrap_or draft.delay of_delay.none in
    record {
      name = name;
      template = template;
      on = unwrap_or draft.on [];
      lookup = option_map (λ line. line.lookup) draft.lookup;
      calc = draft.calc;
      warn = draft.warn;
      crit = draft.crit;
      every = every;
      green = draft.green;
      red = draft.red;
      units = unwrap_or draft.units [];
      info = unwrap_or draft.info [];
      to = unwrap_or draft.to [];
      up = unwrap_or delay.up 0;
      down = unwrap_or delay.down 0;
      multiplier = unwrap_or delay.multiplier (pos (10 ^ 7));
      max = delay.max;
      no_clear = unwrap_or draft.no_clear false;
    }

-- there is none where nothing says how often
abbrev pub alarm : List ℕ → Bool → Draft → Option Alarm
alarm name template draft = option_map (alarm_with name template draft) (every draft)
