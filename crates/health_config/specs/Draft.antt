-- What the lines of an entity set together: for each key the last one.
use Rattle.std.specs.Prelude.{◌≡◌, ℕ, ◌+◌, Bool, List, [], ◌∷◌, Option, Some, None, Result, Ok, ℤ}
use Rattle.std.specs.Option.{option_map, option_or}
use Rattle.health_expr.specs.Tree.{Tree}
use Rattle.health_expr.specs.TreeOf.{tree_of}
use Rattle.health_config.specs.declared.delay.Delay.{Delay}
use Rattle.health_config.specs.declared.draft.Draft.{Draft as Kept}
use Rattle.health_config.specs.declared.fault.ConfigFault.{ConfigFault}
use Rattle.health_config.specs.declared.lines.Line.{Line}
use Rattle.health_config.specs.declared.lookup.LookupLine.{LookupLine}
use Rattle.health_config.specs.Fault.{◌>>=◌}
use Rattle.health_config.specs.Setting.{Setting, on, lookup, calc, warn, crit, every, green, red, units, info, to, delay, options, skipped, settings}

-- what is set, key by key, and how many lines were skipped
pub record Draft : Type 0 where
  pub on : Option (List ℕ)
  pub lookup : Option LookupLine
  pub calc : Option Tree
  pub warn : Option Tree
  pub crit : Option Tree
  pub every : Option ℕ
  pub green : Option ℤ
  pub red : Option ℤ
  pub units : Option (List ℕ)
  pub info : Option (List ℕ)
  pub to : Option (List ℕ)
  pub delay : Option Delay
  pub no_clear : Option Bool
  pub skipped : ℕ

-- ---- what one setting says of a key

abbrev pub on_of : Setting → Option (List ℕ)
on_of (on text) = Some text
on_of _ = None

abbrev pub lookup_of : Setting → Option LookupLine
lookup_of (lookup line) = Some line
lookup_of _ = None

abbrev pub calc_of : Setting → Option Tree
calc_of (calc tree) = Some tree
calc_of _ = None

abbrev pub warn_of : Setting → Option Tree
warn_of (warn tree) = Some tree
warn_of _ = None

abbrev pub crit_of : Setting → Option Tree
crit_of (crit tree) = Some tree
crit_of _ = None

abbrev pub every_of : Setting → Option ℕ
every_of (every seconds) = Some seconds
every_of _ = None

abbrev pub green_of : Setting → Option ℤ
green_of (green value) = Some value
green_of _ = None

abbrev pub red_of : Setting → Option ℤ
red_of (red value) = Some value
red_of _ = None

abbrev pub units_of : Setting → Option (List ℕ)
units_of (units text) = Some text
units_of _ = None

abbrev pub info_of : Setting → Option (List ℕ)
info_of (info text) = Some text
info_of _ = None

abbrev pub to_of : Setting → Option (List ℕ)
to_of (to text) = Some text
to_of _ = None

abbrev pub delay_of : Setting → Option Delay
delay_of (delay given) = Some given
delay_of _ = None

abbrev pub no_clear_of : Setting → Option Bool
no_clear_of (options given) = Some given
no_clear_of _ = None

abbrev pub skips : Setting → ℕ
skips skipped = 1
skips _ = 0

-- ---- what all say

-- what the last setting that says something of a key says of it
abbrev pub last : {A : Type 0} → (Setting → Option A) → List Setting → Option A
last said [] = None
last said (setting ∷ more) = option_or (last said more) (said setting)

-- how many are of keys that are skipped
abbrev pub skipped_count : List Setting → ℕ
skipped_count [] = 0
skipped_count (setting ∷ more) = skips setting + skipped_count more

abbrev pub drafted : List Setting → Draft
drafted all = record {
  on = last on_of all;
  lookup = last lookup_of all;
  calc = last calc_of all;
  warn = last warn_of all;
  crit = last crit_of all;
  every = last every_of all;
  green = last green_of all;
  red = last red_of all;
  units = last units_of all;
  info = last info_of all;
  to = last to_of all;
  delay = last delay_of all;
  no_clear = last no_clear_of all;
  skipped = skipped_count all;
}

-- what lines set in an entity, or before the first one, or the first refusal
abbrev pub draft_read : Bool → List Line → Result Draft ConfigFault
draft_read inside lines = settings inside lines >>= λ all. Ok (drafted all)

-- ---- the code's drafts

-- a draft of the code, seen with trees
abbrev pub draft_of : Kept → Draft
draft_of kept = record {
  on = kept.on;
  lookup = kept.lookup;
  calc = option_map tree_of kept.calc;
  warn = option_map tree_of kept.warn;
  crit = option_map tree_of kept.crit;
  every = kept.every;
  green = kept.green;
  red = kept.red;
  units = kept.units;
  info = kept.info;
  to = kept.to;
  delay = kept.delay;
  no_clear = kept.no_clear;
  skipped = kept.skipped;
}

-- one setting more, which goes before what was set
abbrev pub with : Setting → Draft → Draft
with setting draft = record {
  on = option_or (on_of setting) draft.on;
  lookup = option_or (lookup_of setting) draft.lookup;
  calc = option_or (calc_of setting) draft.calc;
  warn = option_or (warn_of setting) draft.warn;
  crit = option_or (crit_of setting) draft.crit;
  every = option_or (every_of setting) draft.every;
  green = option_or (green_of setting) draft.green;
  red = option_or (red_of setting) draft.red;
  units = option_or (units_of setting) draft.units;
  info = option_or (info_of setting) draft.info;
  to = option_or (to_of setting) draft.to;
  delay = option_or (delay_of setting) draft.delay;
  no_clear = option_or (no_clear_of setting) draft.no_clear;
  skipped = draft.skipped + skips setting;
}

-- what a line says is set
abbrev pub Sets : Result Setting ConfigFault → Draft → Draft → Type 0
Sets said old new = (setting : Setting) × (said ≡ Ok setting) × (new ≡ with setting old)
