-- What a line of an entity sets.
use Rattle.std.specs.Prelude.{ℕ, Bool, true, false, if◌then◌else◌, List, [], ◌∷◌, Option, Some, None, Result, Ok, Err, ℤ, codes}
use Rattle.std.specs.List.{list_any, slice_split}
use Rattle.std.specs.Str.{bytes_eq, is_utf8}
use Rattle.words.specs.Words.{is_blank}
use Rattle.health_expr.specs.declared.fault.ExprFault.{ExprFault}
use Rattle.health_expr.specs.Grammar.{tree_read}
use Rattle.health_expr.specs.Tree.{Tree}
use Rattle.health_expr.specs.TreeOf.{tree_of}
use Rattle.health_config.specs.declared.delay.Delay.{Delay}
use Rattle.health_config.specs.declared.fault.ConfigFault.{ConfigFault}
use Rattle.health_config.specs.declared.fault.ValueFault.{ValueFault}
use Rattle.health_config.specs.declared.fault.ValueFault.TheVariants.{Bad}
use Rattle.health_config.specs.declared.lines.Line.{Line}
use Rattle.health_config.specs.declared.lookup.LookupLine.{LookupLine}
use Rattle.health_config.specs.declared.setting.Key.{Key}
use Rattle.health_config.specs.declared.setting.Key.TheVariants as key
use Rattle.health_config.specs.declared.setting.Setting.{Setting as Kept}
use Rattle.health_config.specs.declared.setting.Setting.TheVariants as kept
use Rattle.health_config.specs.declared.setting.TheConstants.{LONGEST_EVERY}
use Rattle.health_config.specs.Fault.{◌>>=◌, at_line}
use Rattle.health_config.specs.Key.{is_ignored, key_value}
use Rattle.health_config.specs.Lookup as of
use Rattle.health_config.specs.Delay as of_delay
use Rattle.health_config.specs.Number.{duration, number}

-- a setting, with expressions as their trees
pub data Setting : Type 0 where
  on : (text : List ℕ) → Setting
  lookup : (line : LookupLine) → Setting
  calc : (tree : Tree) → Setting
  warn : (tree : Tree) → Setting
  crit : (tree : Tree) → Setting
  every : (seconds : ℕ) → Setting
  green : (units : ℤ) → Setting
  red : (units : ℤ) → Setting
  units : (text : List ℕ) → Setting
  info : (text : List ℕ) → Setting
  to : (text : List ℕ) → Setting
  delay : (given : Delay) → Setting
  options : (no_clear : Bool) → Setting
  -- of a key that is skipped
  skipped : Setting
  -- of a line that says nothing
  nothing : Setting

-- ---- one value

abbrev pub key_of : List ℕ → Key
key_of word =
    if bytes_eq word (codes "on") then key.On
    else (if bytes_eq word (codes "lookup") then key.Lookup
    else (if bytes_eq word (codes "calc") then key.Calc
    else (if bytes_eq word (codes "warn") then key.Warn
    else (if bytes_eq word (codes "crit") then key.Crit
    else (if bytes_eq word (codes "every") then key.Every
    else (if bytes_eq word (codes "green") then key.Green
    else (if bytes_eq word (codes "red") then key.Red
    else (if bytes_eq word (codes "units") then key.Units
    else (if bytes_eq word (codes "info") then key.Info
    else (if bytes_eq word (codes "to") then key.To
    else (if bytes_eq word (codes "delay") then key.Delay
    else (if bytes_eq word (codes "options") then key.Options
    else key.Other))))))))))))

abbrev pub expression_by : Result Tree ExprFault → Result Tree ValueFault
expression_by (Ok tree) = Ok tree
expression_by (Err fault) = Err Bad

-- an expression
abbrev pub expression : List ℕ → Result Tree ValueFault
expression text = expression_by (tree_read text)

-- whether `no-clear-notification` is among the words between blanks
abbrev pub no_clear : List ℕ → Bool
no_clear text = list_any (λ word. bytes_eq word (codes "no-clear-notification")) (slice_split is_blank text)

-- what a value says for its key
abbrev pub value_read : Key → List ℕ → Result Setting ValueFault
value_read key.On text = Ok (on text)
value_read key.Lookup text = of.lookup text >>= λ line. Ok (lookup line)
value_read key.Calc text = expression text >>= λ tree. Ok (calc tree)
value_read key.Warn text = expression text >>= λ tree. Ok (warn tree)
value_read key.Crit text = expression text >>= λ tree. Ok (crit tree)
value_read key.Every text = duration 1 LONGEST_EVERY text >>= λ seconds. Ok (every seconds)
value_read key.Green text = number text >>= λ value. Ok (green value)
value_read key.Red text = number text >>= λ value. Ok (red value)
value_read key.Units text = Ok (units text)
value_read key.Info text = Ok (info text)
value_read key.To text = Ok (to text)
value_read key.Delay text = of_delay.delay text >>= λ given. Ok (delay given)
value_read key.Options text = Ok (options (no_clear text))
value_read key.Other text = Ok skipped

-- ---- lines

-- what a line with a colon says; before the first entity keys are not read
abbrev pub keyed : Bool → Option (List ℕ × List ℕ) → Result Setting ValueFault
keyed inside None = Err Bad
keyed false (Some said) = Ok skipped
keyed true (Some said) = value_read (key_of said.0) said.1

-- what a line says in an entity, or before the first one
unfoldable pub line_read : Bool → List ℕ → Result Setting ValueFault
line_read inside text =
    if is_utf8 text then (if is_ignored text then Ok nothing else keyed inside (key_value text)) else Err Bad

abbrev pub said_at : Bool → Line → Result Setting ConfigFault
said_at inside line = at_line line.number (line_read inside line.text)

-- what lines say, or the first refusal
abbrev pub settings : Bool → List Line → Result (List Setting) ConfigFault
settings inside [] = Ok []
settings inside (line ∷ lines) = do
  said ← said_at inside line
  more ← settings inside lines
  Ok (said ∷ more)

-- ---- the code's settings

-- a setting of the code, seen with trees
abbrev pub setting_of : Kept → Setting
setting_of (kept.On text) = on text
setting_of (kept.Lookup line) = lookup line
setting_of (kept.Calc expr) = calc (tree_of expr)
setting_of (kept.Warn expr) = warn (tree_of expr)
setting_of (kept.Crit expr) = crit (tree_of expr)
setting_of (kept.Every seconds) = every seconds
setting_of (kept.Green value) = green value
setting_of (kept.Red value) = red value
setting_of (kept.Units text) = units text
setting_of (kept.Info text) = info text
setting_of (kept.To text) = to text
setting_of (kept.Delay given) = delay given
setting_of (kept.Options given) = options given
setting_of kept.Skipped = skipped
setting_of kept.Nothing = nothing
