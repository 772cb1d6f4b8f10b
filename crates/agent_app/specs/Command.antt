-- The words of a command line.
use Rattle.std.specs.Prelude.{ℕ, ◌==◌, ◌<◌, ◌≤◌, ◌^◌, Bool, false, not, ◌&&◌, nat_le, nat_lt, List, [], ◌∷◌, length, Option, Some, None, codes, if◌then◌else◌}
use Rattle.std.specs.List.{list_any}
use Rattle.std.specs.Option.{option_map, option_and_then}
use Rattle.std.specs.Str.{bytes_eq}
use Rattle.std.specs.Str.Parse.{digits_value}
use Rattle.fixed_num.specs.UnitsText.{is_numeral}
use Rattle.tier_settings.specs.declared.limits.TheConstants.{MOST_EXTENTS, MOST_ITEMS}
use Rattle.tier_settings.specs.declared.settings.Settings.{Settings}
use Rattle.tier_settings.specs.Limits.{is_tier}
use Rattle.tier_settings.specs.Settings.{settings_of, tier_of}
use Rattle.agent_app.specs.declared.command.Command.{Command}
use Rattle.agent_app.specs.declared.command.Command.TheVariants.{Collect, Convert, Health, Log, New, Query, Receive, Run, Send}
use Rattle.history.specs.declared.limits.TheConstants.{UPDATE_EVERY_LIMIT}
use Rattle.agent_app.specs.declared.command.TheConstants.{STARTS_LIMIT}
use Rattle.agent_app.specs.declared.command.Form.{Form}
use Rattle.agent_app.specs.declared.command.Form.TheVariants as form
use Rattle.agent_app.specs.declared.command.Plan.{Plan}

-- ---- numbers

-- a 0 stands in front of another character
abbrev pub has_leading_zero : List ℕ → Bool
has_leading_zero [] = false
has_leading_zero (first ∷ []) = false
has_leading_zero (first ∷ next ∷ more) = first == 48

-- the number that decimal digits say, without a sign and without a 0 in front, where it is below 2^64
abbrev pub number_of : List ℕ → Option ℕ
number_of word =
    if is_numeral word && not (has_leading_zero word) && nat_lt (digits_value 10 word) (2 ^ 64) then Some (digits_value 10 word) else None

-- the number, where it is not 0 and at most so large
abbrev pub up_to : ℕ → ℕ → Option ℕ
up_to most n = if nat_le 1 n && nat_le n most then Some n else None

-- ---- settings

-- the settings of a database that is to be made
abbrev pub settings_for : Plan → Settings
settings_for plan = settings_of plan.id plan.quotas

-- a tier may have these items and segments, whatever its width
abbrev pub is_quota : ℕ × ℕ → Bool
is_quota quota = is_tier (tier_of 1 quota)

-- 1 to 262,144 items make a segment full, and 1 to 1,024 segments are kept
abbrev pub quota_of : List ℕ → List ℕ → Option (ℕ × ℕ)
quota_of items extents =
    option_and_then (λ (i : ℕ). option_map (λ (e : ℕ). (i, e)) (option_and_then (up_to MOST_EXTENTS) (number_of extents)))
    (option_and_then (up_to MOST_ITEMS) (number_of items))

-- what a database keeps where nothing is said of it
abbrev pub default_plan : ℕ → Plan
default_plan id = record { id = id; quotas = (262144, 256) ∷ (65536, 64) ∷ (65536, 16) ∷ [] }

-- the settings of these parts, where all of them are there
abbrev pub plan_with : Option ℕ → Option (ℕ × ℕ) → Option (ℕ × ℕ) → Option (ℕ × ℕ) → Option Plan
plan_with (Some id) (Some quota0) (Some quota1) (Some quota2) = Some (record { id = id; quotas = quota0 ∷ quota1 ∷ quota2 ∷ [] })
plan_with id quota0 quota1 quota2 = None

-- an id, and then nothing or the items and the segments of each tier
abbrev pub plan_of : List (List ℕ) → Option Plan
plan_of (id ∷ []) = option_map default_plan (number_of id)
plan_of (id ∷ items0 ∷ extents0 ∷ items1 ∷ extents1 ∷ items2 ∷ extents2 ∷ []) =
    plan_with (number_of id) (quota_of items0 extents0) (quota_of items1 extents1) (quota_of items2 extents2)
plan_of words = None

-- ---- a collector

-- EVERY, STARTS, and then the program and its arguments
abbrev pub collect_of : List (List ℕ) → Option Command
collect_of (every ∷ starts ∷ program ∷ arguments) =
    option_and_then (λ (e : ℕ). option_map (λ (s : ℕ). Collect e s) (option_and_then (up_to STARTS_LIMIT) (number_of starts)))
    (option_and_then (up_to UPDATE_EVERY_LIMIT) (number_of every))
collect_of words = None

-- what a command line that gives `collect` has
pub record IsCollector (every starts : ℕ) (words : List (List ℕ)) : Type 0 where
  pub every_least : 1 ≤ every
  pub every_most : every ≤ UPDATE_EVERY_LIMIT
  pub starts_least : 1 ≤ starts
  pub starts_most : starts ≤ STARTS_LIMIT
  -- the program stands behind the first three words
  pub program : 3 < length words

-- ---- another agent

-- the command, where one word stands behind it: the address of the other agent
abbrev pub addressed : Command → List (List ℕ) → Option Command
addressed command (address ∷ []) = Some command
addressed command words = None

-- ---- commands

-- the command of a single word
abbrev pub alone : List ℕ → Option Command
alone word =
    if bytes_eq word (codes "convert") then Some Convert
    else if bytes_eq word (codes "health") then Some Health
    else if bytes_eq word (codes "run") then Some Run
    else None

-- the form in which a word asks for the log
abbrev pub form_named : List ℕ → Option Form
form_named word = if bytes_eq word (codes "text") then Some form.Text else if bytes_eq word (codes "json") then Some form.Json else None

-- one word gives the form
abbrev pub form_of : List (List ℕ) → Option Form
form_of (word ∷ []) = form_named word
form_of words = None

-- the word begins with `-`
abbrev pub is_option : List ℕ → Bool
is_option [] = false
is_option (first ∷ more) = first == 45

-- five words or more, none of which begins with `-`
abbrev pub is_question : List (List ℕ) → Bool
is_question words = nat_le 5 (length words) && not (list_any is_option words)

-- the command of a word with these behind it
abbrev pub longer : List ℕ → List (List ℕ) → Option Command
longer word more =
    if bytes_eq word (codes "collect") && not (list_any is_option more) then collect_of more
    else if bytes_eq word (codes "log") then option_map Log (form_of more)
    else if bytes_eq word (codes "new") then option_map New (plan_of more)
    else if bytes_eq word (codes "query") && is_question more then Some Query
    else if bytes_eq word (codes "receive") && not (list_any is_option more) then addressed Receive more
    else if bytes_eq word (codes "send") && not (list_any is_option more) then addressed Send more
    else None

-- the command that the words of a command line give, or none where they are in no form
abbrev pub command_of : List (List ℕ) → Option Command
command_of [] = None
command_of (word ∷ []) = alone word
command_of (word ∷ next ∷ more) = longer word (next ∷ more)
