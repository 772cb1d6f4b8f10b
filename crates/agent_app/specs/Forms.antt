-- The forms of a command line, as `clap` reads them.
use Rattle.std.specs.Prelude.{ℕ, true, List, Option, Some, None, codes, if◌then◌else◌}
use Rattle.std.specs.Option.{option_map, option_and_then}
use Rattle.std.specs.Str.{bytes_eq}
use Rattle.clap.specs.Lexer.{usize_max}
use Rattle.clap.specs.Walk.{Row, Rule, all_of}
use Rattle.clap.specs.Simple.{App, new_app, new_rule, on_top, with_rule, with_subcommand}
use Rattle.clap.specs.declared.builder.action.ArgAction.TheVariants.{Append}
use Rattle.agent_app.specs.Command.{addressed, collect_of, form_of, plan_of}
use Rattle.agent_app.specs.declared.command.Command.{Command}
use Rattle.agent_app.specs.declared.command.Command.TheVariants.{Convert, Health, Log, New, Query, Receive, Run, Send}
use Rattle.agent_app.specs.declared.command.Form.{Form}
use Rattle.agent_app.specs.declared.command.Plan.{Plan}

-- so many words
abbrev pub words_rule : ℕ → ℕ → Rule
words_rule least most = record (new_rule (codes "words")) {
  action = Some Append;
  range = Some (record { start_inclusive = least; end_inclusive = most });
  required = true;
}

-- a command with so many words behind its name
abbrev pub with_words : List ℕ → ℕ → ℕ → App
with_words name least most = with_rule (new_app name) (words_rule least most)

-- the program without its commands
abbrev pub program : App
program = on_top (λ top. record top {
  no_binary_name = true;
  disable_help_flag = true;
  disable_help_subcommand = true;
  subcommand_required = true;
}) (new_app (codes "nda"))

-- the program with its commands
abbrev pub forms : App
forms = with_subcommand (with_subcommand (with_subcommand (with_subcommand (with_subcommand (with_subcommand (with_subcommand (with_subcommand (with_subcommand program
    (with_words (codes "collect") 3 usize_max).top) (new_app (codes "convert")).top) (new_app (codes "health")).top)
    (with_words (codes "log") 1 usize_max).top) (with_words (codes "new") 1 7).top) (with_words (codes "query") 5 usize_max).top)
    (with_words (codes "receive") 1 usize_max).top) (new_app (codes "run")).top) (with_words (codes "send") 1 usize_max).top

-- the command, where the words behind its name are an address
abbrev pub addressed_in : Command → List Row → Option Command
addressed_in command rows = option_and_then (addressed command) (all_of (codes "words") rows)

-- the collector that the words behind `collect` give
abbrev pub collect_in : List Row → Option Command
collect_in rows = option_and_then collect_of (all_of (codes "words") rows)

-- the settings that the words behind `new` give
abbrev pub plan_in : List Row → Option Plan
plan_in rows = option_and_then plan_of (all_of (codes "words") rows)

-- the form that the words behind `log` give
abbrev pub form_in : List Row → Option Form
form_in rows = option_and_then form_of (all_of (codes "words") rows)

-- the command that the words behind a name give
abbrev pub named : List ℕ → List Row → Option Command
named name rows =
    if bytes_eq name (codes "collect") then collect_in rows
    else if bytes_eq name (codes "convert") then Some Convert
    else if bytes_eq name (codes "health") then Some Health
    else if bytes_eq name (codes "log") then option_map Log (form_in rows)
    else if bytes_eq name (codes "new") then option_map New (plan_in rows)
    else if bytes_eq name (codes "query") then Some Query
    else if bytes_eq name (codes "receive") then addressed_in Receive rows
    else if bytes_eq name (codes "run") then Some Run
    else if bytes_eq name (codes "send") then addressed_in Send rows
    else None

-- the command of what `clap` found, where it found one
abbrev pub command_in : Option (List ℕ × List Row) → Option Command
command_in None = None
command_in (Some (name, rows)) = named name rows
