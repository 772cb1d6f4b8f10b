-- What `log` answers of a history.
use Rattle.std.specs.Prelude.{ℕ, List}
use Rattle.alarm_events.specs.Log.{Shown}
use Rattle.tier_settings.specs.declared.settings.Settings.{Settings}
use Rattle.history.specs.History.{Beat}
use Rattle.agent_core.specs.Alarms.{log_at}
use Rattle.agent_app.specs.declared.command.Form.{Form}
use Rattle.agent_app.specs.declared.command.Form.TheVariants.{Text, Json}
use Rattle.agent_app.specs.LogJson.{log_json}
use Rattle.agent_app.specs.LogText.{log_text}

-- a log in a form
abbrev pub log_as : Form → Shown → List ℕ
log_as Text log = log_text log
log_as Json log = log_json log

-- the log of a history's alarms in a form
abbrev pub log_for : Form → Settings → List Beat → List ℕ
log_for form set h = log_as form (log_at set h)
