-- What the beats of a history leave of it. A history has its newest beat first.
use Rattle.std.specs.Prelude.{◌≡◌, List, ◌∷◌}
use Rattle.history.specs.History.{Beat, last, registry_of}
use Rattle.history.specs.Registry.{same_chart, same_dimension}
use Rattle.history.specs.Regular.{AreApart}
use Rattle.beat_points.specs.LastRows.{AreLastOf}
use Rattle.alarm_core.specs.Course.{held}
use Rattle.alarm_core.specs.UpTo.{IsUpTo}
use Rattle.tier_settings.specs.declared.settings.Settings.{Settings}
use Rattle.agent_core.specs.declared.left.Left.{Left}
use Rattle.agent_core.specs.Alarms.{alarms_at}
use Rattle.agent_core.specs.Gaps.{AreGapsLeft}
use Rattle.agent_core.specs.LastSeen.{IsLatestOf}
use Rattle.agent_core.specs.Roles.{role_of}
use Rattle.agent_core.specs.Rules.{HasLimits}

-- the beats of this history left this
pub record IsLeftBy (set : Settings) (h : List Beat) (left : Left) : Type 0 where
  pub registry_is : left.registry ≡ registry_of h
  pub role_is : left.role ≡ role_of h
  pub last_rows_are : AreLastOf left.last_rows h
  pub latest_is : IsLatestOf left.latest h
  pub gaps_are : AreGapsLeft set h left.gaps
  pub alarms_are : held left.alarms ≡ alarms_at set h

-- the history with this beat left all of it but the alarms, which have still to follow the beat
pub record AwaitsAlarms (set : Settings) (h : List Beat) (beat : Beat) (left : Left) : Type 0 where
  pub registry_is : left.registry ≡ registry_of (beat ∷ h)
  pub role_is : left.role ≡ role_of (beat ∷ h)
  pub last_rows_are : AreLastOf left.last_rows (beat ∷ h)
  pub latest_is : IsLatestOf left.latest (beat ∷ h)
  pub gaps_are : AreGapsLeft set (beat ∷ h) left.gaps
  pub before : left.latest.before ≡ last h
  pub alarms_are : held left.alarms ≡ alarms_at set h

-- its parts fit each other, whatever beats left them
pub record IsFit (left : Left) : Type 0 where
  -- each chart and each dimension stands once in the registry
  pub charts : AreApart same_chart left.registry.charts
  pub dimensions : AreApart same_dimension left.registry.dimensions
  pub limits : HasLimits left.registry
  -- the alarms were worked out for its charts
  pub up_to : IsUpTo left.alarms left.registry
