-- One step of an alarm of a chart.
use Rattle.std.specs.Prelude.{ℕ, ◌/◌, ◌==◌, max, Bool, not, if◌then◌else◌, List, Option, None}
use Rattle.std.specs.Option.{option_map, option_or}
use Rattle.health_expr.specs.declared.value.Value.{Value}
use Rattle.tier_rollup.specs.declared.point.Point.{Point}
use Rattle.alarm_events.specs.declared.status.Status.{Status}
use Rattle.alarm_events.specs.Status.{number}
use Rattle.alarm_events.specs.declared.delay.Delay.{Delay}
use Rattle.alarm_core.specs.Seen.{Seen}
use Rattle.alarm_core.specs.declared.step.Step.{Step}
use Rattle.alarm_core.specs.Verdict.{value_at, status_at}
use Rattle.alarm_core.specs.Delay.{new_delay}
use Rattle.alarm_core.specs.Lookups.{looked_up}

-- which span of so many seconds a moment lies in; spans of 0 seconds count as of 1
abbrev pub span_of : ℕ → ℕ → ℕ
span_of every moment = moment / max every 1

-- a moment lies in another span than the moment before
abbrev pub is_in_new_span : ℕ → ℕ → ℕ → Bool
is_in_new_span every before moment = not (span_of every moment == span_of every before)

-- an alarm is stepped on the first beat of each span
abbrev pub is_stepped : Seen → Bool
is_stepped scene = is_in_new_span scene.alarm.every scene.latest.before scene.moment

abbrev pub is_same : Status → Status → Bool
is_same one other = number one == number other

-- the delay of a change of status, where there is a change that is to be told
abbrev pub delay_of_change : Seen → Option Delay → Status → Option Delay
delay_of_change scene before status =
    if is_same scene.status status then None else new_delay scene.alarm before scene.moment scene.status status

-- a step to this value and this status; what is not told leaves the delay
abbrev pub step_to : Seen → Option Delay → Value → Status → Step
step_to scene before value status = record {
  value = value;
  status = status;
  delay = option_or (delay_of_change scene before status) before;
  due = option_map (λ delay. delay.due) (delay_of_change scene before status);
}

-- what the alarm of a scene looks up, by the floor and the points of each series
abbrev pub found_by : Seen → ℕ → (ℕ → List Point) → Option Value
found_by scene floor told =
    option_map (λ lookup. looked_up scene.registry scene.chart lookup scene.moment floor told) scene.alarm.lookup

-- the step of an alarm that looked this up, and had this value and this delay
abbrev pub stepped : Seen → Option Value → Value → Option Delay → Step
stepped scene found value delay =
    let now = value_at scene found value in step_to scene delay now (status_at scene now)
