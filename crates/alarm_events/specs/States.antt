-- The state of an alarm of a chart.
use Rattle.std.specs.Prelude.{ℕ, ◌<◌, ◌^◌, List, ◌++◌, length, Option}
use Rattle.field_codec.specs.Lists.{◌>>◌, IsText}
use Rattle.field_codec.specs.Reading.{ReadOf, read_as, read_u32, read_text}
use Rattle.field_codec.specs.Spelling.{u32_bytes, text_bytes}
use Rattle.health_expr.specs.declared.value.Value.{Value}
use Rattle.health_expr.specs.Value.{IsWithin}
use Rattle.alarm_events.specs.declared.status.Status.{Status}
use Rattle.alarm_events.specs.declared.delay.Delay.{Delay}
use Rattle.alarm_events.specs.declared.state.KeptState.{KeptState}
use Rattle.alarm_events.specs.Delays.{delay_bytes, read_delay, IsSpelledDelay}
use Rattle.alarm_events.specs.Statuses.{status_bytes, read_status}
use Rattle.alarm_events.specs.Values.{value_bytes, read_value, IsSpelledValue}

abbrev pub state_of : (((List ℕ × ℕ) × Status) × Value) × Option Delay → KeptState
state_of ((((alarm, chart), status), value), delay) =
    record { alarm = alarm; chart = chart; status = status; value = value; delay = delay }

unfoldable pub read_state : List ℕ → ReadOf KeptState
read_state bytes = read_as state_of (read_text bytes >> read_u32 >> read_status >> read_value >> read_delay)

unfoldable pub state_bytes : KeptState → List ℕ
state_bytes s = text_bytes s.alarm ++ u32_bytes s.chart ++ status_bytes s.status ++ value_bytes s.value ++ delay_bytes s.delay

-- its name is short, and its value within the limit of expressions
pub record IsShortState (s : KeptState) : Type 0 where
  pub alarm : length s.alarm < 2 ^ 16
  pub value : IsWithin s.value

-- the states that have a spelling
pub record IsState (s : KeptState) : Type 0 where
  pub alarm : IsText s.alarm
  pub chart : s.chart < 2 ^ 32
  pub value : IsSpelledValue s.value
  pub delay : IsSpelledDelay s.delay
