-- An event.
use Rattle.std.specs.Prelude.{ℕ, ◌<◌, ◌^◌, List, ◌++◌, length, Option}
use Rattle.field_codec.specs.Lists.{◌>>◌, IsText}
use Rattle.field_codec.specs.Reading.{ReadOf, read_as, read_u32, read_u64, read_text}
use Rattle.field_codec.specs.Spelling.{u32_bytes, u64_bytes, text_bytes}
use Rattle.health_expr.specs.declared.value.Value.{Value}
use Rattle.health_expr.specs.Value.{IsWithin}
use Rattle.alarm_events.specs.declared.event.Event.{Event}
use Rattle.alarm_events.specs.declared.status.Status.{Status}
use Rattle.alarm_events.specs.Dues.{due_bytes, read_due, IsSpelledDue}
use Rattle.alarm_events.specs.Statuses.{status_bytes, read_status}
use Rattle.alarm_events.specs.Values.{value_bytes, read_value, IsSpelledValue}

abbrev pub event_of : ((((((ℕ × ℕ) × List ℕ) × List ℕ) × Status) × Status) × Value) × Option ℕ → Event
event_of (((((((id, moment), chart), alarm), old), new), value), due) =
    record { id = id; moment = moment; chart = chart; alarm = alarm; old = old; new = new; value = value; due = due }

unfoldable pub read_event : List ℕ → ReadOf Event
read_event bytes =
    read_as event_of (read_u64 bytes >> read_u32 >> read_text >> read_text >> read_status >> read_status >> read_value >> read_due)

unfoldable pub event_bytes : Event → List ℕ
event_bytes e =
    u64_bytes e.id ++ u32_bytes e.moment ++ text_bytes e.chart ++ text_bytes e.alarm ++ status_bytes e.old ++ status_bytes e.new ++ value_bytes e.value ++ due_bytes e.due

-- its texts are short, and its value within the limit of expressions
pub record IsShortEvent (e : Event) : Type 0 where
  pub chart : length e.chart < 2 ^ 16
  pub alarm : length e.alarm < 2 ^ 16
  pub value : IsWithin e.value

-- the events that have a spelling
pub record IsEvent (e : Event) : Type 0 where
  pub id : e.id < 2 ^ 64
  pub moment : e.moment < 2 ^ 32
  pub chart : IsText e.chart
  pub alarm : IsText e.alarm
  pub value : IsSpelledValue e.value
  pub due : IsSpelledDue e.due
