-- The line that an event is told by.
use Rattle.std.specs.Prelude.{ℕ, true, false, List, ◌++◌, codes, Option, Some, None}
use Rattle.std.specs.Fmt.{decimal}
use Rattle.fixed_num.specs.UnitsText.{units_text}
use Rattle.health_expr.specs.declared.value.Value.{Value}
use Rattle.health_expr.specs.declared.value.Value.TheVariants.{Nan, Inf, Fixed}
use Rattle.alarm_events.specs.declared.event.Event.{Event}
use Rattle.alarm_events.specs.Status.{name}

abbrev pub value_text : Value → List ℕ
value_text Nan = codes "nan"
value_text (Inf false) = codes "inf"
value_text (Inf true) = codes "-inf"
value_text (Fixed units) = units_text units

abbrev pub due_text : Option ℕ → List ℕ
due_text None = codes "-"
due_text (Some moment) = decimal moment

-- the number of an event, its moment, its chart and its alarm
abbrev pub head_text : Event → List ℕ
head_text event =
    codes "EVENT " ++ decimal event.id ++ codes " " ++ decimal event.moment ++ codes " " ++ event.chart ++ codes " " ++ event.alarm ++ codes " "

-- the statuses before and after
abbrev pub change_text : Event → List ℕ
change_text event = name event.old ++ codes " " ++ name event.new ++ codes " "

-- the value, and when it is due
abbrev pub end_text : Event → List ℕ
end_text event = value_text event.value ++ codes " " ++ due_text event.due ++ codes "\n"

abbrev pub event_line : Event → List ℕ
event_line event = head_text event ++ change_text event ++ end_text event
