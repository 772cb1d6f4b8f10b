-- What alarms say of charts, and whose a state is.
use Rattle.std.specs.Prelude.{◌≡◌, ℕ, false, List, [], map, pos}
use Rattle.health_config.specs.Entity.{Alarm}
use Rattle.history.specs.declared.chart.ChartDef.{ChartDef}
use Rattle.history.specs.declared.chart.ChartKind.TheVariants.{Line}
use Rattle.alarm_core.specs.declared.charts.ChartWords.{ChartWords}
use Rattle.alarm_core.specs.declared.pairs.Pair.{Pair}
use Rattle.alarm_core.specs.declared.state.Holder.{Holder}
use Rattle.alarm_core.specs.declared.state.Holder.TheVariants as holder
use Rattle.alarm_core.specs.declared.state.State.{State}
use Rattle.alarm_core.specs.Pairs.{wanted}

-- the words of a chart that alarms say
abbrev pub words_of : ChartDef → ChartWords
words_of def = record { id = def.id; name = def.name; context = def.context }

-- a chart of these words, with nothing else
abbrev pub chart_with : ChartWords → ChartDef
chart_with words = record {
  id = words.id;
  name = words.name;
  title = [];
  units = [];
  family = [];
  context = words.context;
  kind = Line;
  priority = pos 0;
  update_every = 0;
  store_first = false;
}

-- the alarms that are computed for charts of these words
unfoldable pub wanted_on : List Alarm → List ChartWords → List Pair
wanted_on alarms words = wanted alarms (map chart_with words)

-- of which alarm a state is, and of which chart
abbrev pub owner : State → Holder × ℕ
owner state = (state.alarm, state.chart)

-- of which alarm and of which chart the state of a pair is
abbrev pub owner_of : Pair → Holder × ℕ
owner_of pair = (holder.Alarm pair.alarm, pair.chart)

-- states are those of pairs, in their order, and none is of an alarm that is lost
pub record AreTaken (states : List State) (lost : List (List ℕ)) (pairs : List Pair) : Type 0 where
  pub owners : map owner states ≡ map owner_of pairs
  pub none_lost : lost ≡ []
