use Rattle.std.specs.Prelude.{ℕ, nat_lt, List, [], ◌∷◌, length, ℤ, pos, unsigned_abs, Result, Ok, Err, codes, if◌then◌else◌}
use Rattle.std.specs.List.{after_first}
use Rattle.std.specs.Str.{bytes_eq}
use Rattle.history.specs.declared.chart.ChartDef.{ChartDef}
use Rattle.history.specs.declared.chart.ChartKind.{ChartKind}
use Rattle.history.specs.declared.chart.ChartKind.TheVariants.{Line as LineKind, Area, Stacked}
use Rattle.history.specs.declared.chart.TheConstants.{USUAL_PRIORITY}
use Rattle.history.specs.declared.limits.TheConstants.{UPDATE_EVERY_LIMIT}
use Rattle.history.specs.declared.line.Line.{Line}
use Rattle.history.specs.declared.line.Line.TheVariants.{Chart}
use Rattle.history.specs.Limits.{is_dot}
use Rattle.plugin_text.specs.declared.fault.LineFault.{LineFault}
use Rattle.plugin_text.specs.declared.fault.LineFault.TheVariants.{MissingWord}
use Rattle.plugin_text.specs.Answer.{◌>>=◌}
use Rattle.plugin_text.specs.Fields.{field, word_or}
use Rattle.plugin_text.specs.Id.{chart_id}
use Rattle.plugin_text.specs.Number.{number, number_within}
use Rattle.plugin_text.specs.Text.{shortened, has_option}

abbrev pub chart_kind : List ℕ → ChartKind
chart_kind word =
    if bytes_eq word (codes "area") then Area
    else if bytes_eq word (codes "stacked") then Stacked
    else LineKind

abbrev pub priority : List ℕ → Result ℤ LineFault
priority [] = Ok USUAL_PRIORITY
priority (byte ∷ bytes) = number (byte ∷ bytes)

-- in seconds, and 0 where the line leaves it open
abbrev pub update_every : List ℕ → Result ℤ LineFault
update_every [] = Ok (pos 0)
update_every (byte ∷ bytes) = number_within (pos 0) (pos UPDATE_EVERY_LIMIT) (byte ∷ bytes)

-- the definition with these two numbers
abbrev pub chart_def : List (List ℕ) → ℤ → ℤ → ChartDef
chart_def words priority every =
    let id = field 0 words in
    let part = after_first is_dot id in
    record {
      id = id;
      name = shortened (word_or part (field 1 words));
      title = shortened (field 2 words);
      units = shortened (field 3 words);
      family = shortened (word_or part (field 4 words));
      context = shortened (word_or id (field 5 words));
      kind = chart_kind (field 6 words);
      priority = priority;
      update_every = unsigned_abs every;
      store_first = has_option (codes "store_first") (field 9 words);
    }

-- what the words say where all that are needed are there
abbrev pub chart_of : List (List ℕ) → Result Line LineFault
chart_of words = do
  _ ← chart_id (field 0 words)
  p ← priority (field 7 words)
  every ← update_every (field 8 words)
  Ok (Chart (chart_def words p every))

-- CHART type.id name title units [family [context [charttype [priority [update_every [options ..]]]]]]
abbrev pub chart : List (List ℕ) → Result Line LineFault
chart words = if nat_lt (length words) 4 then Err MissingWord else chart_of words
