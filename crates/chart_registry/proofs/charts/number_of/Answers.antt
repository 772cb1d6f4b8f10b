use Rattle.std.proofs.Common.{sym, ap, ◌∙◌, position, string_bytes}
use Rattle.std.specs.Str.{bytes_eq}
use Rattle.indexmap.specs.IndexMap.{keys}
use Rattle.chart_registry.proofs.Places.{position-map}
use Rattle.chart_registry.proofs.charts.number_of.Goals as goal

pub returns-in-Some : goal.returns-in-Some
returns-in-Some c =
    c.in-Some.ensures.index ∙ sym (position-map (bytes_eq c.args.id.now) string_bytes (keys c.args.charts.now)) ∙ ap (position (bytes_eq c.args.id.now)) c.requires.by_id

pub returns-in-None : goal.returns-in-None
returns-in-None c =
    c.in-None.ensures.index ∙ sym (position-map (bytes_eq c.args.id.now) string_bytes (keys c.args.charts.now)) ∙ ap (position (bytes_eq c.args.id.now)) c.requires.by_id
