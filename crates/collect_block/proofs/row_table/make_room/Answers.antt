use Rattle.std.proofs.Common.{List, ℕ, cond, is_some, Some, ap, ◌∙◌, string_bytes}
use Rattle.std.specs.Str.{bytes_eq}
use Rattle.std.proofs.lemmas.Map.Text.{hash_map_updates_text}
use Rattle.chart_registry.specs.Places.{place_in}
use Rattle.chart_registry.proofs.TablesLemmas.{is_some-updated}
use Rattle.collect_block.proofs.row_table.make_room.Goals as goal

pub returns-clause-ok : goal.returns-clause-ok
returns-clause-ok c = λ other.
    ap is_some (hash_map_updates_text (string_bytes c.in_ok-key.key) c.args.charts.now c.insert.new.self (Some tt) c.in_ok-insert.ensures.updates other)
    ∙ ap (λ (text : List ℕ). is_some (cond (bytes_eq text other) (Some tt) (place_in c.args.charts.now.entries other))) c.in_ok-key.ensures.ok
    ∙ is_some-updated (bytes_eq c.args.chart.now other) tt (place_in c.args.charts.now.entries other)
