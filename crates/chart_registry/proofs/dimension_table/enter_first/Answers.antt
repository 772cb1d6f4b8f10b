use Rattle.std.proofs.Common.{ℕ, List, [], Some, subst, string_bytes}
use Rattle.std.specs.declared.alloc.Global.{Global}
use Rattle.std.specs.declared.string.String.{String}
use Rattle.std.proofs.lemmas.Map.Text.{hash_map_updates_text}
use Rattle.chart_registry.specs.Places.{AddsPlace}
use Rattle.chart_registry.proofs.TablesLemmas.{enters-first}
use Rattle.chart_registry.proofs.dimension_table.enter_first.Goals as goal

pub returns-clause-ok : goal.returns-clause-ok
returns-clause-ok c =
    let id = string_bytes c.args.id in
    let chart = string_bytes c.args.chart in
    let table = c.add_place.new.table in
    let adds : AddsPlace [] id c.args.place table.entries = subst (λ (old : List (String Global × ℕ)). AddsPlace old id c.args.place table.entries) c.new-table.ensures.empty c.in_ok-add_place.ensures.ok in
    enters-first c.args.tables.now.entries chart id c.args.place c.insert.new.self.entries table c.requires.absent adds
    (hash_map_updates_text chart c.args.tables.now c.insert.new.self (Some table) c.in_ok-insert.ensures.updates)
