use Rattle.std.proofs.Common.{ℕ, ◌+◌, Some, Option, is_some, if◌then◌else◌, ap, ◌∙◌, length, string_bytes}
use Rattle.std.proofs.lemmas.Map.Text.{hash_map_updates_text}
use Rattle.chart_registry.proofs.dimension_table.add_place.Goals as goal

pub returns-clause-ok : goal.returns-clause-ok
returns-clause-ok c =
    let inserts = c.in_ok-insert.ensures in
    record {
      finds = λ text. hash_map_updates_text (string_bytes c.args.id) c.args.table.now c.insert.new.self (Some c.args.place) inserts.updates text;
      counts = inserts.len ∙ ap (λ (old : Option ℕ). length c.args.table.now.entries + (if is_some old then 0 else 1)) (inserts.old ∙ c.requires.absent);
    }
