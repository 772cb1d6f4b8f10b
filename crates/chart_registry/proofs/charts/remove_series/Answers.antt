use Rattle.std.proofs.Common.{◌+◌, Bool, None, is_some, if◌then◌else◌, sym, ap, ◌∙◌, length}
use Rattle.std.proofs.lemmas.Map.Text.{hash_map_updates_text}
use Rattle.chart_registry.proofs.charts.remove_series.Goals as goal

pub returns-clause-series : goal.returns-clause-series
returns-clause-series c =
    let removes = c.swap_remove-series.ensures in
    record {
      finds = λ text. hash_map_updates_text c.args.id.now c.args.chart.now.series c.swap_remove-series.new.self None removes.updates text;
      counts = ap (λ (some : Bool). length c.swap_remove-series.new.self.entries + (if some then 1 else 0)) (sym (ap is_some removes.value ∙ c.requires)) ∙ removes.len;
    }
