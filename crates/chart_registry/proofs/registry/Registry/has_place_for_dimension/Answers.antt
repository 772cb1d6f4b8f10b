use Rattle.std.proofs.Common.{◌<◌, List, ℕ, length, sym, ap, ◌∙◌, arith}
use Rattle.history.specs.Registry.{series_of}
use Rattle.chart_registry.specs.Defining.{chart_id}
use Rattle.chart_registry.specs.Taking.{is_number}
use Rattle.chart_registry.proofs.TakenLemmas.{same-series}
use Rattle.chart_registry.proofs.registry.Registry.has_place_for_dimension.Goals as goal

pub returns-then-dimension-dimensions : goal.returns-then-dimension-dimensions
returns-then-dimension-dimensions c =
    let r = c.args.self.now in
    let dimension = c.args.dimension.now in
    let there : dimension.series < length r.dimensions = omega (arith, c.if-dimension-dimensions.true, c.dimensions.ensures.value) in
    c.is_series_of.ensures ∙ ap (λ (id : List ℕ). is_number dimension.series (series_of r (chart_id r dimension.chart) id)) c.as_str.ensures
    ∙ sym (same-series r dimension there)
