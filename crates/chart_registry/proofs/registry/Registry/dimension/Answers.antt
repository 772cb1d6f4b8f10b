use Rattle.std.proofs.Common.{◌≡◌, ◌<◌, length, Option, Some, IfSome, sym, ap, subst, arith, refl}
use Rattle.std.proofs.lemmas.List.{length-map}
use Rattle.std.proofs.lemmas.Option.{slice_get_read}
use Rattle.history.specs.declared.beat.OpenDim.{OpenDim}
use Rattle.history.specs.Registry.{Registry as Definitions, series_of}
use Rattle.indexmap.specs.IndexMap.{values}
use Rattle.chart_registry.specs.declared.dimensions.Dimension.{Dimension}
use Rattle.chart_registry.proofs.RegistryLemmas.{dimension-at, series_of-at}
use Rattle.chart_registry.proofs.registry.Registry.dimension.Goals as goal

pub returns-clause-series : goal.returns-clause-series
returns-clause-series c =
    let charts = values c.self.inside.charts in
    let items = c.self.inside.dimensions.items in
    let within : c.args.series < length items =
    omega (arith, c.requires, ap (λ (seen : Definitions). length seen.dimensions) c.self.view_is, length-map items (λ (dimension : Dimension). dimension.definition)) in
    let at = slice_get_read items (length items) c.args.series c.index.result.now refl within c.index.ensures in
    subst (λ (found : Option OpenDim). IfSome found (λ dimension. series_of c.args.self.now dimension.chart dimension.def.id ≡ Some c.args.series))
    (sym (dimension-at charts items c.args.self.now c.self.view_is c.self.invariant.known c.args.series c.index.result.now at))
    (series_of-at charts items c.args.self.now c.self.view_is c.self.invariant.known c.args.series c.index.result.now at)
