use Rattle.std.proofs.Common.{◌≡◌, ◌<◌, length, Option, Some, IfSome, sym, ap, subst, ◌∙◌, arith, refl}
use Rattle.std.specs.Option.{option_map}
use Rattle.std.proofs.lemmas.List.{length-map}
use Rattle.std.proofs.lemmas.Option.{slice_get_read}
use Rattle.history.specs.declared.beat.OpenDim.{OpenDim}
use Rattle.history.specs.Registry.{Registry as Definitions, chart_of}
use Rattle.indexmap.specs.IndexMap.{values}
use Rattle.chart_registry.specs.declared.dimensions.Dimension.{Dimension}
use Rattle.chart_registry.proofs.RegistryLemmas.{dimension-at, chart_of-owner, chart_id-owner, owner-within}
use Rattle.chart_registry.proofs.registry.Registry.owner.Goals as goal

pub returns : goal.returns
returns c =
    let charts = values c.self.inside.charts in
    let items = c.self.inside.dimensions.items in
    let registry = c.args.self.now in
    let view = c.self.view_is in
    let known = c.self.invariant.known in
    let dimension = c.index.result.now in
    let within : c.args.series < length items =
    omega (arith, c.requires, ap (λ (seen : Definitions). length seen.dimensions) c.self.view_is, length-map items (λ (dimension : Dimension). dimension.definition)) in
    let at = slice_get_read items (length items) c.args.series c.index.result.now refl within c.index.ensures in
    let here = dimension-at charts items registry view known c.args.series dimension at in
    record {
      value = subst (λ (found : Option OpenDim). IfSome found (λ seen. chart_of registry seen.chart ≡ Some dimension.owner)) (sym here) (chart_of-owner charts items registry view known c.args.series dimension at);
      id = ap (option_map (λ (seen : OpenDim). seen.chart)) here ∙ ap Some (sym (chart_id-owner charts items registry view known c.args.series dimension at));
      within = owner-within charts items registry view known c.args.series dimension at;
    }
