use Rattle.std.proofs.Common.{Some, sym, ap, ◌∙◌}
use Rattle.std.specs.Option.{option_map}
use Rattle.std.proofs.lemmas.Option.{slice_get-map}
use Rattle.history.specs.declared.beat.OpenDim.{OpenDim}
use Rattle.chart_registry.specs.declared.dimensions.Dimension.{Dimension}
use Rattle.chart_registry.proofs.DimensionsLemmas.{at_mark, marks-redefined, open_dims-redefined}
use Rattle.chart_registry.proofs.dimensions.exchange.Goals as goal

pub returns-clause-marks : goal.returns-clause-marks
returns-clause-marks c = marks-redefined c.args.dimensions.now.items c.args.series c.index_mut.result.now c.replace.new.dest c.args.def c.replace.ensures.after c.requires c.index_mut.ensures.value

pub returns-clause-defs : goal.returns-clause-defs
returns-clause-defs c = open_dims-redefined c.args.dimensions.now.items c.args.series c.index_mut.result.now c.replace.new.dest c.args.def c.replace.ensures.after c.requires c.index_mut.ensures.value

pub returns-clause-before : goal.returns-clause-before
returns-clause-before c =
    let items = c.args.dimensions.now.items in
    let found = at_mark items c.args.series c.args.def.id c.index_mut.result.now c.requires c.index_mut.ensures.value in
    ap (option_map (λ (dimension : OpenDim). dimension.def)) (slice_get-map (λ (dimension : Dimension). dimension.definition) items c.args.series ∙ ap (option_map (λ (dimension : Dimension). dimension.definition)) found.0)
    ∙ ap Some (sym c.replace.ensures.value)
