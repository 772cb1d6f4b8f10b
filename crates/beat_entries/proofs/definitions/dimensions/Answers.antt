use Rattle.std.proofs.Common.{◌≡◌, List, Some, IsSome, ap, subst, ◌∙◌}
use Rattle.std.specs.List.{find, filter_map}
use Rattle.std.specs.List.Sorted.{IsPermutation, IsNonDecreasingBy}
use Rattle.std.proofs.lemmas.List.Elements.{All-same, All-weaker}
use Rattle.chart_registry.proofs.Places.{list_any-position}
use Rattle.history.specs.declared.beat.OpenDim.{OpenDim}
use Rattle.history.specs.declared.numbered.NumberedDimension.{NumberedDimension}
use Rattle.history.specs.Numbered.{numbered_dimensions}
use Rattle.history.specs.Registry.{is_dimension, series_of}
use Rattle.beat_entries.specs.Gathered.{dimension_at}
use Rattle.beat_entries.specs.Rules.{with_beat}
use Rattle.beat_entries.proofs.EntryLemmas.{any-find, dimensions-are, ok-both}
use Rattle.beat_entries.proofs.definitions.dimensions.Goals as goal

pub returns : goal.returns
returns c =
    let registry = with_beat c.args.coming.now.registry.now c.args.coming.now.beat.now in
    let beat = c.args.beat.now in
    let items = c.in_ok-gather_dimensions.field-0.items in
    let gathered : items ≡ filter_map (dimension_at registry) beat.dimensions = c.in_ok-gather_dimensions.ensures ∙ ap (filter_map (dimension_at registry)) c.as_slice.ensures in
    ok-both (λ (list : List NumberedDimension). IsPermutation items list) (λ (list : List NumberedDimension). IsNonDecreasingBy (λ (item : NumberedDimension). item.series) list) (λ (list : List NumberedDimension). list ≡ numbered_dimensions registry beat)
    (λ list same up. dimensions-are registry beat c.requires.defined list (subst (λ (all : List NumberedDimension). IsPermutation all list) gathered same) up) c.sort_dimensions.result c.sort_dimensions.ensures.same c.sort_dimensions.ensures.rises

pub gather_dimensions-requires-clause-series : goal.gather_dimensions-requires-clause-series
gather_dimensions-requires-clause-series c =
    let registry = with_beat c.args.coming.now.registry.now c.args.coming.now.beat.now in
    let beat = c.args.beat.now in
    let IsNumbered = λ (dimension : OpenDim). IsSome (series_of registry dimension.chart dimension.def.id) in
    All-same IsNumbered c.as_slice.result.now beat.dimensions c.as_slice.ensures
    (All-weaker (λ (dimension : OpenDim). find (is_dimension dimension.chart dimension.def.id) registry.dimensions ≡ Some dimension) IsNumbered
    (λ dimension there. list_any-position (is_dimension dimension.chart dimension.def.id) registry.dimensions
    ∙ any-find (is_dimension dimension.chart dimension.def.id) registry.dimensions (Some dimension) there) beat.dimensions c.requires.defined.dimensions)
