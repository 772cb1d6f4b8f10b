use Rattle.std.proofs.Common.{◌≡◌, true, sym, ap, subst, ◌∙◌}
use Rattle.entry_codec.specs.Entries.{is_collected_canonical, IsWithinLimits}
use Rattle.history.specs.declared.numbered.NumberedBeat.{NumberedBeat}
use Rattle.history.specs.Numbered.{numbered_charts, numbered_dimensions, IsThere}
use Rattle.history.specs.declared.beat.OpenBeat.{OpenBeat}
use Rattle.history.specs.Registry.{Registry, same_chart, same_dimension}
use Rattle.history.specs.Regular.{AreApart, IsRegular}
use Rattle.chart_registry.specs.Taking.{all_taken, takes_chart, takes_dimension, with_chart, with_charts, with_dimension, with_dimensions}
use Rattle.beat_entries.specs.Rules.{with_beat}
use Rattle.beat_entries.specs.Taking.{IsJudged}
use Rattle.beat_entries.proofs.AfterLemmas.{charts-apart, dimensions-apart}
use Rattle.beat_entries.proofs.TakingLemmas.{tested-canonical, tested-charts, tested-dimensions, tested-limits, tested-regular, tested-taken, tested-there}
use Rattle.beat_entries.proofs.TestLemmas.{tested, IsTested}
use Rattle.beat_entries.proofs.taking.define_beat.Goals as goal

-- what a beat that the registry judged says of the numbered one
module _ (registry : Registry) (numbered : NumberedBeat) (charts : AreApart same_chart registry.charts) (dimensions : AreApart same_dimension registry.dimensions) (beat : OpenBeat)
    (judged : IsJudged registry beat numbered) where
  tests : IsTested registry beat
  tests = tested registry numbered.moment beat judged.content

  charts-are : numbered.charts ≡ numbered_charts (with_beat registry beat) beat
  charts-are = ap (λ (numbered : NumberedBeat). numbered.charts) judged.numbered_is

  dimensions-are : numbered.dimensions ≡ numbered_dimensions (with_beat registry beat) beat
  dimensions-are = ap (λ (numbered : NumberedBeat). numbered.dimensions) judged.numbered_is

  taken-charts : all_taken takes_chart with_chart registry numbered.charts ≡ true
  taken-charts = ap (all_taken takes_chart with_chart registry) charts-are ∙ tested-charts registry beat judged.is_open charts dimensions tests

  taken-dimensions : all_taken takes_dimension with_dimension (with_charts registry numbered.charts) numbered.dimensions ≡ true
  taken-dimensions =
      (λ i. all_taken takes_dimension with_dimension (with_charts registry (charts-are i)) (dimensions-are i)) ∙ tested-dimensions registry beat judged.is_open charts dimensions tests

  taken : with_dimensions (with_charts registry numbered.charts) numbered.dimensions ≡ with_beat registry beat
  taken = (λ i. with_dimensions (with_charts registry (charts-are i)) (dimensions-are i)) ∙ tested-taken registry beat judged.is_open charts dimensions tests

  there : IsThere (with_beat registry beat) numbered
  there = tested-there registry beat judged.is_open charts dimensions tests numbered.moment numbered judged.numbered_is

  regular : IsRegular (with_beat registry beat) beat
  regular = tested-regular registry beat judged.is_open charts dimensions tests

  canonical : is_collected_canonical numbered ≡ true
  canonical = tested-canonical registry beat judged.is_open charts dimensions tests numbered.moment numbered judged.numbered_is

  limits : IsWithinLimits numbered
  limits = tested-limits registry beat judged.is_open charts dimensions tests numbered.moment numbered judged.numbered_is

pub take_definitions-requires-clause-charts : goal.take_definitions-requires-clause-charts
take_definitions-requires-clause-charts c =
    ap (all_taken takes_chart with_chart c.args.registry.now) c.as_slice.ensures
    ∙ taken-charts c.args.registry.now c.args.numbered.now c.requires.charts c.requires.dimensions c.requires.judged.0 c.requires.judged.1

pub take_definitions-requires-clause-dimensions : goal.take_definitions-requires-clause-dimensions
take_definitions-requires-clause-dimensions c =
    (λ i. all_taken takes_dimension with_dimension (with_charts c.args.registry.now (c.as_slice.ensures i)) (c.as_slice-2.ensures i))
    ∙ taken-dimensions c.args.registry.now c.args.numbered.now c.requires.charts c.requires.dimensions c.requires.judged.0 c.requires.judged.1

pub returns-clause-taken : goal.returns-clause-taken
returns-clause-taken c = λ beat judged.
    c.in_ok-take_definitions.ensures.taken
    ∙ (λ i. with_dimensions (with_charts c.args.registry.now (c.as_slice.ensures i)) (c.as_slice-2.ensures i))
    ∙ taken c.args.registry.now c.args.numbered.now c.requires.charts c.requires.dimensions beat judged

pub returns-clause-charts : goal.returns-clause-charts
returns-clause-charts c =
    subst (λ (r : Registry). AreApart same_chart r.charts) (sym (returns-clause-taken c c.requires.judged.0 c.requires.judged.1)) (charts-apart c.args.registry.now c.requires.judged.0 c.requires.charts)

pub returns-clause-dimensions : goal.returns-clause-dimensions
returns-clause-dimensions c =
    subst (λ (r : Registry). AreApart same_dimension r.dimensions) (sym (returns-clause-taken c c.requires.judged.0 c.requires.judged.1)) (dimensions-apart c.args.registry.now c.requires.judged.0 c.requires.dimensions)

pub returns-clause-regular : goal.returns-clause-regular
returns-clause-regular c = λ beat judged.
    subst (λ (r : Registry). IsRegular r beat) (sym (returns-clause-taken c beat judged)) (regular c.args.registry.now c.args.numbered.now c.requires.charts c.requires.dimensions beat judged)

pub returns-clause-there : goal.returns-clause-there
returns-clause-there c =
    subst (λ (r : Registry). IsThere r c.args.numbered.now) (sym (returns-clause-taken c c.requires.judged.0 c.requires.judged.1))
    (there c.args.registry.now c.args.numbered.now c.requires.charts c.requires.dimensions c.requires.judged.0 c.requires.judged.1)

pub returns-clause-canonical : goal.returns-clause-canonical
returns-clause-canonical c = canonical c.args.registry.now c.args.numbered.now c.requires.charts c.requires.dimensions c.requires.judged.0 c.requires.judged.1

pub returns-clause-limits : goal.returns-clause-limits
returns-clause-limits c = limits c.args.registry.now c.args.numbered.now c.requires.charts c.requires.dimensions c.requires.judged.0 c.requires.judged.1
