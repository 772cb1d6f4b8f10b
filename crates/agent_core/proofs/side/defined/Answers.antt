use Rattle.std.proofs.Common.{◌≡◌, ◌&&◌, [], sym, ◌∙◌}
use Rattle.std.specs.List.{list_all}
use Rattle.std.proofs.lemmas.Result.{err_from_is_err_and}
use Rattle.history.specs.Registry.{empty}
use Rattle.chart_registry.specs.Taking.{all_taken, takes_chart, takes_dimension, with_chart, with_charts, with_dimension, with_dimensions}
use Rattle.beat_entries.specs.Next.{takes_row}
use Rattle.agent_core.proofs.OpenFaults.{unread-either, unread-next}
use Rattle.agent_core.proofs.side.defined.Goals as goal

pub returns-in_err-define_charts-clause-broken : goal.returns-in_err-define_charts-clause-broken
returns-in_err-define_charts-clause-broken c =
    let error = err_from_is_err_and c.from_residual.result c.from_residual.ensures.1 in
    let same : all_taken takes_chart with_chart c.new-registry.result c.as_slice.result.now ≡ all_taken takes_chart with_chart empty c.args.charts =
    λ i. all_taken takes_chart with_chart (c.new-registry.ensures i) (c.as_slice.ensures i) in
    rw (error.1, error.2) (λ damaged i.
    (sym same ∙ c.in_err-define_charts.ensures.refused (unread-next c.in_err-define_charts.field-0.0 damaged)) i
    && (all_taken takes_dimension with_dimension (with_charts empty c.args.charts) c.args.dimensions
    && list_all (takes_row (with_dimensions (with_charts empty c.args.charts) c.args.dimensions)) []))

pub returns-in_err-define_charts-clause-faults : goal.returns-in_err-define_charts-clause-faults
returns-in_err-define_charts-clause-faults c =
    let error = err_from_is_err_and c.from_residual.result c.from_residual.ensures.1 in
    rw (error.1, error.2) (unread-either c.in_err-define_charts.field-0.0)

pub returns-in_err-define_dimensions-clause-faults : goal.returns-in_err-define_dimensions-clause-faults
returns-in_err-define_dimensions-clause-faults c =
    let error = err_from_is_err_and c.from_residual-in_err-define_dimensions.result c.from_residual-in_err-define_dimensions.ensures.1 in
    rw (error.1, error.2) (unread-either c.in_err-define_dimensions.field-0.0)
