-- What is of a chart is found among the items of that chart.
use Rattle.std.proofs.Common.{◌≡◌, ℕ, ◌==◌, true, List, filter, find, sym, ap, ◌∙◌}
use Rattle.std.specs.List.{list_any}
use Rattle.std.proofs.lemmas.Bool.{and_parts, eqb-true}
use Rattle.std.proofs.lemmas.Map.Views.{any-filter_same}
use Rattle.health_config.specs.Entity.{Alarm}
use Rattle.alarm_events.specs.declared.state.KeptState.{KeptState}
use Rattle.alarm_core.specs.declared.pairs.Pair.{Pair}
use Rattle.alarm_core.specs.declared.state.State.{State}
use Rattle.alarm_core.specs.ByChart.{is_on_chart}
use Rattle.alarm_core.specs.Kept.{is_named, is_pair_of}
use Rattle.alarm_core.specs.Pairing.{is_of, is_same_at, stays}
use Rattle.alarm_core.proofs.FindLemmas.{find_among}
use Rattle.alarm_core.proofs.SameLemmas.{number_back}

-- numbers that a test takes for the same, the other way round
turned : (one other : ℕ) → (one == other) ≡ true → (other == one) ≡ true
turned one other is = number_back other one (sym (eqb-true one other is))

pub stays_by_chart : (before after : List Alarm) (state : State) (pairs among : List Pair) → among ≡ filter (is_on_chart (λ (pair : Pair). pair.chart) state.chart) pairs
    → stays before after among state ≡ stays before after pairs state
stays_by_chart before after state pairs among is =
    ap (list_any (λ (pair : Pair). is_of before after pair state)) is
    ∙ any-filter_same (λ (pair : Pair). is_of before after pair state) (is_on_chart (λ (pair : Pair). pair.chart) state.chart) true
    (λ pair passes. (and_parts (state.chart == pair.chart) (is_same_at before state.alarm after pair.alarm) passes).0) pairs

pub state_by_chart : (before after : List Alarm) (pair : Pair) (states among : List State) → among ≡ filter (is_on_chart (λ (state : State). state.chart) pair.chart) states
    → find (is_of before after pair) among ≡ find (is_of before after pair) states
state_by_chart before after pair states among is =
    ap (find (is_of before after pair)) is
    ∙ find_among (is_of before after pair) (is_on_chart (λ (state : State). state.chart) pair.chart)
    (λ state passes. turned state.chart pair.chart (and_parts (state.chart == pair.chart) (is_same_at before state.alarm after pair.alarm) passes).0) states

pub pair_by_chart : (alarms : List Alarm) (kept : KeptState) (pairs among : List Pair) → among ≡ filter (is_on_chart (λ (pair : Pair). pair.chart) kept.chart) pairs
    → find (is_pair_of alarms kept) among ≡ find (is_pair_of alarms kept) pairs
pair_by_chart alarms kept pairs among is =
    ap (find (is_pair_of alarms kept)) is
    ∙ find_among (is_pair_of alarms kept) (is_on_chart (λ (pair : Pair). pair.chart) kept.chart)
    (λ pair passes. turned pair.chart kept.chart (and_parts (pair.chart == kept.chart) (is_named alarms pair.alarm kept.alarm) passes).0) pairs
