-- Runs: the pairs and the states of an alarm stand one behind the other.
use Rattle.std.specs.Prelude.{◌≡◌, ℕ, ◌==◌, List, ◌++◌, map, replicate}
use Rattle.std.specs.List.{dedup, dedup_from, flat_map}
use Rattle.alarm_core.specs.declared.pairs.Pair.{Pair}
use Rattle.alarm_core.specs.declared.runs.Run.{Run}
use Rattle.alarm_core.specs.declared.state.Holder.TheVariants as holder
use Rattle.alarm_core.specs.declared.state.State.{State}

-- the alarm of a run, once for each of its pairs
abbrev pub alarms_in : Run → List ℕ
alarms_in run = replicate run.len run.alarm

-- runs are those of pairs: one behind the other they have the alarms of the pairs, and each ends only where
-- another alarm begins
pub record AreRunsOf (pairs : List Pair) (runs : List Run) : Type 0 where
  pub alarms : flat_map alarms_in runs ≡ map (λ pair. pair.alarm) pairs
  pub whole : map (λ run. run.alarm) runs ≡ dedup ◌==◌ (map (λ pair. pair.alarm) pairs)

-- the alarms of runs, of a run behind them, and of those that come where more pairs are of these alarms
abbrev pub alarms_with : List Run → Run → List ℕ → List ℕ
alarms_with runs run more = map (λ run. run.alarm) runs ++ dedup_from ◌==◌ run.alarm more

-- states stand in runs: one behind the other these have the alarms of the states
abbrev pub StandIn : List Run → List State → Type 0
StandIn runs states = map (λ state. state.alarm) states ≡ map holder.Alarm (flat_map alarms_in runs)
