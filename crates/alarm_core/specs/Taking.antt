-- Alarms take the charts that they are paired with.
use Rattle.std.specs.Prelude.{◌≡◌, ℕ, [], IsTrue}
use Rattle.history.specs.Registry.{Registry}
use Rattle.alarm_core.specs.declared.alarms.Alarms.{Alarms}
use Rattle.alarm_core.specs.Course.{held, states_of_pairs, told_of_pairs}
use Rattle.alarm_core.specs.UpTo.{IsUpTo}

-- the states are then those of the pairs, and it was told which went
pub record TakesPairs (before : Alarms) (registry : Registry) (moment : ℕ) (after : Alarms) : Type 0 where
  pub text : after.text ≡ before.text
  pub alarms : after.alarms ≡ before.alarms
  pub lost : after.lost ≡ []
  pub states : after.states.items ≡ states_of_pairs (held before) (held before).alarms registry
  pub told : after.told ≡ told_of_pairs (held before) (held before).alarms registry moment
  pub taken : IsTrue after.pairing.taken
  pub up_to : IsUpTo after registry
