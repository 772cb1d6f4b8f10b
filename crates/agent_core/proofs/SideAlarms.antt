-- The alarms of a history are those that are kept of them.
use Rattle.std.proofs.Common.{◌≡◌, ℕ, List, [], ◌∷◌, Some, None, Result, Ok, Err, refl, sym}
use Rattle.std.proofs.lemmas.Option.{none-some}
use Rattle.health_config.specs.declared.fault.ConfigFault.{ConfigFault}
use Rattle.health_config.specs.Config.{config_read, Configuration}
use Rattle.history.specs.History.{Beat, collected, copied, health, missing, last, registry_of}
use Rattle.history.specs.Registry.{empty}
use Rattle.alarm_core.specs.Kept.{kept, of_kept}
use Rattle.alarm_core.specs.Whole.{IsTextOf, IsWhole}
use Rattle.alarm_core.proofs.AgainLemmas.{kept_again, whole_configured, whole_nothing, whole_stepped}
use Rattle.tier_settings.specs.declared.settings.Settings.{Settings}
use Rattle.store_core.specs.declared.beats.beat.Beat.{Beat as StoreBeat}
use Rattle.agent_core.specs.Alarms.{alarm_beat, alarms_at, alarms_by}
use Rattle.agent_core.specs.Health.{alarms_in, alarms_of, fault_in, health_refusal}
use Rattle.agent_core.specs.Kept.{AreBeatsOf}

-- a text that nothing refuses has its alarms
read-as : (read : Result Configuration ConfigFault) → fault_in read ≡ None → (skipped : ℕ) × (read ≡ Ok (record { alarms = alarms_in read; skipped = skipped }))
read-as (Ok config) accepted = (config.skipped, refl)
read-as (Err fault) accepted = absurd (none-some fault (sym accepted))

text-of : (text : List ℕ) → health_refusal text ≡ None → IsTextOf text (alarms_of text)
text-of text accepted = read-as (config_read text) accepted

module _ (set : Settings) where
  pub whole-of : (h : List Beat) (beats : List StoreBeat) → AreBeatsOf h beats → IsWhole (alarms_at set h) (registry_of h)
  unfolding alarms_by
  whole-of [] beats are = whole_nothing empty
  whole-of (collected moment beat ∷ h) [] are = absurd are
  whole-of (collected moment beat ∷ h) (kept ∷ beats) are =
      whole_stepped (alarms_at set h) (alarm_beat set (last h) moment (collected moment beat ∷ h)) (whole-of h beats are.1).text
  whole-of (copied copy ∷ h) [] are = absurd are
  whole-of (copied copy ∷ h) (kept ∷ beats) are =
      whole_stepped (alarms_at set h) (alarm_beat set (last h) copy.moment (copied copy ∷ h)) (whole-of h beats are.1).text
  whole-of (health text ∷ h) [] are = absurd are
  whole-of (health text ∷ h) (kept ∷ beats) are =
      whole_configured (alarms_at set h) text (alarms_of text) (registry_of h) (last h) (text-of text are.0.accepted)
  whole-of (missing gap ∷ h) [] are = absurd are
  whole-of (missing gap ∷ h) (kept ∷ beats) are = whole-of h beats are.1

  pub alarms-again : (h : List Beat) (beats : List StoreBeat) → AreBeatsOf h beats → of_kept (registry_of h) (kept (alarms_at set h)) ≡ Some (alarms_at set h)
  alarms-again h beats are = kept_again (alarms_at set h) (registry_of h) (whole-of h beats are)
