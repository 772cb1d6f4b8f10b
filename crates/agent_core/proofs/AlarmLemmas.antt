-- Alarms that follow the beats of a history.
use Rattle.std.proofs.Common.{◌≡◌, ℕ, Bool, List, [], ◌∷◌, map, refl, sym, ap, ◌∙◌, arith}
use Rattle.health_config.specs.declared.config.Config.{Config}
use Rattle.health_config.specs.ConfigOf.{entities_of, text_of}
use Rattle.health_config.specs.Entity.{alarm_of}
use Rattle.history.specs.History.{Beat, collected, copied, health, missing, last, registry_of, Gap}
use Rattle.history.specs.Registry.{Registry}
use Rattle.alarm_core.specs.declared.alarms.Alarms.{Alarms}
use Rattle.alarm_core.specs.declared.latest.Latest.{Latest}
use Rattle.alarm_core.specs.Beats.{Beat as AlarmBeat}
use Rattle.alarm_core.specs.Course.{configured, held, nothing, stepped_by, Held, Outcome}
use Rattle.tier_settings.specs.declared.settings.Settings.{Settings}
use Rattle.tier_rollup.specs.declared.point.Point.{Point}
use Rattle.beat_tiers.specs.Beats.{TierBeat}
use Rattle.beat_tiers.specs.State.{tier_floor}
use Rattle.store_core.specs.Store.{HasApplied, StoreState}
use Rattle.store_core.specs.Tiers.{floor_at}
use Rattle.store_core.specs.View.{points_of, Tells}
use Rattle.store_core.proofs.TierLemmas.{floor_is}
use Rattle.agent_core.specs.declared.alarming.Stepping.TheVariants as stepping
use Rattle.agent_core.specs.declared.left.Left.{Left}
use Rattle.agent_core.specs.Alarms.{alarm_beat, alarms_at, alarms_by, IsSteppingOf}
use Rattle.agent_core.specs.Answers.{tier_beats}
use Rattle.agent_core.specs.Health.{alarms_in, alarms_of}
use Rattle.agent_core.specs.LastSeen.{latest_of, IsLatestOf}
use Rattle.agent_core.specs.Left.{AwaitsAlarms, IsLeftBy}
use Rattle.agent_core.proofs.AnswerLemmas.{floor-is, told-is}
use Rattle.agent_core.proofs.LastSeenLemmas.{latest-is}

-- ---- one step by what a store tells
abbrev pub seen_by : ℕ → Registry → Latest → ℕ → (ℕ → List Point) → AlarmBeat
seen_by moment registry latest floor told = record { moment = moment; registry = registry; latest = latest; floor = floor; told = told }

-- a store tells the points of the beats that it has applied, by their floor
pub told-by : (store : StoreState) (set : Settings) (beats : List TierBeat) → HasApplied set beats store → (moment : ℕ) (registry : Registry) (latest : Latest) (old : Held)
    → {T : Type 0} (part : Outcome → T) (new : T)
    → ((told : ℕ → List Point) → Tells store told → new ≡ part (stepped_by old (seen_by moment registry latest (tier_floor store.tiers 0) told)))
    → new ≡ part (stepped_by old (seen_by moment registry latest (floor_at set beats 0) (points_of beats)))
told-by store set beats has moment registry latest old part new says =
    says (points_of beats) (record { set = set; beats = beats; has = has; told_is = refl })
    ∙ ap (λ (floor : ℕ). part (stepped_by old (seen_by moment registry latest floor (points_of beats)))) (floor_is set beats store.tiers has 0 (omega arith))

-- ---- what a beat makes of the alarms
beat-is : (set : Settings) (h : List Beat) (beat : Beat) (registry : Registry) (latest : Latest) → registry ≡ registry_of (beat ∷ h)
    → IsLatestOf latest (beat ∷ h) → latest.before ≡ last h → (moment at : ℕ) → moment ≡ at
    → seen_by moment registry latest (floor_at set (tier_beats (beat ∷ h)) 0) (points_of (tier_beats (beat ∷ h))) ≡ alarm_beat set (last h) at (beat ∷ h)
beat-is set h beat registry latest registry_is latest_is before moment at same =
    let seen : latest ≡ latest_of (last h) (beat ∷ h) = latest-is latest (beat ∷ h) latest_is ∙ ap (λ (b : ℕ). latest_of b (beat ∷ h)) before in
    let floor = floor-is set (beat ∷ h) 0 in
    let told = told-is set (beat ∷ h) in
    λ i. seen_by (same i) (registry_is i) (seen i) (floor i) (told i)

outcome-of : (set : Settings) (h : List Beat) (beat : Beat) (old : Held) (now : AlarmBeat) (moment : ℕ) (defines : Bool) → old ≡ alarms_at set h → IsSteppingOf beat (stepping.Beat moment defines)
    → ((at : ℕ) → moment ≡ at → now ≡ alarm_beat set (last h) at (beat ∷ h)) → stepped_by old now ≡ alarms_by set (beat ∷ h)
unfolding alarms_by
outcome-of set h (collected at beat) old now moment defines was does seen = λ i. stepped_by (was i) (seen at does i)
outcome-of set h (copied copy) old now moment defines was does seen = λ i. stepped_by (was i) (seen copy.moment does i)
outcome-of set h (health text) old now moment defines was does seen = absurd does
outcome-of set h (missing gap) old now moment defines was does seen = absurd does

config-of : (set : Settings) (h : List Beat) (beat : Beat) (old : Held) (registry : Registry) (moment : ℕ) (config : Config) → old ≡ alarms_at set h → IsSteppingOf beat (stepping.Configuration config)
    → registry ≡ registry_of (beat ∷ h) → moment ≡ last h → configured old (text_of config) (map alarm_of (entities_of config)) registry moment ≡ alarms_by set (beat ∷ h)
unfolding alarms_by
config-of set h (collected at beat) old registry moment config was does registry_is moment_is = absurd does
config-of set h (copied copy) old registry moment config was does registry_is moment_is = absurd does
config-of set h (health text) old registry moment config was does registry_is moment_is =
    let alarms : map alarm_of (entities_of config) ≡ alarms_of text = sym (ap alarms_in does.says) in
    λ i. configured (was i) (does.text_is i) (alarms i) (registry_is i) (moment_is i)
config-of set h (missing gap) old registry moment config was does registry_is moment_is = absurd does

abbrev quiet : Held → Outcome
quiet held = record { held = held; events = [] }

none-of : (set : Settings) (h : List Beat) (beat : Beat) (old : Held) → old ≡ alarms_at set h → IsSteppingOf beat stepping.Nothing → quiet old ≡ alarms_by set (beat ∷ h)
unfolding alarms_by
none-of set h (collected at beat) old was does = absurd does
none-of set h (copied copy) old was does = absurd does
none-of set h (health text) old was does = absurd does
none-of set h (missing gap) old was does = ap quiet was

-- a gap steps no alarm
pub gap-outcome : (set : Settings) (h : List Beat) (gap : Gap) → quiet (alarms_at set h) ≡ alarms_by set (missing gap ∷ h)
gap-outcome set h gap = none-of set h (missing gap) (alarms_at set h) refl tt

module _ (set : Settings) (h : List Beat) (beat : Beat) (left : Left) (awaits : AwaitsAlarms set h beat left) where
  pub beat-outcome : (moment : ℕ) (defines : Bool) → IsSteppingOf beat (stepping.Beat moment defines)
      → stepped_by (held left.alarms) (seen_by moment left.registry left.latest (floor_at set (tier_beats (beat ∷ h)) 0) (points_of (tier_beats (beat ∷ h)))) ≡ alarms_by set (beat ∷ h)
  beat-outcome moment defines does =
      let beats = tier_beats (beat ∷ h) in
      outcome-of set h beat (held left.alarms) (seen_by moment left.registry left.latest (floor_at set beats 0) (points_of beats)) moment defines awaits.alarms_are does
      (beat-is set h beat left.registry left.latest awaits.registry_is awaits.latest_is awaits.before moment)

  pub config-outcome : (config : Config) → IsSteppingOf beat (stepping.Configuration config)
      → configured (held left.alarms) (text_of config) (map alarm_of (entities_of config)) left.registry left.latest.before ≡ alarms_by set (beat ∷ h)
  config-outcome config does = config-of set h beat (held left.alarms) left.registry left.latest.before config awaits.alarms_are does awaits.registry_is awaits.before

  pub none-outcome : IsSteppingOf beat stepping.Nothing → quiet (held left.alarms) ≡ alarms_by set (beat ∷ h)
  none-outcome does = none-of set h beat (held left.alarms) awaits.alarms_are does

  -- with the alarms that have followed the beat, all is left by the history with it
  pub left-followed : (alarms : Alarms) → held alarms ≡ alarms_at set (beat ∷ h) → IsLeftBy set (beat ∷ h) (record left { alarms = alarms })
  left-followed alarms followed = record {
    registry_is = awaits.registry_is;
    role_is = awaits.role_is;
    last_rows_are = awaits.last_rows_are;
    latest_is = awaits.latest_is;
    gaps_are = awaits.gaps_are;
    alarms_are = followed;
  }

pub none-yet : (set : Settings) → nothing ≡ alarms_at set []
unfolding alarms_by
none-yet set = refl
