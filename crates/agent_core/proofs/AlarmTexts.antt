-- The texts of alarms keep the limits of a configuration.
use Rattle.std.proofs.Common.{◌≡◌, ℕ, ◌+◌, ◌≤◌, Bool, true, false, ◌||◌, ◌==◌, nat_lt, List, [], ◌∷◌, length, map, slice_get, Option, Some, None, Result, Ok, Err, refl, sym, ap, subst, arith, if◌then◌else◌}
use Rattle.std.specs.List.{AllByRecursion}
use Rattle.std.specs.Option.{option_map, option_map_or, option_to_list}
use Rattle.std.specs.Str.{is_utf8}
use Rattle.std.proofs.lemmas.Bool.{ltb-false, or_parts}
use Rattle.list_lemmas.proofs.Every.{all-append, all-at}
use Rattle.health_config.specs.declared.config.TheConstants.{TEXT_LIMIT}
use Rattle.health_config.specs.declared.fault.ConfigFault.TheVariants.{NoOn, TextTooLong}
use Rattle.health_config.specs.declared.fault.ValueFault.{ValueFault}
use Rattle.health_config.specs.declared.fault.ValueFault.TheVariants.{Bad, NoName}
use Rattle.health_config.specs.Config.{both, config_read, ended_by, entities, entity, none_but, of_draft, prefix_skipped, room, Configuration}
use Rattle.health_config.specs.Draft.{draft_read, Draft}
use Rattle.health_config.specs.Entity.{alarm_with, every, name, name_by, name_read, Alarm}
use Rattle.health_config.specs.Fault.{◌>>=◌, at, at_line}
use Rattle.health_config.specs.Key.{key_value}
use Rattle.health_config.specs.Lines.{lines}
use Rattle.health_config.specs.Sections.{sections, Group}
use Rattle.side_codec.specs.Size.{IsNamedWithin, KeepLimits}
use Rattle.alarm_core.specs.declared.state.Holder.{Holder}
use Rattle.alarm_core.specs.declared.state.Holder.TheVariants as holder
use Rattle.alarm_core.specs.declared.state.State.{State}
use Rattle.alarm_core.specs.Course.{Held}
use Rattle.alarm_core.specs.Kept.{kept, kept_state}
use Rattle.alarm_core.specs.Pairing.{alarm_name, holder_name}
use Rattle.alarm_core.specs.Whole.{IsTextOf}
use Rattle.history.specs.History.{Beat}
use Rattle.tier_settings.specs.declared.settings.Settings.{Settings}
use Rattle.store_core.specs.declared.beats.beat.Beat.{Beat as StoreBeat}
use Rattle.agent_core.specs.Alarms.{alarms_at}
use Rattle.agent_core.specs.Kept.{AreBeatsOf}
use Rattle.agent_core.proofs.HealthLemmas.{read-short}
use Rattle.agent_core.proofs.SideAlarms.{whole-of}

-- ---- what was read
err-ok : {A E : Type 0} (fault : E) (value : A) (r : Result A E) → r ≡ Err fault → r ≡ Ok value → ⊥
err-ok fault value r failed read = cc

same-ok : {A E : Type 0} (a b : A) (r : Result A E) → r ≡ Ok a → r ≡ Ok b → a ≡ b
same-ok a b r first second = cc

-- it was not refused, and was read of the rest
passed-by : {A E : Type 0} (b : Bool) (fault : E) (rest : Result A E) (value : A) → (if b then Err fault else rest) ≡ Ok value → (b ≡ false) × (rest ≡ Ok value)
passed-by true fault rest value e = absurd (err-ok fault value (Err fault) refl e)
passed-by false fault rest value e = (refl, e)

-- the first was read, and then what comes next
read-both : {A B E : Type 0} (r : Result A E) (next : A → Result B E) (value : B) → (r >>= next) ≡ Ok value → (a : A) × ((r ≡ Ok a) × (next a ≡ Ok value))
read-both (Ok a) next value e = (a, (refl, e))
read-both (Err fault) next value e = absurd (err-ok fault value (Err fault) refl e)

read-at : {A : Type 0} (line : ℕ) (r : Result A ValueFault) (value : A) → at_line line r ≡ Ok value → r ≡ Ok value
read-at line (Ok a) value e = ap (λ found. Ok found) (same-ok a value (Ok a) refl e)
read-at line (Err fault) value e = absurd (err-ok (at line fault) value (Err (at line fault)) refl e)

-- ---- the names of alarms
abbrev IsNamed : Alarm → Type 0
IsNamed alarm = length alarm.name ≤ 200

value-short : (value found : List ℕ) → name_read value ≡ Ok found → length found ≤ 200
value-short value found e =
    let some = passed-by (length value == 0) NoName _ found e in
    let short = passed-by (nat_lt 200 (length value) || _) Bad (Ok value) found some.1 in
    let parts = or_parts (nat_lt 200 (length value)) _ short.0 in
    subst (λ (n : List ℕ). length n ≤ 200) (same-ok value found (Ok value) refl short.1) (ltb-false 200 (length value) parts.0)

said-short : (said : Option (List ℕ × List ℕ)) (found : List ℕ) → name_by said ≡ Ok found → length found ≤ 200
said-short None found e = absurd (err-ok Bad found (Err Bad) refl e)
said-short (Some said) found e = value-short said.1 found e

name-short : (line found : List ℕ) → name line ≡ Ok found → length found ≤ 200
unfolding name
name-short line found e = by (is_utf8 line) e
  where
    by : (b : Bool) → (if b then name_by (key_value line) else Err Bad) ≡ Ok found → length found ≤ 200
    by true e = said-short (key_value line) found e
    by false e = absurd (err-ok Bad found (Err Bad) refl e)

drafted-named : (found : List ℕ) (template : Bool) (draft : Draft) → length found ≤ 200 → AllByRecursion IsNamed (of_draft found template draft).alarms
drafted-named found template draft short = by (every draft)
  where
    by : (often : Option ℕ) → AllByRecursion IsNamed (option_to_list (option_map (alarm_with found template draft) often))
    by None = tt
    by (Some n) = (short, tt)

ended-named : (on : Option (List ℕ)) (line : ℕ) (made config : Configuration) → ended_by on line made ≡ Ok config → AllByRecursion IsNamed made.alarms → AllByRecursion IsNamed config.alarms
ended-named None line made config e named = absurd (err-ok (NoOn line) config (Err (NoOn line)) refl e)
ended-named (Some on) line made config e named = subst (λ (c : Configuration). AllByRecursion IsNamed c.alarms) (same-ok made config (Ok made) refl e) named

entity-named : (before : ℕ) (group : Group) (config : Configuration) → entity before group ≡ Ok config → AllByRecursion IsNamed config.alarms
entity-named before group config e =
    let named = read-both (at_line group.head.number (name group.head.text)) _ config e in
    let roomed = read-both (room before group.head.number) _ config named.1.1 in
    let drafted = read-both (draft_read true group.body) _ config roomed.1.1 in
    let short = name-short group.head.text named.0 (read-at group.head.number (name group.head.text) named.0 named.1.0) in
    ended-named drafted.0.on group.head.number (of_draft named.0 group.template drafted.0) config drafted.1.1 (drafted-named named.0 group.template drafted.0 short)

entities-named : (before : ℕ) (groups : List Group) (config : Configuration) → entities before groups ≡ Ok config → AllByRecursion IsNamed config.alarms
entities-named before [] config e =
    let none : Configuration = record { alarms = []; skipped = 0 } in
    subst (λ (c : Configuration). AllByRecursion IsNamed c.alarms) (same-ok none config (Ok none) refl e) tt
entities-named before (group ∷ groups) config e =
    let first = read-both (entity before group) _ config e in
    let more = read-both (entities (before + 1) groups) _ config first.1.1 in
    let all = both first.0 more.0 in
    subst (λ (c : Configuration). AllByRecursion IsNamed c.alarms) (same-ok all config (Ok all) refl more.1.1)
    (all-append IsNamed first.0.alarms more.0.alarms (entity-named before group first.0 first.1.0) (entities-named (before + 1) groups more.0 more.1.0))

-- those of a text that is read
config-named : (text : List ℕ) (config : Configuration) → config_read text ≡ Ok config → AllByRecursion IsNamed config.alarms
unfolding config_read
config-named text config e =
    let rest = passed-by (nat_lt TEXT_LIMIT (length text)) TextTooLong _ config e in
    let cut = sections (lines text) in
    let first = read-both (prefix_skipped cut.prefix) _ config rest.1 in
    let more = read-both (entities 0 cut.groups) _ config first.1.1 in
    let all = both (none_but first.0) more.0 in
    subst (λ (c : Configuration). AllByRecursion IsNamed c.alarms) (same-ok all config (Ok all) refl more.1.1) (entities-named 0 cut.groups more.0 more.1.0)

-- ---- what is kept of alarms
module _ (alarms : List Alarm) (named : AllByRecursion IsNamed alarms) where
  alarm-named : (place : ℕ) → length (alarm_name alarms place) ≤ 200
  alarm-named place = by (slice_get alarms place) refl
    where
      by : (found : Option Alarm) → slice_get alarms place ≡ found → length (option_map_or (λ (alarm : Alarm). alarm.name) found []) ≤ 200
      by None e = omega arith
      by (Some alarm) e = all-at IsNamed alarms place alarm named e

  holder-named : (one : Holder) → length (holder_name alarms [] one) ≤ 200
  holder-named (holder.Alarm place) = alarm-named place
  holder-named (holder.Lost place) = omega arith

  states-named : (states : List State) → AllByRecursion IsNamedWithin (map (kept_state alarms []) states)
  states-named [] = tt
  states-named (state ∷ states) = (holder-named state.alarm, states-named states)

texts-held : (held : Held) → IsTextOf held.text held.alarms → held.lost ≡ [] → KeepLimits (kept held)
texts-held held is none = record {
  text = read-short held.text _ is.1;
  states = subst (λ (lost : List (List ℕ)). AllByRecursion IsNamedWithin (map (kept_state held.alarms lost) held.states)) (sym none)
      (states-named held.alarms (config-named held.text _ is.1) held.states);
}

-- those of a history
pub texts-of : (set : Settings) (h : List Beat) (beats : List StoreBeat) → AreBeatsOf h beats → KeepLimits (kept (alarms_at set h))
texts-of set h beats are = let whole = whole-of set h beats are in texts-held (alarms_at set h) whole.text whole.none_lost
