-- Whole alarms come back from what is kept of them.
use Rattle.std.proofs.Common.{◌≡◌, ℕ, ◌+◌, ◌<◌, ◌==◌, Bool, true, false, cond, ltb, List, [], ◌∷◌, length, map, find, take, Option, Some, None, Result, Ok, refl, sym, ap, ◌∙◌}
use Rattle.std.specs.Prelude.{slice_get}
use Rattle.std.specs.List.{AllByRecursion, enumerate_from, list_all}
use Rattle.std.specs.Option.{is_none, option_map_or}
use Rattle.std.specs.Str.{bytes_eq, chars, is_utf8}
use Rattle.std.proofs.lemmas.Bool.{and_from, and_parts, eqb-true, lt-ltb}
use Rattle.std.proofs.lemmas.Option.{slice_get_within}
use Rattle.std.proofs.lemmas.Slice.Eq.{bytes_eq-Decides}
use Rattle.health_config.specs.Config.{Configuration, config_read}
use Rattle.health_config.specs.Key.{begins, key_value}
use Rattle.health_config.specs.Lines.{lines}
use Rattle.health_config.specs.Setting.{line_read}
use Rattle.health_config.specs.Entity.{Alarm}
use Rattle.health_config.specs.declared.fault.ConfigFault.{ConfigFault}
use Rattle.history.specs.Registry.{Registry}
use Rattle.history.specs.declared.chart.ChartDef.{ChartDef}
use Rattle.alarm_events.specs.declared.kept.KeptAlarms.{KeptAlarms}
use Rattle.alarm_events.specs.declared.state.KeptState.{KeptState}
use Rattle.alarm_core.specs.declared.pairs.Pair.{Pair}
use Rattle.alarm_core.specs.declared.restore.Restored.{Restored}
use Rattle.alarm_core.specs.declared.state.Holder.{Holder}
use Rattle.alarm_core.specs.declared.state.Holder.TheVariants as holder
use Rattle.alarm_core.specs.declared.state.State.{State}
use Rattle.alarm_core.specs.declared.step.Step.{Step}
use Rattle.alarm_core.specs.Beats.{Beat, after_step, step_of, states_after}
use Rattle.alarm_core.specs.Charts.{owner, owner_of}
use Rattle.alarm_core.specs.Course.{Held, nothing, configured, stepped_by, states_of_pairs}
use Rattle.alarm_core.specs.Kept.{kept, kept_state, is_named, is_pair_of, lost_among, holder_of, state_by, state_at, restored_states, held_with, held_from, is_known, of_config, of_kept}
use Rattle.alarm_core.specs.Pairing.{is_of, state_of, states_of, fresh}
use Rattle.alarm_core.specs.Pairs.{first_pairs, wanted}
use Rattle.alarm_core.specs.Whole.{IsTextOf, IsWhole}
use Rattle.alarm_core.proofs.SameLemmas.{bytes_back, number_back}
use Rattle.alarm_core.proofs.WantedLemmas.{After, Rise, IsComputed, wanted_each, wanted_rise, chart_of_pair, alarm_of_place, pairs_apart, false_unless, some_passes}

-- ---- the pair of a kept state

-- what is kept of a state, with no alarm lost
abbrev kept_one : List Alarm → State → KeptState
kept_one alarms state = kept_state alarms [] state

-- the name of a pair's alarm
named : (alarms : List Alarm) (p : Pair) (s : State) (x : Alarm) → slice_get alarms p.alarm ≡ Some x → owner s ≡ owner_of p → (kept_one alarms s).alarm ≡ x.name
named alarms p s x there at =
    ap (λ (h : Holder). (kept_one alarms (record s { alarm = h })).alarm) (ap (λ (o : Holder × ℕ). o.0) at)
    ∙ ap (λ (o : Option Alarm). option_map_or (λ (alarm : Alarm). alarm.name) o []) there

is_pair : (alarms : List Alarm) (charts : List ChartDef) (p : Pair) (s : State) → IsComputed alarms charts p → owner s ≡ owner_of p → is_pair_of alarms (kept_one alarms s) p ≡ true
is_pair alarms charts p s is at =
    let found = chart_of_pair alarms charts p is in
    let alarm = alarm_of_place alarms found.0 p.alarm found.2 in
    let x : Alarm = alarm.0 in
    let chart : (p.chart == s.chart) ≡ true = ap (λ (n : ℕ). p.chart == n) (ap (λ (o : Holder × ℕ). o.1) at) ∙ number_back p.chart p.chart refl in
    let name : is_named alarms p.alarm (kept_one alarms s).alarm ≡ true =
    ap (λ (o : Option Alarm). option_map_or (λ (alarm : Alarm). bytes_eq alarm.name (kept_one alarms s).alarm) o false) alarm.1
    ∙ bytes_back x.name (kept_one alarms s).alarm (sym (named alarms p s x alarm.1 at)) in
    and_from (p.chart == s.chart) (is_named alarms p.alarm (kept_one alarms s).alarm) chart name

no_pair : (alarms : List Alarm) (charts : List ChartDef) (p q : Pair) (t : State) → IsComputed alarms charts p → IsComputed alarms charts q → After p q → owner t ≡ owner_of q
    → is_pair_of alarms (kept_one alarms t) p ≡ false
no_pair alarms charts p q t one other later at = false_unless (is_pair_of alarms (kept_one alarms t) p) refused
  where
    refused : is_pair_of alarms (kept_one alarms t) p ≡ true → ⊥
    refused is =
        let parts = and_parts (p.chart == t.chart) (is_named alarms p.alarm (kept_one alarms t).alarm) is in
        let chart : p.chart ≡ q.chart = eqb-true p.chart t.chart parts.0 ∙ ap (λ (o : Holder × ℕ). o.1) at in
        let mine = some_passes (λ (alarm : Alarm). bytes_eq alarm.name (kept_one alarms t).alarm) (slice_get alarms p.alarm) parts.1 in
        let found = chart_of_pair alarms charts q other in
        let theirs = alarm_of_place alarms found.0 q.alarm found.2 in
        let same : (mine.0).name ≡ (theirs.0).name =
        (bytes_eq-Decides (mine.0).name (kept_one alarms t).alarm).0 mine.2 ∙ named alarms q t theirs.0 theirs.1 at in
        pairs_apart alarms charts p q mine.0 theirs.0 one other later chart mine.1 theirs.1 same

-- each kept state finds its pair
Found : List Alarm → List Pair → List Pair → List State → Type 0
Found alarms all [] ss = Unit {0}
Found alarms all (p ∷ ps) [] = Unit {0}
Found alarms all (p ∷ ps) (s ∷ ss) = (find (is_pair_of alarms (kept_one alarms s)) all ≡ Some p) × Found alarms all ps ss

found_behind : (alarms : List Alarm) (charts : List ChartDef) (p : Pair) (all ps : List Pair) (ss : List State) → IsComputed alarms charts p → AllByRecursion (IsComputed alarms charts) ps
    → AllByRecursion (After p) ps → map owner ss ≡ map owner_of ps → Found alarms all ps ss → Found alarms (p ∷ all) ps ss
unfolding Found
found_behind alarms charts p all [] ss is each later at found = tt
found_behind alarms charts p all (q ∷ ps) [] is each later at found = tt
found_behind alarms charts p all (q ∷ ps) (t ∷ ss) is each later at found =
    let head : owner t ≡ owner_of q = cc in
    let tail : map owner ss ≡ map owner_of ps = cc in (
      ap (λ (b : Bool). cond b (Some p) (find (is_pair_of alarms (kept_one alarms t)) all)) (no_pair alarms charts p q t is each.0 later.0 head) ∙ found.0,
      found_behind alarms charts p all ps ss is each.1 later.1 tail found.1,
    )

all_found : (alarms : List Alarm) (charts : List ChartDef) (ps : List Pair) (ss : List State) → AllByRecursion (IsComputed alarms charts) ps → Rise ps
    → map owner ss ≡ map owner_of ps → Found alarms ps ps ss
unfolding Found
all_found alarms charts [] ss each rise at = tt
all_found alarms charts (p ∷ ps) [] each rise at = tt
all_found alarms charts (p ∷ ps) (s ∷ ss) each rise at =
    let head : owner s ≡ owner_of p = cc in
    let tail : map owner ss ≡ map owner_of ps = cc in (
      ap (λ (b : Bool). cond b (Some p) (find (is_pair_of alarms (kept_one alarms s)) ps)) (is_pair alarms charts p s each.0 head),
      found_behind alarms charts p ps ps ss each.0 each.1 rise.0 tail (all_found alarms charts ps ss each.1 rise.1 tail),
    )

-- ---- the states of kept ones

none_lost : (alarms : List Alarm) (all ps : List Pair) (ss : List State) → map owner ss ≡ map owner_of ps → Found alarms all ps ss
    → lost_among alarms all (map (kept_one alarms) ss) ≡ []
unfolding Found
none_lost alarms all [] [] at found = refl
none_lost alarms all [] (s ∷ ss) at found = absurd cc
none_lost alarms all (p ∷ ps) [] at found = absurd cc
none_lost alarms all (p ∷ ps) (s ∷ ss) at found =
    let tail : map owner ss ≡ map owner_of ps = cc in
    let rest : List KeptState = lost_among alarms all (map (kept_one alarms) ss) in
    ap (λ (o : Option Pair). cond (is_none o) (kept_one alarms s ∷ rest) rest) found.0 ∙ none_lost alarms all ps ss tail found.1

states_again : (alarms : List Alarm) (all ps : List Pair) (ss : List State) (kepts : List KeptState) (n : ℕ) → map owner ss ≡ map owner_of ps → Found alarms all ps ss
    → map (state_at alarms all kepts) (enumerate_from n (map (kept_one alarms) ss)) ≡ ss
unfolding Found
states_again alarms all [] [] kepts n at found = refl
states_again alarms all [] (s ∷ ss) kepts n at found = absurd cc
states_again alarms all (p ∷ ps) [] kepts n at found = absurd cc
states_again alarms all (p ∷ ps) (s ∷ ss) kepts n at found =
    let head : owner s ≡ owner_of p = cc in
    let tail : map owner ss ≡ map owner_of ps = cc in
    let before : ℕ = length (lost_among alarms all (take n kepts)) in
    let one : state_at alarms all kepts (n, kept_one alarms s) ≡ s =
    ap (λ (o : Option Pair). state_by (holder_of before o) (kept_one alarms s)) found.0
    ∙ ap (λ (h : Holder). state_by h (kept_one alarms s)) (sym (ap (λ (o : Holder × ℕ). o.0) head)) in
    ap (λ (first : State). first ∷ map (state_at alarms all kepts) (enumerate_from (n + 1) (map (kept_one alarms) ss))) one
    ∙ ap (λ (others : List State). s ∷ others) (states_again alarms all ps ss kepts (n + 1) tail found.1)

-- ---- the whole

all_known : (alarms : List Alarm) (registry : Registry) (ps : List Pair) (ss : List State) → AllByRecursion (IsComputed alarms registry.charts) ps
    → map owner ss ≡ map owner_of ps → list_all (is_known registry) (map (kept_one alarms) ss) ≡ true
all_known alarms registry [] [] each at = refl
all_known alarms registry [] (s ∷ ss) each at = absurd cc
all_known alarms registry (p ∷ ps) [] each at = absurd cc
all_known alarms registry (p ∷ ps) (s ∷ ss) each at =
    let head : owner s ≡ owner_of p = cc in
    let tail : map owner ss ≡ map owner_of ps = cc in
    let found = chart_of_pair alarms registry.charts p each.0 in
    let inside : p.chart < length registry.charts = slice_get_within registry.charts p.chart found.0 found.1 in
    let known : ltb s.chart (length registry.charts) ≡ true =
    ap (λ (n : ℕ). ltb n (length registry.charts)) (ap (λ (o : Holder × ℕ). o.1) head) ∙ lt-ltb p.chart (length registry.charts) inside in
    and_from (ltb s.chart (length registry.charts)) (list_all (is_known registry) (map (kept_one alarms) ss)) known (all_known alarms registry ps ss each.1 tail)

-- the same alarms, where none is lost
of_states : (held : Held) (registry : Registry) → held.lost ≡ [] → map owner held.states ≡ map owner_of (wanted held.alarms registry.charts)
    → of_config registry (kept held) (Ok (record { alarms = held.alarms; skipped = 0 })) ≡ Some held
of_states held registry none at =
    let alarms : List Alarm = held.alarms in
    let pairs : List Pair = wanted alarms registry.charts in
    let each = wanted_each alarms registry.charts in
    let k : List (List ℕ) → KeptAlarms = λ (lost : List (List ℕ)). kept (record held { lost = lost }) in
    let kepts : List KeptState = map (kept_one alarms) held.states in
    let found : Found alarms pairs pairs held.states = all_found alarms registry.charts pairs held.states each (wanted_rise alarms registry.charts) at in
    let states : restored_states alarms pairs kepts ≡ record { states = held.states; lost = [] } =
    ap (λ (states : List State). record { states = states; lost = map (λ (kept : KeptState). kept.alarm) (lost_among alarms pairs kepts) })
    (states_again alarms pairs pairs held.states kepts 0 at found)
    ∙ ap (λ (lost : List KeptState). record { states = held.states; lost = map (λ (kept : KeptState). kept.alarm) lost })
    (none_lost alarms pairs pairs held.states at found) in
    ap (λ (lost : List (List ℕ)). of_config registry (k lost) (Ok (record { alarms = alarms; skipped = 0 }))) none
    ∙ ap (λ (b : Bool). cond b (Some (held_from (k []) alarms registry)) None) (all_known alarms registry pairs held.states each at)
    ∙ ap (λ (restored : Restored). Some (held_with (k []) alarms restored)) states
    ∙ ap (λ (lost : List (List ℕ)). Some (record held { lost = lost })) (sym none)

pub kept_again : (held : Held) (registry : Registry) → IsWhole held registry → of_kept registry (kept held) ≡ Some held
kept_again held registry whole =
    ap (λ (read : Result Configuration ConfigFault). of_config registry (kept held) read) whole.text.1
    ∙ of_states held registry whole.none_lost whole.states

-- ---- calls leave whole alarms

find_passes : (p : State → Bool) (ss : List State) (s : State) → find p ss ≡ Some s → p s ≡ true
find_passes p [] s is = absurd cc
find_passes p (t ∷ ss) s is = by_test (p t) refl is (find_passes p ss s)
  where
    by_test : (b : Bool) → p t ≡ b → cond b (Some t) (find p ss) ≡ Some s → (find p ss ≡ Some s → p s ≡ true) → p s ≡ true
    by_test true passes e others =
        let same : t ≡ s = cc in
        ap p (sym same) ∙ passes
    by_test false fails e others = others e

pair_owner : (before after : List Alarm) (ss : List State) (p : Pair) → owner (state_of before after ss p) ≡ owner_of p
pair_owner before after ss p = by_find (find (is_of before after p) ss) refl
  where
    by_find : (o : Option State) → find (is_of before after p) ss ≡ o
        → owner (option_map_or (λ (state : State). record state { alarm = holder.Alarm p.alarm }) o (fresh p)) ≡ owner_of p
    by_find None is = refl
    by_find (Some s) is =
        let passes = and_parts (s.chart == p.chart) _ (find_passes (is_of before after p) ss s is) in
        ap (λ (n : ℕ). (holder.Alarm p.alarm, n)) (eqb-true s.chart p.chart passes.0)

pub pair_owners : (before after : List Alarm) (ss : List State) (ps : List Pair) → map owner (states_of before after ss ps) ≡ map owner_of ps
pair_owners before after ss [] = refl
pair_owners before after ss (p ∷ ps) =
    ap (λ (o : Holder × ℕ). o ∷ map owner (states_of before after ss ps)) (pair_owner before after ss p)
    ∙ ap (λ (os : List (Holder × ℕ)). owner_of p ∷ os) (pair_owners before after ss ps)

step_owner : (s : State) (step : Option Step) → owner (after_step s step) ≡ owner s
step_owner s None = refl
step_owner s (Some step) = refl

step_owners : (beat : Beat) (alarms : List Alarm) (ss : List State) → map owner (states_after beat alarms ss) ≡ map owner ss
step_owners beat alarms [] = refl
step_owners beat alarms (s ∷ ss) =
    ap (λ (o : Holder × ℕ). o ∷ map owner (states_after beat alarms ss)) (step_owner s (step_of beat alarms s))
    ∙ ap (λ (os : List (Holder × ℕ)). owner s ∷ os) (step_owners beat alarms ss)

pub whole_configured : (held : Held) (text : List ℕ) (alarms : List Alarm) (registry : Registry) (moment : ℕ) → IsTextOf text alarms
    → IsWhole (configured held text alarms registry moment).held registry
unfolding configured
whole_configured held text alarms registry moment is = record {
  text = is;
  states = pair_owners held.alarms alarms held.states (wanted alarms registry.charts);
  none_lost = refl;
}

pub whole_stepped : (held : Held) (beat : Beat) → IsTextOf held.text held.alarms → IsWhole (stepped_by held beat).held beat.registry
unfolding stepped_by
whole_stepped held beat is = record {
  text = is;
  states =
      step_owners beat held.alarms (states_of_pairs held held.alarms beat.registry)
      ∙ pair_owners held.alarms held.alarms held.states (wanted held.alarms beat.registry.charts);
  none_lost = refl;
}

no_text_read : config_read [] ≡ Ok (record { alarms = []; skipped = 0 })
unfolding config_read lines begins key_value line_read is_utf8 chars
no_text_read = refl

-- and so are those without a call
pub whole_nothing : (registry : Registry) → IsWhole nothing registry
unfolding first_pairs
whole_nothing registry = record { text = (0, no_text_read); states = refl; none_lost = refl }
