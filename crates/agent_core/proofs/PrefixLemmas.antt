-- The prefixes of the beats that follow a history.
use Rattle.std.proofs.Common.{◌≡◌, ℕ, zero, suc, ◌+◌, ◌<◌, ◌≤◌, ◌⊎◌, inl, inr, Bool, true, not, List, [], ◌∷◌, ◌++◌, length, take, slice_get, Some, None, refl, sym, ap, ◌∙◌, subst, append_assoc, append-nil, arith, length-append, if◌then◌else◌}
use Rattle.std.specs.List.{enumerate_from, filter_map, list_all, list_any}
use Rattle.std.specs.Option.{option_map}
use Rattle.std.proofs.Math.Seq.{take-append-add, take-length}
use Rattle.std.proofs.lemmas.Bool.{and_parts, cases_lt}
use Rattle.std.proofs.lemmas.List.{length-map}
use Rattle.std.proofs.lemmas.Option.{none-some, same_Some, slice_get-map}
use Rattle.host_model.specs.declared.file.File.{File}
use Rattle.host_model.specs.Past.{Event}
use Rattle.host_model.specs.Disks.{EveryDisk}
use Rattle.host_model.specs.Moments.{begins, Throughout}
use Rattle.host_model.proofs.DiskLemmas.{disks_weaker}
use Rattle.host_model.proofs.MomentLemmas.{joined}
use Rattle.history.specs.declared.beat.OpenDim.{OpenDim}
use Rattle.history.specs.declared.chart.ChartDef.{ChartDef}
use Rattle.history.specs.declared.numbered.NumberedChart.{NumberedChart}
use Rattle.history.specs.declared.numbered.NumberedDimension.{NumberedDimension}
use Rattle.history.specs.declared.fault.BlockFault.TheVariants.{MixedRoles}
use Rattle.history.specs.History.{Beat, copied, last, missing, registry_of, Copy, Gap}
use Rattle.history.specs.Numbered.{numbered_charts, numbered_dimension, numbered_dimensions}
use Rattle.history.specs.Registry.{Registry, is_chart, is_dimension}
use Rattle.chart_registry.specs.Accepted.{IsWithin}
use Rattle.alarm_core.specs.Course.{Outcome}
use Rattle.alarm_events.specs.declared.event.Event.{Event as AlarmEvent}
use Rattle.tier_settings.specs.declared.settings.Settings.{Settings}
use Rattle.replication.specs.declared.beats.Beat.{Beat as SentBeat}
use Rattle.replication.specs.declared.message.Data.{Data}
use Rattle.replication.specs.Copies.{latest as latest_of, RisesFrom}
use Rattle.replication.specs.Names.{beat_moment, named_beat, named_beats}
use Rattle.link_frames.specs.DataForm.{IsData}
use Rattle.store_core.specs.Store.{StoreState}
use Rattle.agent_core.specs.Alarms.{events_at}
use Rattle.agent_core.specs.Copying.{beats_of, copied_of, copy_refusal, definitions_in, events_onto, names_refusal, nothing_defined}
use Rattle.agent_core.specs.Kept.{onto}
use Rattle.agent_core.specs.Stands.{HoldsHistory, StandsForPrefix, StandsForHistory}
use Rattle.agent_core.specs.declared.left.Left.{Left}
use Rattle.agent_core.specs.Left.{IsLeftBy}
use Rattle.agent_core.specs.Roles.{may_copy, role_of}
use Rattle.agent_core.specs.Storing.{gap_beats, later_copies, sent_copies, sent_words, with_names, AreSent, HasAdded, IsSentAs, MayTake, MayTakeAll}
use Rattle.agent_core.proofs.AlarmLemmas.{gap-outcome}
use Rattle.agent_core.proofs.KeptLemmas.{stays}
use Rattle.agent_core.proofs.StoringLemmas.{gap-none, gap-some}
use Rattle.agent_core.proofs.TakenLemmas.{all-follow}

-- ---- one beat more of a list
module _ (set : Settings) where
  pub onto-next : (h more : List Beat) (i : ℕ) (beat : Beat) → slice_get more i ≡ Some beat → onto h (take (suc i) more) ≡ beat ∷ onto h (take i more)
  onto-next h [] i beat at = absurd (none-some beat at)
  onto-next h (first ∷ more) zero beat at = ap (λ (b : Beat). b ∷ h) (same_Some first beat at)
  onto-next h (first ∷ more) (suc i) beat at = onto-next (first ∷ h) more i beat at

  events-next : (h more : List Beat) (i : ℕ) (beat : Beat) → slice_get more i ≡ Some beat → events_onto set h (take (suc i) more) ≡ events_onto set h (take i more) ++ events_onto set (onto h (take i more)) (beat ∷ [])
  unfolding events_onto
  events-next h [] i beat at = absurd (none-some beat at)
  events-next h (first ∷ more) zero beat at = ap (λ (b : Beat). events_onto set h (b ∷ [])) (same_Some first beat at)
  events-next h (first ∷ more) (suc i) beat at =
      ap (λ (rest : List AlarmEvent). events_at set (first ∷ h) ++ rest) (events-next (first ∷ h) more i beat at)
      ∙ sym (append_assoc (events_at set (first ∷ h)) (events_onto set (first ∷ h) (take i more)) (events_onto set (onto (first ∷ h) (take i more)) (beat ∷ [])))

pub takes-next : (h more : List Beat) (i : ℕ) (beat : Beat) → slice_get more i ≡ Some beat → MayTakeAll h more → MayTake (onto h (take i more)) beat
takes-next h [] i beat at all = absurd (none-some beat at)
takes-next h (first ∷ more) zero beat at all = subst (MayTake h) (same_Some first beat at) all.0
takes-next h (first ∷ more) (suc i) beat at all = takes-next (first ∷ h) more i beat at all.1

-- ---- what was stored so far

-- the first n of these beats are stored on a history, and these events were told
pub record HaveStored (old now : List Event) (set : Settings) (h more : List Beat) (n : ℕ) (store : StoreState) (left : Left) (events : List AlarmEvent) : Type 0 where
  pub moments : Throughout (EveryDisk (StandsForPrefix set h more)) old now
  pub added : HasAdded now store left set h (take n more) events

pub stored-none : (past : List Event) (set : Settings) (h more : List Beat) (store : StoreState) (left : Left) → HoldsHistory past store set h → IsLeftBy set h left → HaveStored past past set h more 0 store left []
unfolding events_onto
stored-none past set h more store left holds by = record {
  moments = begins (λ disk images. (0, stays past store set h holds disk images));
  added = record { holds = holds; left_by = by; events_are = refl };
}

-- one beat on a history, with the events of its alarms
pub added-one : (past : List Event) (store : StoreState) (left : Left) (set : Settings) (h : List Beat) (beat : Beat) (events : List AlarmEvent) → HoldsHistory past store set (beat ∷ h) → IsLeftBy set (beat ∷ h) left
    → events ≡ events_at set (beat ∷ h) → HasAdded past store left set h (beat ∷ []) events
unfolding events_onto
added-one past store left set h beat events holds by told = record { holds = holds; left_by = by; events_are = told ∙ sym (append-nil (events_at set (beat ∷ h))) }

module _ (old now new : List Event) (set : Settings) (h more : List Beat) (n : ℕ) (store : StoreState) (left : Left) (events : List AlarmEvent)
    (stored : HaveStored old now set h more n store left events) (beat : Beat) (at : slice_get more n ≡ Some beat)
    (moments : Throughout (EveryDisk (λ disk. StandsForHistory set (onto h (take n more)) disk ⊎ StandsForHistory set (beat ∷ onto h (take n more)) disk)) now new) where
  pub stored-moments : Throughout (EveryDisk (StandsForPrefix set h more)) old new
  stored-moments = joined stored.moments (disks_weaker by moments)
    where
      by : (disk : File → List ℕ) → StandsForHistory set (onto h (take n more)) disk ⊎ StandsForHistory set (beat ∷ onto h (take n more)) disk → StandsForPrefix set h more disk
      by disk (inl stands) = (n, stands)
      by disk (inr stands) = (suc n, subst (λ (g : List Beat). StandsForHistory set g disk) (sym (onto-next set h more n beat at)) stands)

  pub stored-more : (store' : StoreState) (left' : Left) (told events' : List AlarmEvent) → HasAdded new store' left' set (onto h (take n more)) (beat ∷ []) told → events' ≡ events ++ told
      → HaveStored old new set h more (suc n) store' left' events'
  stored-more store' left' told events' did added = record {
    moments = stored-moments;
    added = record {
      holds = subst (HoldsHistory new store' set) (sym (onto-next set h more n beat at)) did.holds;
      left_by = subst (λ (g : List Beat). IsLeftBy set g left') (sym (onto-next set h more n beat at)) did.left_by;
      events_are = added ∙ (λ i. stored.added.events_are i ++ did.events_are i) ∙ sym (events-next set h more n beat at);
    };
  }

-- ---- room for the next of them
-- the history stands without them
pub prefix-none : (set : Settings) (h more : List Beat) (old new : List Event) → Throughout (EveryDisk (StandsForHistory set h)) old new → Throughout (EveryDisk (StandsForPrefix set h more)) old new
prefix-none set h more old new moments = disks_weaker (λ disk stands. (0, stands)) moments

module _ (old now new : List Event) (set : Settings) (h more : List Beat) (n : ℕ) (store : StoreState) (left : Left) (events : List AlarmEvent)
    (stored : HaveStored old now set h more n store left events) (moments : Throughout (EveryDisk (StandsForHistory set (onto h (take n more)))) now new) where
  pub room-moments : Throughout (EveryDisk (StandsForPrefix set h more)) old new
  room-moments = joined stored.moments (disks_weaker (λ disk stands. (n, stands)) moments)

  -- what was stored so far stays
  pub stored-room : (store' : StoreState) → HoldsHistory new store' set (onto h (take n more)) → HaveStored old new set h more n store' left events
  stored-room store' holds = record {
    moments = room-moments;
    added = record { holds = holds; left_by = stored.added.left_by; events_are = stored.added.events_are };
  }

-- ---- the beats of a Data
pub all-at : {X : Type 0} (p : X → Bool) (xs : List X) (i : ℕ) (x : X) → slice_get xs i ≡ Some x → list_all p xs ≡ true → p x ≡ true
all-at p [] i x at all = absurd (none-some x at)
all-at p (y ∷ ys) zero x at all = ap p (sym (same_Some y x at)) ∙ (and_parts (p y) (list_all p ys) all).0
all-at p (y ∷ ys) (suc i) x at all = all-at p ys i x at (and_parts (p y) (list_all p ys) all).1

pub rises-at : (low : ℕ) (beats : List SentBeat) (i : ℕ) (beat : SentBeat) → slice_get beats i ≡ Some beat → RisesFrom beat_moment low beats → latest_of beat_moment low (take i beats) < beat.moment
rises-at low [] i beat at rises = absurd (none-some beat at)
rises-at low (first ∷ beats) zero beat at rises = subst (λ (b : SentBeat). low < b.moment) (same_Some first beat at) rises.0
rises-at low (first ∷ beats) (suc i) beat at rises = rises-at first.moment beats i beat at rises.1

pub latest-next : (low : ℕ) (beats : List SentBeat) (i : ℕ) (beat : SentBeat) → slice_get beats i ≡ Some beat → beat.moment ≡ latest_of beat_moment low (take (suc i) beats)
latest-next low [] i beat at = absurd (none-some beat at)
latest-next low (first ∷ beats) zero beat at = ap (λ (b : SentBeat). b.moment) (sym (same_Some first beat at))
latest-next low (first ∷ beats) (suc i) beat at = latest-next first.moment beats i beat at

-- those behind the first of them
pub rest-sent : (low now : ℕ) (message : Data) (first : SentBeat) (rest : List SentBeat) → AreSent low message (first ∷ rest) → now ≡ first.moment → AreSent now message rest
rest-sent low now message first rest sent is = record {
  names = sent.names;
  places = (and_parts _ _ sent.places).1;
  words = (and_parts _ _ sent.words).1;
  rises = subst (λ (n : ℕ). RisesFrom beat_moment n rest) (sym is) sent.rises.1;
}

-- ---- the copies of a Data that define nothing
abbrev numbered_chart : ℕ → ChartDef → NumberedChart
numbered_chart number def = record { number = number; def = def }

no-charts : (defs : List ChartDef) (n : ℕ) → [] ≡ filter_map (λ (place : ℕ × ChartDef). if list_any (is_chart place.1.id) [] then Some (numbered_chart place.0 place.1) else None) (enumerate_from n defs)
no-charts [] n = refl
no-charts (def ∷ defs) n = no-charts defs (n + 1)

no-dimensions : (registry : Registry) (ds : List OpenDim) (n : ℕ)
    → [] ≡ filter_map (λ (place : ℕ × OpenDim). if list_any (is_dimension place.1.chart place.1.def.id) [] then numbered_dimension registry place.0 place.1 else None) (enumerate_from n ds)
no-dimensions registry [] n = refl
no-dimensions registry (d ∷ ds) n = no-dimensions registry ds (n + 1)

abbrev pub later_copy : Registry → Data → SentBeat → Copy
later_copy registry message beat = record { child = message.child; moment = beat.moment; charts = []; dimensions = []; words = sent_words registry message beat }

pub later-at : (registry : Registry) (message : Data) (beats : List SentBeat) (i : ℕ) (beat : SentBeat) → slice_get beats i ≡ Some beat → slice_get (later_copies registry message beats) i ≡ Some (copied (later_copy registry message beat))
later-at registry message beats i beat at =
    slice_get-map (copied_of message.child registry nothing_defined) (named_beats message.names beats) i
    ∙ ap (option_map (copied_of message.child registry nothing_defined)) (slice_get-map (named_beat message.names) beats i ∙ ap (option_map (named_beat message.names)) at)

pub sent-later : (now registry : Registry) (message : Data) (beat : SentBeat) (g : List Beat) → now ≡ registry → now ≡ registry_of g
    → MayTake g (copied (later_copy registry message beat)) → IsSentAs now message [] [] beat g (later_copy registry message beat)
sent-later now registry message beat g same is follows = record {
  child = refl;
  moment = refl;
  words = ap (λ (r : Registry). sent_words r message beat) (sym same);
  charts_are = no-charts now.charts 0;
  dimensions_are = no-dimensions now now.dimensions 0;
  follows = follows;
  registry_is = is;
}

-- all of them are stored
pub all-taken : {X : Type 0} (xs : List X) (n : ℕ) → n ≡ length xs → take n xs ≡ xs
all-taken xs n is = ap (λ (k : ℕ). take k xs) is ∙ take-length xs

pub later-length : (registry : Registry) (message : Data) (beats : List SentBeat) → length (later_copies registry message beats) ≡ length beats
later-length registry message beats = length-map (named_beats message.names beats) (copied_of message.child registry nothing_defined) ∙ length-map beats (named_beat message.names)

-- ---- the first of them, and the others
module _ (set : Settings) (h : List Beat) (beat : Beat) (more : List Beat) (old new : List Event) where
  pub first-moments : Throughout (EveryDisk (λ disk. StandsForHistory set h disk ⊎ StandsForHistory set (beat ∷ h) disk)) old new → Throughout (EveryDisk (StandsForPrefix set h (beat ∷ more))) old new
  first-moments moments = disks_weaker by moments
    where
      by : (disk : File → List ℕ) → StandsForHistory set h disk ⊎ StandsForHistory set (beat ∷ h) disk → StandsForPrefix set h (beat ∷ more) disk
      by disk (inl stands) = (0, stands)
      by disk (inr stands) = (1, stands)

  pub rest-moments : Throughout (EveryDisk (StandsForPrefix set (beat ∷ h) more)) old new → Throughout (EveryDisk (StandsForPrefix set h (beat ∷ more))) old new
  rest-moments moments = disks_weaker by moments
    where
      by : (disk : File → List ℕ) → StandsForPrefix set (beat ∷ h) more disk → StandsForPrefix set h (beat ∷ more) disk
      by disk stands = (suc stands.0, stands.1)

-- ---- the definitions of a Data
abbrev pub first_copy : Registry → Data → SentBeat → Copy
first_copy registry message beat = let defines = definitions_in message.names in record {
  child = message.child;
  moment = beat.moment;
  charts = defines.charts;
  dimensions = defines.dimensions;
  words = sent_words registry message beat;
}

pub sent-first : (before registry : Registry) (message : Data) (charts : List NumberedChart) (dimensions : List NumberedDimension) (beat : SentBeat) (g : List Beat) → charts ≡ numbered_charts registry (definitions_in message.names)
    → dimensions ≡ numbered_dimensions registry (definitions_in message.names) → before ≡ registry_of g → registry ≡ with_names before message → MayTake g (copied (first_copy registry message beat))
    → IsSentAs registry message charts dimensions beat g (first_copy registry message beat)
sent-first before registry message charts dimensions beat g charts_are dimensions_are was is follows = record {
  child = refl;
  moment = refl;
  words = refl;
  charts_are = charts_are;
  dimensions_are = dimensions_are;
  follows = follows;
  registry_is = is ∙ ap (λ (r : Registry). with_names r message) was;
}

pub copies-are : (registry : Registry) (message : Data) (beats : List SentBeat) (first : SentBeat) (rest : List SentBeat) → beats ≡ first ∷ rest
    → sent_copies registry message beats ≡ copied (first_copy registry message first) ∷ later_copies registry message rest
copies-are registry message beats first rest is = ap (sent_copies registry message) is

-- ---- beats, and those behind them
onto-append : (h xs ys : List Beat) → onto h (xs ++ ys) ≡ onto (onto h xs) ys
onto-append h [] ys = refl
onto-append h (x ∷ xs) ys = onto-append (x ∷ h) xs ys

events-append : (set : Settings) (h xs ys : List Beat) → events_onto set h xs ++ events_onto set (onto h xs) ys ≡ events_onto set h (xs ++ ys)
unfolding events_onto
events-append set h [] ys = refl
events-append set h (x ∷ xs) ys =
    append_assoc (events_at set (x ∷ h)) (events_onto set (x ∷ h) xs) (events_onto set (onto (x ∷ h) xs) ys) ∙ ap (λ (rest : List AlarmEvent). events_at set (x ∷ h) ++ rest) (events-append set (x ∷ h) xs ys)

-- beats on a history that has others already
pub added-behind : (past : List Event) (store : StoreState) (left : Left) (set : Settings) (h xs ys : List Beat) (first more events : List AlarmEvent) → first ≡ events_onto set h xs → HasAdded past store left set (onto h xs) ys more
    → events ≡ first ++ more → HasAdded past store left set h (xs ++ ys) events
added-behind past store left set h xs ys first more events before did added = record {
  holds = subst (HoldsHistory past store set) (sym (onto-append h xs ys)) did.holds;
  left_by = subst (λ (g : List Beat). IsLeftBy set g left) (sym (onto-append h xs ys)) did.left_by;
  events_are = added ∙ (λ i. before i ++ did.events_are i) ∙ events-append set h xs ys;
}

pub takes-behind : (h xs ys : List Beat) → MayTakeAll h (xs ++ ys) → MayTakeAll (onto h xs) ys
takes-behind h [] ys all = all
takes-behind h (x ∷ xs) ys all = takes-behind (x ∷ h) xs ys all.1

prefix-before : (n : ℕ) (xs ys : List Beat) → (m : ℕ) × (take m (xs ++ ys) ≡ take n xs)
prefix-before zero xs ys = (0, refl)
prefix-before (suc n) [] ys = (0, refl)
prefix-before (suc n) (x ∷ xs) ys = let rest = prefix-before n xs ys in (suc rest.0, ap (λ (l : List Beat). x ∷ l) rest.1)

module _ (set : Settings) (h xs ys : List Beat) (old new : List Event) where
  pub moments-before : Throughout (EveryDisk (StandsForPrefix set h xs)) old new → Throughout (EveryDisk (StandsForPrefix set h (xs ++ ys))) old new
  moments-before moments = disks_weaker by moments
    where
      by : (disk : File → List ℕ) → StandsForPrefix set h xs disk → StandsForPrefix set h (xs ++ ys) disk
      by disk stands =
          let prefix = prefix-before stands.0 xs ys in
          (prefix.0, subst (λ (more : List Beat). StandsForHistory set (onto h more) disk) (sym prefix.1) stands.1)

  pub moments-behind : Throughout (EveryDisk (StandsForPrefix set (onto h xs) ys)) old new → Throughout (EveryDisk (StandsForPrefix set h (xs ++ ys))) old new
  moments-behind moments = disks_weaker by moments
    where
      by : (disk : File → List ℕ) → StandsForPrefix set (onto h xs) ys disk → StandsForPrefix set h (xs ++ ys) disk
      by disk stands =
          (length xs + stands.0, subst (λ (g : List Beat). StandsForHistory set g disk) (sym (ap (onto h) (take-append-add xs ys stands.0) ∙ onto-append h xs (take stands.0 ys))) stands.1)

-- ---- a message
-- a gap tells no event
gap-quiet : (set : Settings) (h : List Beat) (message : Data) → [] ≡ events_onto set h (gap_beats message)
unfolding events_onto
gap-quiet set h message =
    elim (cases_lt message.prev message.from) [
      | inl less ↦
          let gap : Gap = record { child = message.child; from = message.prev; to = message.from } in
          let told = ap (λ (o : Outcome). o.events) (gap-outcome set h gap) in
          subst (λ (more : List Beat). [] ≡ events_onto set h more) (gap-some message less) (told ∙ sym (append-nil (events_at set (missing gap ∷ h))))
      | inr none ↦ subst (λ (more : List Beat). [] ≡ events_onto set h more) (gap-none message none) refl
    ]

beats-are-all : (registry : Registry) (message : Data) → beats_of registry message ≡ gap_beats message ++ sent_copies (with_names registry message) message message.beats
unfolding beats_of
beats-are-all registry message = refl

module _ (set : Settings) (h : List Beat) (registry : Registry) (message : Data) where
  abbrev copies : List Beat
  copies = sent_copies (with_names registry message) message message.beats

  pub message-before : (old new : List Event) → Throughout (EveryDisk (StandsForPrefix set h (gap_beats message))) old new → Throughout (EveryDisk (StandsForPrefix set h (beats_of registry message))) old new
  message-before old new moments = subst (λ (more : List Beat). Throughout (EveryDisk (StandsForPrefix set h more)) old new) (sym (beats-are-all registry message)) (moments-before set h (gap_beats message) copies old new moments)

  pub message-behind : (old new : List Event) → Throughout (EveryDisk (StandsForPrefix set (onto h (gap_beats message)) copies)) old new → Throughout (EveryDisk (StandsForPrefix set h (beats_of registry message))) old new
  message-behind old new moments = subst (λ (more : List Beat). Throughout (EveryDisk (StandsForPrefix set h more)) old new) (sym (beats-are-all registry message)) (moments-behind set h (gap_beats message) copies old new moments)

  pub message-added : (past : List Event) (store : StoreState) (left : Left) (events : List AlarmEvent) → HasAdded past store left set (onto h (gap_beats message)) copies events → HasAdded past store left set h (beats_of registry message) events
  message-added past store left events did =
      subst (λ (more : List Beat). HasAdded past store left set h more events) (sym (beats-are-all registry message)) (added-behind past store left set h (gap_beats message) copies [] events events (gap-quiet set h message) did refl)

  -- its beats may follow the gap
  pub message-takes : IsData message → IsWithin (registry_of h) → registry ≡ registry_of h → may_copy (role_of h) ≡ true → names_refusal registry (definitions_in message.names) ≡ None → message.prev ≡ last h
      → MayTakeAll (onto h (gap_beats message)) copies
  message-takes form within is role free prev =
      let refused : copy_refusal (registry_of h) (role_of h) message ≡ None
      = ap (λ (b : Bool). if not b then Some MixedRoles else names_refusal (registry_of h) (definitions_in message.names)) role ∙ ap (λ (r : Registry). names_refusal r (definitions_in message.names)) (sym is) ∙ free in
      let all = all-follow h message within form refused prev in
      takes-behind h (gap_beats message) copies (subst (MayTakeAll h) (ap (λ (r : Registry). beats_of r message) (sym is) ∙ beats-are-all registry message) all)

-- ---- how many there are
pub onto-length : (h more : List Beat) → length (onto h more) ≡ length h + length more
onto-length h [] = omega arith
onto-length h (beat ∷ more) = omega (arith, onto-length (beat ∷ h) more)

copies-length : (registry : Registry) (message : Data) (beats : List SentBeat) → length (sent_copies registry message beats) ≡ length beats
copies-length registry message [] = refl
copies-length registry message (beat ∷ beats) = omega (arith, later-length registry message beats)

pub length-some : (registry : Registry) (message : Data) → message.prev < message.from → length message.beats + 1 ≡ length (beats_of registry message)
length-some registry message less =
    let gap = ap length (gap-some message less) in
    omega (arith, ap length (beats-are-all registry message), length-append (gap_beats message) (sent_copies (with_names registry message) message message.beats), gap, copies-length (with_names registry message) message message.beats)

pub length-none : (registry : Registry) (message : Data) → message.from ≤ message.prev → length message.beats ≡ length (beats_of registry message)
length-none registry message less =
    let gap = ap length (gap-none message less) in
    omega (arith, ap length (beats-are-all registry message), length-append (gap_beats message) (sent_copies (with_names registry message) message message.beats), gap, copies-length (with_names registry message) message message.beats)
