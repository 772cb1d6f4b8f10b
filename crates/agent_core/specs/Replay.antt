-- How an agent is opened: the beats of its store are replayed, the oldest first.
use Rattle.std.specs.Prelude.{◌≡◌, ℕ, true, List, [], ◌∷◌, map, Option, None}
use Rattle.host_model.specs.Past.{Event}
use Rattle.algorithms.specs.declared.last.Last.{Last}
use Rattle.history.specs.declared.beat.OpenBeat.{OpenBeat}
use Rattle.history.specs.History.{Beat, collected, copied, registry_of, Copy}
use Rattle.history.specs.Numbered.{numbered_beat, IsThere}
use Rattle.history.specs.Registry.{Registry, same_chart, same_dimension}
use Rattle.beat_points.specs.LastRows.{AreLastOf}
use Rattle.history.specs.Regular.{AreApart, IsRegular}
use Rattle.history.specs.declared.numbered.NumberedBeat.{NumberedBeat}
use Rattle.alarm_core.specs.declared.latest.Latest.{Latest}
use Rattle.alarm_core.specs.UpTo.{IsUpTo}
use Rattle.entry_codec.specs.declared.entry.Entry.{Entry}
use Rattle.entry_codec.specs.declared.entry.Entry.TheVariants as entry
use Rattle.side_codec.specs.declared.gap.GapSpan.{GapSpan}
use Rattle.tier_settings.specs.declared.settings.Settings.{Settings}
use Rattle.beat_tiers.specs.declared.item.BeatPoint.{BeatPoint}
use Rattle.store_core.specs.declared.beats.beat.Beat.{Beat as StoreBeat}
use Rattle.store_core.specs.beats.Records.{with_all}
use Rattle.store_core.specs.Store.{IsReplayed, IsStoreAt, OpensAt, StoreState}
use Rattle.store_core.specs.Stored.{Stored}
use Rattle.agent_core.specs.declared.left.Left.{Left}
use Rattle.agent_core.specs.Agent.{AgentState}
use Rattle.agent_core.specs.declared.alarming.Stepping.{Stepping}
use Rattle.agent_core.specs.declared.alarming.Stepping.TheVariants as stepping
use Rattle.agent_core.specs.Alarms.{IsReadOf}
use Rattle.agent_core.specs.Gaps.{join_gap}
use Rattle.agent_core.specs.Kept.{copied_point, onto, stored_points, AreBeatsOf, IsBeatOf}
use Rattle.agent_core.specs.Stands.{IsStoredOf}
use Rattle.agent_core.specs.LastSeen.{IsLatestOf}
use Rattle.agent_core.specs.Left.{IsLeftBy}
use Rattle.agent_core.specs.Notes.{beats_go_on, left_after, noted_in, Noted}
use Rattle.agent_core.specs.Rules.{HasLimits}

-- ---- the parts that an entry leaves

-- the last rows have taken the rows of this numbered beat
abbrev pub HasTakenRows : Registry → List (Option Last) → List (Option Last) → NumberedBeat → Type 0
HasTakenRows registry lasts lasts' beat =
    (g : List Beat) (opened : OpenBeat) → AreLastOf lasts g → registry ≡ registry_of (collected beat.moment opened ∷ g) → IsRegular registry opened
    → beat ≡ numbered_beat registry beat.moment opened → AreLastOf lasts' (collected beat.moment opened ∷ g)

-- they are still those of a history with a copied beat, which has no rows
abbrev pub HasRoom : Registry → List (Option Last) → List (Option Last) → Type 0
HasRoom registry lasts lasts' =
    (g : List Beat) (copy : Copy) → AreLastOf lasts g → registry ≡ registry_of (copied copy ∷ g) → AreLastOf lasts' (copied copy ∷ g)

-- the last rows are those after an entry, which leaves this registry: configurations and gaps have nothing
abbrev pub HasRows : Registry → List (Option Last) → List (Option Last) → Entry → Type 0
HasRows registry lasts lasts' (entry.Collected found) = HasTakenRows registry lasts lasts' found
HasRows registry lasts lasts' (entry.Copied found) = HasRoom registry lasts lasts'
HasRows registry lasts lasts' (entry.Health text) = lasts' ≡ lasts
HasRows registry lasts lasts' (entry.Gap gap) = lasts' ≡ lasts

-- ---- the gaps

-- the gaps after an entry
abbrev pub gaps_after : List GapSpan → Entry → List GapSpan
gaps_after gaps (entry.Gap gap) = join_gap gaps (record { from = gap.from; to = gap.to })
gaps_after gaps found = gaps

-- ---- what was last seen

-- what was last seen has taken this numbered beat, with these points
abbrev pub HasSeenBeat : Registry → Latest → Latest → NumberedBeat → List BeatPoint → Type 0
HasSeenBeat registry latest latest' beat points =
    (g : List Beat) (beats : List StoreBeat) (lasts : List (Option Last)) (opened : OpenBeat) → AreBeatsOf g beats → AreLastOf lasts g → IsLatestOf latest g → registry ≡ registry_of (collected beat.moment opened ∷ g) → IsRegular registry opened
    → beat ≡ numbered_beat registry beat.moment opened → points ≡ stored_points registry g beat.moment opened → IsLatestOf latest' (collected beat.moment opened ∷ g)

-- it has taken a copied beat at this moment, with these points
abbrev pub HasSeenCopy : Registry → Latest → Latest → ℕ → List BeatPoint → Type 0
HasSeenCopy registry latest latest' moment points =
    (g : List Beat) (beats : List StoreBeat) (lasts : List (Option Last)) (copy : Copy) → AreBeatsOf g beats → AreLastOf lasts g → IsLatestOf latest g → registry ≡ registry_of (copied copy ∷ g) → moment ≡ copy.moment
    → points ≡ map (copied_point registry) copy.words → IsLatestOf latest' (copied copy ∷ g)

-- nothing more was seen
abbrev pub HasSeenNone : Latest → Latest → Type 0
HasSeenNone latest latest' = latest' ≡ record latest { before = latest'.before }

-- what was last seen is that after an entry with these points
abbrev pub HasSeen : Registry → Latest → Latest → Entry → List BeatPoint → Type 0
HasSeen registry latest latest' (entry.Collected found) points = HasSeenBeat registry latest latest' found points
HasSeen registry latest latest' (entry.Copied found) points = HasSeenCopy registry latest latest' found.moment points
HasSeen registry latest latest' (entry.Health text) points = HasSeenNone latest latest'
HasSeen registry latest latest' (entry.Gap gap) points = HasSeenNone latest latest'

-- the rows of an entry are of charts and series that the registry has
abbrev pub IsEntryThere : Registry → Entry → Type 0
IsEntryThere registry (entry.Collected found) = IsThere registry found
IsEntryThere registry found = Unit {0}

-- ---- what an entry does to alarms
abbrev pub IsDoneBy : Entry → Stepping → Type 0
IsDoneBy (entry.Collected found) (stepping.Beat at defines) = at ≡ found.moment
IsDoneBy (entry.Copied found) (stepping.Beat at defines) = at ≡ found.moment
IsDoneBy (entry.Health text) (stepping.Configuration config) = IsReadOf text config
IsDoneBy (entry.Gap gap) stepping.Nothing = Unit {0}
IsDoneBy found does = ⊥

-- ---- the prefix of a history

-- a store keeps these beats, the oldest first, for those that follow a history
abbrev pub AreNextOf : List Beat → List Beat → List StoreBeat → Type 0
AreNextOf g [] [] = Unit {0}
AreNextOf g (beat ∷ more) (kept ∷ rest) = IsBeatOf g beat kept × AreNextOf (beat ∷ g) more rest
AreNextOf g more rest = ⊥

-- the store has replayed a prefix of the history, and the beats that wait are those of the history after it
pub record IsAtPrefix (past : List Event) (store : StoreState) (set : Settings) (prefix h : List Beat) : Type 0 where
  pub more : List Beat
  pub stored : Stored
  pub rest : List StoreBeat
  pub whole : onto prefix more ≡ h
  pub are : IsStoredOf set prefix stored
  pub next : AreNextOf prefix more rest
  pub is_at : IsStoreAt past store stored rest

-- the store has replayed a prefix of the history, and the beats of this left this
pub record IsReplaying (past : List Event) (store : StoreState) (left : Left) (set : Settings) (h : List Beat) : Type 0 where
  pub prefix : List Beat
  pub at : IsAtPrefix past store set prefix h
  pub left_by : IsLeftBy set prefix left

-- The store has replayed the first of these beats, which have the oldest first, and the others wait. The notes of those go on
-- from a start, and this is what they leave.
pub record HasTaken (start : Noted) (beats : List StoreBeat) (store : StoreState) (left : Left) : Type 0 where
  pub applied : List StoreBeat
  pub whole : with_all applied store.waiting ≡ with_all [] beats
  pub go_on : beats_go_on start applied ≡ true
  pub left_is : noted_in left ≡ left_after start applied

-- the store was opened, with what it has stored for this history
pub record IsOpenedFor (past : List Event) (store : StoreState) (set : Settings) (h : List Beat) : Type 0 where
  pub stored : Stored
  pub are : IsStoredOf set h stored
  pub opens : OpensAt past store stored

-- the agent has replayed all of this store, of whatever beats that is
pub record HasReplayed (store : StoreState) (agent : AgentState) : Type 0 where
  pub files : agent.store.files ≡ store.files
  pub body : agent.store.body ≡ store.body
  pub store_going : agent.store.fault ≡ None
  pub replayed : IsReplayed agent.store
  pub same_last : agent.store.tiers.last ≡ agent.last
  pub going : agent.fault ≡ None
  pub up_to : IsUpTo agent.alarms agent.registry
  pub charts : AreApart same_chart agent.registry.charts
  pub dimensions : AreApart same_dimension agent.registry.dimensions
  pub limits : HasLimits agent.registry
