-- Commands on one host, one after the other.
use Rattle.std.specs.Prelude.{◌≡◌, ◌⊎◌, ℕ, Bool, true, false, List, [], ◌∷◌, length, drop, Contains, Option, Some, None, IfSome}
use Rattle.host_model.specs.declared.file.File.{File}
use Rattle.host_model.specs.declared.status.Status.{Status}
use Rattle.host_model.specs.declared.status.Status.TheVariants.{Ok as Done, DiskFault}
use Rattle.host_model.specs.Disks.{EveryDisk, reads_as}
use Rattle.host_model.specs.Past.{told}
use Rattle.host_model.specs.Seen.{Seen}
use Rattle.host_model.specs.Source.{Takes}
use Rattle.history.specs.History.{Beat, last}
use Rattle.tier_settings.specs.declared.settings.Settings.{Settings}
use Rattle.store_core.specs.Stands.{is_made}
use Rattle.agent_core.specs.Stands.{StandsForHistory}
use Rattle.link_session.specs.Exchange.{SessionResult}
use Rattle.link_session.specs.Keeps.{Extends, IsAckedUpTo}
use Rattle.link_session.specs.Parent.{done_with, parent_begins, parent_does}
use Rattle.link_session.specs.Session.{Exchanges, LinkSeen}
use Rattle.agent_app.specs.declared.collect.Collector.{Collector}
use Rattle.agent_app.specs.Collect.{CollectsAll, HasHeard, Outside}
use Rattle.agent_app.specs.Convert.{LeavesDisk}
use Rattle.agent_app.specs.Health.{history_with_health, ConfiguresAll}
use Rattle.agent_app.specs.New.{Makes}
use Rattle.agent_app.specs.Query.{Asks}
use Rattle.agent_app.specs.Receive.{ReceivesAll}
use Rattle.agent_app.specs.Run.{history_with_text, is_opened, is_whole, run_every, RunsAll}
use Rattle.agent_app.specs.Send.{SendsAll}

-- What a command has what it stores from: a source, with what it had left before and after, where it tells that; a
-- collector, with what it met before and after; a source that has a configuration of alarms; or a link, before and
-- after.
pub data Input : Type 0 where
  OfSource : (left left_after : Option (List ℕ)) → Input
  OfCollector : (collector : Collector) (outside outside_after : Outside) → Input
  OfHealth : (left left_after : Option (List ℕ)) → Input
  OfLink : (link link_after : LinkSeen) → Input

-- In a database of these settings and this history, this is the history with all that was taken of the input: the beats
-- of the text that a run took; the configuration, where the text has ended and nothing refuses it; and the gaps and the
-- copied beats of each Data that a parent takes of the frames that came.
abbrev pub Gives : Input → Settings → (base whole : List Beat) → Type 0
Gives (OfSource left left_after) set base whole = (taken : List ℕ) × Takes left taken left_after × (whole ≡ history_with_text run_every base taken)
Gives (OfCollector collector outside outside_after) set base whole = (taken : List ℕ) × HasHeard collector (last base) outside outside_after taken × (whole ≡ history_with_text collector.every base taken)
Gives (OfHealth left left_after) set base whole =
    (taken : List ℕ) × (ended : Bool) × Takes left taken left_after × (ended ≡ true → IfSome left_after (λ bytes. bytes ≡ [])) × (whole ≡ history_with_health base ended taken)
Gives (OfLink link link_after) set base whole =
    (result : SessionResult) × (exchanges : Exchanges (parent_does set) (parent_begins base) result link link_after) × (whole ≡ (done_with set base exchanges.frames).now.history)

-- one command that stores: how it ended, where no crash came before; what it has what it stores from; and what it told
pub record OneRun : Type 0 where
  pub status : Option Status
  pub input : Input
  pub text : List ℕ

-- this is the history with all that it took, where a crash may have come before it took any
abbrev pub MayGive : OneRun → Settings → (base whole : List Beat) → Type 0
MayGive run set base whole = Gives run.input set base whole ⊎ ((run.status ≡ None) × (whole ≡ base))

-- what was told since
abbrev pub told_since : Seen → Seen → List ℕ
told_since host host' = drop (length (told host.past)) (told host'.past)

-- a database: its settings and its history
pub record Database : Type 0 where
  pub settings : Settings
  pub history : List Beat

-- the disk holds this database, or none
abbrev pub HoldsDatabase : Option Database → (File → List ℕ) → Type 0
HoldsDatabase None disk = is_made disk ≡ false
HoldsDatabase (Some base) disk = StandsForHistory base.settings base.history disk

-- the disk holds one of these
pub record HoldsOneOf (starts : List (Option Database)) (disk : File → List ℕ) : Type 0 where
  pub start : Option Database
  pub among : Contains starts start
  pub holds : HoldsDatabase start disk

-- a `new` that ended so may have made a database: it did, or the disk failed where there was none
abbrev pub MayHaveMade : Status → Seen → Type 0
MayHaveMade status host = (status ≡ Done) ⊎ ((status ≡ DiskFault) × (is_made (reads_as host.past) ≡ false))

-- Of a host whose disk held one of these databases whatever a crash left, or none where that is among them, and on
-- which commands were made one after the other that store, `run`, `collect`, `health` or `receive`, with whatever input
-- and whatever end: these are they, the latest first. Between them texts may be converted, questions asked, copies sent
-- to a parent and `new` tried, whatever each ended with. `tried` has the settings of each `new` that may have made a
-- database.
pub data Course {H : Type 0} (honest : Type 0) (seen : H → Seen) (starts : List (Option Database)) (tried : List Settings) : List OneRun → H → Type 0 where
  begun : (host : H) → EveryDisk (HoldsOneOf starts) (seen host).past → Course honest seen starts tried [] host
  ran : (runs : List OneRun) (host host' : H) (status : Status) (left left' : Option (List ℕ)) (source_faults source_faults' : ℕ)
      → Course honest seen starts tried runs host → RunsAll honest status left left' source_faults source_faults' (seen host) (seen host')
      → Course honest seen starts tried (record { status = Some status; input = OfSource left left'; text = told_since (seen host) (seen host') } ∷ runs) host'
  collected : (runs : List OneRun) (host host' : H) (collector : Collector) (status : Status) (outside outside' : Outside)
      → Course honest seen starts tried runs host → CollectsAll honest collector status outside outside' (seen host) (seen host')
      → Course honest seen starts tried (record { status = Some status; input = OfCollector collector outside outside'; text = told_since (seen host) (seen host') } ∷ runs) host'
  configured : (runs : List OneRun) (host host' : H) (status : Status) (left left' : Option (List ℕ)) (source_faults source_faults' : ℕ)
      → Course honest seen starts tried runs host → ConfiguresAll honest status left left' source_faults source_faults' (seen host) (seen host')
      → Course honest seen starts tried (record { status = Some status; input = OfHealth left left'; text = told_since (seen host) (seen host') } ∷ runs) host'
  received : (runs : List OneRun) (host host' : H) (status : Status) (link link' : LinkSeen)
      → Course honest seen starts tried runs host → ReceivesAll honest status link link' (seen host) (seen host')
      → Course honest seen starts tried (record { status = Some status; input = OfLink link link'; text = told_since (seen host) (seen host') } ∷ runs) host'
  sent : (runs : List OneRun) (host host' : H) (status : Status) (link link' : LinkSeen) → Course honest seen starts tried runs host → SendsAll honest status link link' (seen host) (seen host') → Course honest seen starts tried runs host'
  converted : (runs : List OneRun) (host host' : H) → Course honest seen starts tried runs host → LeavesDisk honest (seen host) (seen host') → Course honest seen starts tried runs host'
  asked : (runs : List OneRun) (host host' : H) (answer : Settings → List Beat → List ℕ) (status : Status) → Course honest seen starts tried runs host → Asks honest answer status (seen host) (seen host') → Course honest seen starts tried runs host'
  made_again : (runs : List OneRun) (host host' : H) (set : Settings) (status : Status) → Course honest seen starts tried runs host → (MayHaveMade status (seen host) → Contains tried set)
      → Makes honest set status (seen host) (seen host') → Course honest seen starts tried runs host'

-- the run has not ended, or at a status at which the database may not have been opened
abbrev pub MayHaveFoundNone : OneRun → Type 0
MayHaveFoundNone run = (status : Status) → run.status ≡ Some status → is_opened status ≡ false

-- where the run has ended at a status at which all beats were stored, this holds
abbrev pub WhereWhole : OneRun → Type 0 → Type 0
WhereWhole run holds = (status : Status) → run.status ≡ Some status → is_whole status ≡ true → holds

-- From this start these runs stored this: each goes on from what the one before it left, by a prefix of what it took,
-- and by all of it where it ended so. Every beat that it acknowledged is there, and the settings stay. Before there is
-- a database a run tells nothing. One that is made has settings of a `new`, and no beats.
pub data AreStored (tried : List Settings) (start : Option Database) : List OneRun → Option Database → Type 0 where
  no_run : AreStored tried start [] start
  none_found : (runs : List OneRun) (run : OneRun) → AreStored tried start runs None → MayHaveFoundNone run → run.text ≡ [] → AreStored tried start (run ∷ runs) None
  now_made : (runs : List OneRun) (set : Settings) → Contains tried set → AreStored tried start runs None → AreStored tried start runs (Some (record { settings = set; history = [] }))
  one_run : (runs : List OneRun) (run : OneRun) (base : Database) (stored whole : List Beat) → AreStored tried start runs (Some base) → MayGive run base.settings base.history whole
      → Extends base.history stored → Extends stored whole → WhereWhole run (stored ≡ whole)
      → IsAckedUpTo (length stored) run.text → AreStored tried start (run ∷ runs) (Some (record { settings = base.settings; history = stored }))

-- the disk holds what these runs stored from one of these starts
pub record HoldsRuns (starts : List (Option Database)) (tried : List Settings) (runs : List OneRun) (disk : File → List ℕ) : Type 0 where
  pub start : Option Database
  pub among : Contains starts start
  pub stored : Option Database
  pub are : AreStored tried start runs stored
  pub holds : HoldsDatabase stored disk
