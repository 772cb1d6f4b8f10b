-- What `receive` promises.
use Rattle.std.specs.Prelude.{◌≡◌, ◌⊎◌, ℕ, ◌<◌, Bool, true, false, List, [], ◌++◌, length, take, Err, IfSome}
use Rattle.host_model.specs.declared.file.File.{File}
use Rattle.host_model.specs.declared.status.Status.{Status}
use Rattle.host_model.specs.declared.status.Status.TheVariants.{Ok as Done, Refused, Limit, TellFault, DiskFault, LinkFault, PeerRefused, LinkEnded, InputLimit, Memory}
use Rattle.host_model.specs.Cause.{HasCause, Rose}
use Rattle.host_model.specs.Disks.{EveryDisk, reads_as}
use Rattle.host_model.specs.Moments.{EveryCrash, Throughout}
use Rattle.host_model.specs.Past.{told, Event, TellsPrefix}
use Rattle.host_model.specs.Seen.{Seen}
use Rattle.history.specs.declared.fault.BlockFault.{BlockFault}
use Rattle.history.specs.History.{Beat}
use Rattle.plugin_text.specs.declared.refusal.Refusal.TheVariants as refusal
use Rattle.replication.specs.Copies.{RisesFrom}
use Rattle.tier_settings.specs.declared.settings.Settings.{Settings}
use Rattle.agent_core.specs.declared.fault.AgentFault.TheVariants as agent
use Rattle.agent_core.specs.Copies.{seen_moment, IsCopyOfChild, SeenBeat}
use Rattle.agent_core.specs.Stands.{StandsForHistory}
use Rattle.agent_core.specs.Notes.{NotesGo}
use Rattle.link_session.specs.declared.fault.SessionFault.TheVariants as session
use Rattle.link_session.specs.Exchange.{SessionResult}
use Rattle.link_session.specs.Keeps.{Keeps, LeavesFiles}
use Rattle.link_session.specs.Parent.{done_with, parent_begins, parent_does}
use Rattle.link_session.specs.Receiving.{AnswersStored, AreTrueOf, FailsAtData, HasStored}
use Rattle.link_session.specs.Session.{Exchanges, LinkSeen}
use Rattle.link_session.specs.Taking.{ParentEndsAt}
use Rattle.agent_app.specs.Bound.{GrowsBy}
use Rattle.agent_app.specs.Convert.{refusal_line, refusal_status}
use Rattle.agent_app.specs.Run.{finds_none, is_whole, Finds, IsHostAsFound, LeavesOthers, OnceRead}
use Rattle.agent_app.specs.Running.{TellRose, TellsRefusal}
use Rattle.agent_app.specs.Sessions.{session_status, EndsAsBytes, TakesSession}

-- ---- the end of a session

-- what is told last: why the database did not take what came, if that ended the session
abbrev pub last_line : SessionResult → List ℕ
last_line (Err (session.Agent (agent.Refused why))) = refusal_line 0 (refusal.Block why)
last_line result = []

-- A session that ended so has this status. Where its last line is not told, that is the status.
abbrev pub EndsAs : SessionResult → Status → Type 0
EndsAs (Err (session.Agent (agent.Refused why))) status = (status ≡ refusal_status 0 (refusal.Block why)) ⊎ (status ≡ TellFault) ⊎ (status ≡ Memory)
EndsAs result status = status ≡ session_status result

-- why the database did not take what came was told, and that is the status, or that was cut short
pub record TellsWhy (honest : Type 0) (why : BlockFault) (status : Status) (host host' : Seen) : Type 0 where
  pub tells : TellsRefusal status honest 0 (refusal.Block why) host.past host'.past (TellRose host host')
  pub cause : HasCause host.tell_faults host'.tell_faults (status ≡ TellFault)
  pub disk : host'.disk_faults ≡ host.disk_faults

-- a session that ended so was closed with this status
abbrev pub Closes : (honest : Type 0) → SessionResult → Status → (host host' : Seen) → Type 0
Closes honest (Err (session.Agent (agent.Refused why))) status host host' = TellsWhy honest why status host host'
Closes honest result status host host' = (status ≡ session_status result) × (host' ≡ host)

-- ---- what `receive` promises

-- the statuses of a session that receives, but those of one that found no database that can be opened
abbrev pub ends_a_receive : Status → Bool
ends_a_receive Done = true
ends_a_receive (Refused line number) = true
ends_a_receive (Limit line number) = true
ends_a_receive TellFault = true
ends_a_receive DiskFault = true
ends_a_receive LinkFault = true
ends_a_receive (PeerRefused kind) = true
ends_a_receive LinkEnded = true
ends_a_receive InputLimit = true
ends_a_receive Memory = true
ends_a_receive status = false

-- the disk holds a copy of this child, which had these floors
abbrev pub HoldsCopy : Settings → (floors : List ℕ) → (child : List SeenBeat) → (File → List ℕ) → Type 0
HoldsCopy set floors child disk = (h : List Beat) × StandsForHistory set h disk × IsCopyOfChild floors child h

-- a session over a database of these settings and this history
pub record Receives (status : Status) (set : Settings) (h0 : List Beat) (link link' : LinkSeen) (old new : List Event) : Type 0 where
  pub result : SessionResult
  pub ends_as : EndsAs result status
  -- It did what a parent does with the frames in the bytes that it took. A prefix of what that says was sent, and all
  -- of it unless the output, the disk, the link or memory failed; and that is why it ended.
  pub exchanges : Exchanges (parent_does set) (parent_begins h0) result link link'
  -- what was said answers frames of which all was stored and told: no Have stands for beats that are not on the disk
  pub heard : AnswersStored set h0 exchanges.frames exchanges.broken old new link.sent link'.sent
  -- where more frames than these were looked at, all that these were to store and tell was stored and told
  pub in_turn : (n : ℕ) → n < length exchanges.frames → HasStored set (done_with set h0 (take n exchanges.frames)).now.history old (done_with set h0 (take n exchanges.frames)).told new
  -- at every moment a crash leaves the history with a prefix of the beats, and with every beat that was acknowledged
  pub crashes : Throughout (EveryCrash (Keeps set h0 (done_with set h0 exchanges.frames).now.history (told old))) old new
  -- at the end all of them, unless the output, the disk or memory failed
  pub ends : is_whole status ≡ true → EveryDisk (StandsForHistory set (done_with set h0 exchanges.frames).now.history) new
  pub output : TellsPrefix (is_whole status) ((done_with set h0 exchanges.frames).told ++ last_line result) old new
  -- no failure of the output ends a session of which nothing is to be told
  pub told_for : status ≡ TellFault → (done_with set h0 exchanges.frames).told ++ last_line result ≡ [] → ⊥
  -- a history that was a copy of a child is one at every moment, where each Data that came is true of the child
  pub copy : (floors : List ℕ) (child : List SeenBeat) → RisesFrom seen_moment 0 child → IsCopyOfChild floors child h0 → AreTrueOf floors child exchanges.frames → Throughout (EveryDisk (HoldsCopy set floors child)) old new

-- from some moment on all that a crash might leave of the disk was a database of this history, and the session was one
-- over it
pub record ReceivesOn (status : Status) (set : Settings) (h0 : List Beat) (link link' : LinkSeen) (read new : List Event) : Type 0 where
  pub stands : EveryDisk (StandsForHistory set h0) read
  pub receives : Receives status set h0 link link' read new
  -- a session that adds nothing to the history writes nothing
  pub quiet : (done_with set h0 receives.exchanges.frames).now.history ≡ h0 → LeavesFiles read new
  -- the disk fails only at a Data that is to be stored: all before it was stored, and all that was told is of that
  pub stored_for : status ≡ DiskFault → FailsAtData set h0 receives.exchanges.frames read new

-- `receive` ended with this status, and left the link and the host so
pub record ReceivesAll (honest : Type 0) (status : Status) (link link' : LinkSeen) (host host' : Seen) : Type 0 where
  pub receives : honest → (set : Settings) (h0 : List Beat) → EveryDisk (StandsForHistory set h0) host.past → Receives status set h0 link link' host.past host'.past
  -- where the images differ, as after a run that the disk ended, that history counts which the files read as
  pub resumes : honest → (set : Settings) (h0 : List Beat) → StandsForHistory set h0 (reads_as host.past)
      → OnceRead (λ read. ReceivesOn status set h0 link link' read host'.past) (link' ≡ link) status host.past host'.past
  -- where no call on the outside fails, the status is that of all bytes of the link, or memory ran out
  pub complete : honest → (set : Settings) (h0 : List Beat) → StandsForHistory set h0 (reads_as host.past)
      → IfSome link.left (λ bytes. (Rose link.faults link'.faults → ⊥) → (Rose host.tell_faults host'.tell_faults → ⊥) → (Rose host.disk_faults host'.disk_faults → ⊥)
      → EndsAsBytes (parent_does set) (parent_begins h0) status bytes)
  pub finds : Finds honest status host
  -- whatever the host tells, these are the statuses
  pub statuses : (ends_a_receive status ≡ true) ⊎ (finds_none status ≡ true)
  -- no more is taken of the link than a session may take
  pub input : TakesSession ParentEndsAt EndsAs status link link'
  -- where no database can be opened nobody is spoken to and all is left as it was found, whatever status it ended with
  pub leaves : finds_none status ≡ true → (link' ≡ link) × IsHostAsFound honest host host'
  pub untaken : honest → (NotesGo true (reads_as host.past) → ⊥) → (link' ≡ link) × IsHostAsFound honest host host'
  pub others : LeavesOthers honest host host'
  -- each file of the database stays within its share
  pub bound : honest → GrowsBy host.past host'.past
  -- each part of the outside counts a failure exactly where that is why it ended
  pub link_cause : HasCause link.faults link'.faults (status ≡ LinkFault)
  pub tell_cause : HasCause host.tell_faults host'.tell_faults (status ≡ TellFault)
  pub disk_cause : HasCause host.disk_faults host'.disk_faults (status ≡ DiskFault)
