-- What `send` promises.
use Rattle.std.specs.Prelude.{◌≡◌, ◌⊎◌, ℕ, Bool, true, false, List, IfSome}
use Rattle.host_model.specs.declared.status.Status.{Status}
use Rattle.host_model.specs.declared.status.Status.TheVariants.{Ok as Done, DiskFault, LinkFault, PeerRefused, LinkEnded, InputLimit, Memory}
use Rattle.host_model.specs.Cause.{HasCause, Rose}
use Rattle.host_model.specs.Disks.{EveryDisk, reads_as}
use Rattle.host_model.specs.Past.{Event}
use Rattle.host_model.specs.Seen.{Seen}
use Rattle.history.specs.History.{Beat}
use Rattle.tier_settings.specs.declared.settings.Settings.{Settings}
use Rattle.agent_core.specs.Copies.{data_of_history}
use Rattle.agent_core.specs.Stands.{StandsForHistory}
use Rattle.agent_core.specs.Notes.{NotesGo}
use Rattle.link_session.specs.Child.{child_begins, child_does}
use Rattle.link_session.specs.Exchange.{SessionResult}
use Rattle.link_session.specs.Session.{Exchanges, LinkSeen}
use Rattle.link_session.specs.Taking.{ChildEndsAt}
use Rattle.agent_app.specs.Run.{finds_none, Finds, IsHostAsFound, LeavesOthers}
use Rattle.agent_app.specs.Sessions.{session_status, EndsAsBytes, TakesSession}

-- the statuses of a session that sends, but those of one that found no database that can be opened
abbrev pub ends_a_send : Status → Bool
ends_a_send Done = true
ends_a_send DiskFault = true
ends_a_send LinkFault = true
ends_a_send (PeerRefused kind) = true
ends_a_send LinkEnded = true
ends_a_send InputLimit = true
ends_a_send Memory = true
ends_a_send status = false

-- a session over a database of these settings and this history, which ended with this status
pub record Sends (status : Status) (set : Settings) (h : List Beat) (link link' : LinkSeen) (new : List Event) : Type 0 where
  pub result : SessionResult
  pub status_is : status ≡ session_status result
  -- It did what a child does with the frames in the bytes that it took. A prefix of what that says was sent, and all of
  -- it unless the link or memory failed; and that is why it ended.
  pub exchanges : Exchanges (child_does set.id (data_of_history set h)) (child_begins set.id) result link link'
  -- at the end that history is all that a crash leaves
  pub stands : EveryDisk (StandsForHistory set h) new
  -- no failure of the disk ends a session
  pub unspent : status ≡ DiskFault → ⊥

-- `send` ended with this status, and left the link and the host so
pub record SendsAll (honest : Type 0) (status : Status) (link link' : LinkSeen) (host host' : Seen) : Type 0 where
  -- the history is the one that the files read as; where it was not read, the disk or memory failed, and nobody was
  -- spoken to
  pub sends : honest → (set : Settings) (h : List Beat) → StandsForHistory set h (reads_as host.past)
      → Sends status set h link link' host'.past ⊎ (((status ≡ DiskFault) ⊎ (status ≡ Memory)) × (link' ≡ link))
  -- where no call on the outside fails, the status is that of all bytes of the link, or memory ran out
  pub complete : honest → (set : Settings) (h : List Beat) → StandsForHistory set h (reads_as host.past)
      → IfSome link.left (λ bytes. (Rose link.faults link'.faults → ⊥) → (Rose host.disk_faults host'.disk_faults → ⊥)
      → EndsAsBytes (child_does set.id (data_of_history set h)) (child_begins set.id) status bytes)
  -- nothing is told, and nothing changes on the disk
  pub host_is : IsHostAsFound honest host host'
  pub others : LeavesOthers honest host host'
  pub finds : Finds honest status host
  -- whatever the host tells, these are the statuses
  pub statuses : (ends_a_send status ≡ true) ⊎ (finds_none status ≡ true)
  -- no more is taken of the link than a session may take; some id is that of the child
  pub input : (id : ℕ) × TakesSession (λ ended before f. ChildEndsAt id ended f) (λ result s. s ≡ session_status result) status link link'
  -- where no database can be opened nobody is spoken to, whatever status it ended with
  pub leaves : finds_none status ≡ true → link' ≡ link
  pub untaken : honest → (NotesGo true (reads_as host.past) → ⊥) → link' ≡ link
  -- whatever the host tells, a failure of the disk comes before anything is said
  pub unspent : status ≡ DiskFault → link' ≡ link
  -- each part of the outside counts a failure exactly where that is why it ended
  pub link_cause : HasCause link.faults link'.faults (status ≡ LinkFault)
  pub disk_cause : HasCause host.disk_faults host'.disk_faults (status ≡ DiskFault)
