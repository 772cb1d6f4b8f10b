-- How a session with another agent ends.
use Rattle.std.specs.Prelude.{◌≡◌, ℕ, ◌<◌, ◌≤◌, true, List, [], length, take, ◌⊎◌, Option, Some, None, Ok, Err}
use Rattle.host_model.specs.declared.status.Status.{Status}
use Rattle.host_model.specs.declared.status.Status.TheVariants as status
use Rattle.line_stream.specs.Run.{input_limit}
use Rattle.link_frames.specs.declared.frame.Frame.{Frame}
use Rattle.link_frames.specs.Stream.{HandsOut, HasNoFrame, IsBad, IsOpen, IsTooLong}
use Rattle.link_session.specs.declared.fault.PeerFault.{PeerFault}
use Rattle.link_session.specs.declared.fault.PeerFault.TheVariants.{WrongChild, BadFrame, FrameTooLong}
use Rattle.link_session.specs.declared.fault.SessionFault.{SessionFault}
use Rattle.link_session.specs.declared.fault.SessionFault.TheVariants.{LinkFault, Agent, PeerRefused, Ended, InputLimit, TellFault, Memory}
use Rattle.link_session.specs.Exchange.{exchange, Course, SessionResult}
use Rattle.link_session.specs.Session.{LinkSeen}
use Rattle.link_session.specs.Taking.{TakesLink}
use Rattle.agent_app.specs.Run.{finds_none}
use Rattle.agent_app.specs.Statuses.{agent_status}

-- the number of a refusal between two agents
abbrev pub peer_kind : PeerFault → ℕ
peer_kind WrongChild = 1
peer_kind BadFrame = 2
peer_kind FrameTooLong = 3

-- the status of a session that ended with this fault
abbrev pub fault_status : SessionFault → Status
fault_status LinkFault = status.LinkFault
fault_status (Agent fault) = agent_status fault
fault_status (PeerRefused why) = status.PeerRefused (peer_kind why)
fault_status Ended = status.LinkEnded
fault_status InputLimit = status.InputLimit
fault_status TellFault = status.TellFault
fault_status Memory = status.Memory

abbrev pub session_status : SessionResult → Status
session_status (Ok done) = status.Ok
session_status (Err fault) = fault_status fault

-- ---- what is taken of the link, whatever the host tells

-- A session ended so, with this status, and took of the link what a session may: at most `input_limit` bytes, which say
-- why it ended. Or no database was opened, and nothing was taken. `EndsAt` says at which frames an end may end a
-- session, and `EndsAs` with which status.
abbrev pub TakesSession : (EndsAt : SessionResult → List Frame → Frame → Type 0) → (EndsAs : SessionResult → Status → Type 0) → Status → (link link' : LinkSeen) → Type 0
TakesSession EndsAt EndsAs s link link' =
    ((result : SessionResult) × EndsAs result s × TakesLink EndsAt result link link') ⊎ (((finds_none s ≡ true) ⊎ (s ≡ status.DiskFault) ⊎ (s ≡ status.Memory)) × (link' ≡ link))

-- ---- with which status a session ends over all bytes of its link, where nothing outside of it fails

-- the status of a session over these bytes that no frame ends, by what stands behind the frames; one of these cases
-- holds at most
abbrev pub EndsBehind : Status → (bytes rest : List ℕ) → Type 0
EndsBehind s bytes rest =
    (IsTooLong rest × (s ≡ status.PeerRefused (peer_kind FrameTooLong)))
    ⊎ (IsBad rest × (s ≡ status.PeerRefused (peer_kind BadFrame)))
    ⊎ (IsOpen rest × (length bytes < input_limit) × (s ≡ status.LinkEnded))
    ⊎ (IsOpen rest × (input_limit ≤ length bytes) × (s ≡ status.InputLimit))

-- The status of a session over these bytes that the frames end so. Where they do not end it, and no more of them stand
-- in the rest, that gives the status.
abbrev pub EndsOver : Status → (ended : Option SessionResult) → (bytes rest : List ℕ) → Type 0
EndsOver s (Some result) bytes rest = s ≡ session_status result
EndsOver s None bytes rest = HasNoFrame rest → EndsBehind s bytes rest

-- The status is that of the frames at the start of the bytes that a session may take, or memory ran out. Of two lists
-- of such frames one goes on from the other, and a session that has ended stays so.
abbrev pub EndsAsBytes : {S : Type 0} → (does : S → Frame → Course S) → (begin : Course S) → Status → (bytes : List ℕ) → Type 0
EndsAsBytes does begin s bytes =
    ((frames : List Frame) (rest : List ℕ) → HandsOut (take input_limit bytes) [] frames rest → EndsOver s (exchange does begin frames).ended bytes rest) ⊎ (s ≡ status.Memory)
