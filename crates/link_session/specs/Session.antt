-- What a session over a link comes to, whichever end it is of.
use Rattle.std.specs.Prelude.{◌≡◌, ℕ, ◌<◌, ◌≤◌, Bool, true, false, List, [], ◌∷◌, ◌++◌, length, take, Option, Some, None, IfSome, OnOk, Result, Ok, Err}
use Rattle.std.specs.List.{flat_map}
use Rattle.host_model.specs.Link.{Sends, SendsPrefix}
use Rattle.host_model.specs.Source.{Takes}
use Rattle.line_stream.specs.Run.{input_limit}
use Rattle.link_frames.specs.declared.frame.Frame.{Frame}
use Rattle.link_frames.specs.declared.frame.Frame.TheVariants as frame
use Rattle.link_frames.specs.Frames.{bad_frame, frame_bytes}
use Rattle.link_frames.specs.Stream.{HandsOut, IsBad, IsOpen, IsTooLong}
use Rattle.agent_core.specs.declared.fault.AgentFault.{AgentFault}
use Rattle.agent_core.specs.declared.fault.AgentFault.TheVariants as agent
use Rattle.link_session.specs.declared.fault.PeerFault.{PeerFault}
use Rattle.link_session.specs.declared.fault.PeerFault.TheVariants.{WrongChild, BadFrame, FrameTooLong}
use Rattle.link_session.specs.declared.fault.SessionFault.{SessionFault}
use Rattle.link_session.specs.declared.fault.SessionFault.TheVariants.{LinkFault, Agent, PeerRefused, Ended, InputLimit, TellFault, Memory}
use Rattle.link_session.specs.declared.flow.Flow.{Flow}
use Rattle.link_session.specs.declared.flow.Flow.TheVariants.{GoesOn, Done}
use Rattle.link_session.specs.Exchange.{broken_by, exchange, Course, SessionResult}

-- what contracts see of a link
pub record LinkSeen : Type 0 where
  -- the bytes that were sent so far, and those still to come, where the link tells them
  pub sent : Option (List ℕ)
  pub left : Option (List ℕ)
  -- how many calls have failed
  pub faults : ℕ

abbrev pub link_seen : Option (List ℕ) → Option (List ℕ) → ℕ → LinkSeen
link_seen sent left faults = record { sent = sent; left = left; faults = faults }

-- the faults of an agent at which it has done nothing of what it was asked
abbrev pub is_refusal : AgentFault → Bool
is_refusal (agent.Refused why) = true
is_refusal fault = false

-- at all other results all that was to be said was said
abbrev pub says_all : SessionResult → Bool
says_all (Err LinkFault) = false
says_all (Err TellFault) = false
says_all (Err Memory) = false
says_all (Err (Agent fault)) = is_refusal fault
says_all result = true

-- a prefix of the bytes of these frames was sent, and all of them where `all` says so
pub record SaysPrefix (all : Bool) (frames : List Frame) (sent sent' : Option (List ℕ)) : Type 0 where
  pub said : List ℕ
  pub unsaid : List ℕ
  pub whole : flat_map frame_bytes frames ≡ said ++ unsaid
  pub sends : Sends sent said sent'
  pub complete : all ≡ true → unsaid ≡ []

-- at least these bytes were sent
abbrev pub SendsAtLeast : Option (List ℕ) → List ℕ → Option (List ℕ) → Type 0
SendsAtLeast sent bytes sent' = (more : List ℕ) × Sends sent (bytes ++ more) sent'

-- such a fault stands behind the frames
abbrev pub IsBrokenBy : Option PeerFault → List ℕ → Type 0
IsBrokenBy None rest = Unit {0}
IsBrokenBy (Some WrongChild) rest = ⊥
IsBrokenBy (Some BadFrame) rest = IsBad rest
IsBrokenBy (Some FrameTooLong) rest = IsTooLong rest

-- why a session of an agent that is of a history ended with this fault of the agent
abbrev pub IsAgentEnd : AgentFault → Option SessionResult → Type 0
IsAgentEnd (agent.Refused why) ended = ended ≡ Some (Err (Agent (agent.Refused why)))
IsAgentEnd agent.DiskFault ended = Unit {0}
IsAgentEnd agent.Memory ended = Unit {0}
IsAgentEnd fault ended = ⊥

-- why a session ended so over these bytes, of which `rest` stands behind the frames
abbrev pub IsEndFor : SessionResult → (ended : Option SessionResult) → (taken rest : List ℕ) → (left' : Option (List ℕ)) → Type 0
IsEndFor (Ok done) ended taken rest left' = ended ≡ Some (Ok tt)
IsEndFor (Err LinkFault) ended taken rest left' = Unit {0}
IsEndFor (Err (Agent fault)) ended taken rest left' = IsAgentEnd fault ended
IsEndFor (Err (PeerRefused fault)) ended taken rest left' = ended ≡ Some (Err (PeerRefused fault))
IsEndFor (Err Ended) ended taken rest left' = (ended ≡ None) × IsOpen rest × (length taken < input_limit) × IfSome left' (λ bytes. bytes ≡ [])
IsEndFor (Err InputLimit) ended taken rest left' = (ended ≡ None) × IsOpen rest × (length taken ≡ input_limit)
IsEndFor (Err TellFault) ended taken rest left' = Unit {0}
IsEndFor (Err Memory) ended taken rest left' = Unit {0}

-- A session took these bytes of its link and ended with this result: it did what an end does with the frames in them, and
-- with what broke the bytes behind them, if it came to that. Behind a frame at which it ended, or at whose answer something
-- failed, it looked at nothing.
pub record Exchanges {S : Type 0} (does : S → Frame → Course S) (begin : Course S) (result : SessionResult) (link link' : LinkSeen) : Type 0 where
  pub taken : List ℕ
  pub takes : Takes link.left taken link'.left
  pub within : length taken ≤ input_limit
  pub frames : List Frame
  pub rest : List ℕ
  pub cut : HandsOut taken [] frames rest
  pub broken : Option PeerFault
  pub breaks : IsBrokenBy broken rest
  pub says : SaysPrefix (says_all result) (broken_by broken (exchange does begin frames)).sent link.sent link'.sent
  pub why : IsEndFor result (broken_by broken (exchange does begin frames)).ended taken rest link'.left
  -- where more frames than these were looked at, what was said answers at least these: none waits for a later one
  pub in_turn : (n : ℕ) → n < length frames → SendsAtLeast link.sent (flat_map frame_bytes (exchange does begin (take n frames)).sent) link'.sent

-- ---- a session under way

-- A session goes on that has taken these frames: it has done what the exchange says, and knows this.
pub record Talks {S : Type 0} (does : S → Frame → Course S) (begin : Course S) (frames : List Frame) (now : S) (sent sent' : Option (List ℕ)) : Type 0 where
  pub goes_on : (exchange does begin frames).ended ≡ None
  pub now_is : (exchange does begin frames).now ≡ now
  pub sends : Sends sent (flat_map frame_bytes (exchange does begin frames).sent) sent'

-- a session goes on or ends so at a frame, unless something failed
abbrev pub ClosesSo : Result Flow SessionFault → (ended : Option SessionResult) → Type 0
ClosesSo (Ok GoesOn) ended = ended ≡ None
ClosesSo (Ok Done) ended = ended ≡ Some (Ok tt)
ClosesSo (Err LinkFault) ended = Unit {0}
ClosesSo (Err (Agent fault)) ended = IsAgentEnd fault ended
ClosesSo (Err (PeerRefused fault)) ended = ended ≡ Some (Err (PeerRefused fault))
ClosesSo (Err Ended) ended = ⊥
ClosesSo (Err InputLimit) ended = ⊥
ClosesSo (Err TellFault) ended = Unit {0}
ClosesSo (Err Memory) ended = Unit {0}

-- how a session ends that goes on or ends so at a frame
abbrev pub result_of : Result Flow SessionFault → SessionResult
result_of (Ok flow) = Ok tt
result_of (Err fault) = Err fault

-- an end did this at a frame and knows `now`, or something failed while it did
pub record DoesSo {S : Type 0} (course : Course S) (now : S) (result : Result Flow SessionFault) (sent sent' : Option (List ℕ)) : Type 0 where
  pub says : SaysPrefix (says_all (result_of result)) course.sent sent sent'
  pub closes : ClosesSo result course.ended
  pub now_is : OnOk result (course.now ≡ now)

-- the frame was said, or a prefix of it
abbrev pub Says : Frame → SessionResult → (sent sent' : Option (List ℕ)) → Type 0
Says f (Ok done) sent sent' = Sends sent (frame_bytes f) sent'
Says f (Err LinkFault) sent sent' = SendsPrefix sent (frame_bytes f) sent'
Says f (Err Memory) sent sent' = sent' ≡ sent
Says f (Err fault) sent sent' = ⊥

-- the frame was said, and the session goes on or is done so, or a prefix of the frame was
abbrev pub SaysThen : Frame → Flow → Result Flow SessionFault → (sent sent' : Option (List ℕ)) → Type 0
SaysThen f flow (Ok became) sent sent' = (became ≡ flow) × Sends sent (frame_bytes f) sent'
SaysThen f flow (Err fault) sent sent' = Says f (Err fault) sent sent'

-- the faults with which an end refuses the other
abbrev pub IsRefusing : SessionFault → Type 0
IsRefusing LinkFault = Unit {0}
IsRefusing (PeerRefused fault) = Unit {0}
IsRefusing Memory = Unit {0}
IsRefusing fault = ⊥

-- An end goes for this reason: it said so, and this fault is how the session ends, or it said a prefix of that.
abbrev pub Leaves : ℕ → PeerFault → SessionFault → (sent sent' : Option (List ℕ)) → Type 0
Leaves reason fault (PeerRefused other) sent sent' = (other ≡ fault) × Sends sent (frame_bytes (frame.Bye reason)) sent'
Leaves reason fault ended sent sent' = Says (frame.Bye reason) (Err ended) sent sent'

-- the end says so of such a fault
abbrev pub bye_for : Option PeerFault → List Frame
bye_for None = []
bye_for (Some fault) = frame.Bye bad_frame ∷ []

-- why no frame was heard
abbrev pub IsSilentFor : SessionFault → (broken : Option PeerFault) → (taken rest : List ℕ) → (left' : Option (List ℕ)) → Type 0
IsSilentFor LinkFault broken taken rest left' = Unit {0}
IsSilentFor Memory broken taken rest left' = Unit {0}
IsSilentFor (PeerRefused fault) broken taken rest left' = broken ≡ Some fault
IsSilentFor Ended broken taken rest left' = (broken ≡ None) × IsOpen rest × (length taken < input_limit) × IfSome left' (λ bytes. bytes ≡ [])
IsSilentFor InputLimit broken taken rest left' = (broken ≡ None) × IsOpen rest × (length taken ≡ input_limit)
IsSilentFor fault broken taken rest left' = ⊥

-- behind these frames no other was heard, and so the session ended
pub record HearsNoMore (fault : SessionFault) (frames : List Frame) (left : Option (List ℕ)) (link link' : LinkSeen) : Type 0 where
  pub taken : List ℕ
  pub takes : Takes left taken link'.left
  pub within : length taken ≤ input_limit
  pub rest : List ℕ
  pub cut : HandsOut taken [] frames rest
  pub broken : Option PeerFault
  pub breaks : IsBrokenBy broken rest
  pub says : SaysPrefix (says_all (Err fault)) (bye_for broken) link.sent link'.sent
  pub why : IsSilentFor fault broken taken rest link'.left
