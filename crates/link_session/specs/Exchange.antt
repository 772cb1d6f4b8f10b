-- What an end of a session does with the frames that come.
use Rattle.std.specs.Prelude.{ℕ, List, [], ◌∷◌, ◌++◌, Option, Some, None, Result, Err}
use Rattle.std.specs.List.{fold}
use Rattle.std.specs.Option.{option_map_or}
use Rattle.link_frames.specs.declared.frame.Frame.{Frame}
use Rattle.link_frames.specs.declared.frame.Frame.TheVariants as frame
use Rattle.link_frames.specs.Frames.{bad_frame}
use Rattle.link_session.specs.declared.fault.PeerFault.{PeerFault}
use Rattle.link_session.specs.declared.fault.SessionFault.{SessionFault}
use Rattle.link_session.specs.declared.fault.SessionFault.TheVariants.{PeerRefused}

abbrev pub SessionResult : Type 0
SessionResult = Result (Unit {0}) SessionFault

-- What an end has done: what it said over the link and told its output, what it knows now, and how its session ended, if
-- it has.
pub record Course (S : Type 0) : Type 0 where
  pub sent : List Frame
  pub told : List ℕ
  pub now : S
  pub ended : Option SessionResult

-- ---- what an end may do with a frame

abbrev pub nothing : {S : Type 0} → S → Course S
nothing now = record { sent = []; told = []; now = now; ended = None }

abbrev pub says : {S : Type 0} → Frame → S → Course S
says f now = record { sent = f ∷ []; told = []; now = now; ended = None }

-- it ends the session without a word
abbrev pub ends : {S : Type 0} → SessionResult → S → Course S
ends result now = record { sent = []; told = []; now = now; ended = Some result }

-- it says a frame and ends the session
abbrev pub leaves : {S : Type 0} → Frame → SessionResult → S → Course S
leaves f result now = record { sent = f ∷ []; told = []; now = now; ended = Some result }

-- it says that a frame was bad and ends the session
abbrev pub refuses : {S : Type 0} → PeerFault → S → Course S
refuses fault now = leaves (frame.Bye bad_frame) (Err (PeerRefused fault)) now

-- ---- one thing behind the other

abbrev pub both : {S : Type 0} → Course S → Course S → Course S
both course more = record { sent = course.sent ++ more.sent; told = course.told ++ more.told; now = more.now; ended = more.ended }

-- the end goes on with this, unless its session has ended
abbrev pub then_does : {S : Type 0} → Course S → (S → Course S) → Course S
then_does course next = option_map_or (λ _. course) course.ended (both course (next course.now))

-- what an end that does this with a frame does with many, one by one
abbrev pub exchange : {S : Type 0} → (S → Frame → Course S) → Course S → List Frame → Course S
exchange does begin frames = fold (λ course f. then_does course (λ now. does now f)) begin frames

-- and then with a fault that stands in place of the next frame, if there is one
abbrev pub broken_by : {S : Type 0} → Option PeerFault → Course S → Course S
broken_by None course = course
broken_by (Some fault) course = then_does course (refuses fault)
