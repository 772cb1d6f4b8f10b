-- How the frames of a link are taken, one by one.
use Rattle.std.specs.Prelude.{◌≡◌, ℕ, ◌+◌, ◌-◌, ◌<◌, ◌≤◌, List, [], ◌++◌, length, drop, slice_get, Option, Some, None, IfSome}
use Rattle.host_model.specs.Source.{Takes}
use Rattle.line_stream.specs.Run.{input_limit}
use Rattle.link_frames.specs.declared.fault.FrameFault.{FrameFault}
use Rattle.link_frames.specs.declared.fault.FrameFault.TheVariants as frame_fault
use Rattle.link_frames.specs.declared.frame.Frame.{Frame}
use Rattle.link_frames.specs.Stream.{HandsOut, IsBad, IsOpen, IsTooLong}
use Rattle.link_session.specs.declared.fault.PeerFault.TheVariants.{BadFrame, FrameTooLong}
use Rattle.link_session.specs.declared.fault.SessionFault.{SessionFault}
use Rattle.link_session.specs.declared.fault.SessionFault.TheVariants.{LinkFault, PeerRefused, Ended, InputLimit, Memory}
use Rattle.link_session.specs.declared.incoming.Incoming.{Incoming}

-- what a refusal of a reader is for a session
abbrev pub reading_fault : FrameFault → SessionFault
reading_fault frame_fault.FrameTooLong = PeerRefused FrameTooLong
reading_fault frame_fault.BadFrame = PeerRefused BadFrame
reading_fault frame_fault.Memory = Memory

-- the frames that were taken and not given yet
abbrev pub waiting : Incoming → List Frame
waiting incoming = drop incoming.given incoming.frames

-- the frame that was given last
abbrev pub current : Incoming → Option Frame
current incoming = slice_get incoming.frames (incoming.given - 1)

-- how much there is to do at most: bytes to take, and frames to give
abbrev pub work_left : Incoming → ℕ
work_left incoming = incoming.budget + length incoming.reader.rest + (length incoming.frames - incoming.given)

-- These bytes stand behind the frames: those that a reader holds, where it goes on, and else those that it refused.
abbrev pub StandsBehind : Option FrameFault → (held rest : List ℕ) → Type 0
StandsBehind None held rest = (held ≡ rest) × IsOpen rest
StandsBehind (Some frame_fault.FrameTooLong) held rest = IsTooLong rest
StandsBehind (Some frame_fault.BadFrame) held rest = IsBad rest
StandsBehind (Some frame_fault.Memory) held rest = Unit {0}

-- Of a link that had `left` to come and has `left'`, the bytes that were taken are the frames that were given, those
-- that wait, and others.
pub record HasGiven (incoming : Incoming) (left left' : Option (List ℕ)) (frames : List Frame) : Type 0 where
  pub taken : List ℕ
  pub takes : Takes left taken left'
  pub spent : length taken + incoming.budget ≡ input_limit
  pub rest : List ℕ
  pub cut : HandsOut taken [] (frames ++ waiting incoming) rest
  pub behind : StandsBehind incoming.reader.refused incoming.reader.rest rest

-- why no frame comes behind those of the bytes that were taken
abbrev pub IsEndOf : SessionFault → (taken rest : List ℕ) → (left' : Option (List ℕ)) → Type 0
IsEndOf LinkFault taken rest left' = Unit {0}
IsEndOf (PeerRefused FrameTooLong) taken rest left' = IsTooLong rest
IsEndOf (PeerRefused BadFrame) taken rest left' = IsBad rest
IsEndOf Ended taken rest left' = IsOpen rest × (length taken < input_limit) × IfSome left' (λ bytes. bytes ≡ [])
IsEndOf InputLimit taken rest left' = IsOpen rest × (length taken ≡ input_limit)
IsEndOf Memory taken rest left' = Unit {0}
IsEndOf fault taken rest left' = ⊥

-- Of a link that had `left` to come and has `left'`, the bytes that were taken are these frames and others, and for this
-- reason no frame follows.
pub record HasNoMore (fault : SessionFault) (left left' : Option (List ℕ)) (frames : List Frame) : Type 0 where
  pub taken : List ℕ
  pub takes : Takes left taken left'
  pub within : length taken ≤ input_limit
  pub rest : List ℕ
  pub cut : HandsOut taken [] frames rest
  pub why : IsEndOf fault taken rest left'
