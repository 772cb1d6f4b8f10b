-- What a session takes of its link, whatever its host tells.
use Rattle.std.specs.Prelude.{◌≡◌, ◌⊎◌, ℕ, ◌<◌, ◌≤◌, List, [], ◌∷◌, ◌++◌, length, Option, Some, None, IfSome, Result, Ok, Err}
use Rattle.host_model.specs.Source.{Takes}
use Rattle.line_stream.specs.Run.{input_limit}
use Rattle.replication.specs.declared.message.Data.{Data}
use Rattle.link_frames.specs.declared.frame.Frame.{Frame}
use Rattle.link_frames.specs.declared.frame.Frame.TheVariants as frame
use Rattle.link_frames.specs.Frames.{done, wrong_child}
use Rattle.link_frames.specs.Stream.{HandsOut, IsOpen}
use Rattle.link_session.specs.declared.fault.PeerFault.TheVariants.{WrongChild, BadFrame}
use Rattle.link_session.specs.declared.fault.SessionFault.{SessionFault}
use Rattle.link_session.specs.declared.fault.SessionFault.TheVariants.{PeerRefused, Ended, InputLimit}
use Rattle.link_session.specs.declared.flow.Flow.{Flow}
use Rattle.link_session.specs.declared.flow.Flow.TheVariants.{GoesOn, Done}
use Rattle.link_session.specs.Exchange.{SessionResult}
use Rattle.link_session.specs.Session.{IsBrokenBy, LinkSeen}

-- ---- at which frames an end may end its session, by the frames alone

-- a parent asks a child with this id, or has what that sent
abbrev pub AsksChild : ℕ → Frame → Type 0
AsksChild id (frame.Ask ask) = ask.child ≡ id
AsksChild id (frame.Have last) = Unit {0}
AsksChild id f = ⊥

-- A child with this id may find this frame bad, or is told by it that one of its own was. Which Have is bad depends on what it
-- said.
abbrev pub IsBadToChild : ℕ → Frame → Type 0
IsBadToChild id (frame.Ask ask) = ask.child ≡ id → ⊥
IsBadToChild id (frame.Bye reason) = reason ≡ wrong_child → ⊥
IsBadToChild id f = Unit {0}

-- a child with this id may end its session so at this frame
abbrev pub ChildEndsAt : ℕ → SessionResult → Frame → Type 0
ChildEndsAt id (Ok end) f = AsksChild id f
ChildEndsAt id (Err (PeerRefused WrongChild)) f = f ≡ frame.Bye wrong_child
ChildEndsAt id (Err (PeerRefused BadFrame)) f = IsBadToChild id f
ChildEndsAt id result f = ⊥

-- a parent may end its session so at its first frame, which is to be a Hello
abbrev pub ParentEndsAtFirst : SessionResult → Frame → Type 0
ParentEndsAtFirst (Err (PeerRefused WrongChild)) f = (id : ℕ) × (f ≡ frame.Hello id)
ParentEndsAtFirst (Err (PeerRefused BadFrame)) f = (id : ℕ) → f ≡ frame.Hello id → ⊥
ParentEndsAtFirst result f = ⊥

-- and so at a later one, which is to be a Data, or a Bye that says that the child is done
abbrev pub ParentEndsAtLater : SessionResult → Frame → Type 0
ParentEndsAtLater (Ok end) f = f ≡ frame.Bye done
ParentEndsAtLater (Err (PeerRefused WrongChild)) f = (message : Data) × (f ≡ frame.Data message)
ParentEndsAtLater (Err (PeerRefused BadFrame)) f = ((message : Data) → f ≡ frame.Data message → ⊥) × (f ≡ frame.Bye done → ⊥)
ParentEndsAtLater result f = ⊥

abbrev pub ParentEndsAt : SessionResult → (before : List Frame) → Frame → Type 0
ParentEndsAt result [] f = ParentEndsAtFirst result f
ParentEndsAt result (first ∷ others) f = ParentEndsAtLater result f

-- the same, by what a parent knows of its child: its id, from the first frame on
abbrev pub ParentEndsBy : (peer : Option ℕ) → SessionResult → Frame → Type 0
ParentEndsBy None result f = ParentEndsAtFirst result f
ParentEndsBy (Some id) result f = ParentEndsAtLater result f

-- ---- what a session took

-- the last of these frames is one at which an end may end its session so
pub record EndsAtLast (EndsAt : SessionResult → List Frame → Frame → Type 0) (result : SessionResult) (frames : List Frame) : Type 0 where
  pub before : List Frame
  pub final : Frame
  pub whole : frames ≡ before ++ final ∷ []
  pub ends : EndsAt result before final

-- why a session ended so that took these bytes, which are these frames and the rest, as far as the bytes say it
abbrev pub IsEndOver : (EndsAt : SessionResult → List Frame → Frame → Type 0) → SessionResult → List Frame → (taken rest : List ℕ) → (left' : Option (List ℕ)) → Type 0
IsEndOver EndsAt (Ok end) frames taken rest left' = EndsAtLast EndsAt (Ok tt) frames
IsEndOver EndsAt (Err (PeerRefused fault)) frames taken rest left' = EndsAtLast EndsAt (Err (PeerRefused fault)) frames ⊎ IsBrokenBy (Some fault) rest
IsEndOver EndsAt (Err Ended) frames taken rest left' = IsOpen rest × (length taken < input_limit) × IfSome left' (λ bytes. bytes ≡ [])
IsEndOver EndsAt (Err InputLimit) frames taken rest left' = IsOpen rest × (length taken ≡ input_limit)
IsEndOver EndsAt (Err fault) frames taken rest left' = Unit {0}

-- A session took these bytes of its link and ended with this result: no more of them than may be taken. They are the frames
-- that it heard and the rest, and say why it ended, unless the link, the agent, the output or memory failed. `EndsAt` says at
-- which frame, behind those before, an end may end its session so.
pub record TakesLink (EndsAt : SessionResult → List Frame → Frame → Type 0) (result : SessionResult) (link link' : LinkSeen) : Type 0 where
  pub taken : List ℕ
  pub takes : Takes link.left taken link'.left
  pub within : length taken ≤ input_limit
  pub frames : List Frame
  pub rest : List ℕ
  pub cut : HandsOut taken [] frames rest
  pub why : IsEndOver EndsAt result frames taken rest link'.left

-- a session goes on or ends so at a frame, unless something failed: it ends only where this says that it may
abbrev pub EndsOnlyAt : (May : SessionResult → Type 0) → Result Flow SessionFault → Type 0
EndsOnlyAt May (Ok GoesOn) = Unit {0}
EndsOnlyAt May (Ok Done) = May (Ok tt)
EndsOnlyAt May (Err (PeerRefused fault)) = May (Err (PeerRefused fault))
EndsOnlyAt May (Err Ended) = ⊥
EndsOnlyAt May (Err InputLimit) = ⊥
EndsOnlyAt May (Err fault) = Unit {0}
