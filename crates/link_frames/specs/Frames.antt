-- Frames: how each is spelt, and which have a spelling.
use Rattle.std.specs.Prelude.{◌≡◌, ◌≢◌, ◌⊎◌, ℕ, ◌<◌, ◌≤◌, ◌^◌, List, ◌∷◌, ◌++◌, length}
use Rattle.field_codec.specs.Spelling.{u8_bytes, u32_bytes, u64_bytes, sized_bytes}
use Rattle.replication.specs.declared.ask.Ask.{Ask}
use Rattle.replication.specs.Bytes.{data_bytes}
use Rattle.link_frames.specs.declared.frame.Frame.{Frame}
use Rattle.link_frames.specs.declared.frame.Frame.TheVariants as frame
use Rattle.link_frames.specs.declared.frame.TheConstants.{BODY_LIMIT}
use Rattle.link_frames.specs.DataForm.{IsData}
use Rattle.link_frames.specs.Fields.{FitsAsk, FitsMessage}

-- ---- spelling
unfoldable pub ask_bytes : Ask → List ℕ
ask_bytes ask = u64_bytes ask.child ++ u32_bytes ask.last

-- the body of a frame: the byte of its kind, and its fields
unfoldable pub body_bytes : Frame → List ℕ
body_bytes (frame.Hello child) = 1 ∷ u64_bytes child
body_bytes (frame.Ask ask) = 2 ∷ ask_bytes ask
body_bytes (frame.Data message) = data_bytes message
body_bytes (frame.Have last) = 4 ∷ u32_bytes last
body_bytes (frame.Bye reason) = 5 ∷ u8_bytes reason

-- a frame: the length of its body in four bytes, and the body
unfoldable pub frame_bytes : Frame → List ℕ
frame_bytes f = sized_bytes (body_bytes f)

-- ---- which have a spelling
-- its numbers, texts and lists fit their fields
abbrev pub HasFields : Frame → Type 0
HasFields (frame.Hello child) = child < 2 ^ 64
HasFields (frame.Ask ask) = FitsAsk ask
HasFields (frame.Data message) = FitsMessage message
HasFields (frame.Have last) = last < 2 ^ 32
HasFields (frame.Bye reason) = reason < 2 ^ 8

-- why an end goes
abbrev pub done : ℕ
done = 0

abbrev pub wrong_child : ℕ
wrong_child = 1

abbrev pub bad_frame : ℕ
bad_frame = 2

-- it is one that an end of a link may send
abbrev pub IsInForm : Frame → Type 0
IsInForm (frame.Hello child) = Unit {0}
IsInForm (frame.Ask ask) = Unit {0}
IsInForm (frame.Data message) = IsData message
IsInForm (frame.Have last) = Unit {0}
IsInForm (frame.Bye reason) = (reason ≡ done) ⊎ (reason ≡ wrong_child) ⊎ (reason ≡ bad_frame)

-- the most bytes that the body of a frame may have
abbrev pub body_limit : ℕ
body_limit = BODY_LIMIT

-- the frames that have a spelling
pub record HasSpelling (f : Frame) : Type 0 where
  pub fields : HasFields f
  pub form : IsInForm f
  pub within : length (body_bytes f) ≤ body_limit

-- no frame has this body
abbrev pub IsNoBody : List ℕ → Type 0
IsNoBody bytes = (f : Frame) → HasSpelling f → bytes ≢ body_bytes f
