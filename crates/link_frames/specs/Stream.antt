-- The frames that stand in a list of bytes, one behind the other, and what may stand behind them: the beginning of
-- one more, or bytes at which no frame goes on.
use Rattle.std.specs.Prelude.{◌≡◌, ◌≢◌, ℕ, ◌+◌, ◌<◌, ◌≤◌, List, [], ◌∷◌, ◌++◌, length, take, drop}
use Rattle.std.specs.List.{flat_map, AllByRecursion}
use Rattle.byteorder.specs.Endian.{little_number}
use Rattle.link_frames.specs.declared.frame.Frame.{Frame}
use Rattle.link_frames.specs.Frames.{body_limit, frame_bytes, HasSpelling, IsNoBody}

-- The bytes are these frames, one behind the other, and then others. From `before` to `now` the frames were added.
pub record HandsOut (bytes : List ℕ) (before now : List Frame) (rest : List ℕ) : Type 0 where
  pub found : List Frame
  pub handed : now ≡ before ++ found
  pub frames : AllByRecursion HasSpelling found
  pub spelt : bytes ≡ flat_map frame_bytes found ++ rest

-- no frame stands at the start of the bytes
abbrev pub HasNoFrame : List ℕ → Type 0
HasNoFrame bytes = (f : Frame) (more : List ℕ) → HasSpelling f → bytes ≢ frame_bytes f ++ more

-- the length of a body that the first four bytes say
abbrev pub said : List ℕ → ℕ
said bytes = little_number 4 bytes

-- what stands behind the first four bytes, as long as these say
abbrev pub body : List ℕ → List ℕ
body bytes = take (said bytes) (drop 4 bytes)

-- A frame is under way: fewer than four bytes are there, or they say a length that a body may have, and not all of
-- the body is there.
pub record IsOpen (bytes : List ℕ) : Type 0 where
  pub short : 4 ≤ length bytes → said bytes ≤ body_limit
  pub part : 4 ≤ length bytes → length bytes < 4 + said bytes

-- the first four bytes say a length that no body may have
pub record IsTooLong (bytes : List ℕ) : Type 0 where
  pub there : 4 ≤ length bytes
  pub long : body_limit < said bytes

-- all of a body is there, and no frame has it
pub record IsBad (bytes : List ℕ) : Type 0 where
  pub there : 4 ≤ length bytes
  pub short : said bytes ≤ body_limit
  pub whole : 4 + said bytes ≤ length bytes
  pub none : IsNoBody (body bytes)

-- A reader that holds these bytes is fed the pieces, one after the other. From `before` to `now` the frames of each
-- piece were added, and in the end the reader holds `rest`.
abbrev pub Feeds : List ℕ → List (List ℕ) → List Frame → List Frame → List ℕ → Type 0
Feeds held [] before now rest = (now ≡ before) × (rest ≡ held)
Feeds held (piece ∷ pieces) before now rest = (next : List Frame) × (end : List ℕ)
    × HandsOut (held ++ piece) before next end × IsOpen end × Feeds end pieces next now rest

-- no more bytes are there than the first four say
abbrev pub IsWithin : List ℕ → Type 0
IsWithin bytes = 4 ≤ length bytes → length bytes ≤ 4 + said bytes
