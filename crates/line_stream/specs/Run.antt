-- How a run over a text ends.
use Rattle.std.specs.Prelude.{◌≡◌, ℕ, ◌+◌, ◌<◌, ◌≤◌, true, false, List, [], ◌∷◌, ◌++◌, length, Option, IfSome, Err}
use Rattle.std.specs.List.{AllPass}
use Rattle.host_model.specs.Source.{Takes}
use Rattle.host_model.specs.declared.status.Status.{Status}
use Rattle.host_model.specs.declared.status.Status.TheVariants.{ReadFault, InputLimit, Memory}
use Rattle.plugin_text.specs.Lines.{parts, lines, rest, fits, HasNoLongLine, BeginsWithLines}
use Rattle.line_stream.specs.declared.stream.TheConstants.{INPUT_LIMIT}
use Rattle.line_stream.specs.Chain.{Acts, Chain, HasPaused}

-- how many bytes of its input a run takes at most
abbrev pub input_limit : ℕ
input_limit = INPUT_LIMIT

-- these lines of the text were taken, and none of them is too long
pub record TookPrefix {T H : Type 0} (acts : Acts T H) (taker : T) (host : H) (text : List ℕ) (prefix : List (List ℕ)) (taker' : T) (host' : H) : Type 0 where
  pub begins : BeginsWithLines text prefix
  pub chain : Chain acts taker host prefix taker' host'

-- all lines of the text were taken, and neither they nor the bytes behind the last line feed are too long
pub record TookAll {T H : Type 0} (acts : Acts T H) (taker : T) (host : H) (text : List ℕ) (taker' : T) (host' : H) : Type 0 where
  pub short : HasNoLongLine text
  pub chain : Chain acts taker host (lines text) taker' host'

-- Why a run over this text ended with this status. `left` is what the source has left, where it tells.
pub data Ended {T H : Type 0} (acts : Acts T H) (status : Status) (taker : T) (host : H) (text : List ℕ) (taker'' : T) (host'' : H) (left : Option (List ℕ)) (source_rose : Type 0) : Type 0 where
  -- a line of the text ended it
  at_line : (prefix : List (List ℕ)) (line next : List ℕ) (more : List (List ℕ)) (taker' : T) (host' : H) → parts text ≡ prefix ++ line ∷ next ∷ more
      → AllPass fits prefix → fits line ≡ true → Chain acts taker host prefix taker' host' → acts.takes taker' host' (length prefix + 1) line (Err status) taker'' host''
      → Ended acts status taker host text taker'' host'' left source_rose
  -- it ended between two pieces
  at_pause : (taker' : T) (host' : H) → TookAll acts taker host text taker' host' → acts.pauses taker' host' (Err status) taker'' host''
      → Ended acts status taker host text taker'' host'' left source_rose
  -- the line after these, or what has come of it, is too long
  at_long_line : (prefix : List (List ℕ)) (long : List ℕ) (more : List (List ℕ)) (taker' : T) (host' : H) → parts text ≡ prefix ++ long ∷ more
      → AllPass fits prefix → fits long ≡ false → Chain acts taker host prefix taker' host' → acts.overflows taker' host' (length prefix + 1) status taker'' host''
      → Ended acts status taker host text taker'' host'' left source_rose
  -- the input ended
  at_end : (taker' : T) (host' : H) → length text < input_limit → IfSome left (λ bytes. bytes ≡ []) → TookAll acts taker host text taker' host'
      → acts.ends taker' host' (length (lines text)) (rest text) status taker'' host'' → Ended acts status taker host text taker'' host'' left source_rose
  -- the source failed behind a pause, before as many bytes were taken as may be
  at_fault : status ≡ ReadFault → source_rose → length text < input_limit → TookAll acts taker host text taker'' host'' → HasPaused acts taker host taker'' host''
      → Ended acts status taker host text taker'' host'' left source_rose
  -- as many bytes were taken as may be, and no end had come
  at_limit : status ≡ InputLimit → length text ≡ input_limit → TookAll acts taker host text taker'' host'' → Ended acts status taker host text taker'' host'' left source_rose
  -- there was no memory
  at_want : (prefix : List (List ℕ)) → status ≡ Memory → TookPrefix acts taker host text prefix taker'' host'' → Ended acts status taker host text taker'' host'' left source_rose

-- a run took these bytes of the source, and ended
pub record Ran {T H : Type 0} (acts : Acts T H) (status : Status) (taker : T) (host : H) (taker' : T) (host' : H) (left left' : Option (List ℕ)) (source_rose : Type 0) : Type 0 where
  pub text : List ℕ
  pub takes : Takes left text left'
  pub within : length text ≤ input_limit
  pub ended : Ended acts status taker host text taker' host' left' source_rose

-- a run took so much of the source, and goes on
pub record Running (Held : List ℕ → Type 0) (budget : ℕ) (left left' : Option (List ℕ)) : Type 0 where
  pub text : List ℕ
  pub takes : Takes left text left'
  pub held : Held text
  pub spent : length text + budget ≡ input_limit

-- one step of a run: bytes of the source were taken, and it goes on
pub record Steps (Held : List ℕ → Type 0) (size : ℕ) (text : List ℕ) (left left' : Option (List ℕ)) : Type 0 where
  pub bytes : List ℕ
  pub takes : Takes left bytes left'
  pub size_is : length bytes ≡ size
  pub held : Held (text ++ bytes)

-- one step of a run: it ends
pub record Stops {T H : Type 0} (acts : Acts T H) (status : Status) (taker : T) (host : H) (text : List ℕ) (taker' : T) (host' : H) (left left' : Option (List ℕ)) (source_rose : Type 0) : Type 0 where
  pub bytes : List ℕ
  pub takes : Takes left bytes left'
  pub within : length (text ++ bytes) ≤ input_limit
  pub ended : Ended acts status taker host (text ++ bytes) taker' host' left' source_rose
