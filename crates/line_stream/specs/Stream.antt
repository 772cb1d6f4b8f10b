-- How a stream goes from piece to piece.
use Rattle.std.specs.Prelude.{◌≡◌, ℕ, ◌+◌, List, [], ◌∷◌, ◌++◌, length, None, Result, Err, MatchResult}
use Rattle.host_model.specs.declared.status.Status.{Status}
use Rattle.plugin_text.specs.Lines.{lines, rest, IsRest}
use Rattle.line_stream.specs.declared.stream.Stream.{Stream}
use Rattle.line_stream.specs.Chain.{Acts, Chain, HasPaused}
use Rattle.line_stream.specs.Run.{TookAll}

-- one of these lines, behind those of the prefix, ended the run
pub record BrokeAt {T H : Type 0} (acts : Acts T H) (status : Status) (taker : T) (host : H) (prefix handed : List (List ℕ)) (taker'' : T) (host'' : H) : Type 0 where
  pub before : List (List ℕ)
  pub line : List ℕ
  pub more : List (List ℕ)
  pub taker' : T
  pub host' : H
  pub whole : handed ≡ before ++ line ∷ more
  pub chain : Chain acts taker host (prefix ++ before) taker' host'
  pub broke : acts.takes taker' host' (length (prefix ++ before) + 1) line (Err status) taker'' host''

-- these lines were taken behind those of the prefix, or one of them ended the run
abbrev pub HandsOver : {T H R : Type 0} → Acts T H → T → H → List (List ℕ) → List (List ℕ) → Result R Status → T → H → Type 0
HandsOver acts taker host prefix handed result taker' host' =
    MatchResult result (λ _. Chain acts taker host (prefix ++ handed) taker' host') (λ status. BrokeAt acts status taker host prefix handed taker' host')

-- the stream holds what follows the last line feed of this text, all of whose lines were taken
pub record HasTaken {T H : Type 0} (acts : Acts T H) (stream : Stream) (taker : T) (host : H) (text : List ℕ) (taker' : T) (host' : H) : Type 0 where
  pub going : stream.splitter.refused ≡ None
  pub rest_is : stream.splitter.rest ≡ rest text
  pub held : IsRest stream.splitter.rest
  pub count : stream.count ≡ length (lines text)
  pub took : TookAll acts taker host text taker' host'
  pub paused : HasPaused acts taker host taker' host'

-- nothing was taken of a stream's text: it has taken the empty text, whoever takes its lines
pub record IsFresh (stream : Stream) : Type 0 where
  pub empty : stream.splitter.rest ≡ []
  pub going : stream.splitter.refused ≡ None
  pub none : stream.count ≡ 0

-- the number of the line that is handed over next
abbrev pub next_number : Stream → ℕ
next_number stream = stream.count + 1
