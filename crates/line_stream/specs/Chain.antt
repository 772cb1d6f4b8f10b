-- What a taker does, step by step.
use Rattle.std.specs.Prelude.{ℕ, ◌+◌, List, [], ◌∷◌, ◌++◌, length, Result, Ok}
use Rattle.host_model.specs.declared.status.Status.{Status}

-- What each call of a taker does. Before it there are a taker and a host, and after it too.
pub record Acts (T H : Type 0) : Type 1 where
  -- the line with this number was taken
  pub takes : T → H → ℕ → List ℕ → Result (Unit {0}) Status → T → H → Type 0
  -- the lines of a piece were over
  pub pauses : T → H → Result (Unit {0}) Status → T → H → Type 0
  -- the input ended after so many lines, with these bytes behind the last line feed
  pub ends : T → H → ℕ → List ℕ → Status → T → H → Type 0
  -- the line with this number has too many bytes
  pub overflows : T → H → ℕ → Status → T → H → Type 0

-- From a taker and a host these lines were taken, one by one in their order, and none of them ended the run.
pub data Chain {T H : Type 0} (acts : Acts T H) (taker : T) (host : H) : List (List ℕ) → T → H → Type 0 where
  begins : Chain acts taker host [] taker host
  goes_on : (lines : List (List ℕ)) (line : List ℕ) (taker' taker'' : T) (host' host'' : H) → Chain acts taker host lines taker' host'
      → acts.takes taker' host' (length lines + 1) line (Ok tt) taker'' host'' → Chain acts taker host (lines ++ line ∷ []) taker'' host''
  pauses : (lines : List (List ℕ)) (taker' taker'' : T) (host' host'' : H) → Chain acts taker host lines taker' host'
      → acts.pauses taker' host' (Ok tt) taker'' host'' → Chain acts taker host lines taker'' host''

-- from a taker and a host nothing was done, or the last that was done is a pause
pub data HasPaused {T H : Type 0} (acts : Acts T H) (taker : T) (host : H) : T → H → Type 0 where
  not_begun : HasPaused acts taker host taker host
  after_pause : (taker' taker'' : T) (host' host'' : H) → acts.pauses taker' host' (Ok tt) taker'' host'' → HasPaused acts taker host taker'' host''
