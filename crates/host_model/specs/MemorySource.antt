use Rattle.std.specs.Prelude.{ℕ, List}

-- a source that tells what it holds, and which of its calls fail
pub record SourceState : Type 0 where
  -- the bytes still to come
  pub left : List ℕ
  -- how many calls were made: the next call has this number
  pub calls : ℕ
  -- the numbers of the calls that fail
  pub fails : List ℕ
  -- how many calls have failed
  pub faults : ℕ
