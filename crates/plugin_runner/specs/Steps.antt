use Rattle.std.specs.Prelude.{◌≡◌, ℕ, ◌≤◌, true, false, ◌++◌, List, [], ◌∷◌, length, Option}
use Rattle.std.specs.List.{AllByRecursion}
use Rattle.plugin_runner.specs.declared.follower.Follower.{Follower}
use Rattle.plugin_runner.specs.Bytes.{bytes, IsPrefix}
use Rattle.plugin_runner.specs.Follower.{Follows}
use Rattle.plugin_runner.specs.Looking.{beats_begun}
use Rattle.plugin_runner.specs.Reads.{Reads}
use Rattle.plugin_runner.specs.Text.{Origin, Step, after, disables, said}

-- the step leads from these lines to others, whatever the clock gives later, and the bytes are those between
pub record Reaches (step : Step) (origin : Origin) (readings : List ℕ) (added : List ℕ) (past : List (List ℕ)) (new : Follower) : Type 0 where
  pub lines : List (List ℕ)
  pub leads : (later : List ℕ) → step origin (readings ++ later) past ≡ lines
  pub follows : Follows new origin readings (said lines)
  pub whole : bytes lines ≡ bytes past ++ added

-- The bytes that a step puts behind a text were put behind `out`, and the follower knows the new lines. The
-- clock was read at the first BEGIN line of each beat.
pub record Puts (step : Step) (old new : Follower) (before now : Option (List ℕ)) (out out' : List ℕ) : Type 0 where
  pub taken : List ℕ
  pub reads : Reads before taken now
  pub added : List ℕ
  pub wrote : out' ≡ out ++ added
  pub goes : (origin : Origin) (readings : List ℕ) (past : List (List ℕ)) → Follows old origin readings (said past) → Reaches step origin (readings ++ taken) added past new

-- these bytes are a prefix of those of the lines, and there are no more readings than beats that the lines begin
abbrev pub IsWithin : List ℕ → List ℕ → List (List ℕ) → Type 0
IsWithin told readings lines = IsPrefix told (bytes lines) × (length readings ≤ beats_begun (said lines))

-- a prefix of these bytes was put behind `out`, and the clock was read at most once for each beat that they begin
pub record PutsPrefix (step : Step) (old : Follower) (before now : Option (List ℕ)) (out out' : List ℕ) : Type 0 where
  pub taken : List ℕ
  pub reads : Reads before taken now
  pub added : List ℕ
  pub wrote : out' ≡ out ++ added
  pub prefix : (origin : Origin) (readings : List ℕ) (past : List (List ℕ)) → Follows old origin readings (said past) → (later : List ℕ)
      → IsWithin (bytes past ++ added) (readings ++ taken) (step origin ((readings ++ taken) ++ later) past)

-- none of these lines says DISABLE
abbrev pub IsPlain : List (List ℕ) → Type 0
IsPlain lines = AllByRecursion (λ line. disables line ≡ false) lines

-- of these lines those up to the first that says DISABLE were put
pub record PutsUpTo (lines : List (List ℕ)) (old new : Follower) (before now : Option (List ℕ)) (out out' : List ℕ) : Type 0 where
  pub prefix : List (List ℕ)
  pub last : List ℕ
  pub more : List (List ℕ)
  pub whole : lines ≡ prefix ++ last ∷ more
  pub plain : IsPlain prefix
  pub says : disables last ≡ true
  pub puts : Puts (after (prefix ++ last ∷ [])) old new before now out out'

-- all of these lines were put, and none says DISABLE
pub record PutsAll (lines : List (List ℕ)) (old new : Follower) (before now : Option (List ℕ)) (out out' : List ℕ) : Type 0 where
  pub plain : IsPlain lines
  pub puts : Puts (after lines) old new before now out out'

-- of these lines a prefix was put, up to one within which it ends, and none before that one says DISABLE
pub record PutsSome (lines : List (List ℕ)) (old : Follower) (before now : Option (List ℕ)) (out out' : List ℕ) : Type 0 where
  pub prefix : List (List ℕ)
  pub last : List ℕ
  pub more : List (List ℕ)
  pub whole : lines ≡ prefix ++ last ∷ more
  pub plain : IsPlain prefix
  pub puts : PutsPrefix (after (prefix ++ last ∷ [])) old before now out out'
