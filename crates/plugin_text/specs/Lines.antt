use Rattle.std.specs.Prelude.{◌≡◌, ℕ, nat_le, Bool, true, false, List, [], ◌∷◌, ◌++◌, length}
use Rattle.std.specs.List.{slice_split, AllPass}
use Rattle.history.specs.Limits.{is_line_feed}
use Rattle.plugin_text.specs.declared.splitter.TheConstants.{LINE_LIMIT}

-- what stands between line feeds: the lines of a text, and what follows the last line feed
abbrev pub parts : List ℕ → List (List ℕ)
parts text = slice_split is_line_feed text

abbrev pub but_last : List (List ℕ) → List (List ℕ)
but_last [] = []
but_last (part ∷ []) = []
but_last (part ∷ next ∷ more) = part ∷ but_last (next ∷ more)

abbrev pub last_part : List (List ℕ) → List ℕ
last_part [] = []
last_part (part ∷ []) = part
last_part (part ∷ next ∷ more) = last_part (next ∷ more)

-- the lines of a text are what line feeds end
abbrev pub lines : List ℕ → List (List ℕ)
lines text = but_last (parts text)

-- the rest of a text is what follows the last line feed
abbrev pub rest : List ℕ → List ℕ
rest text = last_part (parts text)

-- a line is not too long
abbrev pub fits : List ℕ → Bool
fits line = nat_le (length line) LINE_LIMIT

-- neither a line of the text nor its rest is too long
abbrev pub HasNoLongLine : List ℕ → Type 0
HasNoLongLine text = AllPass fits (parts text)

-- the text has these lines, and the next one, or what has come of it, is the first that is too long
pub record IsLongAfter (text : List ℕ) (before : List (List ℕ)) : Type 0 where
  pub long : List ℕ
  pub more : List (List ℕ)
  pub whole : parts text ≡ before ++ long ∷ more
  pub short : AllPass fits before
  pub too_long : fits long ≡ false

-- the lines of the text begin with these, and none of these is too long
pub record BeginsWithLines (text : List ℕ) (prefix : List (List ℕ)) : Type 0 where
  pub left : List (List ℕ)
  pub whole : lines text ≡ prefix ++ left
  pub short : AllPass fits prefix

-- the text has no line feed, and is not too long
pub record IsRest (text : List ℕ) : Type 0 where
  pub no_line_feed : parts text ≡ text ∷ []
  pub short : fits text ≡ true
