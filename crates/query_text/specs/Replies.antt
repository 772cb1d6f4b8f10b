-- The lines of a reply.
use Rattle.std.specs.Prelude.{◌≡◌, ℕ, Bool, true, false, ◌||◌, nat_eq, List, [], ◌∷◌, ◌++◌, All, codes}
use Rattle.std.specs.Char.{is_ascii_digit}
use Rattle.std.specs.List.{slice_split, starts_with, AllPass}
use Rattle.history.specs.declared.beat.OpenDim.{OpenDim}
use Rattle.history.specs.Limits.{is_line_feed, is_one_line}
use Rattle.history.specs.Registry.{Registry}

abbrev pub begins_with_digit : List ℕ → Bool
begins_with_digit [] = false
begins_with_digit (byte ∷ bytes) = is_ascii_digit byte

-- the line begins as one of a reply does
abbrev pub is_reply_line : List ℕ → Bool
is_reply_line line =
    starts_with nat_eq line (codes "ROWS ") || starts_with nat_eq line (codes "ERROR ") || begins_with_digit line

-- the text is whole lines, each of which begins so: behind its last line feed there is nothing
pub record IsReply (text : List ℕ) : Type 0 where
  pub lines : List (List ℕ)
  pub whole : slice_split is_line_feed text ≡ lines ++ [] ∷ []
  pub begun : AllPass is_reply_line lines

-- no id of a dimension has a line feed
abbrev pub HasOneLineIds : Registry → Type 0
HasOneLineIds registry = All (λ (dimension : OpenDim). is_one_line dimension.def.id ≡ true) registry.dimensions
