use Rattle.std.specs.Prelude.{◌==◌, ℕ, Bool, ◌||◌, List, take}
use Rattle.std.specs.List.{list_any, slice_split}
use Rattle.std.specs.Str.{bytes_eq}
use Rattle.std.specs.Str.Lossy.{utf8_valid_len}
use Rattle.history.specs.declared.limits.TheConstants.{TEXT_LIMIT}
use Rattle.words.specs.Words.{is_blank}

-- a text that is cut to its longest prefix of at most so many bytes that ends at a character, which is
-- the longest prefix of those bytes that is UTF-8
unfoldable pub shortened : List ℕ → List ℕ
shortened text = let prefix = take TEXT_LIMIT text in take (utf8_valid_len prefix) prefix

-- blanks and commas stand between options
abbrev pub is_option_separator : ℕ → Bool
is_option_separator byte = is_blank byte || byte == 44

-- whether an option is among those of a word
abbrev pub has_option : List ℕ → List ℕ → Bool
has_option name options = list_any (λ option. bytes_eq option name) (slice_split is_option_separator options)
