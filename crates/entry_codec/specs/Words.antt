-- The storage numbers of a copied beat.
use Rattle.std.specs.Prelude.{ℕ, ◌<◌, ◌^◌, List, ◌++◌}
use Rattle.field_codec.specs.Lists.{◌>>◌}
use Rattle.field_codec.specs.Reading.{ReadOf, read_as, read_u32}
use Rattle.field_codec.specs.Spelling.{u32_bytes}
use Rattle.entry_codec.specs.declared.words.CopiedWord.{CopiedWord}

abbrev pub word_of : ℕ × ℕ → CopiedWord
word_of (series, word) = record { series = series; word = word }

unfoldable pub read_word : List ℕ → ReadOf CopiedWord
read_word bytes = read_as word_of (read_u32 bytes >> read_u32)

unfoldable pub word_bytes : CopiedWord → List ℕ
word_bytes w = u32_bytes w.series ++ u32_bytes w.word

-- a word has no text and no list
abbrev pub IsShortWord : CopiedWord → Type 0
IsShortWord w = Unit {0}

pub record IsCopiedWord (w : CopiedWord) : Type 0 where
  pub series : w.series < 2 ^ 32
  pub word : w.word < 2 ^ 32
