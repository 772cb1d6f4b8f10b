-- How a `Data` is spelt in a frame, and how many bytes this takes.
use Rattle.std.specs.Prelude.{ℕ, ◌+◌, ◌*◌, List, ◌++◌, length, sum_by}
use Rattle.field_codec.specs.Spelling.{u8_bytes, u32_bytes, u64_bytes, flag_bytes, text_bytes, list_bytes}
use Rattle.replication.specs.declared.beats.Beat.{Beat}
use Rattle.replication.specs.declared.beats.SeriesWord.{SeriesWord}
use Rattle.replication.specs.declared.message.Data.{Data}
use Rattle.replication.specs.declared.names.ChartName.{ChartName}
use Rattle.replication.specs.declared.names.DimName.{DimName}
use Rattle.replication.specs.declared.names.Names.{Names}

-- the kind byte of a frame that is a Data
abbrev pub data_kind : ℕ
data_kind = 3

unfoldable pub chart_bytes : ChartName → List ℕ
chart_bytes chart = text_bytes chart.id ++ (text_bytes chart.context ++ u32_bytes chart.update_every)

unfoldable pub dimension_bytes : DimName → List ℕ
dimension_bytes dimension = u32_bytes dimension.chart ++ (text_bytes dimension.id ++ flag_bytes dimension.hidden)

unfoldable pub word_bytes : SeriesWord → List ℕ
word_bytes word = u32_bytes word.series ++ u32_bytes word.word

unfoldable pub beat_bytes : Beat → List ℕ
beat_bytes beat = u32_bytes beat.moment ++ list_bytes word_bytes beat.words

unfoldable pub names_bytes : Names → List ℕ
names_bytes names = list_bytes chart_bytes names.charts ++ list_bytes dimension_bytes names.dimensions

-- the fields of a Data, after its kind byte
unfoldable pub data_fields : Data → List ℕ
data_fields message =
    u64_bytes message.child ++ (u32_bytes message.prev ++ (u32_bytes message.from ++ (u32_bytes message.upto ++ (u32_bytes message.floor
    ++ (names_bytes message.names ++ list_bytes beat_bytes message.beats)))))

-- the body of the frame of a Data: the kind byte and the fields
unfoldable pub data_bytes : Data → List ℕ
data_bytes message = u8_bytes data_kind ++ data_fields message

-- ---- how many bytes these take
abbrev pub chart_size : ChartName → ℕ
chart_size chart = 8 + length chart.id + length chart.context

abbrev pub dimension_size : DimName → ℕ
dimension_size dimension = 7 + length dimension.id

abbrev pub beat_size : Beat → ℕ
beat_size beat = 8 + 8 * length beat.words

-- the kind byte, the child, four moments, three counts, and what the lists hold
abbrev pub data_size : Data → ℕ
data_size message = 37 + sum_by chart_size message.names.charts + sum_by dimension_size message.names.dimensions + sum_by beat_size message.beats
