-- What the body of a frame reads as: its fields, whatever follows, and whether they are in form.
use Rattle.std.specs.Prelude.{ℕ, zero, suc, Bool, List, [], ◌∷◌, Err}
use Rattle.field_codec.specs.declared.fault.FieldFault.TheVariants.{Short, Range}
use Rattle.field_codec.specs.Reading.{ReadOf, read_as, read_u8, read_u32, read_u64, read_flag, read_text}
use Rattle.field_codec.specs.Lists.{◌>>◌, read_list}
use Rattle.replication.specs.declared.ask.Ask.{Ask}
use Rattle.replication.specs.declared.beats.Beat.{Beat}
use Rattle.replication.specs.declared.beats.SeriesWord.{SeriesWord}
use Rattle.replication.specs.declared.message.Data.{Data}
use Rattle.replication.specs.declared.names.ChartName.{ChartName}
use Rattle.replication.specs.declared.names.DimName.{DimName}
use Rattle.replication.specs.declared.names.Names.{Names}
use Rattle.link_frames.specs.declared.frame.Frame.{Frame}
use Rattle.link_frames.specs.declared.frame.Frame.TheVariants as frame

abbrev pub ask_of : ℕ × ℕ → Ask
ask_of (child, last) = record { child = child; last = last }

unfoldable pub read_ask : List ℕ → ReadOf Ask
read_ask bytes = read_as ask_of (read_u64 bytes >> read_u32)

abbrev pub chart_of : (List ℕ × List ℕ) × ℕ → ChartName
chart_of ((id, context), update_every) = record { id = id; context = context; update_every = update_every }

unfoldable pub read_chart : List ℕ → ReadOf ChartName
read_chart bytes = read_as chart_of (read_text bytes >> read_text >> read_u32)

abbrev pub dimension_of : (ℕ × List ℕ) × Bool → DimName
dimension_of ((chart, id), hidden) = record { chart = chart; id = id; hidden = hidden }

unfoldable pub read_dimension : List ℕ → ReadOf DimName
read_dimension bytes = read_as dimension_of (read_u32 bytes >> read_text >> read_flag)

abbrev pub names_of : List ChartName × List DimName → Names
names_of (charts, dimensions) = record { charts = charts; dimensions = dimensions }

unfoldable pub read_names : List ℕ → ReadOf Names
read_names bytes = read_as names_of (read_list read_chart bytes >> read_list read_dimension)

abbrev pub word_of : ℕ × ℕ → SeriesWord
word_of (series, word) = record { series = series; word = word }

unfoldable pub read_word : List ℕ → ReadOf SeriesWord
read_word bytes = read_as word_of (read_u32 bytes >> read_u32)

abbrev pub beat_of : ℕ × List SeriesWord → Beat
beat_of (moment, words) = record { moment = moment; words = words }

unfoldable pub read_beat : List ℕ → ReadOf Beat
read_beat bytes = read_as beat_of (read_u32 bytes >> read_list read_word)

abbrev pub data_of : (((((ℕ × ℕ) × ℕ) × ℕ) × ℕ) × Names) × List Beat → Data
data_of ((((((child, prev), from), upto), floor), names), beats) =
    record { child = child; prev = prev; from = from; upto = upto; floor = floor; names = names; beats = beats }

unfoldable pub read_data : List ℕ → ReadOf Data
read_data bytes =
    read_as data_of (read_u64 bytes >> read_u32 >> read_u32 >> read_u32 >> read_u32 >> read_names >> read_list read_beat)

-- the fields of a kind
abbrev pub read_kind : ℕ → List ℕ → ReadOf Frame
read_kind zero rest = Err Range
read_kind (suc zero) rest = read_as frame.Hello (read_u64 rest)
read_kind (suc (suc zero)) rest = read_as frame.Ask (read_ask rest)
read_kind (suc (suc (suc zero))) rest = read_as frame.Data (read_data rest)
read_kind (suc (suc (suc (suc zero)))) rest = read_as frame.Have (read_u32 rest)
read_kind (suc (suc (suc (suc (suc zero))))) rest = read_as frame.Bye (read_u8 rest)
read_kind (suc (suc (suc (suc (suc (suc _)))))) rest = Err Range

unfoldable pub read_body : List ℕ → ReadOf Frame
read_body [] = Err Short
read_body (kind ∷ rest) = read_kind kind rest
