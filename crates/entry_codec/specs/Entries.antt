-- Entries: the one spelling of each, which of them have one, and what bytes read as.
use Rattle.std.specs.Prelude.{◌≡◌, ◌≢◌, ℕ, zero, suc, ◌<◌, ◌≤◌, ◌^◌, Bool, true, ◌&&◌, ◌==◌, List, [], ◌∷◌, ◌++◌, length, map, All, Result, Ok, Err, if◌then◌else◌}
use Rattle.std.specs.List.{list_all, sum_by}
use Rattle.storage_number.specs.Word.{is_word}
use Rattle.field_codec.specs.declared.fault.FieldFault.{FieldFault}
use Rattle.field_codec.specs.declared.fault.FieldFault.TheVariants as fields
use Rattle.field_codec.specs.Lists.{◌>>◌, read_list, IsShortListOf}
use Rattle.field_codec.specs.Reading.{ReadOf, read_as, read_u32, read_u64, read_bytes}
use Rattle.field_codec.specs.Spelling.{u32_bytes, u64_bytes, sized_bytes, list_bytes}
use Rattle.entry_codec.specs.declared.charts.CopiedChart.{CopiedChart}
use Rattle.history.specs.declared.numbered.NumberedChart.{NumberedChart}
use Rattle.entry_codec.specs.declared.dimensions.CopiedDimension.{CopiedDimension}
use Rattle.history.specs.declared.numbered.NumberedDimension.{NumberedDimension}
use Rattle.history.specs.declared.numbered.NumberedBeat.{NumberedBeat}
use Rattle.entry_codec.specs.declared.entry.Copied.{Copied}
use Rattle.entry_codec.specs.declared.entry.Entry.{Entry}
use Rattle.entry_codec.specs.declared.entry.Entry.TheVariants as entry
use Rattle.entry_codec.specs.declared.entry.Gap.{Gap}
use Rattle.entry_codec.specs.declared.fault.EntryFault.{EntryFault}
use Rattle.entry_codec.specs.declared.fault.EntryFault.TheVariants as faults
use Rattle.history.specs.Limits.{chart_keeps_limits, dimension_keeps_limits}
use Rattle.history.specs.declared.limits.TheConstants.{MOST_CHARTS, MOST_DIMENSIONS}
use Rattle.history.specs.declared.row.Row.{Row}
use Rattle.history.specs.declared.row.Value.{Value}
use Rattle.entry_codec.specs.declared.words.CopiedWord.{CopiedWord}
use Rattle.entry_codec.specs.Charts.{chart_bytes, copied_chart_bytes, read_chart, read_copied_chart, IsChart, IsCopiedChart, IsShortChart, IsShortCopiedChart}
use Rattle.entry_codec.specs.Dimensions.{copied_dimension_bytes, dimension_bytes, read_copied_dimension, read_dimension, IsCopiedDimension, IsDimension, IsShortCopiedDimension, IsShortDimension}
use Rattle.entry_codec.specs.Lists.{is_ascending}
use Rattle.entry_codec.specs.Rows.{read_row, row_bytes, IsRow, IsShortRow}
use Rattle.entry_codec.specs.Words.{read_word, word_bytes, IsCopiedWord, IsShortWord}

-- ---- a collected beat

abbrev pub collected_of : ((ℕ × List NumberedChart) × List NumberedDimension) × List Row → NumberedBeat
collected_of (((moment, charts), dimensions), rows) =
    record { moment = moment; charts = charts; dimensions = dimensions; rows = rows }

unfoldable pub read_collected : List ℕ → ReadOf NumberedBeat
read_collected bytes =
    read_as collected_of (read_u32 bytes >> read_list read_chart >> read_list read_dimension >> read_list read_row)

unfoldable pub collected_bytes : NumberedBeat → List ℕ
collected_bytes c =
    u32_bytes c.moment ++ list_bytes chart_bytes c.charts ++ list_bytes dimension_bytes c.dimensions ++ list_bytes row_bytes c.rows

-- its lists, and the texts and lists in them, are short enough for a spelling
pub record IsShortCollected (c : NumberedBeat) : Type 0 where
  pub charts : IsShortListOf IsShortChart c.charts
  pub dimensions : IsShortListOf IsShortDimension c.dimensions
  pub rows : IsShortListOf IsShortRow c.rows

-- Its definitions keep their limits, and it has no more charts, dimensions, rows and values than a registry may
-- have charts and dimensions.
pub record IsWithinLimits (c : NumberedBeat) : Type 0 where
  pub chart_limits : All (λ (chart : NumberedChart). chart_keeps_limits chart.def ≡ true) c.charts
  pub dimension_limits : All (λ (dimension : NumberedDimension). dimension_keeps_limits dimension.def ≡ true) c.dimensions
  pub charts : length c.charts ≤ MOST_CHARTS
  pub dimensions : length c.dimensions ≤ MOST_DIMENSIONS
  pub rows : length c.rows ≤ MOST_CHARTS
  pub values : sum_by (λ (row : Row). length row.values) c.rows ≤ MOST_DIMENSIONS

pub record IsCollected (c : NumberedBeat) : Type 0 where
  pub moment : c.moment < 2 ^ 32
  pub charts : IsShortListOf IsChart c.charts
  pub dimensions : IsShortListOf IsDimension c.dimensions
  pub rows : IsShortListOf IsRow c.rows

abbrev pub are_values_ascending : Row → Bool
are_values_ascending r = is_ascending (map (λ (v : Value). v.series) r.values)

-- each list is in the order of its numbers, each number once
unfoldable pub is_collected_canonical : NumberedBeat → Bool
is_collected_canonical c =
    is_ascending (map (λ (d : NumberedChart). d.number) c.charts)
    && is_ascending (map (λ (d : NumberedDimension). d.series) c.dimensions)
    && is_ascending (map (λ (r : Row). r.chart) c.rows)
    && list_all are_values_ascending c.rows

-- ---- a copied beat

abbrev pub copied_of : (((ℕ × ℕ) × List CopiedChart) × List CopiedDimension) × List CopiedWord → Copied
copied_of ((((child, moment), charts), dimensions), words) =
    record { child = child; moment = moment; charts = charts; dimensions = dimensions; words = words }

unfoldable pub read_copied : List ℕ → ReadOf Copied
read_copied bytes =
    read_as copied_of (read_u64 bytes >> read_u32 >> read_list read_copied_chart >> read_list read_copied_dimension >> read_list read_word)

unfoldable pub copied_bytes : Copied → List ℕ
copied_bytes c =
    u64_bytes c.child ++ u32_bytes c.moment ++ list_bytes copied_chart_bytes c.charts ++ list_bytes copied_dimension_bytes c.dimensions ++ list_bytes word_bytes c.words

pub record IsShortCopied (c : Copied) : Type 0 where
  pub charts : IsShortListOf IsShortCopiedChart c.charts
  pub dimensions : IsShortListOf IsShortCopiedDimension c.dimensions
  pub words : IsShortListOf IsShortWord c.words

pub record IsCopied (c : Copied) : Type 0 where
  pub child : c.child < 2 ^ 64
  pub moment : c.moment < 2 ^ 32
  pub charts : IsShortListOf IsCopiedChart c.charts
  pub dimensions : IsShortListOf IsCopiedDimension c.dimensions
  pub words : IsShortListOf IsCopiedWord c.words

abbrev pub is_storage_number : CopiedWord → Bool
is_storage_number w = is_word w.word

-- each list is in the order of its numbers, each number once, and each word is a storage number
unfoldable pub is_copied_canonical : Copied → Bool
is_copied_canonical c =
    is_ascending (map (λ (d : CopiedChart). d.number) c.charts)
    && is_ascending (map (λ (d : CopiedDimension). d.series) c.dimensions)
    && is_ascending (map (λ (w : CopiedWord). w.series) c.words)
    && list_all is_storage_number c.words

-- ---- a gap

abbrev pub gap_of : (ℕ × ℕ) × ℕ → Gap
gap_of ((child, from), to) = record { child = child; from = from; to = to }

unfoldable pub read_gap : List ℕ → ReadOf Gap
read_gap bytes = read_as gap_of (read_u64 bytes >> read_u32 >> read_u32)

unfoldable pub gap_bytes : Gap → List ℕ
gap_bytes g = u64_bytes g.child ++ u32_bytes g.from ++ u32_bytes g.to

pub record IsGap (g : Gap) : Type 0 where
  pub child : g.child < 2 ^ 64
  pub from : g.from < 2 ^ 32
  pub to : g.to < 2 ^ 32

-- ---- entries

-- the byte of the kind, and the fields
unfoldable pub entry_bytes : Entry → List ℕ
entry_bytes (entry.Collected c) = 1 ∷ collected_bytes c
entry_bytes (entry.Copied c) = 2 ∷ copied_bytes c
entry_bytes (entry.Health bytes) = 3 ∷ sized_bytes bytes
entry_bytes (entry.Gap g) = 4 ∷ gap_bytes g

-- its texts, lists and numbers are as short as their spelling allows
abbrev pub IsShort : Entry → Type 0
IsShort (entry.Collected c) = IsCollected c
IsShort (entry.Copied c) = IsCopied c
IsShort (entry.Health bytes) = length bytes < 2 ^ 32
IsShort (entry.Gap g) = IsGap g

unfoldable pub is_canonical : Entry → Bool
is_canonical (entry.Collected c) = is_collected_canonical c
is_canonical (entry.Copied c) = is_copied_canonical c
is_canonical (entry.Health bytes) = true
is_canonical (entry.Gap g) = true

-- the entries that have a spelling
pub record HasSpelling (e : Entry) : Type 0 where
  pub short : IsShort e
  pub canonical : is_canonical e ≡ true

abbrev pub entry_fault : FieldFault → EntryFault
entry_fault fields.Short = faults.Short
entry_fault fields.Range = faults.Range
entry_fault fields.NotText = faults.NotText
entry_fault fields.Memory = faults.Memory

-- an entry and the bytes after it, or a fault
abbrev pub EntryRead : Type 0
EntryRead = Result (Entry × List ℕ) EntryFault

-- the entry that is made of the fields that were read
abbrev pub entry_as : {X : Type 0} → (X → Entry) → ReadOf X → EntryRead
entry_as make (Ok read) = Ok (make read.0, read.1)
entry_as make (Err fault) = Err (entry_fault fault)

-- the fields of a kind
abbrev pub read_kind_fields : ℕ → List ℕ → EntryRead
read_kind_fields zero rest = Err faults.UnknownKind
read_kind_fields (suc zero) rest = entry_as entry.Collected (read_collected rest)
read_kind_fields (suc (suc zero)) rest = entry_as entry.Copied (read_copied rest)
read_kind_fields (suc (suc (suc zero))) rest = entry_as entry.Health (read_bytes rest)
read_kind_fields (suc (suc (suc (suc zero)))) rest = entry_as entry.Gap (read_gap rest)
read_kind_fields (suc (suc (suc (suc (suc _))))) rest = Err faults.UnknownKind

unfoldable pub read_fields : List ℕ → EntryRead
read_fields [] = Err faults.Short
read_fields (kind ∷ rest) = read_kind_fields kind rest

-- the entry, where nothing follows it and it is canonical
abbrev pub whole_entry : EntryRead → Result Entry EntryFault
whole_entry (Ok read) = if (length read.1 == 0) && is_canonical read.0 then Ok read.0 else Err faults.NotCanonical
whole_entry (Err fault) = Err fault

unfoldable pub read_entry : List ℕ → Result Entry EntryFault
read_entry bytes = whole_entry (read_fields bytes)

-- no entry with a spelling has these bytes
abbrev pub IsNoSpelling : List ℕ → Type 0
IsNoSpelling bytes = (e : Entry) → HasSpelling e → bytes ≢ entry_bytes e
