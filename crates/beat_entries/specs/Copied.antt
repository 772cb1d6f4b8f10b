-- The entry of a copied beat, and what it defines: a copy tells of a chart its id, its context and its
-- update_every, and of a dimension its id and whether it is hidden. The rest is as usual.
use Rattle.std.specs.Prelude.{◌≡◌, ℕ, ◌<◌, Bool, false, ◌&&◌, nat_lt, List, [], ◌∷◌, length, map, pos, All}
use Rattle.std.specs.List.{after_first, list_all}
use Rattle.entry_codec.specs.declared.charts.CopiedChart.{CopiedChart}
use Rattle.history.specs.declared.numbered.NumberedChart.{NumberedChart}
use Rattle.entry_codec.specs.declared.dimensions.CopiedDimension.{CopiedDimension}
use Rattle.history.specs.declared.numbered.NumberedDimension.{NumberedDimension}
use Rattle.history.specs.declared.numbered.NumberedBeat.{NumberedBeat}
use Rattle.entry_codec.specs.declared.entry.Copied.{Copied}
use Rattle.entry_codec.specs.declared.words.CopiedWord.{CopiedWord}
use Rattle.history.specs.declared.beat.OpenBeat.{OpenBeat}
use Rattle.history.specs.declared.beat.OpenDim.{OpenDim}
use Rattle.history.specs.declared.chart.ChartDef.{ChartDef}
use Rattle.history.specs.declared.chart.ChartKind.TheVariants.{Line}
use Rattle.history.specs.declared.chart.TheConstants.{USUAL_PRIORITY}
use Rattle.history.specs.declared.dimension.Algorithm.TheVariants.{Absolute}
use Rattle.history.specs.declared.dimension.DimDef.{DimDef}
use Rattle.history.specs.History.{Beat, copied, registry_of, Copy, Word}
use Rattle.history.specs.Limits.{is_dot}
use Rattle.history.specs.Registry.{Registry}
use Rattle.beat_entries.specs.Following.{AreOwned, MayFollow}
use Rattle.history.specs.Numbered.{numbered_charts, numbered_dimensions}
use Rattle.beat_entries.specs.Next.{goes_on, with_numbered}

-- ---- usual definitions

-- a chart of which nothing else is told: its name and its family are the part of its id behind the first dot
abbrev pub usual_chart : List ℕ → List ℕ → ℕ → ChartDef
usual_chart id context update_every = record {
  id = id;
  name = after_first is_dot id;
  title = [];
  units = [];
  family = after_first is_dot id;
  context = context;
  kind = Line;
  priority = USUAL_PRIORITY;
  update_every = update_every;
  store_first = false;
}

-- a dimension of which nothing else is told: its name is its id
abbrev pub usual_dimension : List ℕ → Bool → DimDef
usual_dimension id hidden = record {
  id = id;
  name = id;
  algorithm = Absolute;
  multiplier = pos 1;
  divisor = pos 1;
  hidden = hidden;
  noreset = false;
}

-- ---- from an entry

abbrev pub full_chart : CopiedChart → NumberedChart
full_chart chart = record { number = chart.number; def = usual_chart chart.id chart.context chart.update_every }

abbrev pub full_dimension : CopiedDimension → NumberedDimension
full_dimension dimension = record { series = dimension.series; chart = dimension.chart; def = usual_dimension dimension.id dimension.hidden }

-- the numbered beat without rows that defines the same
abbrev pub defined_by : Copied → NumberedBeat
defined_by entry = record {
  moment = entry.moment;
  charts = map full_chart entry.charts;
  dimensions = map full_dimension entry.dimensions;
  rows = [];
}

-- the word is of a series that the registry has
abbrev pub names_word : Registry → CopiedWord → Bool
names_word registry word = nat_lt word.series (length registry.dimensions)

-- the entry goes on from what the registry has
abbrev pub copied_goes_on : Registry → Copied → Bool
copied_goes_on registry entry = goes_on registry (defined_by entry) && list_all (names_word (with_numbered registry (defined_by entry))) entry.words

-- ---- the entry of a copied beat

-- what it defines, as a beat without rows
abbrev pub definitions_of : Copy → OpenBeat
definitions_of copy = record { charts = copy.charts; dimensions = copy.dimensions; rows = [] }

abbrev pub told_chart : NumberedChart → CopiedChart
told_chart chart = record { number = chart.number; id = chart.def.id; context = chart.def.context; update_every = chart.def.update_every }

abbrev pub told_dimension : NumberedDimension → CopiedDimension
told_dimension dimension = record { series = dimension.series; chart = dimension.chart; id = dimension.def.id; hidden = dimension.def.hidden }

abbrev pub told_word : Word → CopiedWord
told_word word = record { series = word.series; word = word.word }

-- what the copied beat says, by the numbers of a registry that has its definitions
abbrev pub copied_entry_of : Registry → Copy → Copied
copied_entry_of registry copy = record {
  child = copy.child;
  moment = copy.moment;
  charts = map told_chart (numbered_charts registry (definitions_of copy));
  dimensions = map told_dimension (numbered_dimensions registry (definitions_of copy));
  words = map told_word copy.words;
}

-- ---- what may be copied

abbrev pub IsUsualChart : ChartDef → Type 0
IsUsualChart def = def ≡ usual_chart def.id def.context def.update_every

abbrev pub IsUsualDimension : OpenDim → Type 0
IsUsualDimension dimension = dimension.def ≡ usual_dimension dimension.def.id dimension.def.hidden

-- What the copied beat defines may follow a history, and is as usual but for what a copy tells; its words are
-- of series that are there then.
pub record MayCopy (h : List Beat) (copy : Copy) : Type 0 where
  pub owned : AreOwned (registry_of h) (definitions_of copy)
  pub may : MayFollow (registry_of h) (definitions_of copy)
  pub charts : All IsUsualChart copy.charts
  pub dimensions : All IsUsualDimension copy.dimensions
  pub words : All (λ (word : Word). word.series < length (registry_of (copied copy ∷ h)).dimensions) copy.words
