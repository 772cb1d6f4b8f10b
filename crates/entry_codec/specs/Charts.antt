-- Charts by number: how they are spelt, and what bytes read as.
use Rattle.std.specs.Prelude.{ℕ, zero, suc, ℤ, ◌<◌, ◌^◌, Bool, nat_lt, List, ◌++◌, length, FitsSigned}
use Rattle.std.specs.Int.{w64}
use Rattle.field_codec.specs.declared.fault.FieldFault.TheVariants.{Range}
use Rattle.field_codec.specs.Lists.{◌>>◌, IsText}
use Rattle.field_codec.specs.Reading.{ReadOf, read_as, read_passing, read_u8, read_u32, read_i64, read_flag, read_text}
use Rattle.field_codec.specs.Spelling.{u8_bytes, u32_bytes, i64_bytes, flag_bytes, text_bytes}
use Rattle.history.specs.declared.chart.ChartKind.{ChartKind}
use Rattle.history.specs.declared.chart.ChartKind.TheVariants.{Line, Area, Stacked}
use Rattle.history.specs.declared.numbered.NumberedChart.{NumberedChart}
use Rattle.entry_codec.specs.declared.charts.CopiedChart.{CopiedChart}

-- how a chart is drawn, as a number
abbrev pub kind_number : ChartKind → ℕ
kind_number Line = 0
kind_number Area = 1
kind_number Stacked = 2

abbrev pub kind_of : ℕ → ChartKind
kind_of zero = Line
kind_of (suc zero) = Area
kind_of (suc (suc _)) = Stacked

unfoldable pub read_kind : List ℕ → ReadOf ChartKind
read_kind bytes = read_as kind_of (read_passing (λ number. nat_lt number 3) Range (read_u8 bytes))

unfoldable pub kind_bytes : ChartKind → List ℕ
kind_bytes kind = u8_bytes (kind_number kind)

abbrev pub chart_of : (((((((((ℕ × List ℕ) × List ℕ) × List ℕ) × List ℕ) × List ℕ) × List ℕ) × ChartKind) × ℤ) × ℕ) × Bool → NumberedChart
chart_of ((((((((((number, id), name), title), units), family), context), kind), priority), update_every), store_first) = record {
  number = number;
  def = record {
    id = id;
    name = name;
    title = title;
    units = units;
    family = family;
    context = context;
    kind = kind;
    priority = priority;
    update_every = update_every;
    store_first = store_first;
  };
}

unfoldable pub read_chart : List ℕ → ReadOf NumberedChart
read_chart bytes =
    read_as chart_of (read_u32 bytes >> read_text >> read_text >> read_text >> read_text >> read_text >> read_text >> read_kind >> read_i64 >> read_u32 >> read_flag)

unfoldable pub chart_bytes : NumberedChart → List ℕ
chart_bytes c =
    u32_bytes c.number ++ text_bytes c.def.id ++ text_bytes c.def.name ++ text_bytes c.def.title ++ text_bytes c.def.units ++ text_bytes c.def.family ++ text_bytes c.def.context ++ kind_bytes c.def.kind ++ i64_bytes c.def.priority ++ u32_bytes c.def.update_every ++ flag_bytes c.def.store_first

-- the charts whose texts are short enough for a spelling
pub record IsShortChart (c : NumberedChart) : Type 0 where
  pub id : length c.def.id < 2 ^ 16
  pub name : length c.def.name < 2 ^ 16
  pub title : length c.def.title < 2 ^ 16
  pub units : length c.def.units < 2 ^ 16
  pub family : length c.def.family < 2 ^ 16
  pub context : length c.def.context < 2 ^ 16

-- the charts that have a spelling
pub record IsChart (c : NumberedChart) : Type 0 where
  pub number : c.number < 2 ^ 32
  pub id : IsText c.def.id
  pub name : IsText c.def.name
  pub title : IsText c.def.title
  pub units : IsText c.def.units
  pub family : IsText c.def.family
  pub context : IsText c.def.context
  pub priority : FitsSigned w64 c.def.priority
  pub update_every : c.def.update_every < 2 ^ 32

abbrev pub copied_chart_of : ((ℕ × List ℕ) × List ℕ) × ℕ → CopiedChart
copied_chart_of (((number, id), context), update_every) =
    record { number = number; id = id; context = context; update_every = update_every }

unfoldable pub read_copied_chart : List ℕ → ReadOf CopiedChart
read_copied_chart bytes = read_as copied_chart_of (read_u32 bytes >> read_text >> read_text >> read_u32)

unfoldable pub copied_chart_bytes : CopiedChart → List ℕ
copied_chart_bytes c = u32_bytes c.number ++ text_bytes c.id ++ text_bytes c.context ++ u32_bytes c.update_every

pub record IsShortCopiedChart (c : CopiedChart) : Type 0 where
  pub id : length c.id < 2 ^ 16
  pub context : length c.context < 2 ^ 16

pub record IsCopiedChart (c : CopiedChart) : Type 0 where
  pub number : c.number < 2 ^ 32
  pub id : IsText c.id
  pub context : IsText c.context
  pub update_every : c.update_every < 2 ^ 32
