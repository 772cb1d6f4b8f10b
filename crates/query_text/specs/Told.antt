use Rattle.std.specs.Prelude.{ℕ, List, [], ◌++◌, length, slice_get, codes, Option, Some, None, ℤ}
use Rattle.std.specs.Fmt.{decimal}
use Rattle.std.specs.List.{flat_map}
use Rattle.std.specs.Option.{option_map, option_map_or}
use Rattle.fixed_num.specs.UnitsText.{units_text}
use Rattle.history.specs.declared.beat.OpenDim.{OpenDim}
use Rattle.history.specs.Registry.{Registry}
use Rattle.query_engine.specs.declared.request.Request.{Request}
use Rattle.query_engine.specs.declared.table.Table.{Table}
use Rattle.query_engine.specs.declared.table.TableRow.{TableRow}
use Rattle.query_text.specs.declared.fault.QueryFault.{QueryFault}
use Rattle.query_text.specs.Fault.{fault_number}

-- the id of the dimension with this series
abbrev pub series_id : Registry → ℕ → List ℕ
series_id registry series = option_map_or (λ (dimension : OpenDim). dimension.def.id) (slice_get registry.dimensions series) []

abbrev pub column_text : Registry → ℕ → List ℕ
column_text registry series = codes " " ++ series_id registry series

-- the first line: the number of rows, and the id of each column
abbrev pub head_text : Registry → List ℕ → ℕ → List ℕ
head_text registry series rows =
    codes "ROWS " ++ decimal rows ++ flat_map (column_text registry) series ++ codes "\n"

-- a cell's number, or `null` where it is empty
abbrev pub cell_text : Option ℤ → List ℕ
cell_text None = codes " null"
cell_text (Some units) = codes " " ++ units_text units

-- the line of a window: its start, and its cells
abbrev pub row_text : TableRow → List ℕ
row_text row = decimal row.start ++ flat_map cell_text row.cells ++ codes "\n"

-- the text of an answer
abbrev pub table_text : Registry → Request → Table → List ℕ
table_text registry request table =
    head_text registry request.series (length table.rows) ++ flat_map row_text table.rows

-- the text of a refusal; out of memory has none
abbrev pub fault_text : QueryFault → Option (List ℕ)
fault_text fault = option_map (λ number. codes "ERROR " ++ decimal number ++ codes "\n") (fault_number fault)
