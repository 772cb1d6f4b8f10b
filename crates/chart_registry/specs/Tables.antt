-- What the tables of a beat's definitions find by hashes.
use Rattle.chart_registry.specs.declared.chart_table.ChartTable.TheInside.{Inside as Charts}
use Rattle.chart_registry.specs.declared.dimension_table.DimensionTable.TheInside.{Inside as Dimensions}
use Rattle.chart_registry.specs.Places.{FindsCharts, FindsDimensions}

-- each chart is found at its place, and no other
abbrev pub AreChartsFound : Charts → Type 0
AreChartsFound kept = FindsCharts kept.places.entries kept.defs.items

-- each dimension is found at its place, and no other
abbrev pub AreDimensionsFound : Dimensions → Type 0
AreDimensionsFound kept = FindsDimensions kept.tables.entries kept.defs.items
