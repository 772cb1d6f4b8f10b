-- The law of what a side has, made of the laws of its parts.
use Rattle.std.proofs.Common.{ℕ, length, refl}
use Rattle.field_codec.specs.declared.fault.FieldFault.TheVariants.{Range}
use Rattle.field_codec.specs.Field.{IsField}
use Rattle.field_codec.proofs.Combined.{passing_field, same_values}
use Rattle.field_codec.proofs.Fields.{u32_field}
use Rattle.field_codec.proofs.Lists.{◌⊗◌, by_field, items_field, list_field, made_of}
use Rattle.alarm_events.proofs.Fields.{kept_field}
use Rattle.entry_codec.proofs.Fields.{chart_field, dimension_field}
use Rattle.side_codec.specs.declared.definitions.Definitions.{Definitions}
use Rattle.side_codec.specs.declared.lasts.Lasts.{Lasts}
use Rattle.side_codec.specs.Definitions.{are_definitions, definitions_bytes, definitions_of, read_definitions, AreDefinitions}
use Rattle.side_codec.specs.Lasts.{lasts_bytes, lasts_of, read_lasts, AreLasts}
use Rattle.side_codec.specs.Sides.{read_fields, read_lasts_of, read_series, series_bytes, series_in, side_bytes, side_of, AreSeries, HasSpelling, Series}
use Rattle.side_codec.proofs.Parts.{gap_field, last_point_field, last_row_field, role_field}

pub definitions_field : IsField AreDefinitions definitions_bytes read_definitions
unfolding definitions_bytes read_definitions
definitions_field =
    made_of AreDefinitions definitions_of (λ d. (d.charts, d.dimensions)) (passing_field _ _ _ are_definitions Range (list_field chart_field ⊗ list_field dimension_field))
    (λ x fits. (record { charts = fits.0.0; dimensions = fits.0.1; registered = fits.1 }, refl))
    (λ d fits. (((fits.charts, fits.dimensions), fits.registered), refl))

pub lasts_field : (charts series : ℕ) → IsField (AreLasts charts series) lasts_bytes (read_lasts charts series)
unfolding lasts_bytes read_lasts
lasts_field charts series =
    made_of (AreLasts charts series) lasts_of (λ l. ((l.chart_moments, l.last_rows), l.last_points)) (items_field u32_field charts ⊗ items_field last_row_field series ⊗ items_field last_point_field series)
    (λ x fits. (record { chart_moments = fits.0.0; last_rows = fits.0.1; last_points = fits.1 }, refl))
    (λ l fits. (((fits.chart_moments, fits.last_rows), fits.last_points), refl))

abbrev AreLastsOf : Definitions → Lasts → Type 0
AreLastsOf d l = AreLasts (length d.charts) (length d.dimensions) l

pub series_field : IsField AreSeries series_bytes read_series
unfolding series_bytes read_series
series_field =
    same_values (λ (p : Series). AreDefinitions p.0 × AreLastsOf p.0 p.1) AreSeries series_bytes read_series
    (λ p fits. record { definitions = fits.0; lasts = fits.1 })
    (λ p fits. (fits.definitions, fits.lasts))
    (by_field AreDefinitions AreLastsOf definitions_bytes lasts_bytes read_definitions read_lasts_of definitions_field (λ d. lasts_field (length d.charts) (length d.dimensions)))

pub side_field : IsField HasSpelling side_bytes read_fields
unfolding side_bytes read_fields
side_field =
    made_of HasSpelling side_of (λ s. (((s.role, series_in s), s.alarms), s.gaps)) (role_field ⊗ series_field ⊗ kept_field ⊗ list_field gap_field)
    (λ x fits. (record { role = fits.0.0.0; definitions = fits.0.0.1.definitions; lasts = fits.0.0.1.lasts; alarms = fits.0.1; gaps = fits.1 }, refl))
    (λ s fits. ((((fits.role, record { definitions = fits.definitions; lasts = fits.lasts }), fits.alarms), fits.gaps), refl))
