-- The law of each thing that an entry has, made of the laws of its fields.
use Rattle.std.proofs.Common.{◌≡◌, ℕ, zero, suc, ◌^◌, ◌<◌, Bool, true, false, refl, arith}
use Rattle.std.specs.Prelude.{nat_lt}
use Rattle.std.proofs.lemmas.Bool.{ltb-true}
use Rattle.field_codec.specs.declared.fault.FieldFault.TheVariants.{Range}
use Rattle.field_codec.specs.Field.{IsField}
use Rattle.field_codec.specs.Reading.{read_as, read_passing, read_u8}
use Rattle.field_codec.specs.Spelling.{u8_bytes}
use Rattle.field_codec.proofs.Combined.{as_field, passing_field}
use Rattle.field_codec.proofs.Fields.{u8_field, u32_field, u64_field, i32_field, i64_field, flag_field}
use Rattle.field_codec.proofs.Lists.{◌⊗◌, made_of, list_field, short_text_field}
use Rattle.history.specs.declared.chart.ChartKind.{ChartKind}
use Rattle.history.specs.declared.chart.ChartKind.TheVariants.{Line, Area, Stacked}
use Rattle.history.specs.declared.dimension.Algorithm.{Algorithm}
use Rattle.history.specs.declared.dimension.Algorithm.TheVariants.{Absolute, Incremental, PercentageOfAbsoluteRow, PercentageOfIncrementalRow}
use Rattle.entry_codec.specs.Charts.{kind_number, kind_of, kind_bytes, read_kind, chart_of, chart_bytes, read_chart, IsChart, copied_chart_of, copied_chart_bytes, read_copied_chart, IsCopiedChart}
use Rattle.entry_codec.specs.Dimensions.{algorithm_number, algorithm_of, algorithm_bytes, read_algorithm, marks_number, marks_of, marks_bytes, read_marks, dimension_of, dimension_bytes, read_dimension, IsDimension, copied_dimension_of, copied_dimension_bytes, read_copied_dimension, IsCopiedDimension}
use Rattle.entry_codec.specs.Entries.{collected_of, collected_bytes, read_collected, IsCollected, copied_of, copied_bytes, read_copied, IsCopied, gap_of, gap_bytes, read_gap, IsGap}
use Rattle.entry_codec.specs.Rows.{value_of, value_bytes, read_value, IsValue, row_of, row_bytes, read_row, IsRow}
use Rattle.entry_codec.specs.Words.{word_of, word_bytes, read_word, IsCopiedWord}

-- ---- enumerated bytes

-- a byte below a limit, as what it stands for
byte_as : {Y : Type 0} (limit : ℕ) (to : ℕ → Y) (from : Y → ℕ) → ((n : ℕ) → n < limit → from (to n) ≡ n)
    → ((y : Y) → from y < 256) → ((y : Y) → nat_lt (from y) limit ≡ true) → ((y : Y) → to (from y) ≡ y)
    → IsField (λ (y : Y). Unit {0}) (λ y. u8_bytes (from y)) (λ bytes. read_as to (read_passing (λ n. nat_lt n limit) Range (read_u8 bytes)))
byte_as {Y} limit to from there small below back =
    as_field (λ n. (n < 2 ^ 8) × (nat_lt n limit ≡ true)) (λ (y : Y). Unit {0}) u8_bytes (λ bytes. read_passing (λ n. nat_lt n limit) Range (read_u8 bytes)) to from
    (λ n fits. (tt, there n (ltb-true n limit fits.1)))
    (λ y fits. ((small y, below y), back y))
    (passing_field (λ n. n < 2 ^ 8) u8_bytes read_u8 (λ n. nat_lt n limit) Range u8_field)

pub kind_field : IsField (λ (kind : ChartKind). Unit {0}) kind_bytes read_kind
unfolding kind_bytes read_kind
kind_field = byte_as 3 kind_of kind_number there small below back
  where
    there : (n : ℕ) → n < 3 → kind_number (kind_of n) ≡ n
    there zero lt = refl
    there (suc zero) lt = refl
    there (suc (suc zero)) lt = refl
    there (suc (suc (suc n))) lt = absurd (omega arith)

    small : (kind : ChartKind) → kind_number kind < 256
    small Line = omega arith
    small Area = omega arith
    small Stacked = omega arith

    below : (kind : ChartKind) → nat_lt (kind_number kind) 3 ≡ true
    below Line = refl
    below Area = refl
    below Stacked = refl

    back : (kind : ChartKind) → kind_of (kind_number kind) ≡ kind
    back Line = refl
    back Area = refl
    back Stacked = refl

pub algorithm_field : IsField (λ (algorithm : Algorithm). Unit {0}) algorithm_bytes read_algorithm
unfolding algorithm_bytes read_algorithm
algorithm_field = byte_as 4 algorithm_of algorithm_number there small below back
  where
    there : (n : ℕ) → n < 4 → algorithm_number (algorithm_of n) ≡ n
    there zero lt = refl
    there (suc zero) lt = refl
    there (suc (suc zero)) lt = refl
    there (suc (suc (suc zero))) lt = refl
    there (suc (suc (suc (suc n)))) lt = absurd (omega arith)

    small : (algorithm : Algorithm) → algorithm_number algorithm < 256
    small Absolute = omega arith
    small Incremental = omega arith
    small PercentageOfAbsoluteRow = omega arith
    small PercentageOfIncrementalRow = omega arith

    below : (algorithm : Algorithm) → nat_lt (algorithm_number algorithm) 4 ≡ true
    below Absolute = refl
    below Incremental = refl
    below PercentageOfAbsoluteRow = refl
    below PercentageOfIncrementalRow = refl

    back : (algorithm : Algorithm) → algorithm_of (algorithm_number algorithm) ≡ algorithm
    back Absolute = refl
    back Incremental = refl
    back PercentageOfAbsoluteRow = refl
    back PercentageOfIncrementalRow = refl

pub marks_field : IsField (λ (marks : Bool × Bool). Unit {0}) marks_bytes read_marks
unfolding marks_bytes read_marks
marks_field = byte_as 4 marks_of marks_number there small below back
  where
    there : (n : ℕ) → n < 4 → marks_number (marks_of n) ≡ n
    there zero lt = refl
    there (suc zero) lt = refl
    there (suc (suc zero)) lt = refl
    there (suc (suc (suc zero))) lt = refl
    there (suc (suc (suc (suc n)))) lt = absurd (omega arith)

    small : (marks : Bool × Bool) → marks_number marks < 256
    small (false, false) = omega arith
    small (true, false) = omega arith
    small (false, true) = omega arith
    small (true, true) = omega arith

    below : (marks : Bool × Bool) → nat_lt (marks_number marks) 4 ≡ true
    below (false, false) = refl
    below (true, false) = refl
    below (false, true) = refl
    below (true, true) = refl

    back : (marks : Bool × Bool) → marks_of (marks_number marks) ≡ marks
    back (false, false) = refl
    back (true, false) = refl
    back (false, true) = refl
    back (true, true) = refl

-- ---- what an entry has

pub value_field : IsField IsValue value_bytes read_value
unfolding value_bytes read_value
value_field =
    made_of IsValue value_of (λ c. ((c.series, c.value), c.anomalous)) (u32_field ⊗ i64_field ⊗ flag_field)
    (λ x fits. (record { series = fits.0.0; value = fits.0.1 }, refl))
    (λ c fits. (((fits.series, fits.value), tt), refl))

pub row_field : IsField IsRow row_bytes read_row
unfolding row_bytes read_row
row_field =
    made_of IsRow row_of (λ c. (c.chart, c.values)) (u32_field ⊗ list_field value_field)
    (λ x fits. (record { chart = fits.0; values = fits.1 }, refl))
    (λ c fits. ((fits.chart, fits.values), refl))

pub word_field : IsField IsCopiedWord word_bytes read_word
unfolding word_bytes read_word
word_field =
    made_of IsCopiedWord word_of (λ c. (c.series, c.word)) (u32_field ⊗ u32_field)
    (λ x fits. (record { series = fits.0; word = fits.1 }, refl))
    (λ c fits. ((fits.series, fits.word), refl))

pub chart_field : IsField IsChart chart_bytes read_chart
unfolding chart_bytes read_chart
chart_field =
    made_of IsChart chart_of (λ c. ((((((((((c.number, c.def.id), c.def.name), c.def.title), c.def.units), c.def.family), c.def.context), c.def.kind), c.def.priority), c.def.update_every), c.def.store_first)) (u32_field ⊗ short_text_field ⊗ short_text_field ⊗ short_text_field ⊗ short_text_field ⊗ short_text_field ⊗ short_text_field ⊗ kind_field ⊗ i64_field ⊗ u32_field ⊗ flag_field)
    (λ x fits. (record { number = fits.0.0.0.0.0.0.0.0.0.0; id = fits.0.0.0.0.0.0.0.0.0.1; name = fits.0.0.0.0.0.0.0.0.1; title = fits.0.0.0.0.0.0.0.1; units = fits.0.0.0.0.0.0.1; family = fits.0.0.0.0.0.1; context = fits.0.0.0.0.1; priority = fits.0.0.1; update_every = fits.0.1 }, refl))
    (λ c fits. (((((((((((fits.number, fits.id), fits.name), fits.title), fits.units), fits.family), fits.context), tt), fits.priority), fits.update_every), tt), refl))

pub copied_chart_field : IsField IsCopiedChart copied_chart_bytes read_copied_chart
unfolding copied_chart_bytes read_copied_chart
copied_chart_field =
    made_of IsCopiedChart copied_chart_of (λ c. (((c.number, c.id), c.context), c.update_every)) (u32_field ⊗ short_text_field ⊗ short_text_field ⊗ u32_field)
    (λ x fits. (record { number = fits.0.0.0; id = fits.0.0.1; context = fits.0.1; update_every = fits.1 }, refl))
    (λ c fits. ((((fits.number, fits.id), fits.context), fits.update_every), refl))

pub dimension_field : IsField IsDimension dimension_bytes read_dimension
unfolding dimension_bytes read_dimension
dimension_field =
    made_of IsDimension dimension_of (λ c. (((((((c.series, c.chart), c.def.id), c.def.name), c.def.algorithm), c.def.multiplier), c.def.divisor), (c.def.hidden, c.def.noreset))) (u32_field ⊗ u32_field ⊗ short_text_field ⊗ short_text_field ⊗ algorithm_field ⊗ i32_field ⊗ i32_field ⊗ marks_field)
    (λ x fits. (record { series = fits.0.0.0.0.0.0.0; chart = fits.0.0.0.0.0.0.1; id = fits.0.0.0.0.0.1; name = fits.0.0.0.0.1; multiplier = fits.0.0.1; divisor = fits.0.1 }, refl))
    (λ c fits. ((((((((fits.series, fits.chart), fits.id), fits.name), tt), fits.multiplier), fits.divisor), tt), refl))

pub copied_dimension_field : IsField IsCopiedDimension copied_dimension_bytes read_copied_dimension
unfolding copied_dimension_bytes read_copied_dimension
copied_dimension_field =
    made_of IsCopiedDimension copied_dimension_of (λ c. (((c.series, c.chart), c.id), c.hidden)) (u32_field ⊗ u32_field ⊗ short_text_field ⊗ flag_field)
    (λ x fits. (record { series = fits.0.0.0; chart = fits.0.0.1; id = fits.0.1 }, refl))
    (λ c fits. ((((fits.series, fits.chart), fits.id), tt), refl))

pub collected_field : IsField IsCollected collected_bytes read_collected
unfolding collected_bytes read_collected
collected_field =
    made_of IsCollected collected_of (λ c. (((c.moment, c.charts), c.dimensions), c.rows)) (u32_field ⊗ list_field chart_field ⊗ list_field dimension_field ⊗ list_field row_field)
    (λ x fits. (record { moment = fits.0.0.0; charts = fits.0.0.1; dimensions = fits.0.1; rows = fits.1 }, refl))
    (λ c fits. ((((fits.moment, fits.charts), fits.dimensions), fits.rows), refl))

pub copied_field : IsField IsCopied copied_bytes read_copied
unfolding copied_bytes read_copied
copied_field =
    made_of IsCopied copied_of (λ c. ((((c.child, c.moment), c.charts), c.dimensions), c.words)) (u64_field ⊗ u32_field ⊗ list_field copied_chart_field ⊗ list_field copied_dimension_field ⊗ list_field word_field)
    (λ x fits. (record { child = fits.0.0.0.0; moment = fits.0.0.0.1; charts = fits.0.0.1; dimensions = fits.0.1; words = fits.1 }, refl))
    (λ c fits. (((((fits.child, fits.moment), fits.charts), fits.dimensions), fits.words), refl))

pub gap_field : IsField IsGap gap_bytes read_gap
unfolding gap_bytes read_gap
gap_field =
    made_of IsGap gap_of (λ c. ((c.child, c.from), c.to)) (u64_field ⊗ u32_field ⊗ u32_field)
    (λ x fits. (record { child = fits.0.0; from = fits.0.1; to = fits.1 }, refl))
    (λ c fits. (((fits.child, fits.from), fits.to), refl))
