-- How long the parts of a frame's body are.
use Rattle.std.proofs.Common.{◌≡◌, ℕ, ◌+◌, ◌*◌, List, [], ◌∷◌, ◌++◌, length, arith, refl, length-append}
use Rattle.std.specs.List.{flat_map, sum_by}
use Rattle.std.proofs.lemmas.List.Concat.{length-flat_map}
use Rattle.std.proofs.lemmas.List.Sums.{sum_by-cons}
use Rattle.field_codec.specs.Spelling.{u8_bytes, u32_bytes, u64_bytes, flag_bytes, text_bytes, list_bytes}
use Rattle.field_codec.proofs.Lengths.{length-u8_bytes, length-u32_bytes, length-u64_bytes, length-flag_bytes, length-text_bytes}
use Rattle.replication.specs.declared.beats.Beat.{Beat}
use Rattle.replication.specs.declared.beats.SeriesWord.{SeriesWord}
use Rattle.replication.specs.declared.message.Data.{Data}
use Rattle.replication.specs.declared.names.ChartName.{ChartName}
use Rattle.replication.specs.declared.names.DimName.{DimName}
use Rattle.replication.specs.Bytes.{chart_bytes, dimension_bytes, word_bytes, beat_bytes, names_bytes, data_fields, data_bytes, chart_size, dimension_size, beat_size, data_size}

-- lists of items of equal measures have one measure
sum_by-same : {X : Type 0} (f g : X → ℕ) (xs : List X) → ((x : X) → f x ≡ g x) → sum_by f xs ≡ sum_by g xs
sum_by-same f g [] same = refl
sum_by-same f g (x ∷ xs) same = omega (arith, sum_by-cons f x xs, sum_by-cons g x xs, same x, sum_by-same f g xs same)

length-list_bytes : {X : Type 0} (f : X → List ℕ) (size : X → ℕ) (xs : List X) → ((x : X) → length (f x) ≡ size x) → length (list_bytes f xs) ≡ 4 + sum_by size xs
unfolding list_bytes
length-list_bytes f size xs same =
    omega (arith, length-append (u32_bytes (length xs)) (flat_map f xs), length-u32_bytes (length xs), length-flat_map f xs, sum_by-same (λ x. length (f x)) size xs same)

length-chart_bytes : (chart : ChartName) → length (chart_bytes chart) ≡ chart_size chart
unfolding chart_bytes
length-chart_bytes chart =
    omega (
      arith,
      length-append (text_bytes chart.id) (text_bytes chart.context ++ u32_bytes chart.update_every),
      length-append (text_bytes chart.context) (u32_bytes chart.update_every),
      length-text_bytes chart.id,
      length-text_bytes chart.context,
      length-u32_bytes chart.update_every,
    )

length-dimension_bytes : (dimension : DimName) → length (dimension_bytes dimension) ≡ dimension_size dimension
unfolding dimension_bytes
length-dimension_bytes dimension =
    omega (
      arith,
      length-append (u32_bytes dimension.chart) (text_bytes dimension.id ++ flag_bytes dimension.hidden),
      length-append (text_bytes dimension.id) (flag_bytes dimension.hidden),
      length-u32_bytes dimension.chart,
      length-text_bytes dimension.id,
      length-flag_bytes dimension.hidden,
    )

length-word_bytes : (word : SeriesWord) → length (word_bytes word) ≡ 8
unfolding word_bytes
length-word_bytes word = omega (arith, length-append (u32_bytes word.series) (u32_bytes word.word), length-u32_bytes word.series, length-u32_bytes word.word)

sum_by-const : {X : Type 0} (n : ℕ) (xs : List X) → sum_by (λ _. n) xs ≡ n * length xs
sum_by-const n [] = omega arith
sum_by-const n (x ∷ xs) = grind (arith, sum_by-cons (λ _. n) x xs, sum_by-const n xs)

length-beat_bytes : (beat : Beat) → length (beat_bytes beat) ≡ beat_size beat
unfolding beat_bytes
length-beat_bytes beat =
    omega (
      arith,
      length-append (u32_bytes beat.moment) (list_bytes word_bytes beat.words),
      length-u32_bytes beat.moment,
      length-list_bytes word_bytes (λ _. 8) beat.words length-word_bytes,
      sum_by-const 8 beat.words,
    )

length-names_bytes : (charts : List ChartName) (dimensions : List DimName) → length (names_bytes (record { charts = charts; dimensions = dimensions })) ≡ 8 + sum_by chart_size charts + sum_by dimension_size dimensions
unfolding names_bytes
length-names_bytes charts dimensions =
    omega (
      arith,
      length-append (list_bytes chart_bytes charts) (list_bytes dimension_bytes dimensions),
      length-list_bytes chart_bytes chart_size charts length-chart_bytes,
      length-list_bytes dimension_bytes dimension_size dimensions length-dimension_bytes,
    )

-- a number of four bytes before more bytes
length-after_u32 : (n : ℕ) (rest : List ℕ) → length (u32_bytes n ++ rest) ≡ 4 + length rest
length-after_u32 n rest = omega (arith, length-append (u32_bytes n) rest, length-u32_bytes n)

length-data_fields : (message : Data) → 1 + length (data_fields message) ≡ data_size message
unfolding data_fields
length-data_fields message =
    let names = names_bytes message.names in
    let beats = list_bytes beat_bytes message.beats in
    let ends = names ++ beats in
    let floor = u32_bytes message.floor ++ ends in
    let upto = u32_bytes message.upto ++ floor in
    let from = u32_bytes message.from ++ upto in
    let prev = u32_bytes message.prev ++ from in
    omega (
      arith,
      length-append (u64_bytes message.child) prev,
      length-u64_bytes message.child,
      length-after_u32 message.prev from,
      length-after_u32 message.from upto,
      length-after_u32 message.upto floor,
      length-after_u32 message.floor ends,
      length-append names beats,
      length-names_bytes message.names.charts message.names.dimensions,
      length-list_bytes beat_bytes beat_size message.beats length-beat_bytes,
    )

pub length-data_bytes : (message : Data) → length (data_bytes message) ≡ data_size message
unfolding data_bytes
length-data_bytes message = omega (arith, length-append (u8_bytes 3) (data_fields message), length-u8_bytes 3, length-data_fields message)
