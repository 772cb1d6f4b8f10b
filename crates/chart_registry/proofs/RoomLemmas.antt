-- What the accepted lines of a text leave of definitions: the registry of the history so far has room for those
-- of the open beat.
use Rattle.std.proofs.Common.{◌≡◌, ℕ, ◌+◌, ◌≤◌, Bool, true, false, not, ◌&&◌, ◌||◌, nat_eq, nat_le, List, [], ◌∷◌, length, Option, Some, None, is_some, refl, sym, ap, ◌∙◌, arith, true≢false, if◌then◌else◌}
use Rattle.std.specs.List.{count_by, find, list_any, AllByRecursion}
use Rattle.std.specs.Option.{option_map_or}
use Rattle.std.proofs.lemmas.Bool.{eqb-true, leb-false}
use Rattle.history.specs.declared.beat.OpenBeat.{OpenBeat}
use Rattle.history.specs.declared.beat.OpenDim.{OpenDim}
use Rattle.history.specs.declared.beat.OpenRow.{OpenRow}
use Rattle.history.specs.declared.chart.ChartDef.{ChartDef}
use Rattle.history.specs.declared.dimension.DimDef.{DimDef}
use Rattle.history.specs.declared.fault.BlockFault.TheVariants as fault
use Rattle.history.specs.declared.line.Line.{Line}
use Rattle.history.specs.declared.line.Line.TheVariants as line
use Rattle.history.specs.History.{Beat, registry_of}
use Rattle.history.specs.Looking.{charts, dimensions, last_chart, open_block, rows, with_grid}
use Rattle.history.specs.Put.{put, put_all}
use Rattle.history.specs.Read.{history_at}
use Rattle.history.specs.Refusal.{chart_now, chart_refusal, charts_full, dimension_refusal, dimensions_full, has_dimension, is_new_chart, is_new_dimension}
use Rattle.history.specs.Registry.{Registry, is_chart, is_dimension, same_chart, same_dimension, with_definitions}
use Rattle.chart_registry.proofs.ApartLemmas.{same-parts}
use Rattle.chart_registry.proofs.Applying.{all-put, has_chart-any, same_chart-alike}
use Rattle.chart_registry.proofs.Finding.{found-all, found-passes, one_if}
use Rattle.chart_registry.proofs.Growing.{same_dimension-alike}
use Rattle.chart_registry.proofs.RegistryLemmas.{or_false}
use Rattle.chart_registry.proofs.RowsLemmas.{same_text}
use Rattle.chart_registry.specs.Accepted.{AreAccepted}
use Rattle.chart_registry.proofs.FewLemmas.{count-cons, count-put_all, count_of}
use Rattle.chart_registry.proofs.AcceptedLemmas.{passed, wanted}

-- ---- how long a list is that takes more
count-all : {A : Type 0} (xs : List A) → count_by (λ (x : A). true) xs ≡ length xs
count-all [] = refl
count-all {A} (x ∷ xs) = omega (arith, count-cons (λ (x : A). true) x xs, count-all xs)

-- at most the old and the new together
pub length-put_all : {A : Type 0} (same : A → A → Bool) → ((z x y : A) → same x y ≡ true → same z x ≡ same z y) → (xs ys : List A)
    → length (put_all same xs ys) ≤ length xs + count_by (λ (y : A). not (list_any (same y) xs)) ys
length-put_all {A} same right xs ys =
    let few : count_by (λ (x : A). true) (put_all same xs ys) ≤ count_by (λ (x : A). true) xs + count_by (λ (y : A). not (list_any (same y) xs)) ys
    = count-put_all same (λ (x : A). true) (λ x y e. refl) right xs ys in
    omega (arith, few, count-all (put_all same xs ys), count-all xs)

-- a list that takes one thing more has one more that passes, if it is new and passes
count-put : {A : Type 0} (same : A → A → Bool) (p : A → Bool) → ((x y : A) → same x y ≡ true → p x ≡ p y) → ((z x y : A) → same x y ≡ true → same z x ≡ same z y)
    → (xs : List A) (x : A) → count_by p (put same xs x) ≤ count_by p xs + one_if (p x && not (list_any (same x) xs))
count-put {A} same p alike right xs x =
    omega (arith, count-put_all same p alike right xs (x ∷ []), count-cons (λ (x : A). p x && not (list_any (same x) xs)) x [])

-- ---- tests
not-new : (a b : Bool) → (a || b) ≡ true → (not a && not b) ≡ false
not-new true b e = refl
not-new false true e = refl
not-new false false e = absurd (true≢false (sym e))

not-new_last : (a b : Bool) → (b || a) ≡ true → (not a && not b) ≡ false
not-new_last true b e = refl
not-new_last false true e = refl
not-new_last false false e = absurd (true≢false (sym e))

at-most-one : (b : Bool) → one_if b ≤ 1
at-most-one true = omega arith
at-most-one false = omega arith

none-and : {A : Type 0} (p g : A → Bool) (xs : List A) → list_any p xs ≡ false → list_any (λ (x : A). p x && g x) xs ≡ false
none-and p g [] none = refl
none-and p g (x ∷ xs) none = let parts = or_false (p x) (list_any p xs) none in λ i. (parts.0 i && g x) || none-and p g xs parts.1 i

-- ---- charts that keep their update_every
-- the registry has a chart with this id and another update_every
abbrev pub has_other_grid : Registry → List ℕ → ℕ → Bool
has_other_grid registry id every = option_map_or (λ (old : ChartDef). not (nat_eq old.update_every every)) (find (is_chart id) registry.charts) false

-- ---- what holds after each line
-- a registry has room for these definitions, and no chart changes its update_every
pub record HasRoomFor (registry : Registry) (cs : List ChartDef) (ds : List OpenDim) : Type 0 where
  pub charts : length registry.charts + count_by (is_new_chart registry) cs ≤ 4096
  pub dimensions : length registry.dimensions + count_by (is_new_dimension registry) ds ≤ 65536
  pub grids : AllByRecursion (λ (def : ChartDef). has_other_grid registry def.id def.update_every ≡ false) cs

module _ (registry : Registry) (cs : List ChartDef) (ds : List OpenDim) (rs : List OpenRow) (room : HasRoomFor registry cs ds) where
  abbrev open_now : OpenBeat
  open_now = record { charts = cs; dimensions = ds; rows = rs }

  -- ---- a CHART line
  module _ (def : ChartDef) (free : chart_refusal registry open_now def ≡ None) where
    abbrev grid_kept : Option ChartDef → Option fault.the_data
    grid_kept found = option_map_or (λ (old : ChartDef). if nat_eq old.update_every def.update_every then None else Some fault.GridChanged) found
        (if charts_full registry open_now then Some fault.TooManyCharts else None)

    chart-count : length registry.charts + count_by (is_new_chart registry) (put same_chart cs def) ≤ 4096
    chart-count = by (chart_now registry open_now def.id) refl free
      where
        one_more : count_by (is_new_chart registry) (put same_chart cs def) ≤ count_by (is_new_chart registry) cs + one_if (is_new_chart registry def && not (list_any (same_chart def) cs))
        one_more = count-put same_chart (is_new_chart registry) (λ x y e. ap (λ (id : List ℕ). not (list_any (is_chart id) registry.charts)) (same_text x.id y.id e)) (λ z. same_chart-alike z.id) cs def

        by : (found : Option ChartDef) → chart_now registry open_now def.id ≡ found → grid_kept found ≡ None → length registry.charts + count_by (is_new_chart registry) (put same_chart cs def) ≤ 4096
        by None e free =
            let full = passed (charts_full registry open_now) fault.TooManyCharts None free in
            omega (arith, one_more, at-most-one (is_new_chart registry def && not (list_any (same_chart def) cs)), leb-false 4096 (length registry.charts + count_by (is_new_chart registry) cs) full.0)
        by (Some old) e free =
            let known : (list_any (is_chart def.id) cs || list_any (is_chart def.id) registry.charts) ≡ true = sym (has_chart-any registry open_now def.id) ∙ ap is_some e in
            let none : one_if (is_new_chart registry def && not (list_any (same_chart def) cs)) ≡ 0 = ap one_if (not-new_last (list_any (is_chart def.id) registry.charts) (list_any (is_chart def.id) cs) known) in
            omega (arith, one_more, none, room.charts)

    chart-grid : has_other_grid registry def.id def.update_every ≡ false
    chart-grid = by (find (is_chart def.id) cs) refl free
      where
        known : (found : Option ChartDef) → grid_kept found ≡ None → option_map_or (λ (old : ChartDef). not (nat_eq old.update_every def.update_every)) found false ≡ false
        known None free = refl
        known (Some old) free = ap not (wanted (nat_eq old.update_every def.update_every) fault.GridChanged free)

        by : (found : Option ChartDef) → find (is_chart def.id) cs ≡ found → grid_kept (option_map_or Some found (find (is_chart def.id) registry.charts)) ≡ None → has_other_grid registry def.id def.update_every ≡ false
        by None e free = known (find (is_chart def.id) registry.charts) free
        by (Some old) e free =
            let here = found-all (λ (def : ChartDef). has_other_grid registry def.id def.update_every ≡ false) (is_chart def.id) cs old room.grids e in
            let ids : def.id ≡ old.id = same_text def.id old.id (found-passes (is_chart def.id) cs old e) in
            let grids : def.update_every ≡ old.update_every = sym (eqb-true old.update_every def.update_every (wanted (nat_eq old.update_every def.update_every) fault.GridChanged free)) in
            (λ i. has_other_grid registry (ids i) (grids i)) ∙ here

    room-chart : HasRoomFor registry (put same_chart cs def) ds
    room-chart = record {
      charts = chart-count;
      dimensions = room.dimensions;
      grids = all-put same_chart (λ (def : ChartDef). has_other_grid registry def.id def.update_every ≡ false) cs def room.grids chart-grid;
    }

  -- ---- a DIMENSION line
  module _ (dimension : OpenDim) where
    new-alike : (x y : OpenDim) → same_dimension x y ≡ true → is_new_dimension registry x ≡ is_new_dimension registry y
    new-alike x y e = let parts = same-parts x y e in λ i. not (list_any (is_dimension (parts.0 i) (parts.1 i)) registry.dimensions)

    one_more : count_by (is_new_dimension registry) (put same_dimension ds dimension) ≤ count_by (is_new_dimension registry) ds + one_if (is_new_dimension registry dimension && not (list_any (same_dimension dimension) ds))
    one_more = count-put same_dimension (is_new_dimension registry) new-alike (λ z. same_dimension-alike z.chart z.def.id) ds dimension

    dimension-count : dimension_refusal registry open_now dimension.chart dimension.def ≡ None → length registry.dimensions + count_by (is_new_dimension registry) (put same_dimension ds dimension) ≤ 65536
    dimension-count free = by (has_dimension registry open_now dimension.chart dimension.def.id) refl free
      where
        by : (b : Bool) → has_dimension registry open_now dimension.chart dimension.def.id ≡ b
            → (if b then None else if dimensions_full registry open_now dimension.chart then Some fault.TooManyDimensions else None) ≡ None
            → length registry.dimensions + count_by (is_new_dimension registry) (put same_dimension ds dimension) ≤ 65536
        by true e free =
            let none : one_if (is_new_dimension registry dimension && not (list_any (same_dimension dimension) ds)) ≡ 0
            = ap one_if (not-new (list_any (same_dimension dimension) registry.dimensions) (list_any (same_dimension dimension) ds) e) in
            omega (arith, one_more, none, room.dimensions)
        by false e free =
            let full = passed (dimensions_full registry open_now dimension.chart) fault.TooManyDimensions None free in
            let parts = or_false (nat_le 1024 (count_of registry ds dimension.chart)) (nat_le 65536 (length registry.dimensions + count_by (is_new_dimension registry) ds)) full.0 in
            omega (arith, one_more, at-most-one (is_new_dimension registry dimension && not (list_any (same_dimension dimension) ds)), leb-false 65536 (length registry.dimensions + count_by (is_new_dimension registry) ds) parts.1)

    room-more : dimension_refusal registry open_now dimension.chart dimension.def ≡ None → HasRoomFor registry cs (put same_dimension ds dimension)
    room-more free = record { charts = room.charts; dimensions = dimension-count free; grids = room.grids }

  -- the line of a dimension, whose chart is that of the last CHART line
  room-dimension : (def : DimDef) (block : Option (List ℕ)) → option_map_or (λ chart. dimension_refusal registry open_now chart def) block (Some fault.NoChart) ≡ None
      → HasRoomFor registry cs (option_map_or (λ chart. put same_dimension ds (record { chart = chart; def = def })) block ds)
  room-dimension def None free = room
  room-dimension def (Some chart) free = room-more (record { chart = chart; def = def }) free

  -- ---- a registry with the definitions
  pub room-charts : length (with_definitions registry cs ds).charts ≤ 4096
  room-charts = omega (arith, length-put_all same_chart (λ z. same_chart-alike z.id) registry.charts cs, room.charts)

  pub room-dimensions : length (with_definitions registry cs ds).dimensions ≤ 65536
  room-dimensions = omega (arith, length-put_all same_dimension (λ z. same_dimension-alike z.chart z.def.id) registry.dimensions ds, room.dimensions)

-- ---- a text
module _ (every : ℕ) (h : List Beat) (few_charts : length (registry_of h).charts ≤ 4096) (few_dimensions : length (registry_of h).dimensions ≤ 65536) where
  abbrev now : List Line → Registry
  now past = registry_of (history_at every h past)

  pub text-room : (past : List Line) → AreAccepted every h past → HasRoomFor (now past) (charts every past) (dimensions past)
  text-room [] accepted = record { charts = omega (arith, few_charts); dimensions = omega (arith, few_dimensions); grids = tt }
  text-room (line.Chart def ∷ past) accepted =
      room-chart (now past) (charts every past) (dimensions past) (rows past) (text-room past accepted.1) (with_grid every def) (passed (is_some (open_block past)) fault.OpenBlock _ accepted.0).1
  text-room (line.Dimension def ∷ past) accepted =
      room-dimension (now past) (charts every past) (dimensions past) (rows past) (text-room past accepted.1) def (last_chart past) (passed (is_some (open_block past)) fault.OpenBlock _ accepted.0).1
  text-room (line.Moment moment ∷ past) accepted =
      let room : HasRoomFor (now past) (charts every past) (dimensions past) = text-room past accepted.1 in
      record {
        charts = omega (arith, room-charts (now past) (charts every past) (dimensions past) (rows past) room);
        dimensions = omega (arith, room-dimensions (now past) (charts every past) (dimensions past) (rows past) room);
        grids = tt;
      }
  text-room (line.Begin chart ∷ past) accepted = text-room past accepted.1
  text-room (line.Set id value anomalous ∷ past) accepted = text-room past accepted.1
  text-room (line.End ∷ past) accepted = text-room past accepted.1
  text-room (line.Flush ∷ past) accepted = text-room past accepted.1
  text-room (line.Disable ∷ past) accepted = text-room past accepted.1
  text-room (line.Query text ∷ past) accepted = text-room past accepted.1
  text-room (line.Skipped ∷ past) accepted = text-room past accepted.1
