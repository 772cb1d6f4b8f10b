-- The limits of a registry that takes the definitions of a beat.
use Rattle.std.proofs.Common.{◌≡◌, ℕ, ◌+◌, ◌≤◌, ◌⊎◌, inl, inr, Bool, true, false, ◌&&◌, ◌||◌, nat_lt, List, [], ◌∷◌, length, None, refl, sym, ap, ◌∙◌, arith}
use Rattle.std.specs.List.{list_any, count_by, AllByRecursion}
use Rattle.std.proofs.lemmas.Bool.{and_parts, ltb-false}
use Rattle.history.specs.declared.beat.OpenBeat.{OpenBeat}
use Rattle.history.specs.declared.beat.OpenDim.{OpenDim}
use Rattle.history.specs.declared.fault.BlockFault.TheVariants as fault
use Rattle.history.specs.Refusal.{is_new_chart, is_new_dimension, is_new_of}
use Rattle.history.specs.Registry.{Registry, is_of, same_chart, same_dimension, with_definitions}
use Rattle.chart_registry.proofs.Applying.{same_chart-alike}
use Rattle.chart_registry.proofs.RegistryLemmas.{or_false}
use Rattle.chart_registry.proofs.RowsLemmas.{same_text}
use Rattle.chart_registry.specs.Accepted.{HasFew, IsWithin}
use Rattle.chart_registry.proofs.Finding.{all-weaker, one_if}
use Rattle.chart_registry.proofs.Growing.{same_dimension-alike}
use Rattle.chart_registry.proofs.FewLemmas.{count-cons, few-closed, HaveFew}
use Rattle.beat_entries.proofs.Slots.{none-all}
use Rattle.chart_registry.proofs.RoomLemmas.{length-put_all}
use Rattle.chart_registry.proofs.AcceptedLemmas.{passed}
use Rattle.beat_entries.specs.Rules.{beat_refusal, changes_grid, dimensions_with, fills_chart, is_too_long, lacks_chart, lacks_dimension, too_many_charts, too_many_dimensions}

-- ---- a registry with definitions that it has room for
pub few-charts : (registry : Registry) (beat : OpenBeat) → too_many_charts registry beat ≡ false → length (with_definitions registry beat.charts beat.dimensions).charts ≤ 4096
few-charts registry beat room =
    omega (arith, length-put_all same_chart (λ z. same_chart-alike z.id) registry.charts beat.charts, ltb-false 4096 (length registry.charts + count_by (is_new_chart registry) beat.charts) room)

pub few-dimensions : (registry : Registry) (beat : OpenBeat) → too_many_dimensions registry beat ≡ false → length (with_definitions registry beat.charts beat.dimensions).dimensions ≤ 65536
few-dimensions registry beat room =
    let in_all = (or_false (nat_lt 65536 (length registry.dimensions + count_by (is_new_dimension registry) beat.dimensions)) (list_any (fills_chart registry beat) beat.dimensions || list_any is_too_long beat.rows) room).0 in
    omega (
      arith,
      length-put_all same_dimension (λ z. same_dimension-alike z.chart z.def.id) registry.dimensions beat.dimensions,
      ltb-false 65536 (length registry.dimensions + count_by (is_new_dimension registry) beat.dimensions) in_all,
    )

module _ (registry : Registry) (beat : OpenBeat) where
  -- a chart that takes a new dimension has room for all that it takes
  none_or_room : (chart : List ℕ) (ds : List OpenDim) → list_any (fills_chart registry beat) ds ≡ false → (count_by (is_new_of registry chart) ds ≡ 0) ⊎ (dimensions_with registry beat chart ≤ 1024)
  none_or_room chart [] free = inl refl
  none_or_room chart (d ∷ ds) free =
      let parts = or_false (fills_chart registry beat d) (list_any (fills_chart registry beat) ds) free in
      by (is_new_of registry chart d) refl parts.0 (none_or_room chart ds parts.1)
    where
      by : (b : Bool) → is_new_of registry chart d ≡ b → fills_chart registry beat d ≡ false → (count_by (is_new_of registry chart) ds ≡ 0) ⊎ (dimensions_with registry beat chart ≤ 1024)
          → (count_by (is_new_of registry chart) (d ∷ ds) ≡ 0) ⊎ (dimensions_with registry beat chart ≤ 1024)
      by true e fits rest =
          let both = and_parts (is_of chart d) (is_new_dimension registry d) e in
          let room : nat_lt 1024 (dimensions_with registry beat d.chart) ≡ false = ap (λ (b : Bool). b && nat_lt 1024 (dimensions_with registry beat d.chart)) (sym both.1) ∙ fits in
          let here : dimensions_with registry beat chart ≡ dimensions_with registry beat d.chart = ap (dimensions_with registry beat) (same_text chart d.chart both.0) in
          inr (omega (arith, here, ltb-false 1024 (dimensions_with registry beat d.chart) room))
      by false e fits (inl none) = inl (omega (arith, count-cons (is_new_of registry chart) d ds, ap one_if e, none))
      by false e fits (inr few) = inr few

  few-with : HasFew registry → list_any (fills_chart registry beat) beat.dimensions ≡ false → HaveFew registry beat.dimensions
  few-with few free chart = by (none_or_room chart beat.dimensions free)
    where
      by : (count_by (is_new_of registry chart) beat.dimensions ≡ 0) ⊎ (dimensions_with registry beat chart ≤ 1024) → dimensions_with registry beat chart ≤ 1024
      by (inl none) = omega (arith, none, few chart)
      by (inr room) = room

  pub few-after : HasFew registry → too_many_dimensions registry beat ≡ false → HasFew (with_definitions registry beat.charts beat.dimensions)
  few-after few dimensions chart =
      let parts = or_false (nat_lt 65536 (length registry.dimensions + count_by (is_new_dimension registry) beat.dimensions)) _ dimensions in
      let each = or_false (list_any (fills_chart registry beat) beat.dimensions) (list_any is_too_long beat.rows) parts.1 in
      omega (arith, few-closed registry beat.dimensions chart, few-with few each.0 chart)

  -- there is room for what is new
  pub room-with : too_many_dimensions registry beat ≡ false
      → AllByRecursion (λ (dimension : OpenDim). is_new_dimension registry dimension ≡ true → count_by (is_of dimension.chart) (with_definitions registry beat.charts beat.dimensions).dimensions ≤ 1024) beat.dimensions
  room-with dimensions =
      let parts = or_false (nat_lt 65536 (length registry.dimensions + count_by (is_new_dimension registry) beat.dimensions)) _ dimensions in
      let each = or_false (list_any (fills_chart registry beat) beat.dimensions) (list_any is_too_long beat.rows) parts.1 in
      all-weaker (λ (dimension : OpenDim). fills_chart registry beat dimension ≡ false)
      (λ (dimension : OpenDim). is_new_dimension registry dimension ≡ true → count_by (is_of dimension.chart) (with_definitions registry beat.charts beat.dimensions).dimensions ≤ 1024)
      (λ dimension fits fresh.
      let room : nat_lt 1024 (dimensions_with registry beat dimension.chart) ≡ false = ap (λ (b : Bool). b && nat_lt 1024 (dimensions_with registry beat dimension.chart)) (sym fresh) ∙ fits in
      omega (arith, few-closed registry beat.dimensions dimension.chart, ltb-false 1024 (dimensions_with registry beat dimension.chart) room))
      beat.dimensions (none-all (fills_chart registry beat) beat.dimensions each.0)

  -- the limits hold with a beat that passes its tests
  pub within-after : IsWithin registry → too_many_charts registry beat ≡ false → too_many_dimensions registry beat ≡ false → IsWithin (with_definitions registry beat.charts beat.dimensions)
  within-after within charts dimensions =
      record { charts = few-charts registry beat charts; dimensions = few-dimensions registry beat dimensions; each = few-after within.each dimensions }

-- what a beat that is not refused has room for
pub room-for : (registry : Registry) (copies : Bool) (last moment : ℕ) (beat : OpenBeat) → beat_refusal registry copies last moment beat ≡ None
    → (too_many_charts registry beat ≡ false) × (too_many_dimensions registry beat ≡ false)
unfolding beat_refusal
room-for registry copies last moment beat free =
    let roles = passed copies fault.MixedRoles _ free in
    let order = passed _ (fault.MomentOrder last) _ roles.1 in
    let owners = passed (lacks_chart registry beat) fault.NoChart _ order.1 in
    let series = passed (lacks_dimension registry beat) fault.NoDimension _ owners.1 in
    let grids = passed (changes_grid registry beat) fault.GridChanged _ series.1 in
    let charts = passed (too_many_charts registry beat) fault.TooManyCharts _ grids.1 in
    (charts.0, (passed (too_many_dimensions registry beat) fault.TooManyDimensions _ charts.1).0)
