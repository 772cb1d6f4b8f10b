-- The beat that a MOMENT of an accepted text closes is not refused.
use Rattle.std.proofs.Common.{◌≡◌, ℕ, ◌+◌, ◌≤◌, Bool, true, false, not, ◌&&◌, ◌||◌, nat_le, nat_lt, List, [], ◌∷◌, length, All, Option, Some, None, IsSome, is_some, refl, sym, ap, ◌∙◌, if◌then◌else◌}
use Rattle.std.specs.List.{count_by, list_any, AllByRecursion}
use Rattle.std.proofs.lemmas.Bool.{le-ltb}
use Rattle.std.proofs.lemmas.List.Elements.{recursion_from_All}
use Rattle.history.specs.declared.beat.OpenBeat.{OpenBeat}
use Rattle.history.specs.declared.beat.OpenDim.{OpenDim}
use Rattle.history.specs.declared.beat.OpenRow.{OpenRow}
use Rattle.history.specs.declared.beat.OpenValue.{OpenValue}
use Rattle.history.specs.declared.chart.ChartDef.{ChartDef}
use Rattle.history.specs.declared.fault.BlockFault.TheVariants as fault
use Rattle.history.specs.declared.line.Line.{Line}
use Rattle.history.specs.declared.line.Line.TheVariants as line
use Rattle.history.specs.History.{Beat, child, last, registry_of}
use Rattle.history.specs.Looking.{beat, charts, dimensions, open_block, rows}
use Rattle.history.specs.Read.{history_at}
use Rattle.history.specs.Refusal.{has_chart, has_dimension, is_new_chart, is_new_dimension, is_off_grid}
use Rattle.history.specs.Registry.{Registry, is_chart, is_dimension, same_dimension, chart_of, series_of, with_definitions}
use Rattle.chart_registry.proofs.Applying.{any-put_all, has_chart-applied}
use Rattle.chart_registry.proofs.Places.{list_any-position}
use Rattle.history.specs.Regular.{IsRegular}
use Rattle.chart_registry.specs.Accepted.{AreAccepted, IsWithin}
use Rattle.chart_registry.proofs.Finding.{all-weaker}
use Rattle.chart_registry.proofs.Growing.{same_dimension-alike}
use Rattle.chart_registry.proofs.FewLemmas.{HaveFew}
use Rattle.chart_registry.proofs.RoomLemmas.{text-room, HasRoomFor}
use Rattle.chart_registry.proofs.AcceptedLemmas.{passed, text-open_few, text-regular}
use Rattle.beat_entries.specs.Rules.{beat_refusal, changes_grid, changes_grid_of, dimensions_with, fills_chart, is_too_long, lacks_chart, lacks_dimension, row_lacks_dimension, too_many_charts, too_many_dimensions}

-- ---- tests
passes : {A : Type 0} (b : Bool) (x : A) (rest : Option A) → b ≡ false → rest ≡ None → (if b then Some x else rest) ≡ None
passes b x rest e free = ap (λ (b : Bool). if b then Some x else rest) e ∙ free

never : (a : Bool) → (a && false) ≡ false
never true = refl
never false = refl

module _ {A : Type 0} (q : A → Bool) where
  none-of : (xs : List A) → AllByRecursion (λ (x : A). q x ≡ false) xs → list_any q xs ≡ false
  none-of [] all = refl
  none-of (x ∷ xs) all = λ i. all.0 i || none-of xs all.1 i

  none-at_all : ((x : A) → q x ≡ false) → (xs : List A) → list_any q xs ≡ false
  none-at_all fails [] = refl
  none-at_all fails (x ∷ xs) = λ i. fails x i || none-at_all fails xs i

-- ---- the beat that is closed
module _ (registry : Registry) (cs : List ChartDef) (ds : List OpenDim) (rs : List OpenRow) (room : HasRoomFor registry cs ds) (few : HaveFew registry ds) where
  abbrev open_now : OpenBeat
  open_now = record { charts = cs; dimensions = ds; rows = rs }

  module _ (owners : All (λ (dimension : OpenDim). has_chart registry open_now dimension.chart ≡ true) ds) (regular : IsRegular (with_definitions registry cs ds) open_now) where
    abbrev closed : Registry
    closed = with_definitions registry cs ds

    chart-there : (id : List ℕ) → IsSome (chart_of closed id) → not (has_chart registry open_now id) ≡ false
    chart-there id there = ap not (sym (has_chart-applied registry open_now id) ∙ sym (list_any-position (is_chart id) closed.charts) ∙ there)

    dimension-there : (chart id : List ℕ) → IsSome (series_of closed chart id) → not (has_dimension registry open_now chart id) ≡ false
    dimension-there chart id there =
        ap not (sym (any-put_all same_dimension (is_dimension chart id) (same_dimension-alike chart id) registry.dimensions ds) ∙ sym (list_any-position (is_dimension chart id) closed.dimensions) ∙ there)

    has_charts : lacks_chart registry open_now ≡ false
    has_charts = λ i. of_rows i || of_dimensions i
      where
        of_rows : list_any (λ (row : OpenRow). not (has_chart registry open_now row.chart)) rs ≡ false
        of_rows =
            none-of (λ (row : OpenRow). not (has_chart registry open_now row.chart)) rs
            (all-weaker (λ (row : OpenRow). IsSome (chart_of closed row.chart)) (λ (row : OpenRow). not (has_chart registry open_now row.chart) ≡ false)
            (λ row. chart-there row.chart) rs
            (recursion_from_All (λ (row : OpenRow). IsSome (chart_of closed row.chart)) rs regular.charts))

        of_dimensions : list_any (λ (dimension : OpenDim). not (has_chart registry open_now dimension.chart)) ds ≡ false
        of_dimensions =
            none-of (λ (dimension : OpenDim). not (has_chart registry open_now dimension.chart)) ds
            (all-weaker (λ (dimension : OpenDim). has_chart registry open_now dimension.chart ≡ true) (λ (dimension : OpenDim). not (has_chart registry open_now dimension.chart) ≡ false)
            (λ dimension there. ap not there) ds (recursion_from_All (λ (dimension : OpenDim). has_chart registry open_now dimension.chart ≡ true) ds owners))

    abbrev AreThere : OpenRow → Type 0
    AreThere row = All (λ (value : OpenValue). IsSome (series_of closed row.chart value.id)) row.values

    row-has : (row : OpenRow) → AreThere row → row_lacks_dimension registry open_now row ≡ false
    row-has row there =
        none-of (λ (value : OpenValue). not (has_dimension registry open_now row.chart value.id)) row.values
        (all-weaker (λ (value : OpenValue). IsSome (series_of closed row.chart value.id)) (λ (value : OpenValue). not (has_dimension registry open_now row.chart value.id) ≡ false)
        (λ value. dimension-there row.chart value.id) row.values (recursion_from_All (λ (value : OpenValue). IsSome (series_of closed row.chart value.id)) row.values there))

    has_dimensions : lacks_dimension registry open_now ≡ false
    has_dimensions =
        none-of (row_lacks_dimension registry open_now) rs
        (all-weaker AreThere (λ (row : OpenRow). row_lacks_dimension registry open_now row ≡ false) row-has rs (recursion_from_All AreThere rs regular.dimensions))

    room-charts : too_many_charts registry open_now ≡ false
    room-charts = le-ltb 4096 (length registry.charts + count_by (is_new_chart registry) cs) room.charts

    short-rows : list_any is_too_long rs ≡ false
    short-rows =
        none-of is_too_long rs
        (all-weaker (λ (row : OpenRow). length row.values ≤ 1024) (λ (row : OpenRow). is_too_long row ≡ false) (λ row few. le-ltb 1024 (length row.values) few) rs
        (recursion_from_All (λ (row : OpenRow). length row.values ≤ 1024) rs regular.limit))

    fills-none : (dimension : OpenDim) → fills_chart registry open_now dimension ≡ false
    fills-none dimension =
        ap (λ (b : Bool). is_new_dimension registry dimension && b) (le-ltb 1024 (dimensions_with registry open_now dimension.chart) (few dimension.chart)) ∙ never (is_new_dimension registry dimension)

    room-dimensions : too_many_dimensions registry open_now ≡ false
    room-dimensions =
        let all : nat_lt 65536 (length registry.dimensions + count_by (is_new_dimension registry) ds) ≡ false = le-ltb 65536 (length registry.dimensions + count_by (is_new_dimension registry) ds) room.dimensions in
        λ i. all i || (none-at_all (fills_chart registry open_now) fills-none ds i || short-rows i)

    accepted-beat : (copies : Bool) (last moment : ℕ) → copies ≡ false → nat_le moment last ≡ false → is_off_grid registry open_now moment ≡ false → beat_refusal registry copies last moment open_now ≡ None
    unfolding beat_refusal
    accepted-beat copies last moment own later on =
        passes copies fault.MixedRoles _ own
        (passes (nat_le moment last) (fault.MomentOrder last) _ later
        (passes (lacks_chart registry open_now) fault.NoChart _ has_charts
        (passes (lacks_dimension registry open_now) fault.NoDimension _ has_dimensions
        (passes (changes_grid registry open_now) fault.GridChanged _ (none-of (changes_grid_of registry) cs room.grids)
        (passes (too_many_charts registry open_now) fault.TooManyCharts _ room-charts
        (passes (too_many_dimensions registry open_now) fault.TooManyDimensions _ room-dimensions
        (passes (is_off_grid registry open_now moment) fault.OffGrid None on refl)))))))

-- ---- a text
module _ (every : ℕ) (h : List Beat) (within : IsWithin (registry_of h)) where
  abbrev now : List Line → Registry
  now past = registry_of (history_at every h past)

  -- its dimensions are of charts that it or the registry has
  pub closed-free : (past : List Line) (moment : ℕ) → All (λ (dimension : OpenDim). has_chart (now past) (beat every past) dimension.chart ≡ true) (dimensions past) → AreAccepted every h (line.Moment moment ∷ past)
      → beat_refusal (now past) (is_some (child (history_at every h past))) (last (history_at every h past)) moment (beat every past) ≡ None
  closed-free past moment owners accepted =
      let after = history_at every h past in
      let block = passed (is_some (open_block past)) fault.OpenBlock _ accepted.0 in
      let own = passed (is_some (child after)) fault.MixedRoles _ block.1 in
      let later = passed (nat_le moment (last after)) (fault.MomentOrder (last after)) _ own.1 in
      let on = passed (is_off_grid (now past) (beat every past) moment) fault.OffGrid None later.1 in
      accepted-beat (now past) (charts every past) (dimensions past) (rows past) (text-room every h within.charts within.dimensions past accepted.1) (text-open_few every h past within.each accepted.1)
      owners (text-regular every h past moment within.each accepted) (is_some (child after)) (last after) moment own.0 later.0 on.0
