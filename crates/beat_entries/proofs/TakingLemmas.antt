-- A beat by number before its definitions are there.
use Rattle.std.proofs.Common.{◌≡◌, ℕ, ◌≤◌, true, false, not, nat_eq, length, Option, Some, None, Result, Ok, Err, IfOk, OnOk, is_some, sym, ap, subst, ◌∙◌}
use Rattle.std.specs.List.{count_by, find}
use Rattle.std.specs.Option.{option_map_or}
use Rattle.std.proofs.lemmas.Bool.{eqb-true, not-false}
use Rattle.std.proofs.lemmas.List.Elements.{All-from_recursion}
use Rattle.entry_codec.specs.Entries.{is_collected_canonical, IsWithinLimits}
use Rattle.history.specs.declared.beat.OpenBeat.{OpenBeat}
use Rattle.history.specs.declared.beat.OpenDim.{OpenDim}
use Rattle.history.specs.declared.chart.ChartDef.{ChartDef}
use Rattle.history.specs.declared.numbered.NumberedBeat.{NumberedBeat}
use Rattle.history.specs.Numbered.{numbered_beat, numbered_charts, numbered_dimensions, IsThere}
use Rattle.history.specs.Refusal.{is_new_dimension}
use Rattle.history.specs.Registry.{Registry, is_chart, is_of, same_chart, same_dimension}
use Rattle.history.specs.Regular.{AreApart, IsRegular}
use Rattle.chart_registry.specs.Taking.{all_taken, takes_chart, takes_dimension, with_chart, with_charts, with_dimension, with_dimensions}
use Rattle.chart_registry.proofs.Finding.{all-weaker}
use Rattle.beat_entries.specs.declared.coming.Coming.{Coming}
use Rattle.beat_entries.specs.Coming.{CanNumber}
use Rattle.beat_entries.specs.Defined.{IsDefinedIn}
use Rattle.beat_entries.specs.Rules.{changes_grid_of, content_refusal, with_beat, IsOpenBeat}
use Rattle.beat_entries.specs.Taking.{IsJudged}
use Rattle.beat_entries.proofs.AfterLemmas.{defined-after, regular-after}
use Rattle.beat_entries.proofs.DefiningLemmas.{rows-there}
use Rattle.beat_entries.proofs.EntryLemmas.{entry-canonical}
use Rattle.beat_entries.proofs.FollowLemmas.{charts-go, dimensions-go, rows-go, taken-is, MayTake}
use Rattle.beat_entries.proofs.LimitLemmas.{within-limits}
use Rattle.beat_entries.proofs.Slots.{none-all}
use Rattle.beat_entries.proofs.TestLemmas.{IsTested}
use Rattle.beat_entries.proofs.Within.{few-charts, few-dimensions, room-with}

module _ (registry : Registry) (beat : OpenBeat) (coming : Coming) (registry_is : coming.registry.now ≡ registry) (beat_is : coming.beat.now ≡ beat) where
  abbrev after : Registry
  after = with_beat registry beat

  pub same-after : after ≡ with_beat coming.registry.now coming.beat.now
  same-after = λ i. with_beat (sym registry_is i) (sym beat_is i)

  pub can-number : AreApart same_dimension registry.dimensions → AreApart same_chart beat.charts → AreApart same_dimension beat.dimensions
      → length after.charts ≤ 4096 → length after.dimensions ≤ 65536 → is_some coming.fresh ≡ true → CanNumber coming
  can-number own charts dimensions few_charts few fresh = record {
    own_dimensions = subst (λ (r : Registry). AreApart same_dimension r.dimensions) (sym registry_is) own;
    apart_charts = subst (λ (b : OpenBeat). AreApart same_chart b.charts) (sym beat_is) charts;
    apart_dimensions = subst (λ (b : OpenBeat). AreApart same_dimension b.dimensions) (sym beat_is) dimensions;
    fresh = fresh;
    charts = subst (λ (r : Registry). length r.charts ≤ 4096) same-after few_charts;
    dimensions = subst (λ (r : Registry). length r.dimensions ≤ 65536) same-after few;
  }

  pub can-tested : AreApart same_dimension registry.dimensions → IsOpenBeat beat → IsTested registry beat → is_some coming.fresh ≡ true → CanNumber coming
  can-tested own is_open tests =
      can-number own is_open.apart_charts is_open.apart_dimensions (few-charts registry beat tests.few_charts) (few-dimensions registry beat tests.few)

-- ---- a beat that passed its tests
module _ (registry : Registry) (beat : OpenBeat) (is_open : IsOpenBeat beat) (charts : AreApart same_chart registry.charts) (dimensions : AreApart same_dimension registry.dimensions) (tests : IsTested registry beat) where
  abbrev taken : Registry
  taken = with_beat registry beat

  pub tested-defined : IsDefinedIn taken beat
  tested-defined = defined-after registry beat is_open tests.has_charts charts dimensions

  pub tested-regular : IsRegular taken beat
  tested-regular = regular-after registry beat is_open tests.has_charts tests.has_dimensions tests.few

  module _ (moment : ℕ) (numbered : NumberedBeat) (is : numbered ≡ numbered_beat taken moment beat) where
    pub tested-there : IsThere taken numbered
    tested-there = subst (IsThere taken) (sym is) (rows-there taken (numbered_beat taken moment beat) (rows-go taken beat tested-defined tested-regular))

    pub tested-canonical : is_collected_canonical numbered ≡ true
    tested-canonical = ap is_collected_canonical is ∙ entry-canonical taken beat moment

    pub tested-limits : IsWithinLimits numbered
    tested-limits =
        subst IsWithinLimits (sym is)
        (within-limits taken beat tested-defined moment is_open.chart_limits is_open.dimension_limits (few-charts registry beat tests.few_charts) (few-dimensions registry beat tests.few))

  -- ---- what the registry takes of it
  abbrev KeepsGrid : ChartDef → Type 0
  KeepsGrid def = (old : ChartDef) → find (is_chart def.id) registry.charts ≡ Some old → old.update_every ≡ def.update_every

  grid-kept : (def : ChartDef) → changes_grid_of registry def ≡ false → KeepsGrid def
  grid-kept def same old found =
      eqb-true old.update_every def.update_every
      (not-false (nat_eq old.update_every def.update_every) (ap (λ (found : Option ChartDef). option_map_or (λ (old : ChartDef). not (nat_eq old.update_every def.update_every)) found false) (sym found) ∙ same))

  abbrev HasRoom : OpenDim → Type 0
  HasRoom dimension = is_new_dimension registry dimension ≡ true → count_by (is_of dimension.chart) taken.dimensions ≤ 1024

  may : MayTake registry beat
  may = record {
    grids = is_open.grids;
    kept = All-from_recursion KeepsGrid beat.charts (all-weaker (λ (def : ChartDef). changes_grid_of registry def ≡ false) KeepsGrid grid-kept beat.charts (none-all (changes_grid_of registry) beat.charts tests.grids));
    chart_limits = is_open.chart_limits;
    dimension_limits = is_open.dimension_limits;
    charts = few-charts registry beat tests.few_charts;
    dimensions = few-dimensions registry beat tests.few;
    room = All-from_recursion HasRoom beat.dimensions (room-with registry beat tests.few);
  }

  pub tested-charts : all_taken takes_chart with_chart registry (numbered_charts taken beat) ≡ true
  tested-charts = charts-go registry beat charts dimensions tested-defined may

  pub tested-dimensions : all_taken takes_dimension with_dimension (with_charts registry (numbered_charts taken beat)) (numbered_dimensions taken beat) ≡ true
  tested-dimensions = dimensions-go registry beat charts dimensions tested-defined may

  pub tested-taken : with_dimensions (with_charts registry (numbered_charts taken beat)) (numbered_dimensions taken beat) ≡ taken
  tested-taken = sym (taken-is registry beat charts dimensions tested-defined)

-- ---- a beat that was judged
pub judged-is : (registry : Registry) (moment : ℕ) (beat : OpenBeat) (numbered : NumberedBeat) → IsOpenBeat beat → content_refusal registry moment beat ≡ None
    → numbered ≡ numbered_beat (with_beat registry beat) moment beat → IsJudged registry beat numbered
judged-is registry moment beat numbered is_open free is =
    let same : numbered.moment ≡ moment = ap (λ (numbered : NumberedBeat). numbered.moment) is in record {
      is_open = is_open;
      content = ap (λ (moment : ℕ). content_refusal registry moment beat) same ∙ free;
      numbered_is = is ∙ ap (λ (moment : ℕ). numbered_beat (with_beat registry beat) moment beat) (sym same);
    }

pub judged-either : {E : Type 0} (registry : Registry) (moment : ℕ) (beat : OpenBeat) (result : Result NumberedBeat E) → IsOpenBeat beat → OnOk result (content_refusal registry moment beat ≡ None)
    → IfOk result (λ numbered. numbered ≡ numbered_beat (with_beat registry beat) moment beat) → IfOk result (IsJudged registry beat)
judged-either registry moment beat (Ok numbered) is_open free is = judged-is registry moment beat numbered is_open free is
judged-either registry moment beat (Err fault) is_open free is = tt
