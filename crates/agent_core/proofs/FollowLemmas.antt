-- What holds of a beat that follows a history, as its entry wants it.
use Rattle.std.proofs.Common.{◌≡◌, ℕ, ◌==◌, Bool, false, not, nat_le, List, ◌∷◌, Option, Some, None, is_some, sym, ap, ◌∙◌}
use Rattle.std.specs.List.{find}
use Rattle.std.specs.Option.{option_map_or}
use Rattle.std.proofs.lemmas.Bool.{eqb-true, not-false}
use Rattle.std.proofs.lemmas.List.Elements.{All-from_recursion}
use Rattle.history.specs.declared.beat.OpenBeat.{OpenBeat}
use Rattle.history.specs.declared.chart.ChartDef.{ChartDef}
use Rattle.history.specs.declared.fault.BlockFault.TheVariants as fault
use Rattle.history.specs.History.{Beat, child, collected, last, registry_of}
use Rattle.history.specs.Registry.{Registry, is_chart}
use Rattle.history.specs.Regular.{IsRegular}
use Rattle.chart_registry.proofs.Finding.{all-weaker}
use Rattle.beat_entries.specs.Following.{AreOwned, MayFollow}
use Rattle.beat_entries.proofs.Slots.{none-all}
use Rattle.agent_core.specs.Kept.{Follows}
use Rattle.agent_core.specs.Rules.{beat_refusal, changes_grid, changes_grid_of, lacks_chart, lacks_dimension}
use Rattle.chart_registry.specs.Accepted.{IsWithin}
use Rattle.beat_entries.proofs.AfterLemmas.{owned, regular-after}
use Rattle.chart_registry.proofs.AcceptedLemmas.{passed}
use Rattle.agent_core.proofs.HistoryLemmas.{follows-passed, Passed}
use Rattle.beat_entries.proofs.Within.{room-for, within-after}

-- ---- the update_every of a chart stays
same-grid : (registry : Registry) (copies : Bool) (last moment : ℕ) (beat : OpenBeat) → beat_refusal registry copies last moment beat ≡ None → changes_grid registry beat ≡ false
unfolding beat_refusal
same-grid registry copies last moment beat free =
    let roles = passed copies fault.MixedRoles _ free in
    let order = passed (nat_le moment last) (fault.MomentOrder last) _ roles.1 in
    let owners = passed (lacks_chart registry beat) fault.NoChart _ order.1 in
    let series = passed (lacks_dimension registry beat) fault.NoDimension _ owners.1 in
    (passed (changes_grid registry beat) fault.GridChanged _ series.1).0

abbrev pub KeepsGrid : Registry → ChartDef → Type 0
KeepsGrid registry def = (old : ChartDef) → find (is_chart def.id) registry.charts ≡ Some old → old.update_every ≡ def.update_every

pub keeps : (registry : Registry) (def : ChartDef) → changes_grid_of registry def ≡ false → KeepsGrid registry def
keeps registry def same old found =
    let grid : not (old.update_every == def.update_every) ≡ false
    = ap (λ (f : Option ChartDef). option_map_or (λ (old : ChartDef). not (old.update_every == def.update_every)) f false) (sym found) ∙ same in
    eqb-true old.update_every def.update_every (not-false (old.update_every == def.update_every) grid)

-- ---- the beat
module _ (h : List Beat) (moment : ℕ) (beat : OpenBeat) (follows : Follows h moment beat) where
  abbrev registry : Registry
  registry = registry_of h

  tests : Passed registry (last h) moment beat
  tests = follows-passed h moment beat follows

  pub follows-owned : AreOwned registry beat
  follows-owned = record {
    charts = follows.is_open.apart_charts;
    dimensions = follows.is_open.apart_dimensions;
    owners = owned registry beat tests.has_charts;
  }

  pub follows-regular : IsRegular (registry_of (collected moment beat ∷ h)) beat
  follows-regular = regular-after registry beat follows.is_open tests.has_charts tests.has_dimensions tests.few

  pub follows-may : IsWithin registry → MayFollow registry beat
  follows-may within =
      let room = room-for registry (is_some (child h)) (last h) moment beat follows.accepted in
      let after = within-after registry beat within room.0 room.1 in
      let grid = same-grid registry (is_some (child h)) (last h) moment beat follows.accepted in
      record {
        grids = follows.is_open.grids;
        chart_limits = follows.is_open.chart_limits;
        dimension_limits = follows.is_open.dimension_limits;
        kept = All-from_recursion (KeepsGrid registry) beat.charts
            (all-weaker (λ (def : ChartDef). changes_grid_of registry def ≡ false) (KeepsGrid registry) (keeps registry) beat.charts (none-all (changes_grid_of registry) beat.charts grid));
        charts = after.charts;
        dimensions = after.dimensions;
        each = after.each;
      }
