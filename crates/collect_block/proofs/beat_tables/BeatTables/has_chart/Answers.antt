use Rattle.std.proofs.Common.{◌≡◌, Bool, true, false, ◌||◌, refl, sym, ◌∙◌}
use Rattle.std.specs.List.{list_any}
use Rattle.history.specs.Registry.{is_chart}
use Rattle.chart_registry.proofs.Applying.{has_chart-any}
use Rattle.collect_block.specs.BeatTables.{beat_of}
use Rattle.collect_block.proofs.beat_tables.BeatTables.has_chart.Goals as goal

or-second : (x y : Bool) → y ≡ true → true ≡ (x || y)
or-second true y e = refl
or-second false y e = sym e

pub returns-in-Some : goal.returns-in-Some
returns-in-Some c =
    let id = c.args.id.now in
    or-second (list_any (is_chart id) c.args.self.now.charts) (list_any (is_chart id) c.args.registry.now.charts) (sym c.in-Some.ensures.found)
    ∙ sym (has_chart-any c.args.registry.now (beat_of c.args.self.now) id)
