use Rattle.std.proofs.Common.{◌≡◌}
use Rattle.history.specs.Numbered.{numbered_rows}
use Rattle.beat_entries.specs.Rules.{with_beat}
use Rattle.beat_entries.proofs.taking.number.Goals as goal

pub returns : goal.returns
returns c =
    let registry = with_beat c.args.coming.now.registry.now c.args.coming.now.beat.now in
    let can = c.requires.can c.in_ok-made.ensures.found in
    let rows : c.in_ok-sorted.field-0 ≡ numbered_rows registry c.args.beat.now
    = c.in_ok-sorted.ensures registry c.args.beat.now c.requires.defined.own_charts c.requires.apart (c.requires.rows can) in
    λ i. record { moment = c.args.moment; charts = c.in_ok-made.ensures.charts i; dimensions = c.in_ok-made.ensures.dimensions i; rows = rows i }
