use Rattle.std.proofs.Common.{refl, length}
use Rattle.query_engine.specs.Windows.{may_read}
use Rattle.query_engine.proofs.LawLemmas.{own_cell, same_cell}
use Rattle.query_engine.proofs.TierLemmas.{widths_are, lowest_chosen}
use Rattle.query_engine.proofs.law.tiers_give_equal_cells.Goals as goal

pub returns-clause-chosen : goal.returns-clause-chosen
returns-clause-chosen g c after window =
    let tiers = g.P.Points.tiers c.args.points.now in
    lowest_chosen tiers.floor (may_read tiers.widths after window) (length tiers.widths) refl
    (widths_are tiers.widths (g.met.P.Points.rising_widths c.args.points.now)).some

pub returns-clause-own : goal.returns-clause-own
returns-clause-own g c told tells request i series tier may =
    let tiers = g.P.Points.tiers c.args.points.now in
    own_cell tiers.widths tiers.floor request i tier (told series) (g.met.P.Points.rising_series c.args.points.now told tells series) may

pub returns-clause-same : goal.returns-clause-same
returns-clause-same g c told tells request i series one other may_one may_other low high =
    let tiers = g.P.Points.tiers c.args.points.now in
    same_cell tiers.widths tiers.floor request i one other (told series) (g.met.P.Points.rising_series c.args.points.now told tells series)
    may_one may_other low high
