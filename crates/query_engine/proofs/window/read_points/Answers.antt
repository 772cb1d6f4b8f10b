use Rattle.std.proofs.Common.{◌≡◌, ◌-◌, ◌^◌, ◌≤◌, min, List, arith, sym, ap, subst, ◌∙◌}
use Rattle.std.specs.Bool.{IsTrue}
use Rattle.tier_rollup.specs.declared.point.Point.{Point}
use Rattle.query_engine.specs.Points.{are_series, points_between}
use Rattle.query_engine.specs.Windows.{record_between}
use Rattle.query_engine.proofs.WindowLemmas.{points_asked, asked_rising}
use Rattle.query_engine.proofs.window.read_points.Goals as goal

pub returns-clause-found : goal.returns-clause-found
returns-clause-found g c = λ told tells low.
    let floor = (g.P.Points.tiers c.args.points.now).floor 0 in
    let points = told c.args.series in
    let rising : IsTrue (are_series points) = g.met.P.Points.rising_series c.args.points.now told tells c.args.series in
    let is : c.as_slice.result.now ≡ points_between floor c.args.from c.min-last.result points = c.as_slice.ensures ∙ c.in_ok-found.ensures.found told tells in
    let last : min (c.args.to - 1) (2 ^ 32 - 1) ≤ c.min-last.result = omega (arith, c.min-last.ensures, c.from.ensures) in
    c.record_between.ensures (subst (λ (ps : List Point). IsTrue (are_series ps)) (sym is) (asked_rising floor c.args.from c.min-last.result points rising)) c.requires.short
    ∙ ap (record_between c.args.from c.args.to) is
    ∙ points_asked floor c.args.from c.args.to c.min-last.result points rising low last
