use Rattle.std.proofs.Common.{arith}
use Rattle.alarm_core.proofs.LookupLemmas.{found_in, found_above}
use Rattle.alarm_core.proofs.lookup.look_up.Goals as goal

pub returns-clause-found : goal.returns-clause-found
returns-clause-found g c = λ told tells.
    let scene = c.args.scene.now in
    let window = c.window_of-window.result in
    let floor = (g.P.Points.tiers c.args.points.now).floor 0 in
    found_above scene.registry.now scene.chart c.args.lookup.now scene.moment floor told scene.series.now window.start window.stop _
    c.window_of-window.ensures.start c.window_of-window.ensures.stop (omega (arith, c.if-window-from.false, c.from.ensures, c.floor.ensures)) scene.whole
    (found_in scene.registry.now c.args.lookup.now window.start window.stop told scene.series.now c.in_ok-gathered.gathered _
    (λ one. g.met.P.Points.rising_series c.args.points.now told tells one) window.short scene.few
    (c.in_ok-gathered.ensures.gathered told tells (omega (arith, c.if-window-from.false, c.from.ensures, c.floor.ensures))) c.result_of.ensures.result)
