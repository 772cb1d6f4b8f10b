use Rattle.std.proofs.Common.{◌≡◌, ◌-◌, ◌<◌, List, Option, IfSome, arith, refl, sym, ap, subst, ◌∙◌}
use Rattle.std.specs.Bool.{IsTrue}
use Rattle.std.specs.Option.{option_map}
use Rattle.fixed_num.specs.declared.units.Record.{Record}
use Rattle.tier_rollup.specs.Buckets.{Added, record_of}
use Rattle.tier_rollup.specs.declared.point.Point.{Point}
use Rattle.query_engine.specs.Points.{are_series, points_between}
use Rattle.query_engine.specs.Windows.{group_of}
use Rattle.query_engine.proofs.JoinLemmas.{counted}
use Rattle.alarm_core.specs.Lookups.{group, members}
use Rattle.query_engine.proofs.WindowLemmas.{asked_rising}
use Rattle.alarm_core.proofs.ValueLemmas.{members_of_asked, members_empty}
use Rattle.alarm_core.proofs.dimension.read_number.Goals as goal

pub returns-then-window-clause-number : goal.returns-then-window-clause-number
returns-then-window-clause-number g c = λ told tells low.
    let lookup = c.args.lookup.now in
    let window = c.args.window in
    let rising = g.met.P.Points.rising_series c.args.points.now told tells c.args.series in
    sym (ap (λ (values : List Added). option_map (group_of (group lookup.method)) (record_of values))
    (members_empty lookup.absolute window.start window.stop (told c.args.series) rising (omega (arith, c.if-window.true))))

pub returns-clause-number : goal.returns-clause-number
returns-clause-number g c = λ told tells low.
    let lookup = c.args.lookup.now in
    let window = c.args.window in
    let floor = (g.P.Points.tiers c.args.points.now).floor 0 in
    let points = told c.args.series in
    let rising : IsTrue (are_series points) = g.met.P.Points.rising_series c.args.points.now told tells c.args.series in
    let is : c.as_slice.result.now ≡ points_between floor window.start (window.stop - 1) points = c.as_slice.ensures ∙ c.in_ok-found.ensures.found told tells in
    let rise : IsTrue (are_series c.as_slice.result.now) = subst (λ (ps : List Point). IsTrue (are_series ps)) (sym is) (asked_rising floor window.start (window.stop - 1) points rising) in
    let made : c.record_in-record.result ≡ record_of (members lookup.absolute window.start window.stop points) =
    c.record_in-record.ensures rise
    ∙ ap (λ (ps : List Point). record_of (members lookup.absolute window.start window.stop ps)) is
    ∙ ap record_of (members_of_asked lookup.absolute floor window.start window.stop (window.stop - 1) points rising low refl) in
    let some : IfSome c.record_in-record.result (λ (found : Record). 0 < found.count) =
    subst (λ (r : Option Record). IfSome r (λ (found : Record). 0 < found.count)) (sym made) (counted (members lookup.absolute window.start window.stop points)) in
    c.number_by_some.ensures some ∙ ap (option_map (group_of (group lookup.method))) made
