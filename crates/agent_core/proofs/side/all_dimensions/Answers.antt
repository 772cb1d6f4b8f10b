use Rattle.std.proofs.Common.{◌≡◌, ◌<◌, ◌≤◌, length, IfSome, subst, arith}
use Rattle.agent_core.specs.Sides.{dimension_at}
use Rattle.agent_core.proofs.NamedLemmas.{item-there}
use Rattle.agent_core.proofs.SideLists.{placed-all, placed-more}
use Rattle.agent_core.proofs.side.all_dimensions.Goals as goal

pub loop-series-preserved : goal.loop-series-preserved
loop-series-preserved c =
    let registry = c.args.registry.now in
    let series = c.loop-series.series in
    let dimension = c.in_ok-dimension.dimension in
    let within : series < length registry.dimensions = omega (arith, c.dimensions-series-end.ensures.value) in
    let there = item-there registry.dimensions series within in
    placed-more (dimension_at registry) registry.dimensions series there.0 dimension c.loop-series.dimensions c.push.new.self
    there.1 (subst (λ found. IfSome found (λ one. dimension ≡ dimension_at registry (series, one))) there.1 c.in_ok-dimension.ensures) c.in_ok-push.ensures.ok c.loop-series.invariant

pub returns : goal.returns
returns c =
    let registry = c.args.registry.now in
    let all : length registry.dimensions ≤ c.loop-series.series = omega (arith, c.dimensions-series-end.ensures.value) in
    placed-all (dimension_at registry) registry.dimensions c.loop-series.series c.loop-series.dimensions all c.loop-series.invariant
